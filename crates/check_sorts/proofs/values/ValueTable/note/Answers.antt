-- A new place, beside the others.
use Rattle.std.proofs.Common.{None, Some, ap, sym, ◌∙◌, ◌==◌, ◌&&◌}
use Rattle.std.specs.Prelude.{ℤ, if◌then◌else◌}
use Rattle.std.specs.Option.{option_or}
use Rattle.check_sorts.specs.Constant.{held}
use Rattle.check_sorts.proofs.TableLemmas.{is_none, noted_at}
use Rattle.check_sorts.proofs.values.ValueTable.note.Goals as goal
use Rattle.std.proofs.lemmas.Int.{to_z-of_z}
use mir.Syntax.{w128}

pub returns : goal.returns
returns c = λ f t.
    let old = held c.args.self.now in
    let absent = sym c.value.ensures ∙ is_none c.value.result (sym c.is_some.ensures ∙ c.if-is_some.false) in
    let back = to_z-of_z w128 c.args.value c.ranges.value in
    c.in_ok-insert.ensures.updates.0 (f, t)
    ∙ noted_at old c.args.file c.args.token f t _ absent
    ∙ ap (λ (v : ℤ). option_or (old f t) (if f == c.args.file && t == c.args.token then Some v else None)) back
