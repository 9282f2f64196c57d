-- One note more.
use Rattle.std.proofs.Common.{None, ap, get_or, refl, rules, sym, ◌∙◌}
use Rattle.std.specs.Prelude.{unwrap_or, ℤ}
use Rattle.std.proofs.lemmas.Int.{to_z-of_z}
use mir.Syntax.{w128}
use mir.Val.{SFits}
use Rattle.sys_vars.proofs.TableLemmas.{none_noted, noted_step}
use Rattle.sys_vars.proofs.table.take_notes.Goals as goal

pub loop-number-init : goal.loop-number-init
loop-number-init c = record { taken = sym (none_noted c.args.values.now.items); count = refl }

pub loop-number-preserved : goal.loop-number-preserved
loop-number-preserved c =
    let i = c.loop-number.number in
    let read : SFits w128 c.index.result.now = search rules in
    let note : SFits w128 c.unwrap_or.result = search rules in
    let is = to_z-of_z w128 c.unwrap_or.result note ∙ c.unwrap_or.ensures
    ∙ ap (λ (n : ℤ). unwrap_or (get_or c.args.notes.now i None) n) (to_z-of_z w128 c.index.result.now read ∙ c.index.ensures) in
    let step = noted_step c.args.values.now.items c.args.notes.now c.loop-number.values.items i None c.index.result.now _
    c.loop-number.invariant.taken c.loop-number.invariant.count c.loop-number-test.true c.requires is in
    record { taken = step.0; count = step.1 }
