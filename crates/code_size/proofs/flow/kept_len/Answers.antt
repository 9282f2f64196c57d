-- A `break` at the end is left out.
use Rattle.std.proofs.Common.{◌≡◌, true, length, ◌-◌, sym, ◌∙◌}
use Rattle.std.proofs.Math.Seq.{take-length}
use Rattle.code_size.proofs.Endings.{kept_break, kept_other, last_place}
use Rattle.code_size.proofs.flow.kept_len.Goals as goal

pub returns-then-is_break-clause-kept : goal.returns-then-is_break-clause-kept
returns-then-is_break-clause-kept c =
    let all = c.args.all.now in
    let s = c.in-Some.end.now in
    let on : c.args.last ≡ true = cc in
    rw on (kept_break all (length all - 1) s (last_place all s c.in-Some.ensures.value) c.in-Some.ensures.value (sym c.is_break.ensures ∙ c.if-is_break.true))

pub returns-else-is_break-clause-kept : goal.returns-else-is_break-clause-kept
returns-else-is_break-clause-kept c =
    let all = c.args.all.now in
    let s = c.in-Some.end.now in
    let on : c.args.last ≡ true = cc in
    rw on (take-length all ∙ kept_other all (length all - 1) s (last_place all s c.in-Some.ensures.value) c.in-Some.ensures.value (sym c.is_break.ensures ∙ c.if-is_break.false))
