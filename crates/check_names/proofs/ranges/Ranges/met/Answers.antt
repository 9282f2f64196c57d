-- The last range that begins in time ends too early.
use Rattle.std.proofs.Common.{arith}
use Rattle.std.proofs.lemmas.Bool.Decides.{nat_tests}
use Rattle.std.proofs.lemmas.Map.Keys.{ge_from_not_lt}
use Rattle.check_names.proofs.RangeLemmas.{not_met}
use Rattle.check_names.proofs.ranges.Ranges.met.Goals as goal

pub returns-then-end-low-clause-none : goal.returns-then-end-low-clause-none
returns-then-end-low-clause-none c = λ are _ met.
    let h = c.range.ensures.in_range tt in
    not_met c.args.self.now c.args.low c.args.high c.in_ok-start.start.now c.in_ok-start.end.now are
    (h.3 _ _ c.in_ok-start.ensures.steps).1 c.if-end-low.true
    (λ q within is. ge_from_not_lt c.in_ok-start.start.now q (h.4 _ _ c.in_ok-start.ensures.steps q (tt, grind (arith, nat_tests, within)) is)) met
