-- One more request in the search for the winner.
use Rattle.std.proofs.Common.{◌<◌, ◌+◌, ℕ, length, sym, ◌∙◌, subst, arith}
use Rattle.can_bus.proofs.Winner.{IsFirstAt, first_passed, first_moved, first_of_all}
use Rattle.arbitration.proofs.places.winner_place.Goals as goal
use Rattle.arbitration.proofs.places.winner_place.Goals.{then-goes_before, else-goes_before}

pub loop-place-preserved : goal.loop-place-preserved
loop-place-preserved c =
    let place = c.loop-place.place in
    let best = c.loop-place.best in
    let r = c.index-waiting-place.result in
    let b = c.index-waiting-best.result in
    let rs = c.args.waiting.now in
    elim c.if-goes_before.branch [
      | then-goes_before w ↦
          let P : ℕ → Type 0 = λ n. (n < length rs) × IsFirstAt rs (place + 1) n in
          subst P (sym w.best-is) (omega arith, first_moved rs place best r b (omega arith) c.index-waiting-place.is c.index-waiting-best.is (sym c.goes_before.ensures ∙ w.if-goes_before.true) c.loop-place.invariant.1)
      | else-goes_before w ↦
          let P : ℕ → Type 0 = λ n. (n < length rs) × IsFirstAt rs (place + 1) n in
          subst P (sym w.best-is) (c.loop-place.invariant.0, first_passed rs place best r b (omega arith) c.loop-place.invariant.0 c.index-waiting-place.is c.index-waiting-best.is (sym c.goes_before.ensures ∙ w.if-goes_before.false) c.loop-place.invariant.1)
    ]

pub returns-clause-some : goal.returns-clause-some
returns-clause-some c = record {
  within = c.loop-place.invariant.0;
  first = first_of_all c.args.waiting.now c.loop-place.place c.loop-place.best c.loop-place-test.false c.loop-place.invariant.1;
}
