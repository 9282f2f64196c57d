-- One more place, of fewer than there are.
use Rattle.std.proofs.Common.{◌≡◌, ◌+◌, ◌<◌, ◌∙◌, ℕ, List, Some, arith, get_or, length, length-set, set, slice_get, subst, sym}
use Rattle.std.proofs.lemmas.Option.{slice_get-get_or, slice_get_within}
use Rattle.check_calls.proofs.OrderLemmas.{where_more}
use Rattle.check_calls.proofs.SearchLemmas.{few_apart}
use Rattle.check_calls.proofs.rows.stand_at.Goals as goal

pub overflow_add-at : goal.overflow_add-at
overflow_add-at c =
    let few = few_apart c.args.places.now c.args.count c.requires.apart c.requires.within in
    omega (arith, few, c.loop-place.invariant.at, c.loop-place-test.true, c.ranges.count.fits)

pub loop-place-preserved : goal.loop-place-preserved
loop-place-preserved c =
    let places = c.args.places.now in
    let stand : List ℕ = c.loop-place.stand.items in
    let i = c.loop-place.place-index in
    let place = get_or places i 0 in
    let inside = c.requires.within i place (slice_get-get_or places i 0 c.loop-place-test.true) in
    let room : place < length stand = omega (arith, inside, c.loop-place.invariant.room) in
    record {
      at = omega (arith, c.loop-place.invariant.at);
      room = length-set stand place c.loop-place.at ∙ c.loop-place.invariant.room;
      known = subst
          (λ (n : ℕ). (k p : ℕ) → k < i + 1 → slice_get places k ≡ Some p → get_or (set stand place n) p 0 ≡ k)
          (sym c.loop-place.invariant.at)
          (where_more places stand i c.requires.apart c.loop-place-test.true room c.loop-place.invariant.known);
    }

pub returns : goal.returns
returns c = λ k place at.
    let within = slice_get_within c.args.places.now k place at in
    c.loop-place.invariant.known k place (omega (arith, within, c.loop-place-test.false)) at
