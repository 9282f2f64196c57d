-- The next moment of a `HeapBus`, and what arbitration does to it.
use Rattle.std.proofs.Common.{◌≡◌, ◌≢◌, ℕ, ◌+◌, ◌*◌, true, false, cond, List, ◌∷◌, length, eqb, refl, sym, ap, ◌∙◌, arith}
use Rattle.std.specs.Prelude.{Option, None, Some}
use Rattle.std.specs.Option.{option_map_or}
use Rattle.std.specs.FinMap as finmap
use Rattle.std.specs.FinMap.{len}
use Rattle.std.proofs.lemmas.Bool.Decides.{nat_tests}
use Rattle.std.proofs.lemmas.List.Sorted.{Contains-permutation, IsPermutation-sym}
use Rattle.can_bus.specs.declared.waiting.Waiting.{Waiting}
use Rattle.can_bus.specs.declared.transmission.Transmission.{Transmission}
use Rattle.can_bus.specs.Waiting.{request_name, requests_of, winner}
use Rattle.can_bus.specs.Bus.{time_on_wire, intermission, BusState, moment_by, is_free, winner_at, with_transmission}
use Rattle.can_bus.proofs.Requests.{Contains-first}
use Rattle.can_bus.proofs.Winner.{winner-nil}
use Rattle.bus_heap.specs.Retransmission.{after_longer_arbitration}
use Rattle.bus_heap.specs.Inside.Heap.{IsTakenFirst}
use Rattle.bus_heap.specs.Inside.HeapBus.{AreNamesDistinct}
use Rattle.bus_heap.proofs.SetLemmas.{len-list, requests_of-less, winner-list}

-- ---- the next moment
-- nothing is due where the wire is empty and nothing waits
pub due-nothing : (wire : Option Transmission) (rs : List Waiting) (free : ℕ) → wire ≡ None → AreNamesDistinct rs → length rs ≡ 0
    → moment_by wire (requests_of rs) free ≡ None
due-nothing wire rs free off distinct none =
    ap (λ w. moment_by w (requests_of rs) free) off
    ∙ ap (λ n. cond (eqb n 0) None (Some free)) (len-list rs distinct ∙ none)

-- the moment from which the bus is free is due where the wire is empty and a request waits
pub due-free : (wire : Option Transmission) (rs : List Waiting) (free : ℕ) → wire ≡ None → AreNamesDistinct rs → length rs ≢ 0
    → moment_by wire (requests_of rs) free ≡ Some free
due-free wire rs free off distinct some =
    let apart : eqb (length rs) 0 ≡ false = grind (arith, nat_tests) in
    ap (λ w. moment_by w (requests_of rs) free) off
    ∙ ap (λ n. cond (eqb n 0) None (Some free)) (len-list rs distinct)
    ∙ ap (λ b. cond b None (Some free)) apart

-- ---- arbitration
-- where nothing waits, nothing begins
pub winner_at-nothing : (s : BusState) (now : ℕ) → len s.waiting ≡ 0 → winner_at s now ≡ None
winner_at-nothing s now none =
    ap (λ o. cond (is_free s now) o None) (winner-nil s.waiting none)
    ∙ elim (is_free s now) as (λ b. cond {A = Option Waiting} b None None ≡ None) [ true ↦ refl | false ↦ refl ]

-- nor where the bus is not free
pub winner_at-busy : (s : BusState) (now : ℕ) → is_free s now ≡ false → winner_at s now ≡ None
winner_at-busy s now busy = ap (λ b. cond b (winner s.waiting) None) busy

-- where nothing begins, the bus stays as it is
pub longer_arbitration-nothing : (s : BusState) (now bits : ℕ) → winner_at s now ≡ None → after_longer_arbitration s now bits ≡ s
longer_arbitration-nothing s now bits none = ap (λ o. option_map_or (λ r. with_transmission s now (time_on_wire r.frame s.bit + bits * s.bit) r) o s) none

-- the first of the heap wins
module _ (s : BusState) (rs after : List Waiting) (now : ℕ) (r : Waiting) (set : s.waiting ≡ requests_of rs) (distinct : AreNamesDistinct rs)
    (taken : IsTakenFirst rs after r) (ready : is_free s now ≡ true) where
  pub winner_at-first : winner_at s now ≡ Some r
  winner_at-first =
      let stood = Contains-permutation (r ∷ after) rs r (IsPermutation-sym rs (r ∷ after) taken.others) (Contains-first r after) in
      ap (λ b. cond b (winner s.waiting) None) ready ∙ ap winner set ∙ winner-list rs r distinct stood taken.first

  -- and begins: the state behind, as the list and the code's times have it
  pub begins : (bits time idle : ℕ) → time ≡ time_on_wire r.frame s.bit + bits * s.bit → idle ≡ intermission s.bit
      → ◌≡◌ {A = BusState}
      (record s { waiting = requests_of after; wire = Some (record { request = r; end = now + time }); free = now + time + idle })
      (after_longer_arbitration s now bits)
  begins bits time idle lasts rests =
      let gone : requests_of after ≡ finmap.remove s.waiting (request_name r) =
      requests_of-less rs after r taken.others distinct ∙ ap (λ w. finmap.remove w (request_name r)) (sym set) in
      (λ i. record s {
        waiting = gone i;
        wire = Some (record { request = r; end = now + lasts i });
        free = now + lasts i + rests i;
      })
      ∙ sym (ap (λ o. option_map_or (λ u. with_transmission s now (time_on_wire u.frame s.bit + bits * s.bit) u) o s) winner_at-first)
