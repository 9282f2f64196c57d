-- The next moment of a `PlainBus`, and what arbitration does to it.
use Rattle.std.proofs.Common.{◌≡◌, ◌≢◌, ℕ, suc, ◌+◌, ◌<◌, true, false, cond, List, length, get_or, take, drop, eqb, sym, ap, subst, ◌∙◌, arith}
use Rattle.std.specs.Prelude.{Option, None, Some, remove}
use Rattle.std.specs.List.{Contains, All}
use Rattle.std.specs.FinMap as finmap
use Rattle.std.proofs.lemmas.Bool.Decides.{nat_tests}
use Rattle.std.proofs.lemmas.List.Elements.{All-same, All-append, All-take, All-drop}
use Rattle.can_bus.specs.declared.waiting.Waiting.{Waiting}
use Rattle.can_bus.specs.declared.transmission.Transmission.{Transmission}
use Rattle.can_bus.specs.Waiting.{Requests, request_name, members, requests_of, winner}
use Rattle.can_bus.specs.Bus.{time_on_wire, intermission, BusState, moment_by, is_free, after_arbitration}
use Rattle.can_bus.proofs.Requests.{len-requests_of, members-requests_of}
use Rattle.can_bus.proofs.Winner.{NoneBefore, winner-from, IsWinner-from}
use Rattle.can_bus.proofs.Arbitration.{after_arbitration-winner}
use Rattle.arbitration.specs.Inside.Places.{InOrder, IsWinnerPlace}
use Rattle.arbitration.proofs.ListEdits.{requests_of-remove, in_order-remove}

-- ---- the next moment
-- nothing is due where the wire is empty and nothing waits
pub due-nothing : (wire : Option Transmission) (rs : List Waiting) (free : ℕ) → wire ≡ None → InOrder rs → length rs ≡ 0
    → moment_by wire (requests_of rs) free ≡ None
due-nothing wire rs free off order none =
    ap (λ w. moment_by w (requests_of rs) free) off
    ∙ ap (λ n. cond (eqb n 0) None (Some free)) (len-requests_of rs order ∙ none)

-- the moment from which the bus is free is due where the wire is empty and a request waits
pub due-free : (wire : Option Transmission) (rs : List Waiting) (free : ℕ) → wire ≡ None → InOrder rs → length rs ≢ 0
    → moment_by wire (requests_of rs) free ≡ Some free
due-free wire rs free off order some =
    let apart : eqb (length rs) 0 ≡ false = grind (arith, nat_tests) in
    ap (λ w. moment_by w (requests_of rs) free) off
    ∙ ap (λ n. cond (eqb n 0) None (Some free)) (len-requests_of rs order)
    ∙ ap (λ b. cond b None (Some free)) apart

-- ---- arbitration
-- the request at the winner's place is the winner
winner-place : (rs : List Waiting) (place : ℕ) (r : Waiting) → InOrder rs → IsWinnerPlace rs place → r ≡ get_or rs place r
    → winner (requests_of rs) ≡ Some r
winner-place rs place r order first is =
    let w : Requests = requests_of rs in
    let same : members w ≡ rs = members-requests_of rs order in
    let In : List Waiting → Type 0 = λ ms. Contains ms r in
    let First : List Waiting → Type 0 = λ ms. NoneBefore ms r in
    let here : NoneBefore rs r = let P : Waiting → Type 0 = λ q. NoneBefore rs q in subst P (sym is) (first.first r) in
    winner-from w r (IsWinner-from w r (subst In (sym same) (place, first.within, sym is)) (subst First (sym same) here))

-- the winner begins: the state behind, as the list and the code's times have it
pub begins : (s : BusState) (rs after : List Waiting) (now place : ℕ) (r : Waiting) (time idle : ℕ)
    → s.waiting ≡ requests_of rs → InOrder rs → IsWinnerPlace rs place → r ≡ get_or rs place r → after ≡ remove rs place
    → is_free s now ≡ true → time ≡ time_on_wire r.frame s.bit → idle ≡ intermission s.bit
    → ◌≡◌ {A = BusState}
    (record s { waiting = requests_of after; wire = Some (record { request = r; end = now + time }); free = now + time + idle })
    (after_arbitration s now)
begins s rs after now place r time idle set order first is left ready lasts rests =
    let gone : requests_of after ≡ finmap.remove s.waiting (request_name r) =
    ap requests_of left ∙ requests_of-remove rs place r order first.within is ∙ ap (λ w. finmap.remove w (request_name r)) (sym set) in
    (λ i. record s {
      waiting = gone i;
      wire = Some (record { request = r; end = now + lasts i });
      free = now + lasts i + rests i;
    })
    ∙ sym (after_arbitration-winner s now r ready (ap winner set ∙ winner-place rs place r order first is))

-- ---- the fields
-- what holds of each request holds of those that are left
pub All-remove : (P : Waiting → Type 0) (rs after : List Waiting) (i : ℕ) → after ≡ remove rs i → All P rs → All P after
All-remove P rs after i e h =
    All-same P after (remove rs i) e (All-append P (take i rs) (drop (suc i) rs) (All-take P i rs h) (All-drop P (suc i) rs h))

-- those that are left stand in order
pub in_order-left : (rs after : List Waiting) (i : ℕ) (r : Waiting) → after ≡ remove rs i → InOrder rs → i < length rs
    → r ≡ get_or rs i r → InOrder after
in_order-left rs after i r e order low is = subst InOrder (sym e) (in_order-remove rs i r order low is)
