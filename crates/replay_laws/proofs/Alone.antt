-- A request on an idle bus begins at once.
use Rattle.std.proofs.Common.{◌≡◌, ℕ, ◌+◌, ◌*◌, ◌≤◌, Bool, true, false, cond, eqb, List, [], ◌∷◌, map, refl, sym, ap, subst, ◌∙◌, inl, inr, arith}
use Rattle.std.specs.Prelude.{Option, None, Some, nat_le}
use Rattle.std.specs.Ordering.{nat_cmp, eq_by_cmp}
use Rattle.std.specs.FinMap.{FinMap, empty, insert, remove, get-insert, get-remove, get-empty, same_map, len, len-empty}
use Rattle.std.specs.List.{Contains}
use Rattle.std.proofs.lemmas.Bool.Decides.{leb_tells}
use Rattle.std.proofs.lemmas.List.Elements.{All-nil, All-cons}
use Rattle.frame_bits.specs.Length.{frame_length}
use Rattle.can_frame.specs.Frame.{FrameFields}
use Rattle.can_bus.specs.declared.transmission.Transmission.{Transmission}
use Rattle.can_bus.specs.declared.waiting.Waiting.{Waiting}
use Rattle.can_bus.specs.Waiting.{goes_before, Requests, name_cmp, request_name, requests_of, members, winner}
use Rattle.can_bus.specs.Bus.{BusState, next_number, last_number, rank, with_rank, with_ranks, with_request, after_request, after_arbitration}
use Rattle.can_bus.proofs.Arbitration.{after_arbitration-nothing, after_arbitration-winner}
use Rattle.can_bus.proofs.Precedence.{goes_before-self}
use Rattle.can_bus.proofs.RankLemmas.{with_ranks-is}
use Rattle.can_bus.proofs.Requests.{name_cmp_total, name_cmp-IsAntisymmetric, members-requests_of, Contains-first}
use Rattle.can_bus.proofs.Winner.{winner-from, IsWinner-from, NoneBefore}

-- a bus on which nothing waits
abbrev pub idle_bus : ℕ → Option Transmission → ℕ → FinMap nat_cmp ℕ → BusState
idle_bus bit wire free next = record { waiting = empty; wire = wire; free = free; next = next; bit = bit }

none_wait : len (empty {X = FrameFields} {R = name_cmp}) ≡ 0
none_wait = len-empty name_cmp FrameFields

-- nothing begins on it
pub nothing_begins : (bit : ℕ) (wire : Option Transmission) (free : ℕ) (next : FinMap nat_cmp ℕ) (now : ℕ) → after_arbitration (idle_bus bit wire free next) now ≡ idle_bus bit wire free next
nothing_begins bit wire free next now = after_arbitration-nothing (idle_bus bit wire free next) now none_wait

-- ---- the one request
abbrev only : Waiting → Requests
only r = insert empty (request_name r) r.frame

members-only : (r : Waiting) → members (only r) ≡ r ∷ []
members-only r = members-requests_of (r ∷ []) refl

winner-only : (r : Waiting) → winner (only r) ≡ Some r
winner-only r =
    let In : List Waiting → Type 0 = λ ms. Contains ms r in
    let First : List Waiting → Type 0 = λ ms. NoneBefore ms r in
    winner-from (only r) r
    (IsWinner-from (only r) r (subst In (sym (members-only r)) (Contains-first r []))
    (subst First (sym (members-only r)) (All-cons (λ other. goes_before other r ≡ false) r [] (goes_before-self r) (All-nil _))))

gone : (b : Bool) (f : FrameFields) → cond b None (cond b (Some f) None) ≡ None
gone true f = refl
gone false f = refl

removed-only : (r : Waiting) → remove (only r) (request_name r) ≡ empty
removed-only r =
    same_map name_cmp_total name_cmp-IsAntisymmetric _ _
    (λ q. get-remove name_cmp_total (only r) (request_name r) q
    ∙ ap (λ o. cond (eq_by_cmp name_cmp q (request_name r)) None o) (get-insert name_cmp_total empty (request_name r) r.frame q ∙ ap (λ o. cond (eq_by_cmp name_cmp q (request_name r)) (Some r.frame) o) (get-empty {X = FrameFields} name_cmp q))
    ∙ gone (eq_by_cmp name_cmp q (request_name r)) r.frame
    ∙ sym (get-empty {X = FrameFields} name_cmp q))

-- a request on the wire from a moment
abbrev pub sending : ℕ → ℕ → Waiting → Transmission
sending bit now r = record { request = r; end = now + frame_length r.frame * bit }

only_begins : (bit free : ℕ) (next : FinMap nat_cmp ℕ) (now : ℕ) (r : Waiting) → free ≤ now
    → after_arbitration (record { waiting = only r; wire = None; free = free; next = next; bit = bit }) now
    ≡ idle_bus bit (Some (sending bit now r)) (now + frame_length r.frame * bit + 3 * bit) next
only_begins bit free next now r reached =
    let s : BusState = record { waiting = only r; wire = None; free = free; next = next; bit = bit } in
    let ready : nat_le free now ≡ true = elim (leb_tells free now) [ inl is ↦ is.0 | inr not ↦ let early = not.1 in absurd (omega arith) ] in
    after_arbitration-winner s now r ready (winner-only r)
    ∙ ap (λ (w : Requests). record { waiting = w; wire = Some (sending bit now r); free = now + frame_length r.frame * bit + 3 * bit; next = next; bit = bit }) (removed-only r)

-- ---- the request on an idle bus
members-empty : members empty ≡ []
members-empty = members-requests_of [] refl

-- an idle bus with its requests numbered from 0 is idle
idle-with_ranks : (bit free : ℕ) (next : FinMap nat_cmp ℕ) (node : ℕ) → (after : FinMap nat_cmp ℕ) × (with_ranks (idle_bus bit None free next) node ≡ idle_bus bit None free after)
idle-with_ranks bit free next node =
    let s = idle_bus bit None free next in
    let after = insert next node (rank s node (next_number s node)) in
    (after, with_ranks-is s node ∙ ap (λ ms. record { waiting = requests_of (map (with_rank s node) ms); wire = None; free = free; next = after; bit = bit }) members-empty)

-- the request is on the wire from a moment, and nothing waits
abbrev Begins : ℕ → ℕ → FrameFields → ℕ → BusState → Type 0
Begins bit node f now s =
    (number : ℕ) × (after : FinMap nat_cmp ℕ)
    × (s ≡ idle_bus bit (Some (sending bit now (record { node = node; number = number; frame = f }))) (now + frame_length f * bit + 3 * bit) after)

begins_from : (bit free : ℕ) (next : FinMap nat_cmp ℕ) (node : ℕ) (f : FrameFields) (now : ℕ) (s : BusState) → s ≡ idle_bus bit None free next → free ≤ now
    → Begins bit node f now (after_arbitration (with_request s node f) now)
begins_from bit free next node f now s is reached =
    let idle = idle_bus bit None free next in
    let number = next_number idle node in
    let after = insert next node (number + 1) in
    (number, after, ap (λ t. after_arbitration (with_request t node f) now) is ∙ only_begins bit free after now (record { node = node; number = number; frame = f }) reached)

-- it begins at once on a free bus, also under the last number
pub begins : (bit free : ℕ) (next : FinMap nat_cmp ℕ) (node : ℕ) (f : FrameFields) (now : ℕ) → free ≤ now
    → (number : ℕ) × (after : FinMap nat_cmp ℕ)
    × (after_arbitration (after_request (idle_bus bit None free next) node f) now
    ≡ idle_bus bit (Some (sending bit now (record { node = node; number = number; frame = f }))) (now + frame_length f * bit + 3 * bit) after)
begins bit free next node f now reached =
    let s = idle_bus bit None free next in
    elim (eqb (next_number s node) last_number) as (λ b. Begins bit node f now (after_arbitration (with_request (cond b (with_ranks s node) s) node f) now)) [
      | true ↦ let is = idle-with_ranks bit free next node in begins_from bit free is.0 node f now (with_ranks s node) is.1 reached
      | false ↦ begins_from bit free next node f now s refl reached
    ]
