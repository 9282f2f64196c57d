-- Frames come to the bus by requests alone, and what ends was on it.
use Rattle.std.proofs.Common.{◌≡◌, ℕ, Bool, true, false, cond, ◌⊎◌, List, [], ◌∷◌, map, eqb, refl, sym, ap, subst, ◌∙◌, inl, inr}
use Rattle.std.specs.Prelude.{Option, None, Some, MatchOption, IfSome, is_some}
use Rattle.std.specs.Option.{option_map, option_map_or}
use Rattle.std.specs.Ordering.{eq_by_cmp}
use Rattle.std.specs.FinMap.{get, find, insert, remove, get-empty, get-insert, get-remove, get-from_entries}
use Rattle.std.specs.List.{Contains}
use Rattle.can_frame.specs.Frame.{FrameFields}
use Rattle.can_bus.specs.declared.waiting.Waiting.{Waiting}
use Rattle.can_bus.specs.declared.transmission.Transmission.{Transmission}
use Rattle.can_bus.specs.declared.bus.Ended.{Ended}
use Rattle.can_bus.specs.Waiting.{RequestName, Requests, name_cmp, request_name, entry_of, requests_of, members, Waits}
use Rattle.can_bus.specs.Bus.{time_on_wire, BusState, Carries, next_number, last_number, rank, with_rank, transmission_with_rank, with_ranks, with_request, after_request, ended, ended_on, after_finish, is_free, winner_at, with_transmission, after_arbitration, new_bus, one_channel}
use Rattle.can_bus.specs.Laws.{FramesCome}
use Rattle.can_bus.proofs.Requests.{name_cmp_total, Contains-first, Contains-later, Waits-members}
use Rattle.can_bus.proofs.RankLemmas.{with_ranks-is}
use Rattle.can_bus.proofs.Winner.{waits_winner}

-- the frame waits under some name
abbrev pub HasFrame : Requests → FrameFields → Type 0
HasFrame w frame = (name : RequestName) × (get w name ≡ Some frame)

-- the frame is on the wire
abbrev pub IsOnWire : Option Transmission → FrameFields → Type 0
IsOnWire wire frame = MatchOption wire ⊥ (λ t. t.request.frame ≡ frame)

-- ---- the waiting set
put_in : (b : Bool) (frame other : FrameFields) (o : Option FrameFields) → cond b (Some frame) o ≡ Some other → (other ≡ frame) ⊎ (o ≡ Some other)
put_in true frame other o e = inl (cc)
put_in false frame other o e = inr e

left_in : (b : Bool) (frame : FrameFields) (o : Option FrameFields) → cond b None o ≡ Some frame → o ≡ Some frame
left_in true frame o e = absurd (cc)
left_in false frame o e = e

-- what waits after an insertion was put in or waited before
pub HasFrame-insert : (w : Requests) (k : RequestName) (frame other : FrameFields) → HasFrame (insert w k frame) other → (other ≡ frame) ⊎ HasFrame w other
HasFrame-insert w k frame other h =
    elim (put_in (eq_by_cmp name_cmp h.0 k) frame other (get w h.0) (sym (get-insert name_cmp_total w k frame h.0) ∙ h.1)) [
      | inl same ↦ inl same
      | inr before ↦ inr (h.0, before)
    ]

HasFrame-remove : (w : Requests) (k : RequestName) (frame : FrameFields) → HasFrame (remove w k) frame → HasFrame w frame
HasFrame-remove w k frame h = (h.0, left_in (eq_by_cmp name_cmp h.0 k) frame (get w h.0) (sym (get-remove name_cmp_total w k h.0) ∙ h.1))

-- ---- numbering anew
module _ (s : BusState) (node : ℕ) where
  frame-with_rank : (r : Waiting) → (with_rank s node r).frame ≡ r.frame
  frame-with_rank r = elim (eqb r.node node) as (λ b. (cond b (record r { number = rank s node r.number }) r).frame ≡ r.frame) [ true ↦ refl | false ↦ refl ]

  of_list : (rs : List Waiting) (q : RequestName) (frame : FrameFields) → find name_cmp q (map entry_of (map (with_rank s node) rs)) ≡ Some frame
      → (r : Waiting) × Contains rs r × (r.frame ≡ frame)
  of_list [] q frame e = absurd (cc)
  of_list (r ∷ rs) q frame e =
      elim (eq_by_cmp name_cmp q (request_name (with_rank s node r))) as (λ b. cond b (Some (with_rank s node r).frame) (find name_cmp q (map entry_of (map (with_rank s node) rs))) ≡ Some frame
      → (r' : Waiting) × Contains (r ∷ rs) r' × (r'.frame ≡ frame)) [
        | true ↦ λ is. let same : (with_rank s node r).frame ≡ frame = cc in (r, Contains-first r rs, sym (frame-with_rank r) ∙ same)
        | false ↦ λ is. let rest = of_list rs q frame is in (rest.0, Contains-later r rest.0 rs rest.1, rest.2)
      ] e

  waits-with_ranks : (frame : FrameFields) → HasFrame (requests_of (map (with_rank s node) (members s.waiting))) frame → HasFrame s.waiting frame
  waits-with_ranks frame h =
      let found = of_list (members s.waiting) h.0 frame (sym (get-from_entries name_cmp_total (map entry_of (map (with_rank s node) (members s.waiting))) h.0) ∙ h.1) in
      (request_name found.0, Waits-members s.waiting found.0 found.1 ∙ ap Some found.2)

  wire-with_ranks : (wire : Option Transmission) (frame : FrameFields) → IsOnWire (option_map (transmission_with_rank s node) wire) frame → IsOnWire wire frame
  wire-with_ranks None frame h = h
  wire-with_ranks (Some t) frame h = sym (frame-with_rank t.request) ∙ h

  parts-with_ranks : (frame : FrameFields)
      → HasFrame (requests_of (map (with_rank s node) (members s.waiting))) frame ⊎ IsOnWire (option_map (transmission_with_rank s node) s.wire) frame → Carries s frame
  parts-with_ranks frame (inl h) = inl (waits-with_ranks frame h)
  parts-with_ranks frame (inr h) = inr (wire-with_ranks s.wire frame h)

  carries-with_ranks : (frame : FrameFields) → Carries (with_ranks s node) frame → Carries s frame
  carries-with_ranks frame h = parts-with_ranks frame (subst (λ (u : BusState). Carries u frame) (with_ranks-is s node) h)

-- ---- the calls
carries-with_request : (s : BusState) (node : ℕ) (frame other : FrameFields) → Carries (with_request s node frame) other → (other ≡ frame) ⊎ Carries s other
carries-with_request s node frame other (inl h) =
    elim (HasFrame-insert s.waiting (node, next_number s node) frame other h) [ inl same ↦ inl same | inr before ↦ inr (inl before) ]
carries-with_request s node frame other (inr h) = inr (inr h)

-- what is on it after a request was requested or was on it before
pub carries-after_request : (s : BusState) (node : ℕ) (frame other : FrameFields) → Carries (after_request s node frame) other → (other ≡ frame) ⊎ Carries s other
carries-after_request s node frame other =
    elim (eqb (next_number s node) last_number) as (λ b. Carries (with_request (cond b (with_ranks s node) s) node frame) other → (other ≡ frame) ⊎ Carries s other) [
      | true ↦ λ h. elim (carries-with_request (with_ranks s node) node frame other h) [ inl same ↦ inl same | inr before ↦ inr (carries-with_ranks s node other before) ]
      | false ↦ λ h. carries-with_request s node frame other h
    ]

without_wire : (s : BusState) (frame : FrameFields) → Carries (record s { wire = None }) frame → Carries s frame
without_wire s frame (inl h) = inl h
without_wire s frame (inr h) = absurd h

-- what is on it after the end of a frame was on it before
pub carries-after_finish : (s : BusState) (now : ℕ) (frame : FrameFields) → Carries (after_finish s now) frame → Carries s frame
carries-after_finish s now frame =
    elim (is_some (ended s now)) as (λ b. Carries (cond b (record s { wire = None }) s) frame → Carries s frame) [
      | true ↦ without_wire s frame
      | false ↦ λ h. h
    ]

-- the request that begins waited before
pub carries-with_transmission : (s : BusState) (now duration : ℕ) (r : Waiting) (frame : FrameFields) → Waits s.waiting r
    → Carries (with_transmission s now duration r) frame → Carries s frame
carries-with_transmission s now duration r frame waits (inl h) = inl (HasFrame-remove s.waiting (request_name r) frame h)
carries-with_transmission s now duration r frame waits (inr same) = inl (request_name r, waits ∙ ap Some same)

-- what is on it after arbitration was on it before
pub carries-after_arbitration : (s : BusState) (now : ℕ) (frame : FrameFields) → Carries (after_arbitration s now) frame → Carries s frame
carries-after_arbitration s now frame =
    elim (winner_at s now) as (λ o. winner_at s now ≡ o
    → Carries (option_map_or (λ r. with_transmission s now (time_on_wire r.frame s.bit) r) o s) frame → Carries s frame) [
      | None ↦ λ _ h. h
      | Some r ↦ λ wins. carries-with_transmission s now (time_on_wire r.frame s.bit) r frame (waits_winner (is_free s now) s.waiting r wins)
    ] refl

ended_of : (w : Requests) (wire : Option Transmission) (now : ℕ) → IfSome (ended_on wire now) (λ e. HasFrame w e.frame ⊎ IsOnWire wire e.frame)
ended_of w None now = tt
ended_of w (Some t) now =
    let sent : Ended = record { node = t.request.node; frame = t.request.frame } in
    elim (eqb t.end now) as (λ b. IfSome (cond b (Some sent) None) (λ e. HasFrame w e.frame ⊎ (t.request.frame ≡ e.frame))) [ true ↦ inr refl | false ↦ tt ]

-- what ends was on it
pub ended-carried : (s : BusState) (now : ℕ) → IfSome (ended s now) (λ e. Carries s e.frame)
ended-carried s now = ended_of s.waiting s.wire now

-- the law of the bus
pub FramesCome-bus : FramesCome one_channel
FramesCome-bus = record {
  ended = ended-carried;
  request = carries-after_request;
  finish = carries-after_finish;
  arbitrate = carries-after_arbitration;
}

-- a bus on which nothing was requested carries no frame
pub new_bus-carries_none : (bit : ℕ) (frame : FrameFields) → Carries (new_bus bit) frame → ⊥
new_bus-carries_none bit frame (inl h) = let none = get-empty {X = FrameFields} name_cmp h.0 in let is = h.1 in absurd (cc)
new_bus-carries_none bit frame (inr none) = none
