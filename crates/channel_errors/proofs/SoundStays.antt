-- A sound bus stays sound: no call changes the time of a bit, and a node is turned off only where its frames
-- are dropped. No call changes the number of nodes.
use Rattle.std.proofs.Common.{◌≡◌, ◌≢◌, ℕ, ◌≤◌, Bool, true, false, not, cond, eqb, length, refl, sym, ap, ◌∙◌, inl, inr}
use Rattle.std.specs.Prelude.{Option, None, Some}
use Rattle.std.specs.Option.{option_map_or}
use Rattle.std.specs.Ordering.{nat_cmp, eq_by_cmp}
use Rattle.std.specs.FinSet.{FinSet}
use Rattle.std.specs.FinMap.{get, get-empty, insert, retain_keys, get-insert, get-remove, get-retain_keys}
use Rattle.std.proofs.lemmas.Bool.Decides.{eqb_tells}
use Rattle.std.proofs.lemmas.List.{length-set}
use Rattle.can_frame.specs.Frame.{FrameFields}
use Rattle.can_bus.specs.declared.waiting.Waiting.{Waiting}
use Rattle.can_bus.specs.declared.transmission.Transmission.{Transmission}
use Rattle.can_bus.specs.Waiting.{RequestName, Waits, name_cmp, request_name}
use Rattle.can_bus.specs.Bus as channel
use Rattle.can_bus.specs.Laws.{SoundStays, NodesStay}
use Rattle.can_bus.proofs.Requests.{name_cmp_total, ties}
use Rattle.can_bus.proofs.SoundStays.{SoundStays-bus}
use Rattle.can_bus.proofs.Winner.{waits_winner}
use Rattle.channel_errors.specs.Errors.{ErrorState, IsSoundErrors, new_bus, is_off, is_off_in, is_disturbed, counts_after_disturbed, after_request, after_sent, after_disturbed, after_finish_of, with_transmission, after_arbitration, with_errors}
use Rattle.channel_errors.proofs.Counts.{off_before_sent, is_off_other, off_on_apart}
use Rattle.channel_errors.proofs.Waits.{other_name, none-after_request, node_on_wire-after_request}

-- a bus on which nothing was requested is sound, where bits take time
pub new_bus_is_sound : (bit nodes : ℕ) (planned : FinSet nat_cmp) → 1 ≤ bit → IsSoundErrors (new_bus bit planned nodes)
new_bus_is_sound bit nodes planned timed = record {
  takes_time = timed;
  none_waits = λ node number off. get-empty {X = FrameFields} name_cmp (node, number);
  none_on_wire = tt;
}

sound_request : (s : ErrorState) (m : ℕ) (f : FrameFields) → IsSoundErrors s → IsSoundErrors (after_request s m f)
sound_request s m f h =
    elim (is_off s m) as (λ b. is_off s m ≡ b → IsSoundErrors (cond b s (record s { plain = channel.after_request s.plain m f }))) [
      | true ↦ λ _. h
      | false ↦ λ on. record {
        takes_time = SoundStays-bus.request s.plain m f h.takes_time;
        none_waits = λ node number off.
            none-after_request s.plain m f (node, number) (off_on_apart s.counts node m off on) (h.none_waits node number off);
        none_on_wire = node_on_wire-after_request s.plain m (λ node. is_off s node ≡ false) f h.none_on_wire;
      }
    ] refl

sound_sent : (s : ErrorState) (r : Waiting) → IsSoundErrors s → IsSoundErrors (after_sent s r)
sound_sent s r h = record {
  takes_time = h.takes_time;
  none_waits = λ node number off. h.none_waits node number (off_before_sent s.counts r.node node off);
  none_on_wire = tt;
}

-- ---- a disturbed frame
module _ (s : ErrorState) (r : Waiting) (h : IsSoundErrors s) (node number : ℕ) (off : is_off_in (counts_after_disturbed s.counts r.node) node ≡ true) where
  none_before : node ≢ r.node → get s.plain.waiting (node, number) ≡ None
  none_before apart = h.none_waits node number (sym (is_off_other s.counts r.node node _ apart) ∙ off)

  none_dropped : get (retain_keys s.plain.waiting (λ name. not (eqb name.0 r.node))) (node, number) ≡ None
  none_dropped =
      let p : RequestName → Bool = λ name. not (eqb name.0 r.node) in
      get-retain_keys s.plain.waiting p (node, number) (ties p (node, number))
      ∙ elim (eqb_tells node r.node) [
        | inl own ↦ ap (λ b. cond (not b) (get s.plain.waiting (node, number)) None) own.0
        | inr other ↦ ap (λ b. cond (not b) (get s.plain.waiting (node, number)) None) other.0 ∙ none_before other.1
      ]

  none_waits_again : is_off_in (counts_after_disturbed s.counts r.node) r.node ≡ false → get (insert s.plain.waiting (request_name r) r.frame) (node, number) ≡ None
  none_waits_again on =
      let apart : node ≢ r.node = off_on_apart (counts_after_disturbed s.counts r.node) node r.node off on in
      get-insert name_cmp_total s.plain.waiting (request_name r) r.frame (node, number)
      ∙ ap (λ b. cond b (Some r.frame) (get s.plain.waiting (node, number))) (other_name (node, number) (request_name r) apart)
      ∙ none_before apart

  none_after : get (after_disturbed s r).plain.waiting (node, number) ≡ None
  none_after =
      elim (is_off_in (counts_after_disturbed s.counts r.node) r.node) as (λ b. is_off_in (counts_after_disturbed s.counts r.node) r.node ≡ b
      → get (cond b (retain_keys s.plain.waiting (λ name. not (eqb name.0 r.node))) (insert s.plain.waiting (request_name r) r.frame)) (node, number) ≡ None) [
        | true ↦ λ _. none_dropped
        | false ↦ λ on. none_waits_again on
      ] refl

sound_disturbed : (s : ErrorState) (r : Waiting) → IsSoundErrors s → IsSoundErrors (after_disturbed s r)
sound_disturbed s r h = record {
  takes_time = h.takes_time;
  none_waits = λ node number off. none_after s r h node number off;
  none_on_wire = tt;
}

sound_finish_of : (wire : Option Transmission) (s : ErrorState) (now : ℕ) → IsSoundErrors s → IsSoundErrors (after_finish_of wire s now)
sound_finish_of None s now h = h
sound_finish_of (Some t) s now h =
    elim (eqb t.end now) as (λ b. IsSoundErrors (cond b (cond (is_disturbed s) (after_disturbed s t.request) (after_sent s t.request)) s)) [
      | true ↦ elim (is_disturbed s) as (λ b. IsSoundErrors (cond b (after_disturbed s t.request) (after_sent s t.request))) [
        | true ↦ sound_disturbed s t.request h
        | false ↦ sound_sent s t.request h
      ]
      | false ↦ h
    ]

-- ---- arbitration
on_winner : (s : ErrorState) (r : Waiting) → IsSoundErrors s → Waits s.plain.waiting r → is_off s r.node ≡ false
on_winner s r h waits =
    elim (is_off s r.node) as (λ b. is_off s r.node ≡ b → b ≡ false) [
      | true ↦ λ off. let none = h.none_waits r.node r.number off in absurd (cc)
      | false ↦ λ _. refl
    ] refl

sound_begun : (s : ErrorState) (now : ℕ) (r : Waiting) → IsSoundErrors s → Waits s.plain.waiting r → IsSoundErrors (with_transmission s now r)
sound_begun s now r h waits = record {
  takes_time = h.takes_time;
  none_waits = λ node number off.
      get-remove name_cmp_total s.plain.waiting (request_name r) (node, number)
      ∙ elim (eq_by_cmp name_cmp (node, number) (request_name r)) as (λ b. cond b None (get s.plain.waiting (node, number)) ≡ None) [
        | true ↦ refl
        | false ↦ h.none_waits node number off
      ];
  none_on_wire = on_winner s r h waits;
}

sound_arbitration : (s : ErrorState) (now : ℕ) → IsSoundErrors s → IsSoundErrors (after_arbitration s now)
sound_arbitration s now h =
    elim (channel.winner_at s.plain now) as (λ o. channel.winner_at s.plain now ≡ o → IsSoundErrors (option_map_or (with_transmission s now) o s)) [
      | None ↦ λ _. h
      | Some r ↦ λ wins. sound_begun s now r h (waits_winner (channel.is_free s.plain now) s.plain.waiting r wins)
    ] refl

-- the law of the bus with planned errors
pub SoundStays-errors : SoundStays with_errors
SoundStays-errors = record { request = sound_request; finish = λ s. sound_finish_of s.plain.wire s; arbitrate = sound_arbitration }

-- ---- the number of nodes
nodes_request : (s : ErrorState) (m : ℕ) (f : FrameFields) → length (after_request s m f).counts ≡ length s.counts
nodes_request s m f = elim (is_off s m) as (λ b. length (cond b s (record s { plain = channel.after_request s.plain m f })).counts ≡ length s.counts) [ true ↦ refl | false ↦ refl ]

nodes_finish_of : (wire : Option Transmission) (s : ErrorState) (now : ℕ) → length (after_finish_of wire s now).counts ≡ length s.counts
nodes_finish_of None s now = refl
nodes_finish_of (Some t) s now =
    elim (eqb t.end now) as (λ b. length (cond b (cond (is_disturbed s) (after_disturbed s t.request) (after_sent s t.request)) s).counts ≡ length s.counts) [
      | true ↦ elim (is_disturbed s) as (λ b. length (cond b (after_disturbed s t.request) (after_sent s t.request)).counts ≡ length s.counts) [
        | true ↦ length-set s.counts t.request.node _
        | false ↦ length-set s.counts t.request.node _
      ]
      | false ↦ refl
    ]

nodes_arbitration : (s : ErrorState) (now : ℕ) → length (after_arbitration s now).counts ≡ length s.counts
nodes_arbitration s now =
    elim (channel.winner_at s.plain now) as (λ o. length (option_map_or (with_transmission s now) o s).counts ≡ length s.counts) [ None ↦ refl | Some r ↦ refl ]

-- it has its nodes, whatever comes
pub NodesStay-errors : NodesStay with_errors
NodesStay-errors = record { request = nodes_request; finish = λ s. nodes_finish_of s.plain.wire s; arbitrate = nodes_arbitration }
