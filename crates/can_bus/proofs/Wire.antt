-- What the calls leave on the wire.
use Rattle.std.proofs.Common.{◌≡◌, ℕ, Bool, true, false, cond, eqb, refl, ap, ◌∙◌}
use Rattle.std.specs.Prelude.{None, Some, is_some}
use Rattle.std.specs.Option.{option_map}
use Rattle.can_frame.specs.Frame.{FrameFields}
use Rattle.can_bus.specs.declared.transmission.Transmission.{Transmission}
use Rattle.can_bus.specs.declared.bus.Ended.{Ended}
use Rattle.can_bus.specs.Bus.{BusState, next_number, last_number, transmission_with_rank, with_ranks, after_request, ended, after_finish}
use Rattle.can_bus.proofs.RankLemmas.{with_ranks-is}

-- what a request of the node makes of the request on the wire
abbrev pub wire_request : BusState → ℕ → Transmission → Transmission
wire_request s node t = cond (eqb (next_number s node) last_number) (transmission_with_rank s node t) t

wire_by : (s : BusState) (node : ℕ) (b : Bool) → (cond b (with_ranks s node) s).wire ≡ option_map (λ t. cond b (transmission_with_rank s node t) t) s.wire
wire_by s node true = ap (λ (u : BusState). u.wire) (with_ranks-is s node)
wire_by s node false = elim (s.wire) as (λ w. w ≡ option_map (λ (t : Transmission). t) w) [ None ↦ refl | Some t ↦ refl ]

-- a request gives the one on the wire its rank at most
pub wire-after_request : (s : BusState) (node : ℕ) (f : FrameFields) → (after_request s node f).wire ≡ option_map (wire_request s node) s.wire
wire-after_request s node f = wire_by s node (eqb (next_number s node) last_number)

-- a request leaves an empty wire empty
pub wire_empty-after_request : (s : BusState) (node : ℕ) (f : FrameFields) → s.wire ≡ None → (after_request s node f).wire ≡ None
wire_empty-after_request s node f empty = wire-after_request s node f ∙ ap (option_map (wire_request s node)) empty

-- where a frame ends, the wire is empty
pub wire_empty-after_finish : (s : BusState) (now : ℕ) (e : Ended) → ended s now ≡ Some e → (after_finish s now).wire ≡ None
wire_empty-after_finish s now e ends = ap (λ o. (cond (is_some o) (record s { wire = None }) s).wire) ends
