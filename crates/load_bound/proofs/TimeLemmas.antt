-- How long frames keep the bus: bounds, and the greatest time of a list of streams.
use Rattle.std.proofs.Common.{◌≡◌, ℕ, ◌+◌, ◌<◌, ◌≤◌, List, [], ◌∷◌, ◌++◌, length, get_or, take, ap, subst, ◌∙◌, inl, inr, arith}
use Rattle.std.specs.Prelude.{max}
use Rattle.std.specs.List.{Contains}
use Rattle.std.proofs.Math.Nat.{le-max_left, le-max_right}
use Rattle.std.proofs.lemmas.List.{take_more}
use Rattle.can_bus.proofs.Requests.{Contains-cons, not_Contains-nil}
use Rattle.load_bound.specs.declared.stream.Stream.{Stream}
use Rattle.load_bound.specs.Streams.{frame_time, blocking}

-- ---- the greatest time
module _ (bit : ℕ) where
  push_time : (streams : List Stream) (s : Stream) → blocking bit (streams ++ s ∷ []) ≡ max (blocking bit streams) (frame_time bit s)
  push_time [] s = omega arith
  push_time (r ∷ streams) s = ap (max (frame_time bit r)) (push_time streams s) ∙ omega arith

  -- the greatest time of one more stream
  pub blocking_more : (streams : List Stream) (i : ℕ) (d : Stream) → i < length streams
      → blocking bit (take (i + 1) streams) ≡ max (blocking bit (take i streams)) (frame_time bit (get_or streams i d))
  blocking_more streams i d low = ap (blocking bit) (take_more streams i d low) ∙ push_time (take i streams) (get_or streams i d)

  -- no stream's frame takes longer
  pub frame_time-le-blocking : (streams : List Stream) (s : Stream) → Contains streams s → frame_time bit s ≤ blocking bit streams
  frame_time-le-blocking [] s in' = absurd (not_Contains-nil s in')
  frame_time-le-blocking (r ∷ streams) s in' =
      elim (Contains-cons r s streams in') [
        | inl same ↦
            let P : Stream → Type 0 = λ q. frame_time bit q ≤ max (frame_time bit r) (blocking bit streams) in
            subst P same (le-max_left (frame_time bit r) (blocking bit streams))
        | inr later ↦ omega (arith, frame_time-le-blocking streams s later, le-max_right (frame_time bit r) (blocking bit streams))
      ]
