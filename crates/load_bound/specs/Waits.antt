-- Good waits of a stream: bounds on the time from the request of a frame to its start.
use Rattle.std.specs.Prelude.{ℕ, ◌+◌, ◌*◌, ◌/◌, ◌<◌, ◌≤◌, List, Option, None, Some, All, IsTrue, IsSome, IfSome}
use Rattle.std.specs.List.{AllZip, filter, sum_by}
use Rattle.load_bound.specs.declared.stream.Stream.{Stream}
use Rattle.load_bound.specs.Streams.{frame_time, blocking, is_stronger}

-- how many frames of a stronger stream begin within a wait at most
abbrev pub most_frames : ℕ → Stream → ℕ
most_frames w r = w / r.apart + 2

-- how long frames of stronger streams keep the bus within a wait at most
abbrev pub interference : ℕ → List Stream → Stream → ℕ → ℕ
interference bit streams s w =
    sum_by (λ r. most_frames w r * frame_time bit r) (filter (λ r. is_stronger r s) streams)

-- the wait is long enough for a frame that has begun and all stronger frames within the wait, and is over
-- before the stream's next request
pub record IsGood (bit : ℕ) (streams : List Stream) (s : Stream) (w : ℕ) : Type 0 where
  pub enough : blocking bit streams + interference bit streams s w ≤ w
  pub before_next : w < s.apart

-- the stream has a good wait
abbrev pub HasGood : ℕ → List Stream → Stream → Type 0
HasGood bit streams s = (w : ℕ) × IsGood bit streams s w

-- the wait is good, and no lesser one is
pub record IsLeastGood (bit : ℕ) (streams : List Stream) (s : Stream) (w : ℕ) : Type 0 where
  pub good : IsGood bit streams s w
  pub least : (v : ℕ) → IsGood bit streams s v → w ≤ v

-- the stream and each stronger one have a good wait
pub record IsBounded (bit : ℕ) (streams : List Stream) (s : Stream) : Type 0 where
  pub own : HasGood bit streams s
  pub stronger : All (λ r. IsTrue (is_stronger r s) → HasGood bit streams r) streams

-- the least good wait of a stream that is bounded, and nothing of one that is not
abbrev pub IsFound : ℕ → List Stream → Stream → Option ℕ → Type 0
IsFound bit streams s None = ¬ IsBounded bit streams s
IsFound bit streams s (Some w) = IsBounded bit streams s × IsLeastGood bit streams s w

-- each stronger stream has been given a wait; `streams` and `waits` stand in one order
abbrev pub StrongerHaveWaits : List Stream → List (Option ℕ) → Stream → Type 0
StrongerHaveWaits streams waits s = AllZip (λ r v. IsTrue (is_stronger r s) → IsSome v) streams waits

-- the wait of a stream, if it is given, is good, and each stronger stream has one too
abbrev pub IsAcceptedAt : ℕ → List Stream → List (Option ℕ) → Stream → Option ℕ → Type 0
IsAcceptedAt bit streams waits s wait =
    IfSome wait (λ w. IsGood bit streams s w × StrongerHaveWaits streams waits s)

-- so it is of each stream; `streams` and `waits` stand in one order
abbrev pub IsAccepted : ℕ → List Stream → List (Option ℕ) → Type 0
IsAccepted bit streams waits = AllZip (IsAcceptedAt bit streams waits) streams waits
