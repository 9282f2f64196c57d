-- From where the search for a least good wait can begin, and what it gives.
use Rattle.std.specs.Prelude.{◌≡◌, ℕ, ◌+◌, ◌*◌, ◌/◌, ◌<◌, ◌≤◌, ◌⊎◌, true, List, length, slice_index_or, Option, None, Some}
use Rattle.std.specs.List.{AllZip}
use Rattle.load_bound.specs.declared.stream.Stream.{Stream}
use Rattle.load_bound.specs.Streams.{blocking, is_stronger}
use Rattle.load_bound.specs.Waits.{interference, HasGood, IsLeastGood, IsBounded, StrongerHaveWaits}

-- a low of a stream: no wait that is long enough for it is less
abbrev pub IsLow : ℕ → List Stream → Stream → ℕ → Type 0
IsLow bit streams s low = (w : ℕ) → blocking bit streams + interference bit streams s w ≤ w → low ≤ w

-- a low of the stream, or nothing of a stream that is not bounded
abbrev pub IsStart : ℕ → List Stream → Stream → Option ℕ → Type 0
IsStart bit streams s None = ¬ IsBounded bit streams s
IsStart bit streams s (Some low) = IsLow bit streams s low

-- so it is at each bit time for which the times are lows of the streams, in one order
abbrev pub IsStartBy : List Stream → List ℕ → Stream → Option ℕ → Type 0
IsStartBy streams lows s start =
    (bit : ℕ) → AllZip (IsLow bit streams) streams lows → IsStart bit streams s start

-- the least good wait of a stream that has one, and nothing of one that has none
abbrev pub IsOwnLeast : ℕ → List Stream → Stream → Option ℕ → Type 0
IsOwnLeast bit streams s None = ¬ HasGood bit streams s
IsOwnLeast bit streams s (Some w) = IsLeastGood bit streams s w

-- the same, and nothing perhaps of a stream that is not bounded
abbrev pub IsOwnWait : ℕ → List Stream → Stream → Option ℕ → Type 0
IsOwnWait bit streams s wait = IsOwnLeast bit streams s wait ⊎ ((wait ≡ None) × ¬ IsBounded bit streams s)

-- the wait of a stream where each stronger one has one, else nothing
abbrev pub IsBoundedWait : List Stream → List (Option ℕ) → Stream → Option ℕ → Option ℕ → Type 0
IsBoundedWait streams waits s wait result =
    (StrongerHaveWaits streams waits s × (result ≡ wait))
    ⊎ ((¬ StrongerHaveWaits streams waits s) × (result ≡ None))

-- a stream stronger than this one stands at the place
pub record IsStrongerAt (streams : List Stream) (s : Stream) (place : ℕ) : Type 0 where
  pub there : place < length streams
  pub stronger : (d : Stream) → is_stronger (slice_index_or streams place d) s ≡ true

-- no time which is long enough for the rest, and for so much in each whole period of it, is below this one
abbrev pub IsLowBy : ℕ → ℕ → ℕ → ℕ → Type 0
IsLowBy rest period time low = (w : ℕ) → rest + w / period * time ≤ w → low ≤ w
