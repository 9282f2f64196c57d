-- How long stronger streams keep the bus: the sum of a list in order, and that it rises with the wait.
use Rattle.std.proofs.Common.{◌≡◌, ℕ, zero, suc, ◌+◌, ◌*◌, ◌/◌, ◌<◌, ◌≤◌, true, false, cond, List, [], ◌∷◌, ◌++◌, length, get_or, take, ap, ◌∙◌, arith}
use Rattle.std.specs.List.{filter, sum_by}
use Rattle.std.proofs.lemmas.Nat.{le-div}
use Rattle.std.proofs.lemmas.List.Elements.{filter_more}
use Rattle.std.proofs.lemmas.List.Sums.{sum_by-append, sum_by_push, sum_by-le-sum_by}
use Rattle.std.proofs.Math.Nat.{mul-le-mul, div-zero, div-mul-le_self}
use Rattle.load_bound.specs.declared.stream.Stream.{Stream}
use Rattle.load_bound.specs.Streams.{frame_time, blocking, is_stronger}
use Rattle.load_bound.specs.Waits.{most_frames, interference}
use Rattle.load_bound.specs.Inside.Starts.{IsLow}

-- the time that frames of one stronger stream take
abbrev pub stream_time : ℕ → ℕ → Stream → ℕ
stream_time bit w r = most_frames w r * frame_time bit r

-- one more stream adds its time where it is stronger
pub interference_more : (bit : ℕ) (streams : List Stream) (s : Stream) (w i : ℕ) (d : Stream) → i < length streams
    → interference bit (take (i + 1) streams) s w ≡ interference bit (take i streams) s w + cond (is_stronger (get_or streams i d) s) (stream_time bit w (get_or streams i d)) 0
interference_more bit streams s w i d low =
    ap (sum_by (stream_time bit w)) (filter_more (λ r. is_stronger r s) streams i d low)
    ∙ elim (is_stronger (get_or streams i d) s) as (λ b. sum_by (stream_time bit w) (filter (λ r. is_stronger r s) (take i streams) ++ cond b (get_or streams i d ∷ []) []) ≡ interference bit (take i streams) s w + cond b (stream_time bit w (get_or streams i d)) 0) [
      | true ↦ sum_by_push (stream_time bit w) (filter (λ r. is_stronger r s) (take i streams)) (get_or streams i d)
      | false ↦ sum_by-append (stream_time bit w) (filter (λ r. is_stronger r s) (take i streams)) []
    ]

-- whole times between requests are no fewer in a greater wait
pub times-le : (v w apart : ℕ) → v ≤ w → v / apart ≤ w / apart
times-le v w zero le = omega (arith, div-zero v)
times-le v w (suc n) le = le-div (v / suc n) w (suc n) (omega arith) (omega (arith, div-mul-le_self v (suc n)))

-- a greater wait has no less interference
pub interference-le : (bit : ℕ) (streams : List Stream) (s : Stream) (v w : ℕ) → v ≤ w → interference bit streams s v ≤ interference bit streams s w
interference-le bit streams s v w le =
    sum_by-le-sum_by (stream_time bit v) (stream_time bit w) (filter (λ r. is_stronger r s) streams)
    (λ r. let more = times-le v w r.apart le in mul-le-mul (omega arith) (omega arith))

-- what a low takes is a low
pub low_next : (bit : ℕ) (streams : List Stream) (s : Stream) (low : ℕ) → IsLow bit streams s low → IsLow bit streams s (blocking bit streams + interference bit streams s low)
low_next bit streams s low h = λ w enough. let more = interference-le bit streams s low w (h w enough) in omega (arith, enough, more)
