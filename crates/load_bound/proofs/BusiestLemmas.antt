-- Times by which all frames of one stronger stream have begun.
use Rattle.std.proofs.Common.{◌≡◌, ℕ, zero, suc, ◌+◌, ◌-◌, ◌*◌, ◌/◌, ◌<◌, ◌≤◌, Bool, true, false, cond, List, [], ◌∷◌, length, get_or, sym, subst, arith}
use Rattle.std.specs.Prelude.{max}
use Rattle.std.specs.List.{filter, sum_by}
use Rattle.std.proofs.Math.Nat.{mul-add, add-mul, mul-le-mul_right, lt-div-mul-add, div-lt_iff_lt-mul}
use Rattle.std.proofs.lemmas.List.Sums.{sum_by-cons}
use Rattle.load_bound.specs.declared.stream.Stream.{Stream}
use Rattle.load_bound.specs.Streams.{frame_time, blocking, is_stronger}
use Rattle.load_bound.specs.Waits.{interference}
use Rattle.load_bound.specs.Inside.Starts.{IsLow, IsLowBy, IsStrongerAt}
use Rattle.load_bound.proofs.StartLemmas.{low_max}
use Rattle.load_bound.proofs.WaitLemmas.{stream_time, times-le, low_next}

-- ---- a time that is long enough for a rest and so much time in each period
-- is not below the rest with the time of so many periods
pub periods_low : (rest period time : ℕ) → time < period → period ≤ rest
    → IsLowBy rest period time (rest + ((rest - period) / (period - time) + 1) * time)
periods_low rest period time less least = λ w enough.
    let gap = period - time in
    let count = w / period in
    let split : count * (time + gap) ≡ count * time + count * gap = mul-add count time gap in
    let whole : time + gap ≡ period = omega arith in
    let parts : count * period ≡ count * time + count * gap = subst (λ n. count * n ≡ count * time + count * gap) whole split in
    let within : w < count * period + period = lt-div-mul-add (omega arith) in
    let fewer : (rest - period) / gap < count = (div-lt_iff_lt-mul (omega arith)).1 (omega (arith, enough, within, parts)) in
    let times : ((rest - period) / gap + 1) * time ≤ count * time = mul-le-mul_right time (omega (arith, fewer)) in
    omega (arith, enough, times)

-- ---- one stream among the stronger ones
module _ (p : Stream → Bool) (f g : Stream → ℕ) (less : (x : Stream) → f x ≤ g x) where
  sum-le : (xs : List Stream) → sum_by f (filter p xs) ≤ sum_by g (filter p xs)
  sum-le [] = omega arith
  sum-le (x ∷ xs) =
      elim (p x) as (λ b. sum_by f (cond b (x ∷ filter p xs) (filter p xs)) ≤ sum_by g (cond b (x ∷ filter p xs) (filter p xs))) [
        | true ↦ omega (arith, sum-le xs, less x, sum_by-cons f x (filter p xs), sum_by-cons g x (filter p xs))
        | false ↦ sum-le xs
      ]

  -- the sum of greater terms is greater by what one of them is
  exchange : (xs : List Stream) (i : ℕ) (d : Stream) → i < length xs → p (get_or xs i d) ≡ true
      → sum_by f (filter p xs) + g (get_or xs i d) ≤ sum_by g (filter p xs) + f (get_or xs i d)
  exchange [] i d low pass = absurd (omega arith)
  exchange (x ∷ xs) zero d low pass =
      subst (λ b. sum_by f (cond b (x ∷ filter p xs) (filter p xs)) + g x ≤ sum_by g (cond b (x ∷ filter p xs) (filter p xs)) + f x) (sym pass)
      (omega (arith, sum-le xs, sum_by-cons f x (filter p xs), sum_by-cons g x (filter p xs)))
  exchange (x ∷ xs) (suc i) d low pass =
      let rest = exchange xs i d (omega arith) pass in
      elim (p x) as (λ b. sum_by f (cond b (x ∷ filter p xs) (filter p xs)) + g (get_or xs i d) ≤ sum_by g (cond b (x ∷ filter p xs) (filter p xs)) + f (get_or xs i d)) [
        | true ↦ omega (arith, rest, less x, sum_by-cons f x (filter p xs), sum_by-cons g x (filter p xs))
        | false ↦ rest
      ]

module _ (bit : ℕ) (streams : List Stream) (s : Stream) (place : ℕ) (d : Stream) (at : IsStrongerAt streams s place) where
  abbrev busy : Stream
  busy = get_or streams place d

  abbrev time : ℕ
  time = frame_time bit busy

  -- a greater wait has as much more interference as the frames of one stream at least
  grows : (v w : ℕ) → v ≤ w
      → interference bit streams s v + w / busy.apart * time ≤ interference bit streams s w + v / busy.apart * time
  grows v w le =
      let more = exchange (λ r. is_stronger r s) (stream_time bit v) (stream_time bit w)
      (λ r. mul-le-mul_right (frame_time bit r) (let times = times-le v w r.apart le in omega (arith, times))) streams place d at.there (at.stronger d) in
      let of_v = add-mul (v / busy.apart) 2 time in
      let of_w = add-mul (w / busy.apart) 2 time in
      omega (arith, more, of_v, of_w)

  -- the frames of one stream are among it
  has : (v : ℕ) → v / busy.apart * time ≤ interference bit streams s v
  has v =
      let one = exchange (λ r. is_stronger r s) (λ r. 0) (stream_time bit v) (λ r. omega arith) streams place d at.there (at.stronger d) in
      let of_v = add-mul (v / busy.apart) 2 time in
      omega (arith, one, of_v)

  -- what is low by the frames of the stream and all else that is needed is a low
  pub low_past : (wait needed low : ℕ) → needed ≡ blocking bit streams + interference bit streams s wait → IsLow bit streams s wait
      → IsLowBy (needed - wait / busy.apart * time) busy.apart time low → IsLow bit streams s low
  low_past wait needed low is before by = λ w enough.
      let more = grows wait w (before w enough) in
      let part = has wait in
      by w (omega (arith, more, part, is, enough))

  -- and the greater of it and what is needed
  pub low_further : (wait needed low : ℕ) → needed ≡ blocking bit streams + interference bit streams s wait → IsLow bit streams s wait
      → IsLowBy (needed - wait / busy.apart * time) busy.apart time low → IsLow bit streams s (max needed low)
  low_further wait needed low is before by =
      low_max bit streams s needed low
      (let P : ℕ → Type 0 = IsLow bit streams s in subst P (sym is) (low_next bit streams s wait before))
      (low_past wait needed low is before by)
