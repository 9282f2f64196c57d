-- 0 is a low, and one more low.
use Rattle.std.proofs.Common.{◌≡◌, ℕ, ◌<◌, List, length, get_or, replicate, sym, subst}
use Rattle.std.specs.Global.{Vec}
use Rattle.std.specs.List.{All, AllZip}
use Rattle.load_bound.specs.Inside.Starts.{IsLow}
use Rattle.load_bound.proofs.KeyLemmas.{no_stream}
use Rattle.load_bound.proofs.PairLemmas.{zip_same, zip_set}
use Rattle.load_bound.proofs.StartLemmas.{low_zero}
use Rattle.load_bound.proofs.starts.lows_of.Goals as goal
use Rattle.load_bound.proofs.starts.lows_of.Goals.{in-Some, in_default}

pub loop-place-init : goal.loop-place-init
loop-place-init c =
    let streams = c.args.streams.now in
    let P : List ℕ → Type 0 = AllZip (IsLow c.args.bit streams) streams in
    let zeros : c.in_ok-lows.lows.items ≡ replicate (length streams) 0 = c.in_ok-lows.ensures.items_if_clones_equal (λ y same. same) in
    subst P (sym zeros) (zip_same (IsLow c.args.bit streams) 0 (low_zero c.args.bit streams) streams)

pub loop-place-preserved : goal.loop-place-preserved
loop-place-preserved c =
    let streams = c.args.streams.now in
    let order = c.deref-place-items.result.now in
    let R : List (ℕ × ℕ) → Type 0 = All (λ entry. entry.1 < length streams) in
    let in_range = subst R (sym c.deref-place-items.ensures.value) c.in_ok-order.ensures in
    let P : Vec ℕ → Type 0 = λ v. AllZip (IsLow c.args.bit streams) streams v.items in
    elim c.match-start_of.branch [
      | in-Some w ↦
          subst P (sym w.lows-is)
          (zip_set (IsLow c.args.bit streams) streams c.loop-place.lows.items (get_or order c.loop-place.place-index (0, 0)).1 no_stream w.settled.result c.loop-place.invariant
          (in_range c.loop-place.place-index (0, 0) c.loop-place-test.true) w.settled.ensures.low)
      | in_default w ↦ subst P (sym w.lows-is) c.loop-place.invariant
    ]
