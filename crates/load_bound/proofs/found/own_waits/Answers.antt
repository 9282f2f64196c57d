-- One more wait.
use Rattle.std.proofs.Common.{ℕ, ◌+◌, List, length, take, sym, ap, subst, arith}
use Rattle.std.specs.Prelude.{Option}
use Rattle.std.specs.List.{AllZip}
use Rattle.load_bound.specs.Inside.Starts.{IsLow, IsOwnWait}
use Rattle.load_bound.proofs.KeyLemmas.{no_stream}
use Rattle.load_bound.proofs.PairLemmas.{zip_at, zip_push, zip_all_taken, zip_length}
use Rattle.load_bound.proofs.found.own_waits.Goals as goal

pub bounds-lows-place : goal.bounds-lows-place
bounds-lows-place c =
    let same = ap length c.as_slice-lows.ensures.value in
    let long = zip_length (IsLow c.args.bit c.args.streams.now) c.args.streams.now c.in_ok-found.found.items c.in_ok-found.ensures in
    omega (arith, c.loop-place-test.true)

pub own_wait-requires-clause-low : goal.own_wait-requires-clause-low
own_wait-requires-clause-low c =
    let streams = c.args.streams.now in
    let L : List ℕ → Type 0 = AllZip (IsLow c.args.bit streams) streams in
    zip_at (IsLow c.args.bit streams) streams c.as_slice-lows.result.now c.loop-place.place no_stream 0 (subst L (sym c.as_slice-lows.ensures.value) c.in_ok-found.ensures) c.loop-place-test.true

pub loop-place-preserved : goal.loop-place-preserved
loop-place-preserved c =
    let streams = c.args.streams.now in
    let place = c.loop-place.place in
    let P : List (Option ℕ) → Type 0 = AllZip (IsOwnWait c.args.bit streams) (take (place + 1) streams) in
    subst P (sym {A = List (Option ℕ)} c.in_ok-push.ensures.items)
    (zip_push (IsOwnWait c.args.bit streams) streams c.loop-place.waits.items place no_stream c.own_wait.result c.loop-place-test.true c.loop-place.invariant c.own_wait.ensures)

pub returns : goal.returns
returns c =
    zip_all_taken (IsOwnWait c.args.bit c.args.streams.now) c.args.streams.now c.loop-place.waits.items c.loop-place.place c.loop-place-test.false c.loop-place.invariant
