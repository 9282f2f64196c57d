-- One more wait.
use Rattle.std.proofs.Common.{ℕ, ◌+◌, List, length, take, None, sym, ap, subst, ◌∙◌, arith}
use Rattle.std.specs.Prelude.{Option}
use Rattle.std.specs.List.{AllZip}
use Rattle.load_bound.specs.Waits.{IsFound}
use Rattle.load_bound.specs.Inside.Starts.{IsOwnWait}
use Rattle.load_bound.proofs.KeyLemmas.{no_stream}
use Rattle.load_bound.proofs.PairLemmas.{zip_push, zip_at, zip_all_taken, zip_length}
use Rattle.load_bound.proofs.FoundLemmas.{found_wait}
use Rattle.load_bound.proofs.found.find.Goals as goal

pub bounds-own-place : goal.bounds-own-place
bounds-own-place c =
    let same = ap length c.as_slice-own.ensures.value in
    let long = zip_length (IsOwnWait c.args.bit c.args.streams.now) c.args.streams.now c.in_ok-least.least.items c.in_ok-least.ensures in
    omega (arith, c.loop-place-test.true)

pub bounded_wait-requires-clause-as_many : goal.bounded_wait-requires-clause-as_many
bounded_wait-requires-clause-as_many c =
    ap length c.as_slice-own.ensures.value
    ∙ zip_length (IsOwnWait c.args.bit c.args.streams.now) c.args.streams.now c.in_ok-least.least.items c.in_ok-least.ensures

pub loop-place-preserved : goal.loop-place-preserved
loop-place-preserved c =
    let streams = c.args.streams.now in
    let place = c.loop-place.place in
    let own = c.as_slice-own.result.now in
    let L : List (Option ℕ) → Type 0 = AllZip (IsOwnWait c.args.bit streams) streams in
    let least = subst L (sym c.as_slice-own.ensures.value) c.in_ok-least.ensures in
    let P : List (Option ℕ) → Type 0 = AllZip (IsFound c.args.bit streams) (take (place + 1) streams) in
    subst P (sym {A = List (Option ℕ)} c.in_ok-push.ensures.items)
    (zip_push (IsFound c.args.bit streams) streams c.loop-place.waits.items place no_stream c.bounded_wait.result c.loop-place-test.true c.loop-place.invariant
    (found_wait c.args.bit streams own least _ _ c.bounded_wait.result (zip_at (IsOwnWait c.args.bit streams) streams own place no_stream None least c.loop-place-test.true) c.bounded_wait.ensures))

pub returns-clause-least : goal.returns-clause-least
returns-clause-least c =
    zip_all_taken (IsFound c.args.bit c.args.streams.now) c.args.streams.now c.loop-place.waits.items c.loop-place.place c.loop-place-test.false c.loop-place.invariant

pub returns-clause-as_many : goal.returns-clause-as_many
returns-clause-as_many c =
    zip_length (IsFound c.args.bit c.args.streams.now) c.args.streams.now c.loop-place.waits.items
    (zip_all_taken (IsFound c.args.bit c.args.streams.now) c.args.streams.now c.loop-place.waits.items c.loop-place.place c.loop-place-test.false c.loop-place.invariant)
