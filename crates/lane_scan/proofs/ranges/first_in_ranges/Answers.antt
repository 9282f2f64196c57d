-- The first range that holds the key, and where none does.
use Rattle.std.proofs.Common.{ℕ, ◌≡◌, length, sym, subst, arith}
use Rattle.std.proofs.lemmas.Bool.Decides.{nat_tests}
use Rattle.lane_scan.specs.Inside.Ranges.{IsPassed}
use Rattle.lane_scan.proofs.LaneLemmas.{position-passed, position-none}
use Rattle.lane_scan.proofs.ranges.first_in_ranges.Goals as goal

pub returns-then-key-highs : goal.returns-then-key-highs
returns-then-key-highs c =
    sym (position-passed c.args.lows.now c.args.highs.now c.args.key c.loop-place.place c.requires (omega arith) c.loop-place.invariant (grind (arith, nat_tests)))

pub returns : goal.returns
returns c =
    let lows = c.args.lows.now in
    let highs = c.args.highs.now in
    let P : ℕ → Type 0 = λ n. IsPassed lows highs c.args.key n in
    let passed = c.loop-place.invariant in
    let at : c.loop-place.place ≡ length lows = omega arith in
    sym (position-none lows highs c.args.key c.requires (subst P at passed))
