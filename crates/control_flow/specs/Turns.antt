-- Turns: no part of a program has more of them left afterwards than before.
use Rattle.std.specs.Prelude.{◌≡◌, ℕ, ◌≤◌}
use Rattle.control_flow.specs.World.{World, Run, Gives, Fails}

-- a part of a run ends with at most so many turns left
abbrev pub LeavesAtMost : {M A : Type 0} → ℕ → Run M A → Type 0
LeavesAtMost n (Gives a w) = w.turns ≤ n
LeavesAtMost n (Fails outcome w) = w.turns ≤ n

-- a part of a program adds no turns, from any world
pub record AddsNoTurns {M A : Type 0} (part : World M → Run M A) : Type 0 where
  pub turns : (w : World M) → LeavesAtMost w.turns (part w)

-- two parts of programs do the same from each world with at most so many turns left
pub record Agree {M A : Type 0} (n : ℕ) (one other : World M → Run M A) : Type 0 where
  pub same : (w : World M) → w.turns ≤ n → one w ≡ other w
