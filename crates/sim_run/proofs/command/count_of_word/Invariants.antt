-- What stands between two numbers.
use Rattle.std.proofs.Common.{◌≢◌, ◌≤◌, ℕ}
use Rattle.std.specs.Prelude.{decimal}
use Rattle.sim_run.proofs.command.count_of_word.Given as goal

-- the word is none of the numbers so far
abbrev pub invariant-loop-before : goal.invariant-loop-before
invariant-loop-before l = (count : ℕ) → 1 ≤ count → count ≤ l.before → l.word ≢ decimal count
