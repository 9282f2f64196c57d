-- The functions so far were entered, and none is open.
use Rattle.std.proofs.Common.{◌≡◌, ◌<◌, ℕ, [], Some, true}
use Rattle.std.specs.Prelude.{slice_get}
use Rattle.check_calls.specs.Graph.{rows_of}
use Rattle.check_calls.specs.Inside.Walk.{GoesOn}
use Rattle.check_calls.proofs.depth.depth_first.Given as goal

abbrev pub invariant-loop-function : goal.invariant-loop-function
invariant-loop-function l = record {
  walks : GoesOn (rows_of l.rows) l.walk;
  closed : l.walk.stack.items ≡ [];
  entered : (place : ℕ) → place < l.function → slice_get l.walk.entered.items place ≡ Some true;
}
