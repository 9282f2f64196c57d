-- The walk goes on, and each step leaves fewer.
use Rattle.std.proofs.Common.{◌≡◌, ◌<◌, length, [], Some, true}
use Rattle.std.specs.Prelude.{slice_get}
use Rattle.check_calls.specs.Graph.{rows_of}
use Rattle.check_calls.specs.Inside.Walk.{GoesOn, KeepsEntered, steps_of}
use Rattle.check_calls.proofs.depth.Walk.follow.Given as goal

abbrev pub invariant-steps : goal.invariant-steps
invariant-steps l = record {
  walks : GoesOn (rows_of l.rows) l.fn.self → l.fn.self.stack.items ≡ [] → GoesOn (rows_of l.rows) l.self;
  kept : KeepsEntered l.fn.self l.self;
  entered : l.function < length l.fn.self.entered.items → slice_get l.self.entered.items l.function ≡ Some true;
}

abbrev pub decreases-steps : goal.decreases-steps
decreases-steps l = steps_of (rows_of l.rows) l.self
