-- The timers so far are those of the handlers so far.
use Rattle.std.proofs.Common.{◌≡◌, take}
use Rattle.bytecode.specs.Tables.{all_timers}
use Rattle.bytecode.proofs.tables.timers_of.Given as goal

abbrev pub invariant-loop-handler : goal.invariant-loop-handler
invariant-loop-handler l = l.timers.items ≡ all_timers (take l.handler-index l.handlers)
