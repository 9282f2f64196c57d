-- The event procedures so far.
use Rattle.std.proofs.Common.{◌≡◌, take}
use Rattle.std.specs.Prelude.{map}
use Rattle.sound_check.specs.Tables.{idle}
use Rattle.sound_check.proofs.tables.idle_handlers.Given as goal

abbrev pub invariant-loop-handler : goal.invariant-loop-handler
invariant-loop-handler l = l.entries.items ≡ map idle (take l.handler-index l.handlers)
