-- The keys so far are those of the handlers so far.
use Rattle.std.proofs.Common.{◌≡◌, take}
use Rattle.bytecode.specs.Tables.{all_keys}
use Rattle.bytecode.proofs.tables.keys_of.Given as goal

abbrev pub invariant-loop-handler : goal.invariant-loop-handler
invariant-loop-handler l = l.keys.items ≡ all_keys (take l.handler-index l.handlers)
