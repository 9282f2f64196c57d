-- The bytes so far are copied.
use Rattle.std.proofs.Common.{◌≡◌, take}
use Rattle.capl_include.specs.Expansion.{with_slashes}
use Rattle.capl_include.proofs.names.with_slashes.Given as goal

abbrev pub invariant-loop-byte : goal.invariant-loop-byte
invariant-loop-byte l = l.copy.items ≡ with_slashes (take l.byte-index l.bytes)
