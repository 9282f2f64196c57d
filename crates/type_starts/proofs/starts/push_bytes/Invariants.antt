-- The bytes so far were put.
use Rattle.std.proofs.Common.{take}
use Rattle.std.specs.Prelude.{map, pos}
use Rattle.type_starts.specs.Starts.{Goes}
use Rattle.type_starts.proofs.starts.push_bytes.Given as goal

abbrev pub invariant-loop-byte : goal.invariant-loop-byte
invariant-loop-byte l = Goes l.fn.starts l.starts (map pos (take l.byte-index l.bytes))
