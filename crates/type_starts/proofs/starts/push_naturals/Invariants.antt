-- The numbers so far were put.
use Rattle.std.proofs.Common.{take}
use Rattle.std.specs.Prelude.{map, pos}
use Rattle.type_starts.specs.Starts.{Goes}
use Rattle.type_starts.proofs.starts.push_naturals.Given as goal

abbrev pub invariant-loop-n : goal.invariant-loop-n
invariant-loop-n l = Goes l.fn.starts l.starts (map pos (take l.n-index l.numbers))
