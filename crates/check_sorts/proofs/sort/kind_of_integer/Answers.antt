-- Each number of bits.
use Rattle.std.proofs.Common.{arith}
use Rattle.check_sorts.proofs.SortLemmas.{long_integer, wide_integer, widest_integer}
use Rattle.check_sorts.proofs.sort.kind_of_integer.Goals as goal

pub returns-then-bits-lt33 : goal.returns-then-bits-lt33
returns-then-bits-lt33 c = long_integer c.args.bits (omega arith)

pub returns-then-bits-lt65 : goal.returns-then-bits-lt65
returns-then-bits-lt65 c = wide_integer c.args.bits (omega arith) (omega arith)

pub returns-else-bits-lt65 : goal.returns-else-bits-lt65
returns-else-bits-lt65 c = widest_integer c.args.bits (omega arith)
