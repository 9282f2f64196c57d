-- Each number of bits.
use Rattle.std.proofs.Common.{arith}
use Rattle.check_sorts.proofs.SortLemmas.{dword_natural, long_natural, wide_natural, widest_natural}
use Rattle.check_sorts.proofs.sort.kind_of_natural.Goals as goal

pub returns-then-bits-lt32 : goal.returns-then-bits-lt32
returns-then-bits-lt32 c = long_natural c.args.bits (omega arith)

pub returns-then-bits-eq32 : goal.returns-then-bits-eq32
returns-then-bits-eq32 c = dword_natural c.args.bits (omega arith)

pub returns-then-bits-lt64 : goal.returns-then-bits-lt64
returns-then-bits-lt64 c = wide_natural c.args.bits (omega arith) (omega arith)

pub returns-else-bits-lt64 : goal.returns-else-bits-lt64
returns-else-bits-lt64 c = widest_natural c.args.bits (omega arith)
