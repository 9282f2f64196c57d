-- Numbers of 32 bits that rise from 1 on are fewer than 2^32.
use Rattle.std.proofs.Common.{arith}
use Rattle.check_calls.proofs.OrderLemmas.{few_numbers}
use Rattle.check_calls.proofs.rows.count_of.Goals as goal

pub overflow_cast-result : goal.overflow_cast-result
overflow_cast-result c =
    let few = few_numbers c.args.numbers.now c.requires (λ k. (c.type_inv.numbers k).fits) in
    omega (arith, few)
