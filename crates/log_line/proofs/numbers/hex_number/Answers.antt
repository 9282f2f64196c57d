-- Seven digits leave room for one more.
use Rattle.std.proofs.Common.{◌≤◌, length, take, length-take, arith}
use Rattle.log_line.proofs.NumberBounds.{hexadecimal_lt}
use Rattle.log_line.proofs.numbers.hex_number.Goals as goal

pub overflow_mul-number : goal.overflow_mul-number
overflow_mul-number c =
    let so_far = take c.loop-digit.digit-index c.args.digits.now in
    let seven : length so_far ≤ 7 = omega (arith, length-take c.loop-digit.digit-index c.args.digits.now, c.loop-digit-test.true, c.requires) in
    omega (arith, c.loop-digit.invariant.is, hexadecimal_lt so_far 7 c.loop-digit.invariant.hexadecimal seven)

pub overflow_add-number : goal.overflow_add-number
overflow_add-number c =
    let so_far = take c.loop-digit.digit-index c.args.digits.now in
    let seven : length so_far ≤ 7 = omega (arith, length-take c.loop-digit.digit-index c.args.digits.now, c.loop-digit-test.true, c.requires) in
    omega (arith, c.loop-digit.invariant.is, hexadecimal_lt so_far 7 c.loop-digit.invariant.hexadecimal seven, c.in_ok-digit_value.ensures.in_range, c.from.ensures)
