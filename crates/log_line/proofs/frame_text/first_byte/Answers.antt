-- The first pair.
use Rattle.std.proofs.Common.{◌+◌, ◌*◌, drop, get_or, subst, sym}
use Rattle.log_line.specs.Inside.FrameField.{IsFirstByte, IsWithoutDot}
use Rattle.log_line.proofs.BytesLemmas.{first_byte_is, two_in_front, rest_of_two}
use Rattle.log_line.proofs.frame_text.first_byte.Goals as goal

pub returns : goal.returns
returns c =
    let text = c.args.text.now in
    let two = two_in_front text c.in-len2-up.len_at_least in
    let first = first_byte_is (get_or text 0 0) (get_or text 1 0) c.in_ok-digit_value.field-0 c.in_ok-byte.field-0 (drop 2 text) c.without_dot.result.now
    c.in_ok-digit_value.ensures.found c.in_ok-byte.ensures.found
    (subst (λ t. IsWithoutDot t c.without_dot.result.now) (rest_of_two text) c.without_dot.ensures) in
    subst (λ t. IsFirstByte t (c.in_ok-digit_value.field-0 * 16 + c.in_ok-byte.field-0) c.without_dot.result.now) (sym two) first
