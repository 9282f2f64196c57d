-- Where there are no parts.
use Rattle.log_line.proofs.FrameFieldLemmas.{other_count, no_digits}
use Rattle.log_line.proofs.frame_text.split_frame.Goals as goal

pub returns-then-count-ne8 : goal.returns-then-count-ne8
returns-then-count-ne8 c =
    other_count c.args.field.now c.in_ok-digits.digits.now c.in_ok-digits.behind.now c.in_ok-digits.ensures.found c.in_ok-digits.ensures.first
    c.if-count-ne3.true c.if-count-ne8.true

pub returns-in_err-number : goal.returns-in_err-number
returns-in_err-number c =
    rw c.from_residual-in_err-number.ensures
    (no_digits c.args.field.now c.in_ok-digits.digits.now c.in_ok-digits.behind.now c.in_ok-digits.ensures.found c.in_ok-digits.ensures.first c.in_err-number.ensures)
