-- Where the first field begins and ends.
use Rattle.log_line.proofs.FieldLemmas.{next_found, last_found, none_found}
use Rattle.log_line.proofs.fields.next_field.Goals as goal

pub returns-in_err-text : goal.returns-in_err-text
returns-in_err-text c = rw c.from_residual.ensures (none_found c.args.text.now c.in_err-text.ensures)

pub returns-in-Some : goal.returns-in-Some
returns-in-Some c =
    next_found c.args.text.now c.in_ok-text.field-0 c.in-Some.end c.split_at.result.0.now c.split_at.result.1.now
    c.in_ok-text.ensures c.in-Some.ensures c.split_at.ensures.front c.split_at.ensures.back

pub returns-in-None : goal.returns-in-None
returns-in-None c = last_found c.args.text.now c.in_ok-text.field-0 c.in_ok-text.ensures c.in-None.ensures
