-- The first space or tab.
use Rattle.log_line.specs.Reading.{is_blank}
use Rattle.log_line.proofs.ByteTables.{first_is_position}
use Rattle.log_line.proofs.fields.first_blank.Goals as goal

pub returns : goal.returns
returns c = first_is_position is_blank c.args.text.now c.memchr2.result c.memchr2.ensures
