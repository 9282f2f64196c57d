-- Its fields have at most one.
use Rattle.log_line.specs.Reading.{log_fields, without_return}
use Rattle.log_line.proofs.OneReading.{one_fields_reading}
use Rattle.log_line.proofs.laws.one_reading.Goals as goal

pub returns : goal.returns
returns c = λ line reading other is also. one_fields_reading (log_fields (without_return line)) reading other is also
