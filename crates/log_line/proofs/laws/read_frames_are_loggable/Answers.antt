-- Its fields are those of an entry.
use Rattle.log_line.specs.Reading.{log_fields, without_return}
use Rattle.log_line.proofs.LoggableLemmas.{entry_loggable}
use Rattle.log_line.proofs.laws.read_frames_are_loggable.Goals as goal

pub returns : goal.returns
returns c = λ line entry is. entry_loggable (log_fields (without_return line)) entry is
