-- Its parts are as long.
use Rattle.object_file.proofs.Lengths.{format_long}
use Rattle.object_file.proofs.table.FormatRecord.long_enough.Goals as goal

pub returns : goal.returns
returns c = format_long
