-- Its parts are as long.
use Rattle.object_file.proofs.Lengths.{qword_long}
use Rattle.object_file.proofs.number.U64Record.long_enough.Goals as goal

pub returns : goal.returns
returns c = qword_long
