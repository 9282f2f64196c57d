-- Its parts are as long.
use Rattle.object_file.proofs.Lengths.{dword_long}
use Rattle.object_file.proofs.number.U32Record.long_enough.Goals as goal

pub returns : goal.returns
returns c = dword_long
