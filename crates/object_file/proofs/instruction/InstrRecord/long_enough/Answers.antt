-- Its parts are as long.
use Rattle.object_file.proofs.Lengths.{instruction_long}
use Rattle.object_file.proofs.instruction.InstrRecord.long_enough.Goals as goal

pub returns : goal.returns
returns c = instruction_long
