-- Its parts are as long.
use Rattle.object_file.proofs.Lengths.{selector_long}
use Rattle.object_file.proofs.table.SelectorRecord.long_enough.Goals as goal

pub returns : goal.returns
returns c = selector_long
