-- Its parts are read.
use Rattle.std.proofs.Common.{ap}
use Rattle.std.specs.Option.{option_map}
use Rattle.object_file.specs.Inside.Tables.{selector_of}
use Rattle.object_file.proofs.table.SelectorStored.complete.Goals as goal

pub returns : goal.returns
returns c x rest sound =
    ap (option_map (λ found. (selector_of found.0, found.1))) (c.complete.ensures (x.rank, (x.low, x.high)) rest (tt, (tt, tt)))
