-- Its parts are read.
use Rattle.std.proofs.Common.{◌++◌, ◌∙◌, ap, append_assoc}
use Rattle.std.specs.Option.{option_map}
use Rattle.object_file.specs.Number.{dword, truth}
use Rattle.object_file.specs.Inside.Tables.{function_at, function_of}
use Rattle.object_file.proofs.table.FunStored.complete.Goals as goal

pub returns : goal.returns
returns c x rest sound =
    ap (λ l. function_at (l ++ rest)) (append_assoc (dword x.start) (dword x.end) (truth x.gives))
    ∙ ap (option_map (λ found. (function_of found.0, found.1))) (c.complete.ensures (x.start, (x.end, x.gives)) rest (tt, (tt, tt)))
