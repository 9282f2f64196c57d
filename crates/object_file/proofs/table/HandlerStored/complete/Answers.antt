-- Its parts are read.
use Rattle.std.proofs.Common.{◌++◌, ◌∙◌, ap, append_assoc}
use Rattle.std.specs.Option.{option_map}
use Rattle.object_file.specs.Number.{dword}
use Rattle.object_file.specs.Table.{event_text}
use Rattle.object_file.specs.Inside.Tables.{handler_at, handler_of}
use Rattle.object_file.proofs.table.HandlerStored.complete.Goals as goal

pub returns : goal.returns
returns c x rest sound =
    ap (λ l. handler_at (l ++ rest))
    (append_assoc (event_text x.event ++ dword x.function) (dword x.file) (dword x.line)
    ∙ append_assoc (event_text x.event) (dword x.function) (dword x.file ++ dword x.line))
    ∙ ap (option_map (λ found. (handler_of found.0, found.1))) (c.complete.ensures (x.event, (x.function, (x.file, x.line))) rest (sound, (tt, (tt, tt))))
