-- Its parts are read.
use Rattle.std.proofs.Common.{◌++◌, ◌∙◌, ap, append_assoc}
use Rattle.std.specs.Option.{option_map}
use Rattle.object_file.specs.Number.{truth, word}
use Rattle.object_file.specs.Inside.Instructions.{layout_at, layout_of}
use Rattle.object_file.proofs.instruction.LayoutStored.complete.Goals as goal

pub returns : goal.returns
returns c x rest sound =
    ap (λ l. layout_at (l ++ rest))
    (append_assoc (word x.start ++ word x.len) (truth x.big) (truth x.signed)
    ∙ append_assoc (word x.start) (word x.len) (truth x.big ++ truth x.signed))
    ∙ ap (option_map (λ found. (layout_of found.0, found.1))) (c.complete.ensures (x.start, (x.len, (x.big, x.signed))) rest (tt, (tt, (tt, tt))))
