-- Its text and its arguments are read, and make it.
use Rattle.std.proofs.Common.{◌++◌, length, All}
use Rattle.std.specs.Prelude.{◌<◌, ◌^◌}
use Rattle.write_format.specs.Line.{IsShortArgument}
use Rattle.object_file.specs.Number.{list, text}
use Rattle.object_file.specs.Table.{argument_text}
use Rattle.object_file.specs.Inside.Reading.{list_at, pair_at, text_at}
use Rattle.object_file.specs.Inside.Tables.{argument_at, format_of}
use Rattle.object_file.proofs.FormatLemmas.{format_found}
use Rattle.object_file.proofs.Pairs.{tried_complete}
use Rattle.object_file.proofs.table.FormatStored.complete.Goals as goal

pub returns : goal.returns
returns c x rest kept =
    tried_complete (λ parts. format_of parts.0 parts.1) x (λ parts. text parts.0 ++ list argument_text parts.1)
    (λ parts. (length parts.0 < 2 ^ 32) × ((length parts.1 < 2 ^ 32) × All IsShortArgument parts.1)) (pair_at text_at (list_at argument_at))
    c.complete.ensures (x.text, x.arguments) rest (kept.text, (kept.arguments, kept.argument_texts))
    (format_found c.pieces_are_found.ensures.found x kept.read)
