-- The places of the files that were passed.
use Rattle.std.proofs.Common.{map, take}
use Rattle.source_compiler.specs.Inside.{ArePlacesOf}
use Rattle.source_compiler.proofs.places.places_of.Given as goal

abbrev pub invariant-loop-file : goal.invariant-loop-file
invariant-loop-file l =
    ArePlacesOf (take l.file-index l.files) l.names.items (map (λ row. row.items) l.lines.items) (map (λ row. row.items) l.columns.items)
