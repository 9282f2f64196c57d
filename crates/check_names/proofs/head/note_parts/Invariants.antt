-- What was noted and what is left are the offences of all parts.
use Rattle.std.proofs.Common.{◌≡◌, drop}
use Rattle.std.specs.Prelude.{flat_map}
use Rattle.check_names.specs.First.{noted}
use Rattle.check_names.specs.Named.{head_and_types}
use Rattle.check_names.specs.Part.{parts_in}
use Rattle.check_names.proofs.head.note_parts.Given as goal

abbrev pub invariant-loop-part : goal.invariant-loop-part
invariant-loop-part l =
    noted l.first (flat_map (head_and_types l.names) (parts_in (drop l.part-index l.parts)))
    ≡ noted l.fn.first (flat_map (head_and_types l.names) (parts_in l.parts))
