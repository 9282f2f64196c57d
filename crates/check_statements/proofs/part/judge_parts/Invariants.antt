-- What was noted and what is left are the offences of all parts.
use Rattle.std.proofs.Common.{◌≡◌, drop}
use Rattle.std.specs.Prelude.{flat_map}
use Rattle.check_names.specs.First.{noted}
use Rattle.check_names.specs.Part.{parts_in}
use Rattle.check_statements.specs.Part.{body_offences}
use Rattle.check_statements.proofs.part.judge_parts.Given as goal

abbrev pub invariant-loop-part : goal.invariant-loop-part
invariant-loop-part l =
    noted l.first (flat_map (body_offences l.names) (parts_in (drop l.part-index l.parts)))
    ≡ noted l.fn.first (flat_map (body_offences l.names) (parts_in l.parts))
