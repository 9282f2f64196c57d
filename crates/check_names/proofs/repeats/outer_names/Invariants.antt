-- What was listed and what is left are the names of all parts.
use Rattle.std.proofs.Common.{◌≡◌, ◌++◌, drop}
use Rattle.std.specs.Prelude.{flat_map}
use Rattle.capl_meaning.specs.ProcedureRules.{outer_names}
use Rattle.check_names.specs.Part.{parts_in}
use Rattle.check_names.specs.Repeat.{names_at}
use Rattle.check_names.proofs.repeats.outer_names.Given as goal

abbrev pub invariant-loop-part : goal.invariant-loop-part
invariant-loop-part l =
    names_at l.all.items ++ flat_map outer_names (parts_in (drop l.part-index l.parts))
    ≡ flat_map outer_names (parts_in l.parts)
