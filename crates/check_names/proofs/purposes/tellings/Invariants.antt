-- What was listed and what is left are what all parts tell.
use Rattle.std.proofs.Common.{◌≡◌, ◌++◌, drop}
use Rattle.std.specs.Prelude.{flat_map, All}
use Rattle.capl_meaning.specs.ProcedureRules.{told_by_part}
use Rattle.check_names.specs.Part.{parts_in}
use Rattle.check_names.specs.Inside.Purpose.{IsOrdinaryTelling, told_at}
use Rattle.check_names.proofs.purposes.tellings.Given as goal

abbrev pub invariant-loop-part : goal.invariant-loop-part
invariant-loop-part l = record {
  told : told_at l.all.items ++ flat_map (told_by_part l.names) (parts_in (drop l.part-index l.parts))
      ≡ flat_map (told_by_part l.names) (parts_in l.parts);
  ordinary : All IsOrdinaryTelling l.all.items;
}
