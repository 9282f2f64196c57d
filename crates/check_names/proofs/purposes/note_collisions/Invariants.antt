-- The tables have what was told so far; what was noted and what is left are those that are for the same as an
-- earlier one.
use Rattle.std.proofs.Common.{◌≡◌, List, [], drop}
use Rattle.std.specs.Prelude.{map}
use Rattle.capl_meaning.specs.ProcedureRules.{Told}
use Rattle.capl_meaning.specs.StatementRules.{repeated}
use Rattle.check_names.specs.First.{noted}
use Rattle.check_names.specs.Inside.Purpose.{Knows, purpose_offence, same_purpose, told_at}
use Rattle.check_names.proofs.purposes.note_collisions.Given as goal

abbrev pub invariant-loop-telling : goal.invariant-loop-telling
invariant-loop-telling l = record {
  earlier : List Told;
  knows : Knows l.purposes earlier;
  noting : noted l.first (map purpose_offence (repeated same_purpose earlier (told_at (drop l.telling-index l.tellings))))
      ≡ noted l.fn.first (map purpose_offence (repeated same_purpose [] (told_at l.tellings)));
}
