-- The table has the names so far; what was noted and what is left are those that are the same as an earlier one.
use Rattle.std.proofs.Common.{◌≡◌, List, ℕ, [], drop}
use Rattle.std.specs.Prelude.{is_some, map}
use Rattle.std.specs.List.{list_any}
use Rattle.std.specs.Str.{bytes_eq}
use Rattle.capl_meaning.specs.ProcedureRules.{Declared, name_offence, same_name}
use Rattle.capl_meaning.specs.StatementRules.{repeated}
use Rattle.check_names.specs.First.{noted}
use Rattle.check_names.specs.Inside.Table.{numbered}
use Rattle.check_names.specs.Repeat.{names_at}
use Rattle.check_names.proofs.repeats.note_repeated.Given as goal

abbrev pub invariant-loop-name : goal.invariant-loop-name
invariant-loop-name l = record {
  earlier : List Declared;
  table : (name : List ℕ) → is_some (numbered l.table name) ≡ list_any (λ d. bytes_eq name d.name) earlier;
  noting : noted l.first (map name_offence (repeated same_name earlier (names_at (drop l.name-index l.names))))
      ≡ noted l.fn.first (map name_offence (repeated same_name [] (names_at l.names)));
}
