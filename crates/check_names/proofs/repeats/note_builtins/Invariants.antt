-- What was noted and what is left are the offences of all names.
use Rattle.std.proofs.Common.{◌≡◌, drop}
use Rattle.std.specs.Prelude.{filter, is_some, map}
use Rattle.capl_meaning.specs.Names.{builtin_named}
use Rattle.capl_meaning.specs.ProcedureRules.{name_offence}
use Rattle.check_names.specs.First.{noted}
use Rattle.check_names.specs.Repeat.{names_at}
use Rattle.check_names.proofs.repeats.note_builtins.Given as goal

abbrev pub invariant-loop-name : goal.invariant-loop-name
invariant-loop-name l =
    noted l.first (map name_offence (filter (λ d. is_some (builtin_named d.name)) (names_at (drop l.name-index l.names))))
    ≡ noted l.fn.first (map name_offence (filter (λ d. is_some (builtin_named d.name)) (names_at l.names)))
