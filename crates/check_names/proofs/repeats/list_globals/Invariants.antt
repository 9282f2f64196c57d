-- What was listed and what is left are the names of all declarations.
use Rattle.std.proofs.Common.{◌≡◌, ◌++◌, drop}
use Rattle.std.specs.Prelude.{flat_map}
use Rattle.capl_meaning.specs.ProcedureRules.{names_declared}
use Rattle.check_names.specs.Repeat.{names_at}
use Rattle.check_names.proofs.repeats.list_globals.Given as goal

abbrev pub invariant-loop-decl : goal.invariant-loop-decl
invariant-loop-decl l =
    names_at l.into.items ++ flat_map (names_declared l.file) (drop l.decl-index l.declarations)
    ≡ names_at l.fn.into.items ++ flat_map (names_declared l.file) l.declarations
