-- What was listed and what is left are the names of the declaration.
use Rattle.std.proofs.Common.{◌≡◌, ◌++◌, drop}
use Rattle.capl_meaning.specs.ProcedureRules.{names_declared}
use Rattle.check_names.specs.Repeat.{names_at}
use Rattle.check_names.proofs.repeats.list_declared.Given as goal

abbrev pub invariant-loop-item : goal.invariant-loop-item
invariant-loop-item l =
    names_at l.into.items ++ names_declared l.file (record l.decl { items = drop l.item-index l.decl.items })
    ≡ names_at l.fn.into.items ++ names_declared l.file l.decl
