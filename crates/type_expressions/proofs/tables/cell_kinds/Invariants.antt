-- What was appended and what is left are the kinds of all cells.
use Rattle.std.proofs.Common.{◌≡◌, ◌++◌, drop}
use Rattle.std.specs.Prelude.{flat_map}
use Rattle.capl_meaning.specs.Constant.{elements_of}
use Rattle.capl_meaning.specs.Store.{event_kinds, kinds_by, laid_kinds}
use Rattle.type_expressions.proofs.tables.cell_kinds.Given as goal

abbrev pub invariant-loop-number : goal.invariant-loop-number
invariant-loop-number l =
    l.kinds.items ++ flat_map (λ v. kinds_by (elements_of l.names v) v.form) (drop l.number l.names.variables)
    ≡ event_kinds ++ laid_kinds l.names
