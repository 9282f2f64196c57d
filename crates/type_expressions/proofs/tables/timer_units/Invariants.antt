-- What was appended and what is left are the units of all timers.
use Rattle.std.proofs.Common.{◌≡◌, ◌++◌, drop}
use Rattle.std.specs.Prelude.{filter_map}
use Rattle.capl_meaning.specs.Store.{timer_units, unit_of}
use Rattle.type_expressions.proofs.tables.timer_units.Given as goal

abbrev pub invariant-loop-number : goal.invariant-loop-number
invariant-loop-number l =
    l.units.items ++ filter_map (λ v. unit_of v.form) (drop l.number l.names.variables) ≡ timer_units l.names
