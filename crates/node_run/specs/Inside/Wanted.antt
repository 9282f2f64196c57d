-- The tests by which a procedure is sought.
use Rattle.std.specs.Prelude.{Bool}
use Rattle.run_effects.specs.declared.event.Event.{Event}
use Rattle.node_run.specs.declared.wanted.Wanted.{Wanted}
use Rattle.node_run.specs.declared.wanted.Wanted.TheVariants.{PreStart, Start, Stop, AnyKey}
use Rattle.node_rounds.specs.declared.occurrence.Occurrence.TheVariants as happens
use Rattle.node_rounds.specs.Procedures.{is_any_key, reacts_to}

-- whether a procedure that reacts to an event is wanted
abbrev pub is_wanted : Wanted → Event → Bool
is_wanted PreStart event = reacts_to happens.PreStart event
is_wanted Start event = reacts_to happens.Start event
is_wanted Stop event = reacts_to happens.Stop event
is_wanted AnyKey event = is_any_key event
