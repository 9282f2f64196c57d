-- The handlers that are left give what is still to be added.
use Rattle.std.proofs.Common.{◌≡◌, ◌++◌, drop}
use Rattle.node_rounds.specs.Procedures.{numbers_where}
use Rattle.node_run.specs.Code.{events_of}
use Rattle.node_run.specs.Inside.Agenda.{triggers_of}
use Rattle.node_run.specs.Inside.Wanted.{is_wanted}
use Rattle.node_run.proofs.agenda.add_all.Given as goal

abbrev pub invariant-loop-handler : goal.invariant-loop-handler
invariant-loop-handler l = record {
  numbered : l.number ≡ l.handler-index;
  left : l.initial.list.items ++ triggers_of l.occurrence (numbers_where (is_wanted l.wanted) 0 (events_of l.handlers))
      ≡ l.list.items ++ triggers_of l.occurrence (numbers_where (is_wanted l.wanted) l.number (events_of (drop l.handler-index l.handlers)));
}
