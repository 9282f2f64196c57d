-- The first handler that is wanted is the first of those that are left.
use Rattle.std.proofs.Common.{◌≡◌, drop}
use Rattle.std.specs.List.{position_from}
use Rattle.node_rounds.specs.Procedures.{first_where}
use Rattle.node_run.specs.Code.{events_of}
use Rattle.node_run.specs.Inside.Wanted.{is_wanted}
use Rattle.node_run.proofs.wanted.first_handler.Given as goal

abbrev pub invariant-loop-handler : goal.invariant-loop-handler
invariant-loop-handler l = record {
  numbered : l.number ≡ l.handler-index;
  left : first_where (is_wanted l.wanted) (events_of l.handlers)
      ≡ position_from (is_wanted l.wanted) l.number (events_of (drop l.handler-index l.handlers));
}
