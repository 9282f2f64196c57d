-- The first handler for a number is the one that is entered, else the first of those that are left.
use Rattle.std.proofs.Common.{◌≡◌, ℕ, ◌<◌, None, length, get_or, drop}
use Rattle.node_rounds.specs.Procedures.{first_where}
use Rattle.node_run.specs.Code.{events_of}
use Rattle.node_run.specs.Inside.Tables.{is_for}
use Rattle.node_run.proofs.ProcedureTables.{first_of}
use Rattle.node_run.proofs.tables.table_of.Given as goal

abbrev pub invariant-loop-handler : goal.invariant-loop-handler
invariant-loop-handler l = record {
  numbered : l.number ≡ l.handler-index;
  as_many : length l.table.items ≡ l.count;
  left : (place : ℕ) → place < l.count → first_where (is_for l.subject place) (events_of l.handlers)
      ≡ first_of l.subject place l.handler-index (drop l.handler-index l.handlers) (get_or l.table.items place None);
}
