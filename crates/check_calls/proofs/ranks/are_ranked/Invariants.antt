-- The rows so far lead to what is ranked no higher.
use Rattle.std.proofs.Common.{◌≤◌, ◌<◌, ℕ, get_or}
use Rattle.check_calls.specs.Graph.{Leads, rows_of}
use Rattle.check_calls.proofs.ranks.are_ranked.Given as goal

abbrev pub invariant-loop-from : goal.invariant-loop-from
invariant-loop-from l =
    (from to : ℕ) → from < l.from → Leads (rows_of l.rows) from to → get_or l.ranks to 0 ≤ get_or l.ranks from 0
