-- What was found up to the head leads to what was found.
use Rattle.std.proofs.Common.{◌≡◌, ◌<◌, ℕ, Bool, length, true}
use Rattle.check_calls.specs.Graph.{Has, Keeps, rows_of}
use Rattle.check_calls.specs.Inside.Search.{AllPass, AreFlagged, AreOnce, IsClosedTo}
use Rattle.check_calls.proofs.search.reached_from.Given as goal

abbrev pub invariant-loop-head : goal.invariant-loop-head
invariant-loop-head l = record {
  flagged : AreFlagged l.search.flags.items l.search.found.items;
  once : AreOnce l.search.flags.items l.search.found.items;
  count : length l.search.flags.items ≡ length l.rows;
  has : l.from < length l.rows → Has l.search.found.items l.from;
  closed : IsClosedTo (rows_of l.rows) l.search.found.items l.head;
  least : (test : ℕ → Bool) → test l.from ≡ true → Keeps (rows_of l.rows) test → AllPass test l.search.found.items;
}
