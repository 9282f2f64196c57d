-- The nodes so far are loaded, and have the rows so far.
use Rattle.std.proofs.Common.{All}
use Rattle.sim_core.specs.Core.{IsLoaded}
use Rattle.sim_play.specs.Play.{AreNewRows}
use Rattle.run_bench.proofs.bench.load_nodes.Given as goal

abbrev pub invariant-loop-code : goal.invariant-loop-code
invariant-loop-code l = record { loaded : All IsLoaded l.nodes.items; rows : AreNewRows l.nodes.items l.meter }
