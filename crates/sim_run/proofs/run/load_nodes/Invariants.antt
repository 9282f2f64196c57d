-- The nodes of the codes so far are loaded.
use Rattle.sim_run.specs.Inside.Loaded.{AreLoaded}
use Rattle.sim_run.proofs.run.load_nodes.Given as goal

abbrev pub invariant-loop-code : goal.invariant-loop-code
invariant-loop-code l = AreLoaded l.turns l.yielded l.nodes.items l.meter
