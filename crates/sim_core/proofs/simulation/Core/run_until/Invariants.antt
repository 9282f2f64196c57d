-- How far the run has come, and how much time is left.
use Rattle.std.proofs.Common.{◌-◌}
use Rattle.sim_core.proofs.RunLemmas.{HasGone}
use Rattle.sim_core.proofs.simulation.Core.run_until.Given as goal

abbrev pub invariant-loop-moment : goal.invariant-loop-moment
invariant-loop-moment g l = HasGone g.B.Bus.meaning g.R.Record.meaning l.fn.self l.fn.into l.fn.meter l.self l.into l.meter

abbrev pub decreases-loop-moment : goal.decreases-loop-moment
decreases-loop-moment g l = l.fn.self.until - l.self.moment
