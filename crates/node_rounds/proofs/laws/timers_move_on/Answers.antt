-- The reaction that runs of procedures make moves timers on.
use Rattle.node_rounds.proofs.MovingTimers.{reaction_moves_timers}
use Rattle.node_rounds.proofs.laws.timers_move_on.Goals as goal

pub returns : goal.returns
returns g c = reaction_moves_timers g.P.RunnerPair.first
