-- Round by round, the tasks are done in the order of the picks.
use Rattle.node_rounds.specs.Reaction.{reaction_of}
use Rattle.task_orders.proofs.ByPicks.{by_run}
use Rattle.task_orders.proofs.laws.picks_give_an_interleaving.Goals as goal

pub returns : goal.returns
returns g c until before after rounds picks run =
    by_run (reaction_of g.P.LiveRunner.runner) g.B.Bus.meaning until g.met.B.Bus.requests_commute before rounds after run picks
