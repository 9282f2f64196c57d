-- An interleaving is that of picks, and there is one run.
use Rattle.node_rounds.specs.Reaction.{reaction_of}
use Rattle.task_orders.proofs.Ends.{ends_with}
use Rattle.task_orders.proofs.laws.interleavings_end_alike.Goals as goal

pub returns : goal.returns
returns g c until nodes b keys requests rounds after moves end run inter =
    ends_with (reaction_of g.P.LiveRunner.runner) g.P.LiveRunner.lives.in_one_way g.B.Bus.meaning until g.met.B.Bus.requests_commute nodes b keys requests rounds after moves end run inter
