-- Each task of live nodes is determined, and so is their run.
use Rattle.node_rounds.specs.Reaction.{reaction_of}
use Rattle.run_meaning.proofs.OneRun.{run_once}
use Rattle.run_meaning.proofs.laws.one_run.Goals as goal

pub returns : goal.returns
returns g c until before after end rounds others one other =
    run_once (reaction_of g.P.LiveRunner.runner) g.P.LiveRunner.lives.in_one_way g.B.Bus.meaning
    until before after end rounds others one other
