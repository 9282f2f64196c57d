-- Nodes that are alike have equal runs.
use Rattle.node_rounds.proofs.FollowLemmas.{reactions_follow}
use Rattle.run_meaning.proofs.RunsFollow.{runs_follow}
use Rattle.run_meaning.proofs.laws.equal_runs.Goals as goal

pub returns : goal.returns
returns g c until before after others rounds alike run =
    runs_follow (reactions_follow g.P.RunnerPair.follows) g.B.Bus.meaning until before after others rounds alike run
