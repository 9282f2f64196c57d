-- Nodes that are alike have equal parts of a round.
use Rattle.node_rounds.proofs.FollowLemmas.{parts_follow, reactions_follow}
use Rattle.node_rounds.proofs.laws.equal_parts.Goals as goal

pub returns : goal.returns
returns g c round now seen keys s t tasks after alike part = parts_follow (reactions_follow g.P.RunnerPair.follows) round now seen keys s t tasks after alike part
