-- A pick is the place of the node whose task comes next.
use Rattle.node_rounds.specs.Reaction.{reaction_of}
use Rattle.task_orders.proofs.FoundPicks.{by_picks}
use Rattle.task_orders.proofs.laws.picks_are_found.Goals as goal

pub returns : goal.returns
returns g c until nodes b keys requests moves end inter =
    let by = by_picks (reaction_of g.P.LiveRunner.runner) g.B.Bus.meaning until g.met.B.Bus.requests_commute nodes b keys requests moves end inter in
    (by.rounds, by.picks, by.is_run, by.happens, by.few)
