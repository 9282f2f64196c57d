-- Requests of different nodes commute.
use Rattle.node_rounds.specs.Reaction.{reaction_of}
use Rattle.task_orders.proofs.Neighbours.{change_places}
use Rattle.task_orders.proofs.laws.neighbours_change_places.Goals as goal

pub returns : goal.returns
returns g c first second before between after differ one two =
    change_places (reaction_of g.P.LiveRunner.runner) g.B.Bus.meaning g.met.B.Bus.requests_commute first second before between after differ one two
