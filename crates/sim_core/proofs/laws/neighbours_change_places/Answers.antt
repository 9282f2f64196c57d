-- Requests of different nodes commute.
use Rattle.node_run.specs.Code.{code_reaction}
use Rattle.task_orders.proofs.Neighbours.{change_places}
use Rattle.sim_core.proofs.laws.neighbours_change_places.Goals as goal

pub returns : goal.returns
returns g c first second before between after differ one two =
    change_places code_reaction g.B.Bus.meaning g.met.B.Bus.requests_commute first second before between after differ one two
