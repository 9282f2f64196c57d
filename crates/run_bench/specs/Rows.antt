-- That rows stand in order has one proof at most.
use Rattle.std.specs.Prelude.{ℕ, ◌+◌, List, [], ◌∷◌, length}
use Rattle.std.specs.Coded.{×_prop}
use Rattle.std.proofs.Math.Nat.{ℕ_set}
use Rattle.node_run.specs.Node.{NodeInRound}
use Rattle.sim_play.specs.Play.{StandInOrder}

-- for rows of nodes from a number on
pub one_order : (number : ℕ) (nodes : List NodeInRound) (end : ℕ) →
    IsProp (StandInOrder number nodes end)
one_order number [] end = ℕ_set end number
one_order number (node ∷ nodes) end =
    ×_prop (ℕ_set node.first_row number)
    (one_order (number + length node.doing.node.memory.code.handlers) nodes end)
