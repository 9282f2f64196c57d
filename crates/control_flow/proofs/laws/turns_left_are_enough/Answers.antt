-- A loop does the same with each number that is greater than the turns left.
use Rattle.std.proofs.Common.{arith, refl}
use Rattle.control_flow.proofs.Fuel.{same_loop}
use Rattle.control_flow.proofs.laws.turns_left_are_enough.Goals as goal

pub returns : goal.returns
returns g c = λ test body step t b s k n w less less'.
    (same_loop w.turns k n test test body body step step less less' t b s
    (record { same = λ w le. refl }) (record { same = λ w le. refl }) (record { same = λ w le. refl })).same w (omega arith)
