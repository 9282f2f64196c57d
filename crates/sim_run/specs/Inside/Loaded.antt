-- The nodes that run codes, each as it is loaded, and their rows in a meter.
use Rattle.std.specs.Prelude.{◌≡◌, ℕ, ◌+◌, List, [], ◌∷◌, All, length, replicate}
use Rattle.std.specs.List.{sum_by}
use Rattle.bytecode.specs.declared.code.Code.{Code}
use Rattle.stack_vm.specs.declared.meter.MeterRow.{MeterRow}
use Rattle.node_run.specs.Node.{NodeInRound, loaded}
use Rattle.node_run.specs.Sound.{IsSound}

-- a row of zeros
abbrev pub no_run : MeterRow
no_run = record { runs = 0; turns = 0 }

-- how many rows a code has
abbrev pub rows_of_code : Code → ℕ
rows_of_code code = length code.handlers

-- the nodes that run codes with so many turns, with rows from a number on, one behind the other
abbrev pub loaded_nodes : ℕ → ℕ → List Code → List NodeInRound
loaded_nodes turns number [] = []
loaded_nodes turns number (code ∷ codes) =
    loaded code number turns ∷ loaded_nodes turns (number + rows_of_code code) codes

-- these nodes were loaded with codes, each is sound, and the meter has a row of zeros for each of their event
-- procedures
pub record AreLoaded (turns : ℕ) (codes : List Code) (nodes : List NodeInRound) (meter : List MeterRow) :
    Type 0 where
  pub are : nodes ≡ loaded_nodes turns 0 codes
  pub sound : All (λ node. IsSound node.doing.node) nodes
  pub rows : meter ≡ replicate (sum_by rows_of_code codes) no_run
