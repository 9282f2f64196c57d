-- Nodes that were loaded and have done nothing.
use Rattle.std.proofs.Common.{List, All, arith, refl, subst, sym}
use Rattle.std.specs.List.{AllByRecursion}
use Rattle.node_run.specs.Node.{NodeInRound}
use Rattle.node_run.specs.Sound.{IsSound}
use Rattle.run_meaning.specs.Live.{IsLater, IsReady}
use Rattle.sim_core.specs.Core.{IsLoaded, states_of}
use Rattle.sim_core.specs.Inside.Kept.{IsIdle}
use Rattle.sim_core.proofs.ListLemmas.{all_made}

-- a loaded node has nothing left to do
pub loaded_is_idle : (node : NodeInRound) → IsLoaded node → IsIdle node
loaded_is_idle node h = subst (λ n. IsIdle n) (sym h.is_new) refl

-- none of its timers is due before the start
pub loaded_is_ready : (node : NodeInRound) → IsLoaded node → IsReady IsSound 0 node.doing.node
loaded_is_ready node h = record { is_sound = h.is_sound; on_time = λ _ k d l. omega arith }

-- nor at it: none is active
pub loaded_is_later : (node : NodeInRound) → IsLoaded node → IsLater 0 node.doing.node
loaded_is_later node h = subst (λ (n : NodeInRound). IsLater 0 n.doing.node) (sym h.is_new) (λ _ k d l. absurd (omega arith))

-- loaded nodes have nothing left to do
pub loaded_are_idle : (nodes : List NodeInRound) → All IsLoaded nodes → All IsIdle nodes
loaded_are_idle nodes h = λ k d l. loaded_is_idle _ (h k d l)

-- loaded nodes are ready for the start
pub loaded_are_ready : (nodes : List NodeInRound) → All IsLoaded nodes → AllByRecursion (IsReady IsSound 0) (states_of nodes)
loaded_are_ready nodes h = all_made IsLoaded (IsReady IsSound 0) (λ node. node.doing.node) loaded_is_ready nodes h

-- no timer of loaded nodes is due up to the start
pub loaded_are_later : (nodes : List NodeInRound) → All IsLoaded nodes → AllByRecursion (IsLater 0) (states_of nodes)
loaded_are_later nodes h = all_made IsLoaded (IsLater 0) (λ node. node.doing.node) loaded_is_later nodes h
