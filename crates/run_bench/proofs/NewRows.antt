-- The rows of nodes that are loaded one after another.
use Rattle.std.proofs.Common.{◌≡◌, ℕ, ◌+◌, ◌≤◌, List, [], ◌∷◌, ◌++◌, All, length, length-append, replicate, arith, ap, sym, subst, ◌∙◌}
use Rattle.std.proofs.lemmas.List.{length-replicate, replicate-append-replicate}
use Rattle.std.proofs.lemmas.List.Elements.{All-append, All-cons, All-nil}
use Rattle.bytecode.specs.declared.code.Code.{Code}
use Rattle.stack_vm.specs.declared.meter.MeterRow.{MeterRow}
use Rattle.node_run.specs.Node.{HasRows, NodeInRound, loaded}
use Rattle.node_run.specs.Sound.{IsSound}
use Rattle.sim_core.specs.Core.{HaveRows, IsLoaded}
use Rattle.sim_play.specs.Play.{AreNewRows, StandInOrder}

-- rows in order end where they begin, or later
order_rises : (number : ℕ) (nodes : List NodeInRound) (end : ℕ) → StandInOrder number nodes end → number ≤ end
order_rises number [] end order = omega (arith, order)
order_rises number (node ∷ nodes) end order =
    let more = order_rises (number + length node.doing.node.memory.code.handlers) nodes end order.1 in
    omega (arith, more)

order_has : (meter : List MeterRow) (number : ℕ) (nodes : List NodeInRound) → StandInOrder number nodes (length meter) → All (HasRows meter) nodes
order_has meter number [] order = All-nil (HasRows meter)
order_has meter number (node ∷ nodes) order =
    let next : ℕ = number + length node.doing.node.memory.code.handlers in
    let rises = order_rises next nodes (length meter) order.1 in
    let first = order.0 in
    All-cons (HasRows meter) node nodes (λ handler there. omega (arith, rises, first, there)) (order_has meter next nodes order.1)

-- a meter has the rows of nodes in order
pub rows_there : (nodes : List NodeInRound) (meter : List MeterRow) → StandInOrder 0 nodes (length meter) → HaveRows meter nodes
rows_there nodes meter order = order_has meter 0 nodes order

-- one more node behind others
order_more : (number : ℕ) (nodes : List NodeInRound) (node : NodeInRound) (end : ℕ) → StandInOrder number nodes end → node.first_row ≡ end
    → StandInOrder number (nodes ++ node ∷ []) (end + length node.doing.node.memory.code.handlers)
order_more number [] node end order first = (first ∙ order, ap (λ n. n + length node.doing.node.memory.code.handlers) order)
order_more number (other ∷ nodes) node end order first =
    (order.0, order_more (number + length other.doing.node.memory.code.handlers) nodes node end order.1 first)

-- the row of zeros
abbrev no_runs : MeterRow
no_runs = record { runs = 0; turns = 0 }

-- a row for each procedure of a node that is loaded, behind those of others
pub rows_more : {nodes : List NodeInRound} {meter after : List MeterRow} {node : NodeInRound} (code : Code) (first_row turns count : ℕ) → AreNewRows nodes meter
    → count ≡ length code.handlers → after ≡ meter ++ replicate count no_runs → first_row ≡ length meter → node ≡ loaded code first_row turns
    → AreNewRows (nodes ++ node ∷ []) after
rows_more {nodes} {meter} {after} {node} code first_row turns count rows many grows first is =
    let long : length after ≡ length meter + count = ap length grows ∙ length-append meter (replicate count no_runs) ∙ ap (λ n. length meter + n) (length-replicate count no_runs) in
    let own : length node.doing.node.memory.code.handlers ≡ count = ap (λ (n : NodeInRound). length n.doing.node.memory.code.handlers) is ∙ sym many in
    let at : node.first_row ≡ length meter = ap (λ (n : NodeInRound). n.first_row) is ∙ first in
    record {
      in_order = subst (λ n. StandInOrder 0 (nodes ++ node ∷ []) n) (ap (λ n. length meter + n) own ∙ sym long) (order_more 0 nodes node (length meter) rows.in_order at);
      zeros = grows ∙ ap (λ (m : List MeterRow). m ++ replicate count no_runs) rows.zeros ∙ replicate-append-replicate (length meter) count no_runs ∙ ap (λ n. replicate n no_runs) (sym long);
    }

-- a node that is loaded, behind others
pub loaded_more : (nodes : List NodeInRound) {node : NodeInRound} (code : Code) (first_row turns : ℕ) → All IsLoaded nodes → node ≡ loaded code first_row turns → IsSound node.doing.node
    → All IsLoaded (nodes ++ node ∷ [])
loaded_more nodes {node} code first_row turns all is sound =
    All-append IsLoaded nodes (node ∷ []) all (All-cons IsLoaded node [] one (All-nil IsLoaded))
  where
    one : IsLoaded node
    one = record {
      is_new = is ∙ ap (λ (n : NodeInRound). loaded n.doing.node.memory.code n.first_row n.doing.node.memory.turns) (sym is);
      is_sound = sound;
    }
