-- A node that has not begun is as it was, and so has nothing left to do. All have their code and their rows still.
use Rattle.std.proofs.Common.{◌≡◌, ap, arith, slice_index_or, slice_set, subst, sym}
use Rattle.node_run.specs.Node.{NodeInRound}
use Rattle.sim_core.specs.Inside.Kept.{IsIdle}
use Rattle.sim_core.proofs.BegunNodes.{keeps_so_far}
use Rattle.sim_core.proofs.ListLemmas.{same_at_drop}
use Rattle.sim_core.proofs.NodeLists.{index_at, keeps_both, keeps_set}
use Rattle.sim_core.proofs.tasks.begin_all.Goals as goal

pub begin-requires-clause-done : goal.begin-requires-clause-done
begin-requires-clause-done c =
    let number = c.loop-number.number in
    let node = c.index-nodes-number.result in
    let same = same_at_drop number c.loop-number.nodes c.args.nodes.now node c.loop-number.invariant.left in
    subst (λ n. IsIdle n) (sym same) (c.requires.idle number node (omega arith))

pub returns-in_err-begin-clause-keeps : goal.returns-in_err-begin-clause-keeps
returns-in_err-begin-clause-keeps c =
    let number = c.loop-number.number in
    let nodes = c.loop-number.nodes in
    let node = slice_index_or nodes number c.index-nodes-number.result in
    let same : c.begin.new.self ≡ node = c.in_err-begin.ensures.refused in
    keeps_both c.args.nodes.now nodes (slice_set nodes number c.begin.new.self)
    (keeps_so_far c.args.round c.args.now c.args.ended.now c.args.keys.now number c.args.nodes.now nodes c.loop-number.invariant.begun)
    (keeps_set nodes number node c.begin.new.self (index_at nodes number c.index-nodes-number.result (omega arith))
    (ap (λ (n : NodeInRound). n.first_row) same) (ap (λ (n : NodeInRound). n.doing.node.memory.code) same))

pub returns-clause-keeps : goal.returns-clause-keeps
returns-clause-keeps c =
    keeps_so_far c.args.round c.args.now c.args.ended.now c.args.keys.now c.loop-number.number c.args.nodes.now c.loop-number.nodes c.loop-number.invariant.begun
