-- One task of a node in its list.
use Rattle.sim_core.proofs.Errors.{on_err}
use Rattle.sim_core.proofs.NodeLists.{every_at, index_at, keeps_set}
use Rattle.node_run.specs.Node.{HasRows}
use Rattle.std.proofs.Common.{refl, slice_index_or}
use Rattle.sim_core.proofs.tasks.do_task_of.Goals as goal

pub do_task-requires-clause-rows : goal.do_task-requires-clause-rows
do_task-requires-clause-rows g c =
    every_at (HasRows c.args.meter.now) c.args.nodes.now c.args.number (slice_index_or c.args.nodes.now c.args.number c.index-nodes-number.result) c.requires.rows
    (index_at c.args.nodes.now c.args.number c.index-nodes-number.result c.requires.within)

pub returns-in_err-end-clause-cut : goal.returns-in_err-end-clause-cut
returns-in_err-end-clause-cut g c =
    on_err c.from_residual.result
    (record {
      node = slice_index_or c.args.nodes.now c.args.number c.index-nodes-number.result;
      at = index_at c.args.nodes.now c.args.number c.index-nodes-number.result c.requires.within;
      refused = c.in_err-end.ensures.refused;
    })

pub returns-in_err-end-clause-keeps : goal.returns-in_err-end-clause-keeps
returns-in_err-end-clause-keeps g c =
    keeps_set c.args.nodes.now c.args.number (slice_index_or c.args.nodes.now c.args.number c.index-nodes-number.result) c.do_task.new.self
    (index_at c.args.nodes.now c.args.number c.index-nodes-number.result c.requires.within) c.do_task.ensures.row_stays c.do_task.ensures.code_stays

pub returns-clause-does : goal.returns-clause-does
returns-clause-does g c = record {
  node = slice_index_or c.args.nodes.now c.args.number c.index-nodes-number.result;
  after = c.do_task.new.self;
  at = index_at c.args.nodes.now c.args.number c.index-nodes-number.result c.requires.within;
  does = c.in_ok-end.ensures.does;
  nodes_are = refl;
}

pub returns-clause-keeps : goal.returns-clause-keeps
returns-clause-keeps g c =
    keeps_set c.args.nodes.now c.args.number (slice_index_or c.args.nodes.now c.args.number c.index-nodes-number.result) c.do_task.new.self
    (index_at c.args.nodes.now c.args.number c.index-nodes-number.result c.requires.within) c.do_task.ensures.row_stays c.do_task.ensures.code_stays
