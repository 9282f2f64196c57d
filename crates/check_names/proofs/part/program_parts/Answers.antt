-- There is room for the next file.
use Rattle.check_names.proofs.PartLemmas.{room_for_file}
use Rattle.check_names.proofs.part.program_parts.Goals as goal

pub list_items-requires-clause-few : goal.list_items-requires-clause-few
list_items-requires-clause-few c =
    room_for_file c.loop-tree.procedures c.loop-tree.tree-index c.loop-tree.file c.args.program.now c.as_slice-tree-items.result.now
    c.tree-item.result c.as_slice.result.now c.loop-tree.parts.items c.as_slice-tree-items.ensures c.loop-tree-test.true c.tree-item.is
    c.as_slice.ensures c.loop-tree.invariant.listed c.requires
