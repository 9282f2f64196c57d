-- The descent begins at the first node, goes on to one of the two below, and ends at a leaf.
use Rattle.std.proofs.Common.{◌≡◌, arith}
use Rattle.timer_queue.proofs.MinimaLemmas.{way_begins, way_goes_on, way_is_within, way_is_some, way_ends}
use Rattle.timer_queue.proofs.minima.first_leaf.Goals as goal

pub loop-init : goal.loop-init
loop-init c = way_begins c.args.nodes.now c.args.leaves c.args.levels c.args.limit c.requires.levels c.requires.reached

pub first_below-node-requires-clause-within : goal.first_below-node-requires-clause-within
first_below-node-requires-clause-within c =
    omega (arith, way_is_within c.args.nodes.now c.args.leaves c.args.levels c.args.limit c.loop.counter c.loop.node c.requires.levels c.loop-test.true c.loop.invariant)

pub first_below-node-requires-clause-lesser : goal.first_below-node-requires-clause-lesser
first_below-node-requires-clause-lesser c =
    c.requires.tree c.loop.node (way_is_some c.args.nodes.now c.args.leaves c.args.levels c.args.limit c.loop.counter c.loop.node c.loop.invariant)
    (way_is_within c.args.nodes.now c.args.leaves c.args.levels c.args.limit c.loop.counter c.loop.node c.requires.levels c.loop-test.true c.loop.invariant)

pub loop-preserved : goal.loop-preserved
loop-preserved c =
    way_goes_on c.args.nodes.now c.args.leaves c.args.levels c.args.limit c.loop.counter c.loop.node c.first_below-node.result
    c.requires.levels c.requires.tree c.loop-test.true c.loop.invariant c.first_below-node.ensures

pub returns-clause-leaf : goal.returns-clause-leaf
returns-clause-leaf c =
    let all : c.loop.counter ≡ c.args.levels = omega arith in
    (way_ends c.args.nodes.now c.args.leaves c.args.levels c.args.limit c.loop.counter c.loop.node c.requires.levels c.requires.size all c.loop.invariant).0

pub returns-clause-first : goal.returns-clause-first
returns-clause-first c =
    let all : c.loop.counter ≡ c.args.levels = omega arith in
    (way_ends c.args.nodes.now c.args.leaves c.args.levels c.args.limit c.loop.counter c.loop.node c.requires.levels c.requires.size all c.loop.invariant).1
