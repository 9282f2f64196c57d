-- A tree of moments that never come.
use Rattle.std.proofs.Common.{◌≡◌, ◌*◌, replicate, ◌∙◌, ap, length, arith}
use Rattle.std.proofs.lemmas.List.{length-replicate}
use Rattle.std.proofs.lemmas.Nat.{pow_pos}
use Rattle.timer_queue.specs.declared.minima.TheConstants.{NEVER}
use Rattle.timer_queue.proofs.MinimaLemmas.{is_power, tree_of_equals, leaves_of_equals}
use Rattle.timer_queue.proofs.minima.Minima.make.Goals as goal

pub invariant_of-result : goal.invariant_of-result
invariant_of-result c =
    let leaves = c.next_power_of_two-leaves.result in
    let items : c.in_ok-nodes.nodes.items ≡ replicate (2 * leaves) NEVER = c.in_ok-nodes.ensures.items_if_clones_equal (λ y h. h) in
    let levels = is_power leaves c.ilog2.result c.next_power_of_two-leaves.ensures.power c.ilog2.ensures.power_le c.ilog2.ensures.next_power_gt in
    record {
      size = ap length items ∙ length-replicate (2 * leaves) NEVER;
      levels = levels;
      tree = tree_of_equals c.in_ok-nodes.nodes.items leaves NEVER items;
      front = omega (arith, pow_pos c.ilog2.result, levels);
      passed = λ before early. absurd (omega arith);
    }

pub returns-clause-never : goal.returns-clause-never
returns-clause-never c =
    leaves_of_equals c.in_ok-nodes.nodes.items c.next_power_of_two-leaves.result NEVER (c.in_ok-nodes.ensures.items_if_clones_equal (λ y h. h))
