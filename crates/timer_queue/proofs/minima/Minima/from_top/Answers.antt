-- Where the first node is above the limit, all leaves are.
use Rattle.std.proofs.Common.{◌≡◌, slice_index, subst, ◌∙◌, sym, arith}
use Rattle.std.proofs.lemmas.Nat.{pow_pos}
use Rattle.std.proofs.lemmas.Grind.{get_or_default_zero}
use Rattle.timer_queue.specs.Inside.Minima.{IsLeast}
use Rattle.timer_queue.proofs.MinimaLemmas.{first_is_least}
use Rattle.timer_queue.proofs.minima.Minima.from_top.Goals as goal

pub returns-then-index-limit-clause-none : goal.returns-then-index-limit-clause-none
returns-then-index-limit-clause-none c =
    let nodes = c.self.inside.nodes.items in
    let m = c.self.invariant in
    let least = subst (λ moments. IsLeast moments (slice_index nodes 1)) c.self.view_is
    (first_is_least nodes c.self.inside.leaves c.self.inside.levels m.tree m.levels m.size) in
    let value : slice_index nodes 1 ≡ c.index.result.now =
    sym (c.index.ensures ∙ get_or_default_zero nodes 1 _ (omega (arith, m.size, m.levels, pow_pos c.self.inside.levels))) in
    λ k d below. omega (arith, least.least k d below, value)
