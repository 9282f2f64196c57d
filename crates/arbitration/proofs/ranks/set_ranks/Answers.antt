-- One more request with its rank.
use Rattle.std.proofs.Common.{◌≡◌, cond, get_or, ap, ◌∙◌}
use Rattle.std.proofs.lemmas.List.{set-get_or}
use Rattle.can_bus.specs.Ranks.{with_rank_in}
use Rattle.arbitration.proofs.RankLemmas.{numbered_step, skipped_step, counted_more, counted_same, bool_byte-is}
use Rattle.arbitration.proofs.ranks.set_ranks.Goals as goal
use Rattle.arbitration.proofs.ranks.set_ranks.Goals.{then-request-node, else-request-node}

pub loop-request-preserved : goal.loop-request-preserved
loop-request-preserved c =
    let i = c.loop-request.request-index in
    let xs = c.args.waiting.now in
    let node = c.args.node in
    let ys = c.loop-request.waiting in
    let f = with_rank_in xs c.args.wire.now node in
    let x = get_or ys i c.request-item.result in
    let is : x ≡ get_or ys i x = ap (get_or ys i) c.request-item.is in
    let so_far = c.loop-request.invariant.0 in
    let counted = c.loop-request.invariant.1 in
    elim c.if-request-node.branch [
      | then-request-node w ↦ (
        w.waiting-is ∙ numbered_step xs ys c.args.wire.now node i c.loop-request.count w.from.result x c.requires c.loop-request-test.true so_far is w.if-request-node.true counted (w.from.ensures ∙ bool_byte-is w.carries_earlier.result ∙ ap (λ b. cond b 1 0) w.carries_earlier.ensures),
        counted_more f xs ys node i c.loop-request.count _ x c.loop-request-test.true so_far is w.if-request-node.true counted w.count-is,
      )
      | else-request-node w ↦ (
        w.waiting-is ∙ set-get_or ys i c.request-item.result ∙ skipped_step xs ys c.args.wire.now node i x c.loop-request-test.true so_far is w.if-request-node.false,
        counted_same f xs ys node i c.loop-request.count _ x c.loop-request-test.true so_far is w.if-request-node.false counted w.count-is,
      )
    ]
