-- The key that is taken is one of the moment.
use Rattle.std.proofs.Common.{ap, drop, ◌+◌, ◌++◌, ◌∙◌}
use Rattle.run_meaning.specs.Moments.{keys_at}
use Rattle.sim_core.proofs.KeyLemmas.{key_taken}
use Rattle.sim_core.proofs.keys.keys_at.Goals as goal

pub loop-key-preserved : goal.loop-key-preserved
loop-key-preserved c =
    ap (λ list. list ++ keys_at c.args.now (drop (c.loop-key.key-index + 1) c.args.keys.now)) c.in_ok-push.ensures.items
    ∙ key_taken c.args.now c.loop-key.list.items c.args.keys.now c.loop-key.key-index _ c.loop-key-test.true c.if-key-now.false c.loop-key.invariant
