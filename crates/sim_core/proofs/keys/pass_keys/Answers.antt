-- The key that is passed is one of the moment.
use Rattle.std.proofs.Common.{ap, slice_get, sym, ◌∙◌}
use Rattle.run_meaning.specs.Moments.{keys_after}
use Rattle.sim_core.proofs.KeyLemmas.{key_passed}
use Rattle.sim_core.proofs.keys.pass_keys.Goals as goal

pub loop-key-preserved : goal.loop-key-preserved
loop-key-preserved c =
    ap (keys_after c.args.now) c.pass.ensures
    ∙ key_passed c.args.now c.loop-key.keys c.in-Some.key.now (ap (λ keys. slice_get keys 0) (sym c.as_slice.ensures) ∙ sym c.in-Some.ensures.value) c.if-key-now.false
    ∙ c.loop-key.invariant
