-- The key depends on the identifier and the RTR bit alone.
use Rattle.std.proofs.Common.{sym, ◌∙◌}
use Rattle.load_bound.proofs.KeyLemmas.{same_key}
use Rattle.load_bound.proofs.times.data_key.Goals as goal

pub returns : goal.returns
returns c =
    λ f ident plain. c.arb_key.ensures ∙ same_key c.in-Some.frame f (c.in-Some.ensures.ident ∙ sym ident) (c.in-Some.ensures.remote ∙ sym plain)
