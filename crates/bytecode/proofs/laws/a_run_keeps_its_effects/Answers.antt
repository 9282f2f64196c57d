-- The effects of a run.
use Rattle.bytecode.proofs.RunLemmas.{effects_stay}
use Rattle.bytecode.proofs.laws.a_run_keeps_its_effects.Goals as goal

pub returns : goal.returns
returns c = effects_stay
