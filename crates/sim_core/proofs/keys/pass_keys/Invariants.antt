-- The keys that are left give the keys after the moment.
use Rattle.std.proofs.Common.{◌≡◌, length}
use Rattle.run_meaning.specs.Moments.{keys_after}
use Rattle.sim_core.proofs.keys.pass_keys.Given as goal

abbrev pub invariant-loop-key : goal.invariant-loop-key
invariant-loop-key l = keys_after l.now l.keys ≡ keys_after l.now l.fn.keys

abbrev pub decreases-loop-key : goal.decreases-loop-key
decreases-loop-key l = length l.keys
