-- What was taken, and what the keys that are left give, are all.
use Rattle.std.proofs.Common.{◌≡◌, ◌++◌, drop}
use Rattle.run_meaning.specs.Moments.{keys_at}
use Rattle.sim_core.proofs.keys.keys_at.Given as goal

abbrev pub invariant-loop-key : goal.invariant-loop-key
invariant-loop-key l = l.list.items ++ keys_at l.now (drop l.key-index l.keys) ≡ keys_at l.now l.keys
