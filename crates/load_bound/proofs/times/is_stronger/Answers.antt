-- The lesser key wins.
use Rattle.load_bound.proofs.KeyLemmas.{stronger_key}
use Rattle.load_bound.proofs.times.is_stronger.Goals as goal

pub returns : goal.returns
returns c = stronger_key c.args.first.now c.args.second.now _ _ c.data_key.ensures c.data_key-2.ensures
