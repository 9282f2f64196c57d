-- The product is folded as the kit folds.
use Rattle.std.proofs.Common.{refl}
use Rattle.std.specs.Hash.FoldHasher.{folded_multiply}
use Rattle.check_names.proofs.hasher.folded_product.Goals as goal

pub returns : goal.returns
unfolding folded_multiply
returns c = refl
