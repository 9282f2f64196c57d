-- The laws of `wrap`.
use Rattle.int_kinds.proofs.Wrapping.{Congruent-wrap, only}
use Rattle.int_kinds.proofs.laws.wrapped_is_unique.Goals as goal

pub returns-clause-congruent : goal.returns-clause-congruent
returns-clause-congruent g n = Congruent-wrap g.args.k n

pub returns-clause-only : goal.returns-clause-only
returns-clause-only g m n = only g.args.k n m
