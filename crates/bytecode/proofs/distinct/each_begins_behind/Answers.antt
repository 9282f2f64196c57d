-- Spans that stand by their least keys are apart where each begins behind the one before it.
use Rattle.std.proofs.Common.{arith, ◌≡◌, false, true, refl}
use Rattle.bytecode.proofs.SelectorRanks.{apart_behind, key_of_both}
use Rattle.bytecode.proofs.distinct.each_begins_behind.Goals as goal

pub returns-then-spans-i : goal.returns-then-spans-i
returns-then-spans-i c = (
  λ t. absurd (let e : false ≡ true = t in cc),
  λ all. absurd (key_of_both c.args.spans.now c.loop-i.i (record { low = 0; high = 0 }) c.requires.rises c.requires.some (omega arith) (omega arith) (omega arith) all),
)

pub returns : goal.returns
returns c = (λ _. apart_behind c.args.spans.now c.requires.rises (λ k d below. c.loop-i.invariant k d (omega (arith, below, c.loop-i-test.false))), λ _. refl)
