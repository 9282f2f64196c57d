-- All tokens are found.
use Rattle.std.proofs.Common.{length, ap, arith, List}
use Rattle.capl_lexer.specs.declared.token.Token.{Token}
use Rattle.sys_vars.proofs.LoweringLemmas.{all_found, lowered_short}
use Rattle.sys_vars.proofs.lowering.lower.Goals as goal

pub returns-clause-tokens : goal.returns-clause-tokens
returns-clause-tokens c =
    all_found c.args.items.now c.loop-token.passed c.loop-token.behind_on c.loop-token.rest.now c.loop-token.found.items _ c.in_default.ensures.cases c.loop-token.invariant

pub returns-clause-no_longer : goal.returns-clause-no_longer
returns-clause-no_longer c =
    omega (arith, lowered_short c.args.items.now c.args.tokens.now, ap (λ (found : List Token). length found) (returns-clause-tokens c))
