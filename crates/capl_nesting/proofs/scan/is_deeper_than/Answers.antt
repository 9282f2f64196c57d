-- Where the scan is too deep, the tokens nest too deep.
use Rattle.std.proofs.Common.{rules, arith, ◌≡◌, ◌<◌, ℕ, List, ◌∷◌, Some, sym, ap, subst}
use Rattle.capl_lexer.specs.declared.token.Tok.{Tok}
use Rattle.capl_lexer.specs.declared.token.Token.{Token}
use Rattle.capl_tree.specs.Nesting.{deepest}
use Rattle.capl_nesting.specs.Inside.Levels.{counts, told}
use Rattle.capl_nesting.specs.Tokens.{toks}
use Rattle.capl_nesting.proofs.LevelLemmas.{deepest_least, goes_deeper}
use Rattle.capl_nesting.proofs.scan.is_deeper_than.Goals as goal

pub returns-then-levels-most : goal.returns-then-levels-most
returns-then-levels-most c =
    let first = c.in-Some.first.now.tok in
    let left = toks c.in-Some.behind.now in
    let rest : toks c.loop-first.rest.now ≡ first ∷ left = search rules in
    let deep : c.args.most < deepest (counts c.pass.new.levels) (Some first) left =
    omega (arith, deepest_least (counts c.pass.new.levels) (Some first) left, c.in_ok-pass.ensures.summed, c.if-levels-most.true) in
    let behind = subst (λ (levels : List ℕ). c.args.most < deepest levels (Some first) left) c.in_ok-pass.ensures.levels deep in
    let here = (goes_deeper c.args.most (counts c.loop-first.levels) (told c.loop-first.before) first left (omega arith)).1 behind in (
      λ _. c.loop-first.invariant.same.1
          (subst (λ (ts : List Tok). c.args.most < deepest (counts c.loop-first.levels) (told c.loop-first.before) ts) (sym rest) here),
      λ _. search rules,
    )
