-- What the tokens are, and what follows.
use Rattle.std.proofs.Common.{◌∙◌, ◌≤◌, List, [], ◌∷◌, ◌++◌, arith, length, map, ap, subst, sym}
use Rattle.std.specs.Prelude.{flat_map}
use Rattle.std.proofs.lemmas.List.{length-map, take_all}
use Rattle.capl_lexer.specs.declared.token.Tok.{Tok}
use Rattle.capl_lexer.specs.declared.token.Tok.TheVariants as tok
use Rattle.capl_lexer.specs.declared.token.Token.{Token}
use Rattle.capl_lexer.specs.declared.token.Word.TheVariants as word
use Rattle.capl_lexer.specs.declared.token.Sign.TheVariants as sign
use Rattle.capl_nesting.specs.Tokens.{toks}
use Rattle.capl_tree.specs.Nesting.{nesting}
use Rattle.capl_grammar.specs.File.{IsSourceOf}
use Rattle.sys_vars.specs.declared.item.SysItem.{SysItem}
use Rattle.sys_vars.specs.Prelude.{prelude_toks, prelude_tree, timer_toks, unplaced, variable_toks}
use Rattle.sys_vars.proofs.PreludeLemmas.{all_written, prelude_is_source, prelude_shallow, prelude_short, unplaced_toks}
use Rattle.sys_vars.proofs.declaring.prelude.Goals as goal

pub returns-clause-tokens : goal.returns-clause-tokens
returns-clause-tokens c =
    let items = c.args.items.now in
    c.in_ok-push-3.ensures
    ∙ ap (λ (ts : List Token). ts ++ unplaced (tok.Sign sign.CloseBrace) ∷ []) (c.loop-item-2.invariant
    ∙ ap (λ (read : List SysItem). map unplaced (tok.Word word.Variables ∷ tok.Sign sign.OpenBrace ∷ (flat_map variable_toks items ++ flat_map timer_toks read)))
    (take_all c.loop-item-2.item-index items c.loop-item-2-test.false))
    ∙ all_written items

pub returns-clause-tree : goal.returns-clause-tree
returns-clause-tree c =
    let is = ap (λ (ts : List Token). toks ts) (returns-clause-tokens c) ∙ unplaced_toks (prelude_toks c.args.items.now) in
    subst (λ (ts : List Tok). IsSourceOf ts (prelude_tree c.args.items.now)) (sym is) (prelude_is_source c.args.items.now)

pub returns-clause-shallow : goal.returns-clause-shallow
returns-clause-shallow c =
    let is = ap (λ (ts : List Token). toks ts) (returns-clause-tokens c) ∙ unplaced_toks (prelude_toks c.args.items.now) in
    subst (λ (ts : List Tok). nesting ts ≤ 3) (sym is) (prelude_shallow c.args.items.now)

pub returns-clause-short : goal.returns-clause-short
returns-clause-short c =
    let items = c.args.items.now in
    omega (arith, prelude_short items, length-map (prelude_toks items) unplaced, ap (λ (ts : List Token). length ts) (returns-clause-tokens c))
