-- The number of tokens that came is that of the first wrong one.
use Rattle.std.proofs.Common.{◌≡◌, ◌+◌, Bool, None, Ok, List, [], ◌∷◌, reverse, drop, subst, sym}
use Rattle.capl_lexer.specs.declared.token.Tok.{Tok}
use Rattle.capl_nesting.specs.Tokens.{toks}
use Rattle.viable_prefixes.specs.declared.goal.Goal.TheVariants as goals
use Rattle.viable_prefixes.specs.Prefix.{IsFirstWrong}
use Rattle.viable_prefixes.specs.Inside.Stack.{Takes}
use Rattle.viable_prefixes.specs.Inside.Goals.{moved, first_wrong}
use Rattle.viable_prefixes.proofs.DeclarationFollows.{parts_followed}
use Rattle.viable_prefixes.proofs.FileFollows.{tree_accepted, accepted_tree}
use Rattle.viable_prefixes.proofs.First.{AreSpelled, first_is}
use Rattle.viable_prefixes.proofs.Turns.{none_came, some_came, tokens_behind, stopped, went_on, ended}
use Rattle.viable_prefixes.proofs.search.first_wrong_token.Goals as goal

spelled : AreSpelled
spelled = (tree_accepted parts_followed, accepted_tree parts_followed)

pub returns-then-not-branch : goal.returns-then-not-branch
returns-then-not-branch c =
    let tokens = c.args.tokens.now in
    let n = c.loop-number.number in
    let token = c.index-tokens-number.result in
    let stack = reverse c.loop-number.stack.items in
    let all = first_wrong (goals.File ∷ []) (toks tokens) in
    let from = tokens_behind tokens n token c.loop-number-test.true (sym c.index-tokens-number.is) in
    let came = moved token.tok stack in
    let none : came ≡ None = none_came came c.pass.new.stack.items (subst (λ (is : Bool). Takes came (Ok is) c.pass.new.stack.items) c.if-not-branch.true c.in_ok-pass.ensures) in
    subst (IsFirstWrong (toks tokens))
    (stopped all stack token.tok (drop (n + 1) (toks tokens)) n (subst (λ (ts : List Tok). all ≡ n + first_wrong stack ts) from c.loop-number.invariant) none)
    (first_is spelled (toks tokens))

pub loop-number-preserved : goal.loop-number-preserved
loop-number-preserved c =
    let tokens = c.args.tokens.now in
    let n = c.loop-number.number in
    let token = c.index-tokens-number.result in
    let stack = reverse c.loop-number.stack.items in
    let all = first_wrong (goals.File ∷ []) (toks tokens) in
    let from = tokens_behind tokens n token c.loop-number-test.true (sym c.index-tokens-number.is) in
    let came = moved token.tok stack in
    let some = some_came came c.pass.new.stack.items (subst (λ (is : Bool). Takes came (Ok is) c.pass.new.stack.items) c.if-not-branch.false c.in_ok-pass.ensures) in
    went_on all stack token.tok (drop (n + 1) (toks tokens)) n (subst (λ (ts : List Tok). all ≡ n + first_wrong stack ts) from c.loop-number.invariant)
    (reverse c.pass.new.stack.items) some

pub returns : goal.returns
returns c =
    let tokens = c.args.tokens.now in
    subst (IsFirstWrong (toks tokens))
    (ended tokens c.loop-number.number (first_wrong (goals.File ∷ []) (toks tokens)) (reverse c.loop-number.stack.items) c.loop-number.auto.number-end c.loop-number-test.false c.loop-number.invariant)
    (first_is spelled (toks tokens))
