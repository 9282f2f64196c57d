-- How many tokens have come, token by token.
use Rattle.std.proofs.Common.{◌≡◌, ℕ, zero, suc, ◌+◌, ◌<◌, ◌≤◌, true, false, List, [], ◌∷◌, length, reverse, get_or, drop, Option, Some, None, Ok, refl, ap, sym, ◌∙◌, arith}
use Rattle.std.proofs.lemmas.List.{length-map, drop_all}
use Rattle.capl_lexer.specs.declared.token.Tok.{Tok}
use Rattle.capl_lexer.specs.declared.token.Token.{Token}
use Rattle.capl_nesting.specs.Tokens.{toks}
use Rattle.viable_prefixes.specs.declared.goal.Goal.{Goal}
use Rattle.viable_prefixes.specs.Inside.Stack.{Stack, Takes}
use Rattle.viable_prefixes.specs.Inside.Goals.{moved, first_wrong}

-- no goals come where none takes the token
pub none_came : (came : Option Stack) (goals : List Goal) → Takes came (Ok false) goals → came ≡ None
none_came None goals takes = refl
none_came (Some stack) goals takes = absurd takes

-- those that come are on the stack
pub some_came : (came : Option Stack) (goals : List Goal) → Takes came (Ok true) goals → came ≡ Some (reverse goals)
some_came None goals takes = absurd takes
some_came (Some stack) goals takes = ap (λ (s : Stack). Some s) (sym takes)

-- the tokens from one on
tokens_from : (tokens : List Token) (n : ℕ) (token : Token) → n < length tokens → get_or tokens n token ≡ token
    → drop n (toks tokens) ≡ token.tok ∷ drop (suc n) (toks tokens)
tokens_from [] n token less is = absurd (omega (arith, less))
tokens_from (first ∷ tokens) zero token less is = ap (λ (t : Token). t.tok ∷ toks tokens) is
tokens_from (first ∷ tokens) (suc n) token less is = tokens_from tokens n token (omega (arith, less)) is

-- the same, the number of the next in the form of a sum
pub tokens_behind : (tokens : List Token) (n : ℕ) (token : Token) → n < length tokens → get_or tokens n token ≡ token
    → drop n (toks tokens) ≡ token.tok ∷ drop (n + 1) (toks tokens)
tokens_behind tokens n token less is =
    let next : suc n ≡ n + 1 = omega arith in
    tokens_from tokens n token less is ∙ ap (λ (k : ℕ). token.tok ∷ drop k (toks tokens)) next

module _ (all : ℕ) (stack : Stack) (t : Tok) (ts : List Tok) (n : ℕ) (before : all ≡ n + first_wrong stack (t ∷ ts)) where
  -- where the token cannot come, these are all
  pub stopped : moved t stack ≡ None → all ≡ n
  stopped none = before ∙ rw none (omega arith)

  -- where it comes, it is one more
  pub went_on : (next : Stack) → moved t stack ≡ Some next → all ≡ n + 1 + first_wrong next ts
  went_on next some = before ∙ rw some (omega arith)

-- at the end these are all
pub ended : (tokens : List Token) (n all : ℕ) (stack : Stack) → n ≤ length tokens → length tokens ≤ n
    → all ≡ n + first_wrong stack (drop n (toks tokens)) → all ≡ length tokens
ended tokens n all stack among end before =
    let none : drop n (toks tokens) ≡ [] = drop_all n (toks tokens) (omega (arith, end, length-map tokens (λ (token : Token). token.tok))) in
    before ∙ rw none (omega (arith, among, end))
