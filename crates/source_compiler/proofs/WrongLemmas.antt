-- Tokens have one first wrong token.
use Rattle.std.proofs.Common.{◌≡◌, ℕ, suc, ◌+◌, ◌≤◌, ◌<◌, List, ◌++◌, length, take, drop, sym, subst, ap, ◌∙◌, append_assoc, arith, inl, inr}
use Rattle.std.proofs.lemmas.Bool.{cases_order}
use Rattle.std.proofs.lemmas.List.{take-append-drop, take-take}
use Rattle.capl_lexer.specs.declared.token.Tok.{Tok}
use Rattle.capl_grammar.specs.File.{IsSourceOf}
use Rattle.viable_prefixes.specs.Prefix.{BeginsTree, IsFirstWrong}

-- fewer of the tokens that begin a tree begin it too
begins_with_fewer : (tokens : List Tok) (n m : ℕ) → n ≤ m → BeginsTree (take m tokens) → BeginsTree (take n tokens)
begins_with_fewer tokens n m fewer begun =
    let parts : take n tokens ++ drop n (take m tokens) ≡ take m tokens =
    ap (λ (front : List Tok). front ++ drop n (take m tokens)) (sym (take-take n m tokens fewer)) ∙ take-append-drop n (take m tokens) in
    let all : take m tokens ++ begun.0 ≡ take n tokens ++ (drop n (take m tokens) ++ begun.0) =
    ap (λ (front : List Tok). front ++ begun.0) (sym parts) ∙ append_assoc (take n tokens) (drop n (take m tokens)) begun.0 in
    (drop n (take m tokens) ++ begun.0, begun.1, subst (λ (whole : List Tok). IsSourceOf whole begun.1) all begun.2)

-- none is the first and stands before another
not_before : (tokens : List Tok) (one other : ℕ) → IsFirstWrong tokens one → IsFirstWrong tokens other → one < other → ⊥
not_before tokens one other first second before =
    first.wrong (omega (arith, before, second.among)) (begins_with_fewer tokens (suc one) other (omega (arith, before)) second.begins)

-- it is one
pub one_wrong : (tokens : List Tok) (one other : ℕ) → IsFirstWrong tokens one → IsFirstWrong tokens other → one ≡ other
one_wrong tokens one other first second =
    elim (cases_order one other) [
      | inl same ↦ same
      | inr order ↦ elim order [
        | inl before ↦ absurd (not_before tokens one other first second before)
        | inr before ↦ absurd (not_before tokens other one second first before)
      ]
    ]
