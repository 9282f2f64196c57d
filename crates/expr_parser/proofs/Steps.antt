-- What each step of a reading read, where the whole gave something.
use Rattle.std.proofs.Common.{◌≡◌, Bool, true, false, if◌then◌else◌, List, ◌∷◌, Some, None, refl, ap, subst, rules}
use denote.Enum.Bare.{same_true}
use Rattle.capl_lexer.specs.declared.token.Tok.{Tok}
use Rattle.capl_lexer.specs.declared.token.Tok.TheVariants as tok
use Rattle.capl_lexer.specs.declared.token.Word.{Word}
use Rattle.capl_lexer.specs.declared.token.Sign.{Sign}
use Rattle.capl_lexer.specs.contracts.token.Sign as signs
use Rattle.capl_lexer.specs.contracts.token.Word as words
use Rattle.expr_parser.specs.Reading.{Read, and_then, same_sign, same_word, begins, begins_word, behind, after, after_word}

-- what the first of two steps read, and that the second gave the rest
pub and_then_some : {A B : Type 0} (first : Read A) (next : A → List Tok → Read B) (all : B × List Tok) → and_then first next ≡ Some all
    → (one : A) × (rest : List Tok) × (first ≡ Some (one, rest)) × (next one rest ≡ Some all)
and_then_some None next all e = absurd cc
and_then_some (Some p) next all e = (p.0, p.1, refl, e)

-- what was read, and what is left
abbrev pub given : {A : Type 0} → A → List Tok → Read A
given one rest = Some (one, rest)

abbrev value_in : {A : Type 0} → A → Read A → A
value_in other None = other
value_in other (Some p) = p.0

abbrev rest_in : {A : Type 0} → List Tok → Read A → List Tok
rest_in other None = other
rest_in other (Some p) = p.1

-- one reading has one value
pub same_value : {A : Type 0} (one other : A) (rest left : List Tok) → given one rest ≡ given other left → one ≡ other
same_value {A} one other rest left e = ap (λ (r : Read A). value_in one r) e

-- and one rest
pub same_rest : {A : Type 0} (one other : A) (rest left : List Tok) → given one rest ≡ given other left → rest ≡ left
same_rest {A} one other rest left e = ap (λ (r : Read A). rest_in rest r) e

-- a fact of what was read is one of what the reading gave
pub moved : {A : Type 0} (P : A → List Tok → Type 0) (one other : A) (rest left : List Tok) → given one rest ≡ given other left → P one rest → P other left
moved P one other rest left e fact =
    subst (λ a. P a left) (same_value one other rest left e) (subst (λ r. P one r) (same_rest one other rest left e) fact)

sign_next : (wanted found : Sign) (ts : List Tok) → same_sign found wanted ≡ true → tok.Sign found ∷ ts ≡ tok.Sign wanted ∷ ts
sign_next wanted found ts is = let one : found ≡ wanted = same_true signs.the_type (search rules) _ _ is in ap (λ s. tok.Sign s ∷ ts) one

-- the sign that is the next token
pub begins_next : (wanted : Sign) (ts : List Tok) → begins wanted ts ≡ true → ts ≡ tok.Sign wanted ∷ behind ts
begins_next wanted (tok.Sign found ∷ ts) is = sign_next wanted found ts is
begins_next wanted _ is = absurd cc

word_next : (wanted found : Word) (ts : List Tok) → same_word found wanted ≡ true → tok.Word found ∷ ts ≡ tok.Word wanted ∷ ts
word_next wanted found ts is = let one : found ≡ wanted = same_true words.the_type (search rules) _ _ is in ap (λ w. tok.Word w ∷ ts) one

-- the word that is the next token
pub begins_word_next : (wanted : Word) (ts : List Tok) → begins_word wanted ts ≡ true → ts ≡ tok.Word wanted ∷ behind ts
begins_word_next wanted (tok.Word found ∷ ts) is = word_next wanted found ts is
begins_word_next wanted _ is = absurd cc

taken : (is : Bool) (front tail : List Tok) (all : Unit {0} × List Tok) → (if is then Some (tt, tail) else None) ≡ Some all
    → (is ≡ true) × (tail ≡ all.1)
taken true front tail all e = (refl, ap (λ (r : Read (Unit {0})). rest_in tail r) e)
taken false front tail all e = absurd cc

-- the sign that was read
pub after_some : (wanted : Sign) (ts : List Tok) (u : Unit {0}) (rest : List Tok) → after wanted ts ≡ Some (u, rest) → ts ≡ tok.Sign wanted ∷ rest
unfolding after
after_some wanted ts u rest e =
    let both = taken (begins wanted ts) ts (behind ts) (u, rest) e in
    subst (λ r. ts ≡ tok.Sign wanted ∷ r) both.1 (begins_next wanted ts both.0)

-- the word that was read
pub after_word_some : (wanted : Word) (ts : List Tok) (u : Unit {0}) (rest : List Tok) → after_word wanted ts ≡ Some (u, rest) → ts ≡ tok.Word wanted ∷ rest
unfolding after_word
after_word_some wanted ts u rest e =
    let both = taken (begins_word wanted ts) ts (behind ts) (u, rest) e in
    subst (λ r. ts ≡ tok.Word wanted ∷ r) both.1 (begins_word_next wanted ts both.0)
