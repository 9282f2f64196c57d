-- Items with commas between them are read as they are spelled, and spelled as they are read.
use Rattle.std.proofs.Common.{◌≡◌, ℕ, zero, suc, ◌+◌, ◌≤◌, ◌<◌, false, List, [], ◌∷◌, ◌++◌, length, Some, refl, ap, append_assoc, arith}
use Rattle.std.specs.Prelude.{⊤}
use Rattle.capl_lexer.specs.declared.token.Tok.{Tok}
use Rattle.capl_lexer.specs.declared.token.Sign.TheVariants as sign
use Rattle.capl_tree.specs.Spelling.{further, separated}
use Rattle.expr_parser.specs.Reading.{Read, begins, next_item, items_from, items}

-- each item is read from its spelling before what stands behind it
abbrev pub EachRead : {A : Type 0} → (List Tok → Read A) → (A → List Tok → List Tok) → List A → List Tok → Type 0
EachRead reader one [] rest = ⊤
EachRead reader one (first ∷ others) rest =
    (reader (one first (further one others rest)) ≡ Some (first, further one others rest)) × EachRead reader one others rest

-- nothing behind a list changes it
pub append_none : {A : Type 0} (all : List A) → all ++ [] ≡ all
append_none [] = refl
append_none (first ∷ others) = ap (λ l. first ∷ l) (append_none others)

-- further items, behind those that were found
others_read : {A : Type 0} (reader : List Tok → Read A) (one : A → List Tok → List Tok) (n : ℕ) (found others : List A) (rest : List Tok)
    → EachRead reader one others rest → length others ≤ n → begins sign.Comma rest ≡ false
    → next_item (items_from reader n found) found (further one others rest) ≡ Some (found ++ others, rest)
unfolding items_from
others_read reader one n found [] rest each enough ends = rw (ends, append_none found) refl
others_read reader one zero found (first ∷ others) rest each enough ends = absurd (omega arith)
others_read reader one (suc n) found (first ∷ others) rest each enough ends =
    rw (each.0, others_read reader one n (found ++ first ∷ []) others rest each.1 (omega arith) ends, append_assoc) refl

-- a comma is a token
further_longer : {A : Type 0} (one : A → List Tok → List Tok) (others : List A) (rest : List Tok)
    → ((item : A) (ts : List Tok) → length ts < length (one item ts)) → length others + length rest ≤ length (further one others rest)
further_longer one [] rest longer = omega arith
further_longer one (first ∷ others) rest longer = omega (arith, longer first (further one others rest), further_longer one others rest longer)

first_read : {A : Type 0} (reader : List Tok → Read A) (one : A → List Tok → List Tok) (n : ℕ) (first : A) (others : List A) (rest : List Tok)
    → EachRead reader one (first ∷ others) rest → length others < n → begins sign.Comma rest ≡ false
    → items_from reader n [] (one first (further one others rest)) ≡ Some (first ∷ others, rest)
unfolding items_from
first_read reader one zero first others rest each enough ends = absurd (omega arith)
first_read reader one (suc n) first others rest each enough ends =
    rw (each.0) (others_read reader one n (first ∷ []) others rest each.1 (omega arith) ends)

-- items are read from their spelling, where no comma stands behind it
pub items_complete : {A : Type 0} (reader : List Tok → Read A) (one : A → List Tok → List Tok) (first : A) (others : List A) (rest : List Tok)
    → EachRead reader one (first ∷ others) rest → ((item : A) (ts : List Tok) → length ts < length (one item ts))
    → begins sign.Comma rest ≡ false → items reader (separated one (first ∷ others) rest) ≡ Some (first ∷ others, rest)
unfolding items
items_complete reader one first others rest each longer ends =
    first_read reader one (length (one first (further one others rest))) first others rest each
    (omega (arith, longer first (further one others rest), further_longer one others rest longer)) ends
