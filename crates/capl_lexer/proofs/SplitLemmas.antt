-- Where a text is split: after bytes of a class, and after so many bytes.
use Rattle.std.proofs.Common.{◌≡◌, ◌≤◌, ◌+◌, ◌-◌, ℕ, suc, List, [], ◌∷◌, ◌++◌, length, take, All, refl, sym, ap, subst, ◌∙◌, arith}
use Rattle.std.proofs.lemmas.List.{take_at}
use Rattle.std.proofs.lemmas.List.Elements.{All-tail}

-- two fronts of one length are one
pub front_injective : {A : Type 0} (xs ys rest other : List A) → xs ++ rest ≡ ys ++ other → length xs ≡ length ys
    → xs ≡ ys
front_injective xs ys rest other same lengths =
    sym (take_at xs rest (length xs) refl) ∙ ap (take (length xs)) same ∙ take_at ys other (length xs) (sym lengths)

-- a front and some bytes of what follows it
pub take_append_more : (xs rest : List ℕ) (count : ℕ) → take (length xs + count) (xs ++ rest) ≡ xs ++ take count rest
take_append_more [] rest count = ap (λ n. take n rest) (omega arith)
take_append_more (x ∷ xs) rest count =
    let sizes : length (x ∷ xs) + count ≡ suc (length xs + count) = omega arith in
    ap (λ n. take n (x ∷ xs ++ rest)) sizes ∙ ap (λ b. x ∷ b) (take_append_more xs rest count)

-- so many bytes of a text are its front and the rest of them
pub take_more_of : (xs rest : List ℕ) (long count : ℕ) → length xs ≡ long → long ≤ count
    → take count (xs ++ rest) ≡ xs ++ take (count - long) rest
take_more_of xs rest long count is within =
    let sizes : count ≡ length xs + (count - long) = omega arith in
    ap (λ n. take n (xs ++ rest)) sizes ∙ take_append_more xs rest (count - long)

-- bytes of a class up to the first other one are the same, and so is what follows
pub before-unique : (P : ℕ → Type 0) (byte other : ℕ) → (P byte → ⊥) → (P other → ⊥)
    → (xs ys rest after : List ℕ) → All P xs → All P ys
    → xs ++ byte ∷ rest ≡ ys ++ other ∷ after → (xs ≡ ys) × (byte ∷ rest ≡ other ∷ after)
before-unique P byte other outside beyond [] [] rest after all every same = (refl, same)
before-unique P byte other outside beyond [] (y ∷ ys) rest after all every same =
    let one : y ≡ byte = cc in absurd (outside (let Q = P in subst Q one (every 0 0 (omega arith))))
before-unique P byte other outside beyond (x ∷ xs) [] rest after all every same =
    let one : x ≡ other = cc in absurd (beyond (let Q = P in subst Q one (all 0 0 (omega arith))))
before-unique P byte other outside beyond (x ∷ xs) (y ∷ ys) rest after all every same =
    let one : x ≡ y = cc in
    let tails : xs ++ byte ∷ rest ≡ ys ++ other ∷ after = cc in
    let behind = before-unique P byte other outside beyond xs ys rest after (All-tail P x xs all) (All-tail P y ys every) tails in
    (let both = behind.0 in cc, behind.1)
