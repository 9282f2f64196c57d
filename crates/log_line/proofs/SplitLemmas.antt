-- Splits of bytes at the first that is a separator.
use Rattle.std.proofs.Common.{◌≡◌, ◌≢◌, ℕ, List, [], ◌∷◌, ◌++◌, refl, arith}
use Rattle.std.specs.Prelude.{All}
use Rattle.std.proofs.lemmas.List.Elements.{All-tail}

-- no byte is this one
abbrev pub Without : ℕ → List ℕ → Type 0
Without separator bytes = All (λ byte. byte ≢ separator) bytes

-- what has the separator inside is not without it
pub separator_inside : (separator : ℕ) (front after : List ℕ) → Without separator (front ++ separator ∷ after) → ⊥
separator_inside separator [] after none = none 0 0 (omega arith) refl
separator_inside separator (byte ∷ front) after none =
    separator_inside separator front after (All-tail (λ x. x ≢ separator) byte (front ++ separator ∷ after) none)

-- two splits at the first separator are one
pub one_split : (separator : ℕ) (a b x y : List ℕ) → Without separator a → Without separator b → a ++ separator ∷ x ≡ b ++ separator ∷ y → (a ≡ b) × (x ≡ y)
one_split separator [] [] x y first second same = (refl, cc)
one_split separator [] (c ∷ b) x y first second same = absurd (second 0 0 (omega arith) (cc))
one_split separator (c ∷ a) [] x y first second same = absurd (first 0 0 (omega arith) (cc))
one_split separator (c ∷ a) (d ∷ b) x y first second same =
    let rest = one_split separator a b x y (All-tail (λ x. x ≢ separator) c a first) (All-tail (λ x. x ≢ separator) d b second) (cc) in
    let heads : c ≡ d = cc in
    ((λ i. heads i ∷ rest.0 i), rest.1)
