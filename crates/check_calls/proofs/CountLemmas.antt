-- A test that passes more and more items of a list settles within as many turns as the list has items.
use Rattle.std.proofs.Common.{◌≡◌, ◌⊎◌, ◌+◌, ◌<◌, ◌≤◌, ◌∙◌, ℕ, zero, suc, Bool, true, false, cond, List, [], ◌∷◌, Some, inl, inr, refl, ap, sym, arith, length}
use Rattle.std.specs.Prelude.{slice_get}
use Rattle.std.proofs.lemmas.Bool.{false≢true}

-- how many items pass a test
abbrev pub counted : {X : Type 0} → (X → Bool) → List X → ℕ
counted p [] = 0
counted p (x ∷ xs) = cond (p x) (suc (counted p xs)) (counted p xs)

-- no more pass than there are
pub counted_length : {X : Type 0} (p : X → Bool) (xs : List X) → counted p xs ≤ length xs
counted_length p [] = omega arith
counted_length {X} p (x ∷ xs) = by (p x) (counted_length p xs)
  where
    by : (b : Bool) → counted p xs ≤ length xs → cond b (suc (counted p xs)) (counted p xs) ≤ suc (length xs)
    by true le = omega (arith, le)
    by false le = omega (arith, le)

-- each item of a list that passes one test passes another
abbrev pub AllPass : {X : Type 0} → (X → Bool) → (X → Bool) → List X → Type 0
AllPass {X} q p xs = (k : ℕ) (x : X) → slice_get xs k ≡ Some x → q x ≡ true → p x ≡ true

-- one more item that passes
all-cons : {X : Type 0} (q p : X → Bool) (x : X) (xs : List X) → (q x ≡ true → p x ≡ true) → AllPass q p xs → AllPass q p (x ∷ xs)
all-cons q p x xs first rest zero y at = let same : x ≡ y = cc in λ is. ap p (sym same) ∙ first (ap q same ∙ is)
all-cons q p x xs first rest (suc k) y at = rest k y at

-- where what passes one test passes another, no fewer pass the other
pub no_fewer : {X : Type 0} (p q : X → Bool) (xs : List X) → ((x : X) → p x ≡ true → q x ≡ true) → counted p xs ≤ counted q xs
no_fewer p q [] through = omega arith
no_fewer {X} p q (x ∷ xs) through = by (p x) (q x) (through x) (no_fewer p q xs through)
  where
    by : (a b : Bool) → (a ≡ true → b ≡ true) → counted p xs ≤ counted q xs
        → cond a (suc (counted p xs)) (counted p xs) ≤ cond b (suc (counted q xs)) (counted q xs)
    by true true both le = omega (arith, le)
    by true false both le = absurd (false≢true (both refl))
    by false true both le = omega (arith, le)
    by false false both le = omega (arith, le)

-- where what passes one test passes another, all that pass the other pass the one, or more pass the other
pub more_pass : {X : Type 0} (p q : X → Bool) (xs : List X) → ((x : X) → p x ≡ true → q x ≡ true) →
    AllPass q p xs ⊎ (counted p xs + 1 ≤ counted q xs)
more_pass p q [] through = inl (λ k x at. cc)
more_pass {X} p q (x ∷ xs) through = by (p x) refl (q x) refl (more_pass p q xs through) (no_fewer p q xs through)
  where
    by : (a : Bool) → p x ≡ a → (b : Bool) → q x ≡ b → AllPass q p xs ⊎ (counted p xs + 1 ≤ counted q xs)
        → counted p xs ≤ counted q xs
        → AllPass q p (x ∷ xs) ⊎ (cond a (suc (counted p xs)) (counted p xs) + 1 ≤ cond b (suc (counted q xs)) (counted q xs))
    by true one true other (inl all) le = inl (all-cons q p x xs (λ h. one) all)
    by true one true other (inr more) le = inr (omega (arith, more))
    by true one false other rest le = absurd (false≢true (sym other ∙ through x one))
    by false one false other (inl all) le = inl (all-cons q p x xs (λ h. absurd (false≢true (sym other ∙ h))) all)
    by false one false other (inr more) le = inr (omega (arith, more))
    by false one true other rest le = inr (omega (arith, le))

-- how many pass, after a number of turns: they settled before, or each turn had one more
pub settles : {X : Type 0} (p : ℕ → X → Bool) (xs : List X) → ((n : ℕ) (x : X) → p n x ≡ true → p (suc n) x ≡ true) → (n : ℕ)
    → ((m : ℕ) × (m < n) × AllPass (p (suc m)) (p m) xs) ⊎ (n + counted (p 0) xs ≤ counted (p n) xs)
settles p xs grows zero = inr (omega arith)
settles {X} p xs grows (suc n) = by (settles p xs grows n) (more_pass (p n) (p (suc n)) xs (grows n))
  where
    by : ((m : ℕ) × (m < n) × AllPass (p (suc m)) (p m) xs) ⊎ (n + counted (p 0) xs ≤ counted (p n) xs)
        → AllPass (p (suc n)) (p n) xs ⊎ (counted (p n) xs + 1 ≤ counted (p (suc n)) xs)
        → ((m : ℕ) × (m < suc n) × AllPass (p (suc m)) (p m) xs) ⊎ (suc n + counted (p 0) xs ≤ counted (p (suc n)) xs)
    by (inl found) step = inl (found.0, omega (arith, found.1), found.2)
    by (inr many) (inl all) = inl (n, omega arith, all)
    by (inr many) (inr more) = inr (omega (arith, many, more))
