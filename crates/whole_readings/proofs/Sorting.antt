-- A list has a stable order by a key.
use Rattle.std.proofs.Common.{◌≡◌, ◌<◌, ◌≤◌, ◌+◌, ℕ, zero, suc, Bool, true, false, not, cond, List, [], ◌∷◌, length, get_or, filter, refl, ap, subst, ◌∙◌, arith}
use Rattle.std.specs.Ordering.{nat_cmp, is_lt}
use Rattle.std.specs.List.Sorted.{IsPermutation, IsSortedByKey, IsStableByKey, ties}
use Rattle.std.proofs.lemmas.Bool.{and_parts, not-true}
use Rattle.std.proofs.lemmas.Bool.Decides.{nat_tests}
use Rattle.std.proofs.lemmas.List.Sorted.{IsPermutation-refl, IsPermutation-sym, IsPermutation-trans, IsPermutation-cons, IsPermutation-middle}

-- whether the key of one is below that of another
abbrev below : {X : Type 0} → (X → ℕ) → X → X → Bool
below key one other = is_lt (nat_cmp (key one) (key other))

told_below : (a b : ℕ) → is_lt (nat_cmp a b) ≡ true → a < b
told_below a b is = grind (arith, nat_tests)

told_above : (a b : ℕ) → is_lt (nat_cmp a b) ≡ false → b ≤ a
told_above a b is = grind (arith, nat_tests)

above_told : (a b : ℕ) → b ≤ a → is_lt (nat_cmp a b) ≡ false
above_told a b most = grind (arith, nat_tests)

-- one more in front of those that are not below it
abbrev insert : {X : Type 0} → (X → ℕ) → X → List X → List X
insert key x [] = x ∷ []
insert key x (y ∷ ys) = cond (below key y x) (y ∷ insert key x ys) (x ∷ y ∷ ys)

-- the list by the key
abbrev pub sort_by : {X : Type 0} → (X → ℕ) → List X → List X
sort_by key [] = []
sort_by key (x ∷ xs) = insert key x (sort_by key xs)

module _ {X : Type 0} (key : X → ℕ) where
  -- ---- the same elements

  exchanged : (x y : X) (ys : List X) → IsPermutation (x ∷ y ∷ ys) (y ∷ x ∷ ys)
  exchanged x y ys = IsPermutation-middle (x ∷ []) y ys

  inserted_same : (x y : X) (ys more : List X) (told : Bool) → IsPermutation (x ∷ ys) more → IsPermutation (x ∷ y ∷ ys) (cond told (y ∷ more) (x ∷ y ∷ ys))
  inserted_same x y ys more true same =
      IsPermutation-trans (x ∷ y ∷ ys) (y ∷ x ∷ ys) (y ∷ more) (IsPermutation-sym (y ∷ x ∷ ys) (x ∷ y ∷ ys) (exchanged y x ys)) (IsPermutation-cons y (x ∷ ys) more same)
  inserted_same x y ys more false same = IsPermutation-refl (x ∷ y ∷ ys)

  insert_same : (x : X) (ys : List X) → IsPermutation (x ∷ ys) (insert key x ys)
  insert_same x [] = IsPermutation-refl (x ∷ [])
  insert_same x (y ∷ ys) = inserted_same x y ys (insert key x ys) (below key y x) (insert_same x ys)

  pub sort_same : (xs : List X) → IsPermutation xs (sort_by key xs)
  sort_same [] = IsPermutation-refl []
  sort_same (x ∷ xs) =
      IsPermutation-trans (x ∷ xs) (x ∷ sort_by key xs) (insert key x (sort_by key xs)) (IsPermutation-cons x xs (sort_by key xs) (sort_same xs)) (insert_same x (sort_by key xs))

  -- ---- in order

  abbrev IsFirstAbove : X → List X → Type 0
  IsFirstAbove x [] = Unit {0}
  IsFirstAbove x (y ∷ ys) = key x ≤ key y

  abbrev AreRising : List X → Type 0
  AreRising [] = Unit {0}
  AreRising (x ∷ xs) = IsFirstAbove x xs × AreRising xs

  first_above : (z x y : X) (ys more : List X) (told : Bool) → key z ≤ key x → key z ≤ key y → IsFirstAbove z (cond told (y ∷ more) (x ∷ y ∷ ys))
  first_above z x y ys more true low also = also
  first_above z x y ys more false low also = low

  insert_above : (z x : X) (ys : List X) → key z ≤ key x → IsFirstAbove z ys → IsFirstAbove z (insert key x ys)
  insert_above z x [] low above = low
  insert_above z x (y ∷ ys) low above = first_above z x y ys (insert key x ys) (below key y x) low above

  inserted_rising : (x y : X) (ys : List X) (told : Bool) → below key y x ≡ told → AreRising (y ∷ ys) → AreRising (insert key x ys)
      → AreRising (cond told (y ∷ insert key x ys) (x ∷ y ∷ ys))
  inserted_rising x y ys true is rising more =
      let low = told_below (key y) (key x) is in
      (insert_above y x ys (omega (arith, low)) rising.0, more)
  inserted_rising x y ys false is rising more = (told_above (key y) (key x) is, rising)

  insert_rising : (x : X) (ys : List X) → AreRising ys → AreRising (insert key x ys)
  insert_rising x [] rising = (tt, tt)
  insert_rising x (y ∷ ys) rising = inserted_rising x y ys (below key y x) refl rising (insert_rising x ys rising.1)

  sort_rising : (xs : List X) → AreRising (sort_by key xs)
  sort_rising [] = tt
  sort_rising (x ∷ xs) = insert_rising x (sort_by key xs) (sort_rising xs)

  rising_at : (xs : List X) → AreRising xs → (k : ℕ) (d : X) → suc k < length xs → key (get_or xs k d) ≤ key (get_or xs (suc k) d)
  rising_at [] rising k d within = absurd (omega (arith, within))
  rising_at (x ∷ []) rising k d within = absurd (omega (arith, within))
  rising_at (x ∷ y ∷ ys) rising zero d within = rising.0
  rising_at (x ∷ y ∷ ys) rising (suc k) d within = rising_at (y ∷ ys) rising.1 k d (omega (arith, within))

  pub sort_sorted : (xs : List X) → IsSortedByKey key nat_cmp (sort_by key xs)
  sort_sorted xs k d low within =
      let sorted = sort_by key xs in
      let next : suc k ≡ k + 1 = omega arith in
      let rises = rising_at sorted (sort_rising xs) k d (omega (arith, within)) in
      above_told (key (get_or sorted (k + 1) d)) (key (get_or sorted k d)) (subst (λ n. key (get_or sorted k d) ≤ key (get_or sorted n d)) next rises)

  -- ---- those of one key in their order

  same_key : (x y : X) → ties (below key) x y ≡ true → key x ≡ key y
  same_key x y tied =
      let both = and_parts (not (below key x y)) (not (below key y x)) tied in
      let one = told_above (key x) (key y) (not-true (below key x y) both.0) in
      let other = told_above (key y) (key x) (not-true (below key y x) both.1) in
      omega (arith, one, other)

  choices : (x y : X) (rest : List X) (first second : Bool) → (first ≡ true → second ≡ true → ⊥)
      → cond second (y ∷ cond first (x ∷ rest) rest) (cond first (x ∷ rest) rest) ≡ cond first (x ∷ cond second (y ∷ rest) rest) (cond second (y ∷ rest) rest)
  choices x y rest true true apart = absurd (apart refl refl)
  choices x y rest true false apart = refl
  choices x y rest false true apart = refl
  choices x y rest false false apart = refl

  inserted_stable : (z x y : X) (ys : List X) (told : Bool) → below key y x ≡ told
      → filter (ties (below key) z) (insert key x ys) ≡ filter (ties (below key) z) (x ∷ ys)
      → filter (ties (below key) z) (cond told (y ∷ insert key x ys) (x ∷ y ∷ ys)) ≡ filter (ties (below key) z) (x ∷ y ∷ ys)
  inserted_stable z x y ys true is same =
      let test = ties (below key) z in
      ap (λ l. cond (test y) (y ∷ l) l) same
      ∙ choices x y (filter test ys) (test x) (test y)
      (λ one other. let a = same_key z x one in let b = same_key z y other in let low = told_below (key y) (key x) is in omega (arith, a, b, low))
  inserted_stable z x y ys false is same = refl

  insert_stable : (z x : X) (ys : List X) → filter (ties (below key) z) (insert key x ys) ≡ filter (ties (below key) z) (x ∷ ys)
  insert_stable z x [] = refl
  insert_stable z x (y ∷ ys) = inserted_stable z x y ys (below key y x) refl (insert_stable z x ys)

  pub sort_stable : (xs : List X) → IsStableByKey key nat_cmp xs (sort_by key xs)
  sort_stable [] z = refl
  sort_stable (x ∷ xs) z =
      insert_stable z x (sort_by key xs) ∙ ap (λ l. cond (ties (below key) z x) (x ∷ l) l) (sort_stable xs z)

  -- ---- as many

  inserted_long : (x y : X) (ys more : List X) (told : Bool) → length more ≡ suc (length ys) → length (cond told (y ∷ more) (x ∷ y ∷ ys)) ≡ suc (suc (length ys))
  inserted_long x y ys more true long = omega (arith, long)
  inserted_long x y ys more false long = refl

  insert_long : (x : X) (ys : List X) → length (insert key x ys) ≡ suc (length ys)
  insert_long x [] = refl
  insert_long x (y ∷ ys) = inserted_long x y ys (insert key x ys) (below key y x) (insert_long x ys)

  pub sort_long : (xs : List X) → length (sort_by key xs) ≡ length xs
  sort_long [] = refl
  sort_long (x ∷ xs) = let long = sort_long xs in insert_long x (sort_by key xs) ∙ ap suc long
