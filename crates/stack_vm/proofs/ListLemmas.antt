-- Items of lists.
use Rattle.std.proofs.Common.{◌≡◌, ◌<◌, ℕ, List, [], ◌∷◌, length, get_or, slice_get, Some, refl, sym, ap, ◌∙◌, arith}
use Rattle.bytecode.proofs.ListItems.{read_there}

-- the item that was read at a place, from a list that is the same as another
pub item_read : {A : Type 0} {read : List A} (xs : List A) → read ≡ xs → {place at : ℕ} → at ≡ place → place < length xs → (d : A) →
    slice_get xs place ≡ Some (get_or read at d)
item_read {A} {read} xs same {place} {at} here below d = read_there read xs same place d below ∙ ap (λ (i : ℕ). Some (get_or read i d)) (sym here)

-- a list of eight items
pub eight_items : (xs : List ℕ) → length xs ≡ 8 →
    xs ≡ get_or xs 0 0 ∷ get_or xs 1 0 ∷ get_or xs 2 0 ∷ get_or xs 3 0 ∷ get_or xs 4 0 ∷ get_or xs 5 0 ∷ get_or xs 6 0 ∷ get_or xs 7 0 ∷ []
eight_items (a ∷ b ∷ c ∷ d ∷ e ∷ f ∷ g ∷ h ∷ []) n = refl
eight_items [] n = absurd (cc)
eight_items (a ∷ []) n = absurd (cc)
eight_items (a ∷ b ∷ []) n = absurd (cc)
eight_items (a ∷ b ∷ c ∷ []) n = absurd (cc)
eight_items (a ∷ b ∷ c ∷ d ∷ []) n = absurd (cc)
eight_items (a ∷ b ∷ c ∷ d ∷ e ∷ []) n = absurd (cc)
eight_items (a ∷ b ∷ c ∷ d ∷ e ∷ f ∷ []) n = absurd (cc)
eight_items (a ∷ b ∷ c ∷ d ∷ e ∷ f ∷ g ∷ []) n = absurd (cc)
eight_items (a ∷ b ∷ c ∷ d ∷ e ∷ f ∷ g ∷ h ∷ i ∷ xs) n = absurd (omega arith)
