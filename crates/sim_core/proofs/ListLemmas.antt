-- Lemmas on lists.
use Rattle.std.proofs.Common.{◌≡◌, ℕ, List, [], ◌∷◌, All, ap, arith, drop, get_or, map, suc, sym, add-zero, ◌∙◌}
use Rattle.std.proofs.lemmas.List.{get_or-drop}
use Rattle.std.specs.List.{AllByRecursion}

-- lists that are the same from a place on have the same element there
pub same_at_drop : {X : Type 0} → (n : ℕ) (xs ys : List X) (d : X) → drop n xs ≡ drop n ys → get_or xs n d ≡ get_or ys n d
same_at_drop n xs ys d h =
    let first = rw add-zero at (get_or-drop n xs 0 d) in
    let second = rw add-zero at (get_or-drop n ys 0 d) in
    sym first ∙ (ap (λ zs. get_or zs 0 d) h ∙ second)

-- what follows for what is made of an element from what holds of it, follows for all
pub all_made : {X Y : Type 0} (P : X → Type 0) (Q : Y → Type 0) (f : X → Y) → ((x : X) → P x → Q (f x)) →
    (xs : List X) → All P xs → AllByRecursion Q (map f xs)
all_made P Q f each [] h = tt
all_made P Q f each (x ∷ xs) h =
    (each x (h 0 x (omega arith)), all_made P Q f each xs (λ k d l. h (suc k) d (omega arith)))
