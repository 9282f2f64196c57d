-- One turn of a loop that notes what the items of a list break.
use Rattle.std.proofs.Common.{◌≡◌, ◌<◌, ◌+◌, ◌∷◌, ◌∙◌, ℕ, List, Option, add-one, ap, drop, drop-cons, get_or, length, suc, sym}
use Rattle.std.specs.Prelude.{flat_map, map}
use Rattle.capl_meaning.specs.declared.offence.Offence.{Offence}
use Rattle.check_names.specs.First.{noted}
use Rattle.check_names.proofs.FirstLemmas.{noted_append}

-- what is left begins with the item
pub drop_next : {A : Type 0} (xs : List A) (i : ℕ) (x : A) → i < length xs → x ≡ get_or xs i x → drop i xs ≡ x ∷ drop (i + 1) xs
drop_next xs i x within is = rw add-one (drop-cons xs i x within ∙ ap (λ y. y ∷ drop (suc i) xs) (sym is))

-- what an item breaks was noted, and what the others break is left
pub noted_turn : {A B : Type 0} (g : A → B) (f : B → List Offence) (xs : List A) (i : ℕ) (x : A) (first next : Option Offence)
    → i < length xs → x ≡ get_or xs i x → next ≡ noted first (f (g x))
    → noted next (flat_map f (map g (drop (i + 1) xs))) ≡ noted first (flat_map f (map g (drop i xs)))
noted_turn g f xs i x first next within is noting =
    ap (λ (o : Option Offence). noted o (flat_map f (map g (drop (i + 1) xs)))) noting
    ∙ sym (noted_append first (f (g x)) (flat_map f (map g (drop (i + 1) xs))))
    ∙ ap (λ l. noted first (flat_map f (map g l))) (sym (drop_next xs i x within is))
