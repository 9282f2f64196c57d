-- What is noted in parts, and turns of loops.
use Rattle.std.proofs.Common.{◌≡◌, ◌<◌, ◌+◌, ◌∷◌, ◌++◌, ◌∙◌, ℕ, List, [], Option, ap, drop, get_or, length, refl, sym}
use Rattle.std.specs.Prelude.{flat_map, map}
use Rattle.capl_meaning.specs.declared.offence.Offence.{Offence}
use Rattle.check_names.specs.First.{noted}
use Rattle.check_names.proofs.FirstLemmas.{noted_append}
use Rattle.check_names.proofs.LoopLemmas.{drop_next}

-- what an item breaks was noted, and what the others break is left
pub noted_step : {A : Type 0} (f : A → List Offence) (xs : List A) (i : ℕ) (x : A) (first next : Option Offence)
    → i < length xs → x ≡ get_or xs i x → next ≡ noted first (f x)
    → noted next (flat_map f (drop (i + 1) xs)) ≡ noted first (flat_map f (drop i xs))
noted_step f xs i x first next within is noting =
    ap (λ (o : Option Offence). noted o (flat_map f (drop (i + 1) xs))) noting
    ∙ sym (noted_append first (f x) (flat_map f (drop (i + 1) xs)))
    ∙ ap (λ l. noted first (flat_map f l)) (sym (drop_next xs i x within is))

-- two parts one after the other
pub two_noted : (first middle last : Option Offence) (a b all : List Offence) → middle ≡ noted first a → last ≡ noted middle b
    → all ≡ a ++ b → last ≡ noted first all
two_noted first middle last a b all one other is =
    other ∙ ap (λ (o : Option Offence). noted o b) one ∙ sym (noted_append first a b) ∙ ap (noted first) (sym is)

-- four
pub four_noted : (first second third fourth last : Option Offence) (a b c d all : List Offence) → second ≡ noted first a → third ≡ noted second b
    → fourth ≡ noted third c → last ≡ noted fourth d → all ≡ a ++ (b ++ (c ++ d)) → last ≡ noted first all
four_noted first second third fourth last a b c d all one two three four is =
    two_noted first second last a (b ++ (c ++ d)) all one
    (two_noted second third last b (c ++ d) (b ++ (c ++ d)) two (two_noted third fourth last c d (c ++ d) three four refl) refl) is

-- what is made from what is made
pub map_twice : {A B C : Type 0} (f : A → B) (g : B → C) (xs : List A) → map (λ x. g (f x)) xs ≡ map g (map f xs)
map_twice f g [] = refl
map_twice f g (x ∷ xs) = ap (λ l. g (f x) ∷ l) (map_twice f g xs)
