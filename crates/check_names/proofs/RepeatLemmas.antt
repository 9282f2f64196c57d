-- Things that are the same as an earlier one, one after another.
use Rattle.std.proofs.Common.{◌≡◌, ◌∷◌, ◌++◌, ◌∙◌, ◌<◌, ◌+◌, ℕ, length, get_or, drop, Bool, true, false, List, [], Option, refl, ap, sym}
use Rattle.std.specs.Prelude.{if◌then◌else◌, map}
use Rattle.std.specs.List.{list_any}
use Rattle.capl_meaning.specs.declared.offence.Offence.{Offence}
use Rattle.capl_meaning.specs.StatementRules.{repeated}
use Rattle.check_names.specs.First.{noted}
use Rattle.check_names.proofs.LoopLemmas.{drop_next}

-- one more thing, which is noted where it is the same as an earlier one
pub noted_repeated : {A : Type 0} (same : A → A → Bool) (f : A → Offence) (earlier rest : List A) (x : A)
    (first next : Option Offence) (known : Bool) → known ≡ list_any (same x) earlier
    → next ≡ noted first (if known then f x ∷ [] else [])
    → noted next (map f (repeated same (x ∷ earlier) rest)) ≡ noted first (map f (repeated same earlier (x ∷ rest)))
noted_repeated {A} same f earlier rest x first next known is noting =
    ap (λ (o : Option Offence). noted o (map f (repeated same (x ∷ earlier) rest)))
    (noting ∙ ap (λ (b : Bool). noted first (if b then f x ∷ [] else [])) is)
    ∙ by (list_any (same x) earlier)
  where
    by : (b : Bool) → noted (noted first (if b then f x ∷ [] else [])) (map f (repeated same (x ∷ earlier) rest))
        ≡ noted first (map f ((if b then x ∷ [] else []) ++ repeated same (x ∷ earlier) rest))
    by true = refl
    by false = refl

-- the same in a loop over what things are made from
pub repeated_turn : {A B : Type 0} (g : B → A) (same : A → A → Bool) (f : A → Offence) (earlier : List A) (xs : List B) (i : ℕ) (x : B)
    (first next : Option Offence) (known : Bool) → i < length xs → x ≡ get_or xs i x → known ≡ list_any (same (g x)) earlier
    → next ≡ noted first (if known then f (g x) ∷ [] else [])
    → noted next (map f (repeated same (g x ∷ earlier) (map g (drop (i + 1) xs)))) ≡ noted first (map f (repeated same earlier (map g (drop i xs))))
repeated_turn g same f earlier xs i x first next known within is here noting =
    noted_repeated same f earlier (map g (drop (i + 1) xs)) (g x) first next known here noting
    ∙ ap (λ l. noted first (map f (repeated same earlier (map g l)))) (sym (drop_next xs i x within is))
