-- Look-ups in a table that grows.
use Rattle.std.proofs.Common.{◌≡◌, ◌∙◌, ℕ, Bool, true, false, cond, ◌||◌, List, [], ◌∷◌, ◌++◌, Option, None, Some, ap, refl, sym, is_some}
use Rattle.std.proofs.lemmas.Option.{none-some, same_Some}
use Rattle.std.specs.Prelude.{if◌then◌else◌}
use Rattle.std.specs.Map.{lookup}
use Rattle.std.specs.Option.{option_or}
use Rattle.indexmap.specs.IndexMap.{insert_entry}

-- one more entry, behind the others
pub lookup-push : {K X : Type 0} (test : K → Bool) (es : List (K × X)) (k : K) (v : X) →
    lookup test (es ++ (k, v) ∷ []) ≡ option_or (lookup test es) (if test k then Some v else None)
lookup-push test [] k v = refl
lookup-push test (e ∷ es) k v = by (test e.0) (lookup-push test es k v)
  where
    by : (b : Bool) → lookup test (es ++ (k, v) ∷ []) ≡ option_or (lookup test es) (if test k then Some v else None)
        → cond b (Some e.1) (lookup test (es ++ (k, v) ∷ []))
        ≡ option_or (cond b (Some e.1) (lookup test es)) (if test k then Some v else None)
    by true rest = refl
    by false rest = rest

-- a value that is put back
pub insert-back : {K X : Type 0} (eq : K → K → Bool) (k : K) (v first : X) (es : List (K × X)) →
    Some first ≡ lookup (eq k) es → insert_entry eq (insert_entry eq es k v) k first ≡ es
insert-back eq k v first [] there = absurd (none-some first (sym there))
insert-back {K} {X} eq k v first (e ∷ es) there = by (eq k e.0) refl there (insert-back eq k v first es)
  where
    inserted : (x : X) (own : K × X) (rest : List (K × X)) (b : Bool) → eq k own.0 ≡ b →
        insert_entry eq (own ∷ rest) k x ≡ cond b ((own.0, x) ∷ rest) (own ∷ insert_entry eq rest k x)
    inserted x own rest b is = ap (λ b. cond b ((own.0, x) ∷ rest) (own ∷ insert_entry eq rest k x)) is

    by : (b : Bool) → eq k e.0 ≡ b → Some first ≡ cond b (Some e.1) (lookup (eq k) es)
        → (Some first ≡ lookup (eq k) es → insert_entry eq (insert_entry eq es k v) k first ≡ es)
        → insert_entry eq (insert_entry eq (e ∷ es) k v) k first ≡ e ∷ es
    by true is found rest =
        ap (λ l. insert_entry eq l k first) (inserted v e es true is)
        ∙ (inserted first (e.0, v) es true is
        ∙ ap (λ x. (e.0, x) ∷ es) (same_Some first e.1 found))
    by false is found rest =
        ap (λ l. insert_entry eq l k first) (inserted v e es false is)
        ∙ (inserted first e (insert_entry eq es k v) false is
        ∙ ap (λ l. e ∷ l) (rest found))

-- a value that is known stays where its own name comes once more
pub kept : {X : Type 0} (known : Option X) (first more : X) (same : Bool) → (same ≡ true → Some first ≡ known) →
    known ≡ option_or known (if same then Some more else None)
kept None first more true is = absurd (none-some first (sym (is refl)))
kept None first more false is = refl
kept (Some x) first more same is = refl

-- a name that is noted more
pub name_more : (known : Option ℕ) (same : Bool) → is_some (option_or known (if same then Some 0 else None)) ≡ (same || is_some known)
name_more None true = refl
name_more None false = refl
name_more (Some n) true = refl
name_more (Some n) false = refl
