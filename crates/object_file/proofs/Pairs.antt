-- What is spelled is read: pairs, halves and lists.
use Rattle.std.proofs.Common.{◌≡◌, ◌∙◌, ◌<◌, ◌+◌, ◌*◌, ◌^◌, ℕ, zero, suc, List, [], ◌∷◌, ◌++◌, length, All, Option, Some, None, ap, append_assoc, arith, get_or, refl, sym, take}
use Rattle.std.specs.Prelude.{◌%◌, ◌/◌, flat_map, ⊤}
use Rattle.std.specs.Option.{option_and_then, option_map}
use Rattle.std.proofs.lemmas.List.Elements.{All-head, All-tail}
use Rattle.std.proofs.lemmas.List.{append-nil}
use Rattle.std.proofs.Math.Nat.{add-mul-div_left, add-mul-mod_self_left, div-eq_of_lt, mod-add-div, mod-eq_of_lt}
use Rattle.object_file.specs.Number.{dword, halves, list}
use Rattle.object_file.specs.Inside.Reading.{Reader, dword_at, halves_at, items_at, list_at, made_at, pair_at, tried_at}

-- what is spelled at the front stands there
abbrev pub IsComplete : {A : Type 0} → (A → List ℕ) → (A → Type 0) → Reader A → Type 0
IsComplete {A} spelling holds at = (x : A) (rest : List ℕ) → holds x → at (spelling x ++ rest) ≡ Some (x, rest)

-- a pair
pub pair_complete : {A B : Type 0} (f : A → List ℕ) (F : A → Type 0) (at : Reader A) → IsComplete f F at
    → (g : B → List ℕ) (G : B → Type 0) (bt : Reader B) → IsComplete g G bt
    → IsComplete (λ (pair : A × B). f pair.0 ++ g pair.1) (λ pair. F pair.0 × G pair.1) (pair_at at bt)
pair_complete f F at first g G bt second x rest sound =
    ap (pair_at at bt) (append_assoc (f x.0) (g x.1) rest)
    ∙ ap (option_and_then (λ found. option_map (λ next. ((found.0, next.0), next.1)) (bt found.1))) (first x.0 (g x.1 ++ rest) sound.0)
    ∙ ap (option_map (λ next. ((x.0, next.0), next.1))) (second x.1 rest sound.1)

-- without the second there is no pair
pub no_second : {A B : Type 0} (f : A → List ℕ) (F : A → Type 0) (at : Reader A) → IsComplete f F at → (bt : Reader B)
    (bytes : List ℕ) (x : A) (rest : List ℕ) → bytes ≡ f x ++ rest → F x → bt rest ≡ None → pair_at at bt bytes ≡ None
no_second f F at first bt bytes x rest is sound none =
    ap (pair_at at bt) is
    ∙ ap (option_and_then (λ found. option_map (λ next. ((found.0, next.0), next.1)) (bt found.1))) (first x rest sound)
    ∙ ap (option_map (λ next. ((x, next.0), next.1))) none

-- a number is read from its halves
pub halves_complete : (values : ℕ) (half : ℕ → List ℕ) (at : Reader ℕ) → IsComplete half (λ n. ⊤) at
    → IsComplete (halves values half) (λ n. ⊤) (halves_at values at)
unfolding halves
halves_complete values half at complete n rest sound =
    ap (option_map (λ found. ((found.0).0 + values * (found.0).1, found.1)))
    (pair_complete half (λ n. ⊤) at complete half (λ n. ⊤) at complete (n % values, n / values) rest (tt, tt))
    ∙ ap (λ m. Some (m, rest)) (mod-add-div n values)

-- a number is spelled by its halves
pub halves_written : (values : ℕ) (half : ℕ → List ℕ) (n low high : ℕ) → low ≡ n % values → high ≡ n / values
    → half low ++ half high ≡ halves values half n
unfolding halves
halves_written values half n low high low_is high_is =
    ap (λ l. half l ++ half high) low_is ∙ ap (λ h. half (n % values) ++ half h) high_is

-- and they make it
pub halves_read : (values : ℕ) (half : ℕ → List ℕ) (low high n : ℕ) (bytes rest : List ℕ) → low < values → n ≡ low + values * high
    → bytes ≡ (half low ++ half high) ++ rest → bytes ≡ halves values half n ++ rest
halves_read values half low high n bytes rest small is spelled =
    let below : n % values ≡ low = ap (λ m. m % values) is ∙ add-mul-mod_self_left low values high ∙ mod-eq_of_lt small in
    let nothing : 0 + high ≡ high = omega arith in
    let above : n / values ≡ high =
    ap (λ m. m / values) is ∙ add-mul-div_left low high (omega (arith, small)) ∙ ap (λ m. m + high) (div-eq_of_lt small) ∙ nothing in
    spelled ∙ ap (λ l. l ++ rest) (halves_written values half n low high (sym below) (sym above))

-- what is made of an item is read
pub made_complete : {A B : Type 0} (make : A → B) (f : A → List ℕ) (F : A → Type 0) (at : Reader A) → IsComplete f F at
    → (x : A) (rest : List ℕ) → F x → made_at make at (f x ++ rest) ≡ Some (make x, rest)
made_complete make f F at complete x rest sound = ap (option_map (λ found. (make found.0, found.1))) (complete x rest sound)

-- what can be made of an item is read
pub tried_complete : {A B : Type 0} (make : A → Option B) (y : B) (f : A → List ℕ) (F : A → Type 0) (at : Reader A) → IsComplete f F at
    → (x : A) (rest : List ℕ) → F x → make x ≡ Some y → tried_at make at (f x ++ rest) ≡ Some (y, rest)
tried_complete make y f F at complete x rest sound is =
    ap (option_and_then (λ found. option_map (λ made. (made, found.1)) (make found.0))) (complete x rest sound)
    ∙ ap (option_map (λ made. (made, rest))) is

-- without the first there is no pair
no_first : {A B : Type 0} (at : Reader A) (bt : Reader B) (bytes : List ℕ) → at bytes ≡ None → pair_at at bt bytes ≡ None
no_first at bt bytes none = ap (option_and_then (λ found. option_map (λ next. ((found.0, next.0), next.1)) (bt found.1))) none

-- where an item behind some is not there, so many are not
pub no_item : {A : Type 0} (f : A → List ℕ) (F : A → Type 0) (at : Reader A) → IsComplete f F at
    → (count : ℕ) (xs : List A) (rest : List ℕ) → All F xs → length xs < count → at rest ≡ None → items_at at count (flat_map f xs ++ rest) ≡ None
no_item f F at complete zero xs rest sound few none = absurd (omega (arith, few))
no_item f F at complete (suc count) [] rest sound few none =
    ap (option_map (λ found. ((found.0).0 ∷ (found.0).1, found.1))) (no_first at (items_at at count) rest none)
no_item f F at complete (suc count) (x ∷ xs) rest sound few none =
    ap (items_at at (suc count)) (append_assoc (f x) (flat_map f xs) rest)
    ∙ ap (option_map (λ found. ((found.0).0 ∷ (found.0).1, found.1)))
    (no_second f F at complete (items_at at count) (f x ++ (flat_map f xs ++ rest)) x (flat_map f xs ++ rest) refl (All-head F x xs sound)
    (no_item f F at complete count xs rest (All-tail F x xs sound) (omega (arith, few)) none))

-- so many items
items_complete : {A : Type 0} (f : A → List ℕ) (F : A → Type 0) (at : Reader A) → IsComplete f F at
    → (xs : List A) (rest : List ℕ) → All F xs → items_at at (length xs) (flat_map f xs ++ rest) ≡ Some (xs, rest)
items_complete f F at complete [] rest sound = refl
items_complete f F at complete (x ∷ xs) rest sound =
    ap (items_at at (suc (length xs))) (append_assoc (f x) (flat_map f xs) rest)
    ∙ ap (option_map (λ found. ((found.0).0 ∷ (found.0).1, found.1)))
    (ap (option_and_then (λ found. option_map (λ next. ((found.0, next.0), next.1)) (items_at at (length xs) found.1)))
    (complete x (flat_map f xs ++ rest) (All-head F x xs sound))
    ∙ ap (option_map (λ next. ((x, next.0), next.1))) (items_complete f F at complete xs rest (All-tail F x xs sound)))

-- a list
pub list_complete : {A : Type 0} (f : A → List ℕ) (F : A → Type 0) (at : Reader A) → IsComplete f F at → IsComplete dword (λ n. ⊤) dword_at
    → IsComplete (list f) (λ xs. (length xs < 2 ^ 32) × All F xs) (list_at at)
list_complete f F at complete number xs rest sound =
    ap (list_at at) (append_assoc (dword (length xs)) (flat_map f xs) rest)
    ∙ ap (option_and_then (λ count. items_at at count.0 count.1)) (number (length xs) (flat_map f xs ++ rest) tt)
    ∙ items_complete f F at complete xs rest sound.1

-- the same with the number written out
taken : {A : Type 0} (f : A → List ℕ) (xs : List A) (i : ℕ) (d : A) → i < length xs → flat_map f (take (suc i) xs) ≡ flat_map f (take i xs) ++ f (get_or xs i d)
taken f [] i d within = absurd (omega (arith, within))
taken f (x ∷ xs) zero d within = append-nil (f x)
taken f (x ∷ xs) (suc i) d within =
    ap (λ l. f x ++ l) (taken f xs i d (omega (arith, within))) ∙ sym (append_assoc (f x) (flat_map f (take i xs)) (f (get_or xs i d)))

-- what is spelled of one more record
pub take_more : {A : Type 0} (f : A → List ℕ) (xs : List A) (i : ℕ) (d : A) → i < length xs
    → flat_map f (take (i + 1) xs) ≡ flat_map f (take i xs) ++ f (get_or xs i d)
take_more f xs i d within = let next : i + 1 ≡ suc i = omega arith in ap (λ n. flat_map f (take n xs)) next ∙ taken f xs i d within
