-- The rows of a program are its calls.
use Rattle.std.proofs.Common.{◌≡◌, ◌⊎◌, ◌+◌, ◌<◌, ◌≤◌, ◌==◌, ◌∙◌, ℕ, zero, suc, Bool, true, false, List, [], ◌∷◌, Option, None, Some, inl, inr, refl, ap, sym, subst, arith, length, get_or, eq-eqb}
use Rattle.std.specs.Prelude.{map, slice_get, slice_index}
use Rattle.std.specs.List.{cons_option, filter_map, flat_map, list_any}
use Rattle.std.specs.Option.{option_map, option_map_or}
use Rattle.std.proofs.lemmas.Bool.{false≢true}
use Rattle.std.proofs.lemmas.Bool.Decides.{nat_tests}
use Rattle.std.proofs.lemmas.List.{length-map}
use Rattle.std.proofs.lemmas.Option.{get_or_from_slice_get, same_Some, slice_get-map, slice_get_within}
use Rattle.capl_meaning.specs.Names.{Callee, Function, Names, OfLanguage, OfProgram, Unknown, callee}
use Rattle.capl_meaning.specs.Calls.{called_by, called_by_number, names_called, function_numbered, number_of_callee, reaches, reaches_within}
use Rattle.check_calls.specs.Callees.{called, callees, function_called, functions_at}
use Rattle.check_calls.specs.Graph.{AreCallees, AreRanked, Has, Keeps, Leads}
use Rattle.check_calls.specs.Inside.Search.{AllPass, IsClosed}
use Rattle.check_calls.proofs.ReachLemmas.{Calls, any_has, first_call, has_any, itself, one_call, reached, then}

-- where the number of each function is that of its place alone
abbrev pub AreNumbered : Names → Type 0
AreNumbered names = (k : ℕ) (f : Function) → slice_get names.functions k ≡ Some f → function_numbered names f.number ≡ Some f

-- what stands in a list that each item is made from
pub map_at : {X Y : Type 0} (f : X → Y) (xs : List X) (k : ℕ) (y : Y) → slice_get (map f xs) k ≡ Some y →
    (x : X) × (slice_get xs k ≡ Some x) × (f x ≡ y)
map_at f [] k y at = cc
map_at f (x ∷ xs) zero y at = (x, refl, same_Some (f x) y at)
map_at f (x ∷ xs) (suc k) y at = map_at f xs k y at

-- the same, from an item
pub at_map : {X Y : Type 0} (f : X → Y) (xs : List X) (k : ℕ) (x : X) → slice_get xs k ≡ Some x → slice_get (map f xs) k ≡ Some (f x)
at_map f xs k x at = slice_get-map f xs k ∙ ap (option_map f) at

-- the numbers of what is called
called_numbers : (names : Names) (all : List (List ℕ)) →
    filter_map (λ name. number_of_callee (callee names name)) all ≡ map (λ f. f.number) (called names all)
called_numbers names [] = refl
called_numbers names (name ∷ all) = by (callee names name) (called_numbers names all)
  where
    by : (c : Callee) → filter_map (λ n. number_of_callee (callee names n)) all ≡ map (λ f. f.number) (called names all)
        → cons_option (number_of_callee c) (filter_map (λ n. number_of_callee (callee names n)) all)
        ≡ map (λ f. f.number) (cons_option (function_called c) (called names all))
    by (OfLanguage b) rest = rest
    by (OfProgram f) rest = ap (λ l. f.number ∷ l) rest
    by Unknown rest = rest

-- what a function calls
called_of : (names : Names) (i : ℕ) (f : Function) → AreNumbered names → slice_get names.functions i ≡ Some f →
    called_by_number names f.number ≡ map (λ g. g.number) (called names (flat_map names_called f.body))
called_of names i f are at =
    ap (λ o. option_map_or (called_by names) o []) (are i f at) ∙ called_numbers names (flat_map names_called f.body)

-- the row of a function
row_of : (names : Names) (rows : List (List ℕ)) (i : ℕ) (f : Function) → AreCallees names rows → slice_get names.functions i ≡ Some f →
    (row : List ℕ) × (slice_get rows i ≡ Some row)
    × (map (slice_get names.functions) row ≡ map (λ g. Some g) (called names (flat_map names_called f.body)))
unfolding callees functions_at
row_of names rows i f are at =
    let there = ap (λ l. slice_get l i) are ∙ at_map (λ g. callees names (flat_map names_called g.body)) names.functions i f at in
    map_at (functions_at names) rows i (callees names (flat_map names_called f.body)) there

-- what a function leads to is called by it
pub leads_called : (names : Names) (rows : List (List ℕ)) (i j : ℕ) (f : Function) → AreCallees names rows → AreNumbered names →
    slice_get names.functions i ≡ Some f → Leads rows i j → (g : Function) × (slice_get names.functions j ≡ Some g) × Calls names f.number g.number
leads_called names rows i j f are numbered at leads =
    let row = row_of names rows i f are at in
    let same : leads.0 ≡ row.0 = same_Some leads.0 row.0 (sym leads.1 ∙ row.1) in
    let k = leads.2.0 in
    let here : slice_get row.0 k ≡ Some j = ap (λ (l : List ℕ). slice_get l k) (sym same) ∙ leads.2.1 in
    let mapped = sym (ap (λ l. slice_get l k) row.2) ∙ at_map (slice_get names.functions) row.0 k j here in
    let g = map_at (λ g. Some g) (called names (flat_map names_called f.body)) k (slice_get names.functions j) mapped in (
      g.0,
      sym g.2,
      (
        k,
        ap (λ (l : List ℕ). slice_get l k) (called_of names i f numbered at)
            ∙ at_map (λ h. h.number) (called names (flat_map names_called f.body)) k g.0 g.1,
      ),
    )

-- what a function calls it leads to
pub called_leads : (names : Names) (rows : List (List ℕ)) (i z : ℕ) (f : Function) → AreCallees names rows → AreNumbered names →
    slice_get names.functions i ≡ Some f → Calls names f.number z →
    (j : ℕ) × (g : Function) × Leads rows i j × (slice_get names.functions j ≡ Some g) × (g.number ≡ z)
called_leads names rows i z f are numbered at call =
    let row = row_of names rows i f are at in
    let k = call.0 in
    let g = map_at (λ h. h.number) (called names (flat_map names_called f.body)) k z
    (ap (λ (l : List ℕ). slice_get l k) (sym (called_of names i f numbered at)) ∙ call.1) in
    let mapped = ap (λ l. slice_get l k) row.2 ∙ at_map (λ h. Some h) (called names (flat_map names_called f.body)) k g.0 g.1 in
    let j = map_at (slice_get names.functions) row.0 k (Some g.0) mapped in
    (j.0, g.0, (row.0, row.1, (k, j.1)), j.2, g.2)

-- whether a place is of a function that is reached from a number
abbrev pub reached_place : Names → ℕ → ℕ → Bool
reached_place names from place = option_map_or (λ g. reaches names from g.number) (slice_get names.functions place) false

-- a place that is reached is of a function
pub reached_at : (names : Names) (from place : ℕ) → reached_place names from place ≡ true →
    (g : Function) × (slice_get names.functions place ≡ Some g) × (reaches names from g.number ≡ true)
reached_at names from place is = by (slice_get names.functions place) refl is
  where
    by : (o : Option Function) → slice_get names.functions place ≡ o → option_map_or (λ g. reaches names from g.number) o false ≡ true
        → (g : Function) × (slice_get names.functions place ≡ Some g) × (reaches names from g.number ≡ true)
    by None same h = absurd (false≢true h)
    by (Some g) same h = (g, same, h)

-- what is reached leads to what is reached
pub reached_keeps : (names : Names) (rows : List (List ℕ)) (from : ℕ) → AreCallees names rows → AreNumbered names →
    Keeps rows (reached_place names from)
reached_keeps names rows from are numbered i j leads is =
    let f = reached_at names from i is in
    let g = leads_called names rows i j f.0 are numbered f.1 leads in
    let n = length names.functions in
    let step = one_call names 0 f.0.number g.0.number g.0.number g.2 (itself names 0 g.0.number) in
    ap (λ o. option_map_or (λ h. reaches names from h.number) o false) g.1
    ∙ reached names (n + 1) from g.0.number (then names n 1 from f.0.number g.0.number f.2 step)

-- there are as many rows as functions
pub rows_length : (names : Names) (rows : List (List ℕ)) → AreCallees names rows → length rows ≡ length names.functions
rows_length names rows are =
    sym (length-map rows (functions_at names)) ∙ ap length are
    ∙ length-map names.functions (λ f. callees names (flat_map names_called f.body))

-- the place of a function has a row
pub place_within : (names : Names) (rows : List (List ℕ)) (i : ℕ) (f : Function) → AreCallees names rows →
    slice_get names.functions i ≡ Some f → i < length rows
place_within names rows i f are at =
    let within = slice_get_within names.functions i f at in
    omega (arith, within, rows_length names rows are)

-- what is reached from a place of a closed list is of a place of it
pub closed_reach : (names : Names) (rows : List (List ℕ)) (found : List ℕ) (y : ℕ) → AreCallees names rows → AreNumbered names →
    IsClosed rows found → (n i : ℕ) (f : Function) → Has found i → slice_get names.functions i ≡ Some f →
    reaches_within names n f.number y ≡ true → (j : ℕ) × (g : Function) × Has found j × (slice_get names.functions j ≡ Some g) × (g.number ≡ y)
closed_reach names rows found y are numbered closed zero i f has at is =
    (i, f, has, at, grind (arith, nat_tests, is))
closed_reach names rows found y are numbered closed (suc n) i f has at is =
    by (first_call names n f.number y is) (closed_reach names rows found y are numbered closed n)
  where
    by : (f.number ≡ y) ⊎ ((next : ℕ) × Calls names f.number next × (reaches_within names n next y ≡ true))
        → ((i' : ℕ) (f' : Function) → Has found i' → slice_get names.functions i' ≡ Some f' → reaches_within names n f'.number y ≡ true
        → (j : ℕ) × (g : Function) × Has found j × (slice_get names.functions j ≡ Some g) × (g.number ≡ y))
        → (j : ℕ) × (g : Function) × Has found j × (slice_get names.functions j ≡ Some g) × (g.number ≡ y)
    by (inl same) rest = (i, f, has, at, same)
    by (inr next) rest =
        let j = called_leads names rows i next.0 f are numbered at next.1 in
        rest j.0 j.1 (closed i j.0 has j.2 (place_within names rows j.0 j.1 are j.3)) j.3 (subst (λ z. reaches_within names n z y ≡ true) (sym j.4) next.2)

-- what is reached is ranked no higher
pub ranked_reach : (names : Names) (rows : List (List ℕ)) (ranks : List ℕ) → AreCallees names rows → AreNumbered names → AreRanked ranks rows →
    (n i : ℕ) (f : Function) (o : ℕ) (h : Function) → slice_get names.functions i ≡ Some f → slice_get names.functions o ≡ Some h →
    ((a b : ℕ) (fa fb : Function) → slice_get names.functions a ≡ Some fa → slice_get names.functions b ≡ Some fb → fa.number ≡ fb.number → a ≡ b) →
    reaches_within names n f.number h.number ≡ true → slice_index ranks o ≤ slice_index ranks i
ranked_reach names rows ranks are numbered ranked zero i f o h at there apart is =
    let same : i ≡ o = apart i o f h at there (grind (arith, nat_tests, is)) in
    let equal = ap (λ (k : ℕ). get_or ranks k 0) same in omega (arith, equal)
ranked_reach names rows ranks are numbered ranked (suc n) i f o h at there apart is =
    by (first_call names n f.number h.number is) (λ j g. ranked_reach names rows ranks are numbered ranked n j g o h)
  where
    by : (f.number ≡ h.number) ⊎ ((next : ℕ) × Calls names f.number next × (reaches_within names n next h.number ≡ true))
        → ((j : ℕ) (g : Function) → slice_get names.functions j ≡ Some g → slice_get names.functions o ≡ Some h →
        ((a b : ℕ) (fa fb : Function) → slice_get names.functions a ≡ Some fa → slice_get names.functions b ≡ Some fb → fa.number ≡ fb.number → a ≡ b)
        → reaches_within names n g.number h.number ≡ true → slice_index ranks o ≤ slice_index ranks j)
        → slice_index ranks o ≤ slice_index ranks i
    by (inl same) rest =
        let place : i ≡ o = apart i o f h at there same in
        let equal = ap (λ (k : ℕ). get_or ranks k 0) place in omega (arith, equal)
    by (inr next) rest =
        let j = called_leads names rows i next.0 f are numbered at next.1 in
        let low = rest j.0 j.1 j.3 there apart (subst (λ z. reaches_within names n z h.number ≡ true) (sym j.4) next.2) in
        let step = ranked i j.0 j.2 in
        omega (arith, low, step)

-- two truths that follow from each other
pub same_truth : (a b : Bool) → (a ≡ true → b ≡ true) → (b ≡ true → a ≡ true) → a ≡ b
same_truth true b one other = sym (one refl)
same_truth false true one other = other refl
same_truth false false one other = refl

-- what a search finds
pub search_answer : (names : Names) (rows : List (List ℕ)) (numbers found : List ℕ) (i : ℕ) (f : Function) (owner : ℕ) →
    AreCallees names rows → AreNumbered names → numbers ≡ map (λ g. g.number) names.functions → slice_get names.functions i ≡ Some f →
    Has found i → IsClosed rows found → AllPass (reached_place names f.number) found →
    list_any (λ place. slice_index numbers place == owner) found ≡ reaches names f.number owner
search_answer names rows numbers found i f owner are numbered same at has closed pass =
    same_truth (list_any (λ place. slice_index numbers place == owner) found) (reaches names f.number owner) one other
  where
    number_of : (j : ℕ) (g : Function) → slice_get names.functions j ≡ Some g → slice_index numbers j ≡ g.number
    number_of j g there =
        ap (λ (l : List ℕ). slice_index l j) same
        ∙ get_or_from_slice_get (map (λ (h : Function). h.number) names.functions) j g.number 0 (at_map (λ h. h.number) names.functions j g there)

    one : list_any (λ place. slice_index numbers place == owner) found ≡ true → reaches names f.number owner ≡ true
    one any =
        let place = any_has (λ p. slice_index numbers p == owner) found any in
        let g = reached_at names f.number place.0 (pass place.1.0 place.0 place.1.1) in
        let equal : slice_index numbers place.0 ≡ owner = grind (arith, nat_tests, place.2) in
        subst (λ z. reaches names f.number z ≡ true) (sym (number_of place.0 g.0 g.1) ∙ equal) g.2

    other : reaches names f.number owner ≡ true → list_any (λ place. slice_index numbers place == owner) found ≡ true
    other is =
        let j = closed_reach names rows found owner are numbered closed (length names.functions) i f has at is in
        has_any (λ p. slice_index numbers p == owner) found j.2.0 j.0 j.2.1
        (eq-eqb (slice_index numbers j.0) owner (number_of j.0 j.1 j.3 ∙ j.4))

-- a function of a lower rank does not reach
pub before_false : (names : Names) (rows : List (List ℕ)) (ranks numbers : List ℕ) (i : ℕ) (f : Function) (o number : ℕ) →
    AreCallees names rows → AreNumbered names → AreRanked ranks rows → numbers ≡ map (λ g. g.number) names.functions →
    ((a b : ℕ) (fa fb : Function) → slice_get names.functions a ≡ Some fa → slice_get names.functions b ≡ Some fb → fa.number ≡ fb.number → a ≡ b) →
    slice_get names.functions i ≡ Some f → slice_get numbers o ≡ Some number → slice_index ranks i < slice_index ranks o →
    reaches names f.number number ≡ false
before_false names rows ranks numbers i f o number are numbered ranked same apart at there below =
    by (reaches names f.number number) refl
  where
    by : (b : Bool) → reaches names f.number number ≡ b → reaches names f.number number ≡ false
    by false is = is
    by true is =
        let h = map_at (λ g. g.number) names.functions o number (ap (λ l. slice_get l o) (sym same) ∙ there) in
        let low = ranked_reach names rows ranks are numbered ranked (length names.functions) i f o h.0 at h.1 apart
        (subst (λ z. reaches names f.number z ≡ true) (sym h.2) is) in
        absurd (omega (arith, low, below))
