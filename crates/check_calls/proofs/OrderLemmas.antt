-- An order of functions by their places.
use Rattle.std.proofs.Common.{◌≡◌, ◌≢◌, ◌⊎◌, ◌+◌, ◌-◌, ◌^◌, ◌<◌, ◌≤◌, ◌==◌, ◌∙◌, ℕ, zero, suc, Bool, true, false, cond, List, [], ◌∷◌, Option, None, Some, inl, inr, refl, ap, sym, subst, arith, length, get_or, set, eq-eqb}
use Rattle.std.specs.Prelude.{AllPairs, find, map, position, slice_get, slice_index}
use Rattle.std.proofs.lemmas.Bool.{cases_lt}
use Rattle.std.proofs.lemmas.List.{get_or-set_other, get_or-set_same}
use Rattle.std.proofs.lemmas.Bool.Decides.{nat_tests}
use Rattle.std.proofs.lemmas.Option.{get_or_from_slice_get, none-some, same_Some, slice_get-get_or, slice_get_within}
use Rattle.std.specs.List.Sorted.{IsStrictlyIncreasing}
use Rattle.capl_meaning.specs.Names.{Function, Names}
use Rattle.capl_meaning.specs.Calls.{function_numbered}
use Rattle.typed_source.specs.Expression.{place_in}
use Rattle.typed_source.specs.Program.{HasEach, HasNoOther}
use Rattle.check_calls.specs.Calls.{AreAt}
use Rattle.check_calls.specs.Graph.{AreApart, Has}
use Rattle.check_calls.specs.Inside.Order.{AreWhere}
use Rattle.check_calls.proofs.GraphLemmas.{AreNumbered, at_map, map_at}
use Rattle.check_calls.proofs.PlaceLemmas.{at_first, no_first}
use Rattle.check_calls.proofs.ReachLemmas.{found_has}

-- numbers that rise are below each later one
pub rise_far : (numbers : List ℕ) → IsStrictlyIncreasing numbers → (d i : ℕ) → i + suc d < length numbers → slice_index numbers i < slice_index numbers (i + suc d)
rise_far numbers rise zero i within =
    let same : i + 1 ≡ i + suc 0 = omega arith in
    subst (λ k. slice_index numbers i < slice_index numbers k) same (rise i (omega (arith, within)))
rise_far numbers rise (suc d) i within =
    let before = rise_far numbers rise d i (omega (arith, within)) in
    let step = rise (i + suc d) (omega (arith, within)) in
    let same : i + suc d + 1 ≡ i + suc (suc d) = omega arith in
    subst (λ k. slice_index numbers i < slice_index numbers k) same (omega (arith, before, step))

-- numbers that rise are at least as high as they stand
at_least : (numbers : List ℕ) (k : ℕ) → IsStrictlyIncreasing numbers → k < length numbers → k ≤ slice_index numbers k
at_least numbers zero rise within = omega arith
at_least numbers (suc k) rise within =
    let before = at_least numbers k rise (omega (arith, within)) in
    let same : k + 1 ≡ suc k = omega arith in
    let step = subst (λ j. slice_index numbers k < slice_index numbers j) same (rise k (omega (arith, within))) in
    omega (arith, before, step)

-- numbers of 32 bits that rise from 1 on are fewer than 2^32
pub few_numbers : (numbers : List ℕ) → IsStrictlyIncreasing (0 ∷ numbers) → ((k : ℕ) → get_or numbers k 0 < 2 ^ 32) →
    length numbers < 2 ^ 32
few_numbers [] rise fits = omega arith
few_numbers (n ∷ ns) rise fits =
    let low = at_least (0 ∷ n ∷ ns) (suc (length ns)) rise (omega arith) in
    let high = fits (length ns) in
    omega (arith, low, high)

-- the same without the 0 before them
pub rise_behind : (numbers : List ℕ) → IsStrictlyIncreasing (0 ∷ numbers) → IsStrictlyIncreasing numbers
rise_behind numbers rise k within =
    let same : suc k + 1 ≡ suc (k + 1) = omega arith in
    subst (λ j. slice_index numbers k < slice_index (0 ∷ numbers) j) same (rise (suc k) (omega (arith, within)))

-- numbers that rise differ
rise_apart : (numbers : List ℕ) → IsStrictlyIncreasing numbers → (i j : ℕ) → i < length numbers → j < length numbers →
    slice_index numbers i ≡ slice_index numbers j → i ≡ j
rise_apart numbers rise i j one other same = by (cases_lt i j) (cases_lt j i)
  where
    below : (a b : ℕ) → a < b → b < length numbers → slice_index numbers a < slice_index numbers b
    below a b less within =
        let d : (d : ℕ) × (a + suc d ≡ b) = (b - suc a, omega (arith, less)) in
        subst (λ k. slice_index numbers a < slice_index numbers k) d.1 (rise_far numbers rise d.0 a (omega (arith, d.1, within)))

    by : (i < j) ⊎ (j ≤ i) → (j < i) ⊎ (i ≤ j) → i ≡ j
    by (inl less) more = let h = below i j less other in absurd (omega (arith, h, same))
    by (inr most) (inl less) = let h = below j i less one in absurd (omega (arith, h, same))
    by (inr most) (inr least) = omega (arith, most, least)

-- functions of one number stand at one place
pub functions_apart : (names : Names) (numbers : List ℕ) → numbers ≡ map (λ f. f.number) names.functions → IsStrictlyIncreasing numbers →
    (i j : ℕ) (f g : Function) → slice_get names.functions i ≡ Some f → slice_get names.functions j ≡ Some g → f.number ≡ g.number → i ≡ j
functions_apart names numbers same rise i j f g one other equal =
    let a = ap (λ l. slice_get l i) same ∙ at_map (λ h. h.number) names.functions i f one in
    let b = ap (λ l. slice_get l j) same ∙ at_map (λ h. h.number) names.functions j g other in
    rise_apart numbers rise i j (slice_get_within numbers i f.number a) (slice_get_within numbers j g.number b)
    (get_or_from_slice_get numbers i f.number 0 a ∙ equal ∙ sym (get_or_from_slice_get numbers j g.number 0 b))

-- something is found where something passes
found_some : {X : Type 0} (p : X → Bool) (xs : List X) (k : ℕ) (x : X) → slice_get xs k ≡ Some x → p x ≡ true → (y : X) × (find p xs ≡ Some y)
found_some p [] k x at is = cc
found_some p (y ∷ xs) zero x at is =
    let same : y ≡ x = same_Some y x at in (y, ap (λ b. cond b (Some y) (find p xs)) (ap p same ∙ is))
found_some {X} p (y ∷ xs) (suc k) x at is = by (p y) (found_some p xs k x at is)
  where
    by : (b : Bool) → (z : X) × (find p xs ≡ Some z) → (z : X) × (cond b (Some y) (find p xs) ≡ Some z)
    by true rest = (y, refl)
    by false rest = rest

-- the function of a number
pub functions_numbered : (names : Names) → ((i j : ℕ) (f g : Function) → slice_get names.functions i ≡ Some f →
    slice_get names.functions j ≡ Some g → f.number ≡ g.number → i ≡ j) → AreNumbered names
functions_numbered names apart k f at =
    let found = found_some (λ g. g.number == f.number) names.functions k f at (eq-eqb f.number f.number refl) in
    let has = found_has (λ g. g.number == f.number) names.functions found.0 found.1 in
    let equal : found.0.number ≡ f.number = grind (arith, nat_tests, has.1) in
    let place = apart has.0.0 k found.0 f has.0.1 at equal in
    let same : found.0 ≡ f = same_Some found.0 f (sym has.0.1 ∙ ap (slice_get names.functions) place ∙ at) in
    found.1 ∙ ap (λ g. Some g) same

-- What an order is made of: the numbers of all functions, and the places of all in some order.
pub record IsMade (names : Names) (numbers indices order : List ℕ) : Type 0 where
  pub all : numbers ≡ map (λ f. f.number) names.functions
  pub apart : (i j : ℕ) (f g : Function) → slice_get names.functions i ≡ Some f →
      slice_get names.functions j ≡ Some g → f.number ≡ g.number → i ≡ j
  pub each : (place : ℕ) → place < length numbers → Has indices place
  pub within : (k place : ℕ) → slice_get indices k ≡ Some place → place < length numbers
  pub once : AreApart indices
  pub taken : order ≡ map (slice_index numbers) indices

-- the number at a place of the order
order_at : (names : Names) (numbers indices order : List ℕ) → IsMade names numbers indices order → (k i : ℕ) (f : Function) →
    slice_get indices k ≡ Some i → slice_get names.functions i ≡ Some f → slice_get order k ≡ Some f.number
order_at names numbers indices order made k i f at there =
    let number = ap (λ l. slice_get l i) made.all ∙ at_map (λ h. h.number) names.functions i f there in
    ap (λ l. slice_get l k) made.taken ∙ at_map (slice_index numbers) indices k i at
    ∙ ap (λ n. Some n) (get_or_from_slice_get numbers i f.number 0 number)

-- the function at a place of the order
pub at_order : (names : Names) (numbers indices order : List ℕ) → IsMade names numbers indices order → AreAt names order indices
at_order names numbers indices order made k number at =
    let i = map_at (slice_index numbers) indices k number (ap (λ l. slice_get l k) (sym made.taken) ∙ at) in
    let within = made.within k i.0 i.1 in
    let here = ap (λ l. slice_get l i.0) (sym made.all) ∙ slice_get-get_or numbers i.0 0 within in
    let f = map_at (λ h. h.number) names.functions i.0 (slice_index numbers i.0) here in
    (i.0, f.0, i.1, f.1, f.2 ∙ i.2)

-- each function stands in the order
function_in_order : (names : Names) (numbers indices order : List ℕ) → IsMade names numbers indices order → (i : ℕ) (f : Function) →
    slice_get names.functions i ≡ Some f → (k : ℕ) × (slice_get indices k ≡ Some i) × (slice_get order k ≡ Some f.number)
function_in_order names numbers indices order made i f at =
    let number = ap (λ l. slice_get l i) made.all ∙ at_map (λ h. h.number) names.functions i f at in
    let k = made.each i (slice_get_within numbers i f.number number) in
    (k.0, k.1, order_at names numbers indices order made k.0 i f k.1 at)

-- the order has each function
pub order_each : (names : Names) (numbers indices order : List ℕ) → IsMade names numbers indices order → HasEach names order
order_each names numbers indices order made number f is =
    let has = found_has (λ g. g.number == number) names.functions f is in
    let equal : f.number ≡ number = grind (arith, nat_tests, has.1) in
    let k = function_in_order names numbers indices order made has.0.0 f has.0.1 in
    (k.0, slice_get_within order k.0 f.number k.2, get_or_from_slice_get order k.0 number number (k.2 ∙ ap (λ n. Some n) equal))

-- and no other
pub order_no_other : (names : Names) (numbers indices order : List ℕ) → IsMade names numbers indices order → HasNoOther names order
order_no_other names numbers indices order made k number at =
    let there = at_order names numbers indices order made k number at in
    (there.1, ap (function_numbered names) (sym there.4) ∙ functions_numbered names made.apart there.0 there.1 there.3)

-- one number stands at one place of the order
one_place : (names : Names) (numbers indices order : List ℕ) → IsMade names numbers indices order → (j k number : ℕ) →
    slice_get order j ≡ Some number → slice_get order k ≡ Some number → j ≡ k
one_place names numbers indices order made j k number one other =
    let a = at_order names numbers indices order made j number one in
    let b = at_order names numbers indices order made k number other in
    let same = made.apart a.0 b.0 a.1 b.1 a.3 b.3 (a.4 ∙ sym b.4) in
    made.once j k b.0 (a.2 ∙ ap (λ n. Some n) same) b.2

-- no number stands twice
pub order_once : (names : Names) (numbers indices order : List ℕ) → IsMade names numbers indices order →
    AllPairs (λ one other. one ≢ other) order
order_once names numbers indices order made i j d below within equal =
    let one = slice_get-get_or order i d (omega (arith, below, within)) in
    let other = slice_get-get_or order j d within in
    let same = one_place names numbers indices order made i j (get_or order j d) (one ∙ ap (λ n. Some n) equal) other in
    omega (arith, below, same)

-- where a function stands in the order
pub order_place : (names : Names) (numbers indices order places : List ℕ) → IsMade names numbers indices order → AreWhere places indices →
    (i : ℕ) (f : Function) → slice_get names.functions i ≡ Some f → place_in order f.number ≡ Some (slice_index places i)
order_place names numbers indices order places made where_ i f at =
    by (position (λ other. other == f.number) order) refl
  where
    known : (k : ℕ) × (slice_get indices k ≡ Some i) × (slice_get order k ≡ Some f.number)
    known = function_in_order names numbers indices order made i f at

    by : (o : Option ℕ) → position (λ other. other == f.number) order ≡ o → position (λ other. other == f.number) order ≡ Some (slice_index places i)
    by None is =
        let found = found_some (λ other. other == f.number) order known.0 f.number known.2 (eq-eqb f.number f.number refl) in
        absurd (none-some found.0 (sym (no_first (λ other. other == f.number) order is) ∙ found.1))
    by (Some j) is =
        let first = at_first (λ other. other == f.number) j order is in
        let has = found_has (λ other. other == f.number) order first.0 first.2 in
        let equal : first.0 ≡ f.number = grind (arith, nat_tests, has.1) in
        let same = one_place names numbers indices order made j known.0 f.number (first.1 ∙ ap (λ n. Some n) equal) known.2 in
        is ∙ ap (λ n. Some n) (same ∙ sym (where_ known.0 i known.1))

-- one more place of a list stands where it is noted
pub where_more : (places stand : List ℕ) (i : ℕ) → AreApart places → i < length places → get_or places i 0 < length stand →
    ((k place : ℕ) → k < i → slice_get places k ≡ Some place → get_or stand place 0 ≡ k) →
    (k place : ℕ) → k < i + 1 → slice_get places k ≡ Some place → get_or (set stand (get_or places i 0) i) place 0 ≡ k
where_more places stand i apart within room known k place below at = by (cases_lt k i)
  where
    here : slice_get places i ≡ Some (get_or places i 0)
    here = slice_get-get_or places i 0 within

    by : (k < i) ⊎ (i ≤ k) → get_or (set stand (get_or places i 0) i) place 0 ≡ k
    by (inl less) =
        let other : place ≢ get_or places i 0 = λ same.
        (let equal = apart k i place at (here ∙ ap (λ n. Some n) (sym same)) in omega (arith, equal, less)) in
        get_or-set_other stand (get_or places i 0) place i 0 other ∙ known k place less at
    by (inr above) =
        let last : k ≡ i = omega (arith, above, below) in
        let same : place ≡ get_or places i 0 = same_Some place (get_or places i 0) (sym at ∙ ap (slice_get places) last ∙ here) in
        ap (λ p. get_or (set stand (get_or places i 0) i) p 0) same ∙ get_or-set_same stand (get_or places i 0) i 0 room ∙ sym last
