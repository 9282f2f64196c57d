-- A search that goes on.
use Rattle.std.proofs.Common.{◌≡◌, ◌⊎◌, ◌+◌, ◌<◌, ◌≤◌, ◌∙◌, ℕ, zero, suc, Bool, true, false, List, [], ◌∷◌, ◌++◌, Some, inl, inr, refl, ap, sym, subst, arith, eqb, length, length-append, get_or, set, take, replicate}
use Rattle.std.specs.Prelude.{slice_get}
use Rattle.std.specs.Option.{option_map}
use Rattle.std.specs.Global.{Vec}
use Rattle.std.proofs.lemmas.Bool.{cases_lt, false≢true}
use Rattle.std.proofs.lemmas.Bool.Decides.{nat_tests}
use Rattle.std.proofs.lemmas.List.{take_more}
use Rattle.std.proofs.lemmas.Map.Keys.{IsDistinct-from_apart}
use Rattle.std.proofs.lemmas.Map.Steps.{length-le_from_distinct_below}
use Rattle.std.proofs.lemmas.Option.{none-some, same_Some, slice_get-get_or, slice_get-map, slice_get_within}
use Rattle.check_calls.specs.Graph.{AreApart, Has, Keeps, rows_of}
use Rattle.check_calls.specs.Inside.Search.{AllPass, AreFlagged, AreOnce, IsClosed, IsClosedTo, IsGrown}
use Rattle.check_calls.proofs.ReachLemmas.{any_has}

-- what stands in a list stands there with one more behind it
pub push_kept : {X : Type 0} (xs : List X) (x : X) (k : ℕ) (y : X) → slice_get xs k ≡ Some y → slice_get (xs ++ x ∷ []) k ≡ Some y
push_kept [] x k y at = cc
push_kept (z ∷ xs) x zero y at = at
push_kept (z ∷ xs) x (suc k) y at = push_kept xs x k y at

-- what stands in a list with one more behind it stood there, or is the one
pub push_only : {X : Type 0} (xs : List X) (x : X) (k : ℕ) (y : X) → slice_get (xs ++ x ∷ []) k ≡ Some y →
    (slice_get xs k ≡ Some y) ⊎ (y ≡ x)
push_only [] x zero y at = inr (sym (same_Some x y at))
push_only [] x (suc k) y at = cc
push_only (z ∷ xs) x zero y at = inl at
push_only (z ∷ xs) x (suc k) y at = push_only xs x k y at

-- the one behind a list
pub push_has : {X : Type 0} (xs : List X) (x : X) → Has (xs ++ x ∷ []) x
push_has [] x = (0, refl)
push_has (z ∷ xs) x = let r = push_has xs x in (suc r.0, r.1)

-- a flag that is set was set before, or is the one
pub set_only : (flags : List Bool) (i place : ℕ) → slice_get (set flags i true) place ≡ Some true →
    (slice_get flags place ≡ Some true) ⊎ (place ≡ i)
set_only [] i place at = inl at
set_only (f ∷ flags) zero zero at = inr refl
set_only (f ∷ flags) zero (suc place) at = inl at
set_only (f ∷ flags) (suc i) zero at = inl at
set_only (f ∷ flags) (suc i) (suc place) at = by (set_only flags i place at)
  where
    by : (slice_get flags place ≡ Some true) ⊎ (place ≡ i) → (slice_get (f ∷ flags) (suc place) ≡ Some true) ⊎ (suc place ≡ suc i)
    by (inl before) = inl before
    by (inr same) = inr (ap suc same)

-- one more is found
pub flagged_more : (flags : List Bool) (found : List ℕ) (i : ℕ) → AreFlagged flags found → AreFlagged (set flags i true) (found ++ i ∷ [])
flagged_more flags found i are place at = by (set_only flags i place at)
  where
    by : (slice_get flags place ≡ Some true) ⊎ (place ≡ i) → Has (found ++ i ∷ []) place
    by (inl before) = let r = are place before in (r.0, push_kept found i r.0 place r.1)
    by (inr same) = subst (Has (found ++ i ∷ [])) (sym same) (push_has found i)

-- one more
pub grown_one : (found : List ℕ) (i : ℕ) → IsGrown found (found ++ i ∷ []) (λ other. other ≡ i)
grown_one found i = record { kept = push_kept found i; only = λ k place at. by k place (push_only found i k place at) }
  where
    by : (k place : ℕ) → (slice_get found k ≡ Some place) ⊎ (place ≡ i) → Has found place ⊎ (place ≡ i)
    by k place (inl before) = inl (k, before)
    by k place (inr same) = inr same

-- a flag that was set is set
pub set_kept : (flags : List Bool) (i place : ℕ) → slice_get flags place ≡ Some true → slice_get (set flags i true) place ≡ Some true
set_kept [] i place at = at
set_kept (f ∷ flags) zero zero at = refl
set_kept (f ∷ flags) zero (suc place) at = at
set_kept (f ∷ flags) (suc i) zero at = at
set_kept (f ∷ flags) (suc i) (suc place) at = set_kept flags i place at

-- the flag that is set
pub set_same : (flags : List Bool) (i : ℕ) → i < length flags → slice_get (set flags i true) i ≡ Some true
set_same [] i within = absurd (omega (arith, within))
set_same (f ∷ flags) zero within = refl
set_same (f ∷ flags) (suc i) within = set_same flags i (omega (arith, within))

-- one more is found that had no flag
pub once_more : (flags : List Bool) (found : List ℕ) (i : ℕ) → i < length flags → (slice_get flags i ≡ Some true → ⊥) →
    AreOnce flags found → AreOnce (set flags i true) (found ++ i ∷ [])
once_more flags found i within new are = record {
  known = λ k place at. known k place (push_only found i k place at);
  apart = λ j k place one other. apart j k place one other (push_only found i j place one) (push_only found i k place other);
}
  where
    known : (k place : ℕ) → (slice_get found k ≡ Some place) ⊎ (place ≡ i) → slice_get (set flags i true) place ≡ Some true
    known k place (inl before) = set_kept flags i place (are.known k place before)
    known k place (inr same) = subst (λ p. slice_get (set flags i true) p ≡ Some true) (sym same) (set_same flags i within)

    last : (k : ℕ) → slice_get (found ++ i ∷ []) k ≡ Some i → k ≡ length found
    last k at = by (cases_lt k (length found))
      where
        by : (k < length found) ⊎ (length found ≤ k) → k ≡ length found
        by (inl below) =
            let was = slice_get-get_or found k 0 below in
            let same = same_Some _ _ (sym (push_kept found i k (get_or found k 0) was) ∙ at) in
            absurd (new (are.known k i (was ∙ ap (λ x. Some x) same)))
        by (inr above) =
            let most = slice_get_within (found ++ i ∷ []) k i at in
            omega (arith, above, most, length-append found (i ∷ []))

    apart : (j k place : ℕ) → slice_get (found ++ i ∷ []) j ≡ Some place → slice_get (found ++ i ∷ []) k ≡ Some place
        → (slice_get found j ≡ Some place) ⊎ (place ≡ i) → (slice_get found k ≡ Some place) ⊎ (place ≡ i) → j ≡ k
    apart j k place one other (inl a) (inl b) = are.apart j k place a b
    apart j k place one other (inr same) b =
        last j (one ∙ ap (λ x. Some x) same) ∙ sym (last k (other ∙ ap (λ x. Some x) same))
    apart j k place one other (inl a) (inr same) =
        last j (one ∙ ap (λ x. Some x) same) ∙ sym (last k (other ∙ ap (λ x. Some x) same))

-- nothing was found
pub none_once : (flags : List Bool) → AreOnce flags []
none_once flags = record {
  known = λ k place at. absurd (none-some place at);
  apart = λ i j place one other. absurd (none-some place one);
}

-- no flag is set
pub none_flagged : (n : ℕ) → AreFlagged (replicate n false) []
none_flagged n place at = absurd (by n place at)
  where
    by : (m p : ℕ) → slice_get (replicate m false) p ≡ Some true → ⊥
    by zero p is = cc
    by (suc m) zero is = false≢true (same_Some false true is)
    by (suc m) (suc p) is = by m p is

-- one more of some places
pub take_has : (places : List ℕ) (i x : ℕ) → i < length places → x ≡ get_or places i x → (place : ℕ) →
    Has (take (i + 1) places) place → Has (take i places) place ⊎ (place ≡ x)
take_has places i x within is place has =
    let at = subst (λ (l : List ℕ). slice_get l has.0 ≡ Some place) (take_more places i x within) has.1 in
    by (push_only (take i places) (get_or places i x) has.0 place at)
  where
    by : (slice_get (take i places) has.0 ≡ Some place) ⊎ (place ≡ get_or places i x) → Has (take i places) place ⊎ (place ≡ x)
    by (inl before) = inl (has.0, before)
    by (inr same) = inr (same ∙ sym is)

-- the places so far, and one more
pub has_take : (places : List ℕ) (i x : ℕ) → i < length places → x ≡ get_or places i x → (place : ℕ) →
    Has (take i places) place ⊎ (place ≡ x) → Has (take (i + 1) places) place
has_take places i x within is place (inl has) =
    subst (λ (l : List ℕ). Has l place) (sym (take_more places i x within))
    (has.0, push_kept (take i places) (get_or places i x) has.0 place has.1)
has_take places i x within is place (inr same) =
    subst (λ (l : List ℕ). Has l place) (sym (take_more places i x within))
    (subst (Has (take i places ++ get_or places i x ∷ [])) (sym (same ∙ is)) (push_has (take i places) (get_or places i x)))

-- places are noted one after another
pub noted_more : (places : List ℕ) (i x : ℕ) (first before after : List ℕ) → i < length places → x ≡ get_or places i x →
    IsGrown first before (Has (take i places)) → IsGrown before after (λ other. other ≡ x) → IsGrown first after (Has (take (i + 1) places))
noted_more places i x first before after within is one other = record {
  kept = λ k place at. other.kept k place (one.kept k place at);
  only = λ k place at. by k place (other.only k place at);
}
  where
    earlier : (k place : ℕ) → Has first place ⊎ Has (take i places) place → Has first place ⊎ Has (take (i + 1) places) place
    earlier k place (inl has) = inl has
    earlier k place (inr has) = inr (has_take places i x within is place (inl has))

    by : (k place : ℕ) → Has before place ⊎ (place ≡ x) → Has first place ⊎ Has (take (i + 1) places) place
    by k place (inl has) = earlier k place (one.only has.0 place has.1)
    by k place (inr same) = inr (has_take places i x within is place (inr same))

-- one more row was followed
pub closed_more : (rows : List (List ℕ)) (before after : List ℕ) (head place : ℕ) (row : List ℕ) →
    slice_get before head ≡ Some place → slice_get rows place ≡ Some row → IsGrown before after (Has row) →
    ((x : ℕ) → Has row x → x < length rows → Has after x) → IsClosedTo rows before head → IsClosedTo rows after (head + 1)
closed_more rows before after head place row here there grown added closed k from to within at leads is =
    by (cases_lt k head) (slice_get-get_or before k 0)
  where
    by : (k < head) ⊎ (head ≤ k) → (k < length before → slice_get before k ≡ Some (get_or before k 0)) → Has after to
    by (inl below) read =
        let was = read (omega (arith, below, slice_get_within before head place here)) in
        let same : get_or before k 0 ≡ from = same_Some (get_or before k 0) from (sym (grown.kept k (get_or before k 0) was) ∙ at) in
        let r = closed k from to below (was ∙ ap (λ x. Some x) same) leads is in
        (r.0, grown.kept r.0 to r.1)
    by (inr above) read =
        let last : k ≡ head = omega (arith, above, within) in
        let same : place ≡ from = same_Some place from (sym (grown.kept head place here) ∙ ap (slice_get after) (sym last) ∙ at) in
        let it : row ≡ leads.0 = same_Some row leads.0 (sym there ∙ ap (slice_get rows) same ∙ leads.1) in
        added to (subst (λ (l : List ℕ). Has l to) (sym it) leads.2) is

-- what passes a test still does
pub pass_more : (rows : List (List ℕ)) (before after : List ℕ) (head place : ℕ) (row : List ℕ) (test : ℕ → Bool) →
    slice_get before head ≡ Some place → slice_get rows place ≡ Some row → IsGrown before after (Has row) →
    Keeps rows test → AllPass test before → AllPass test after
pass_more rows before after head place row test here there grown keeps pass k x at = by (grown.only k x at)
  where
    by : Has before x ⊎ Has row x → test x ≡ true
    by (inl has) = pass has.0 x has.1
    by (inr has) = keeps place x (row, there, has) (pass head place here)

-- one more of a list, where what it is for each item so far is known
pub here_more : (count : ℕ) (places : List ℕ) (i x : ℕ) (before after : List ℕ) → i < length places → x ≡ get_or places i x →
    ((place : ℕ) → Has (take i places) place → place < count → Has before place) → IsGrown before after (λ other. other ≡ x) →
    (x < count → Has after x) → (place : ℕ) → Has (take (i + 1) places) place → place < count → Has after place
here_more count places i x before after within is known grown added place has below = by (take_has places i x within is place has)
  where
    by : Has (take i places) place ⊎ (place ≡ x) → Has after place
    by (inl earlier) = let r = known place earlier below in (r.0, grown.kept r.0 place r.1)
    by (inr same) = subst (Has after) (sym same) (added (subst (λ n. n < count) same below))

-- the row at a place
pub row_at : (rows : List (Vec ℕ)) (place : ℕ) (row : Vec ℕ) → place < length rows → row ≡ get_or rows place row →
    slice_get (rows_of rows) place ≡ Some row.items
row_at rows place row within is =
    slice_get-map (λ (r : Vec ℕ). r.items) rows place
    ∙ ap (option_map (λ (r : Vec ℕ). r.items)) (slice_get-get_or rows place row within ∙ ap (λ (r : Vec ℕ). Some r) (sym is))

-- a read inside of a list hangs on no default
pub read_same : (places : List ℕ) (i : ℕ) → i < length places → get_or places i 0 ≡ get_or places i (get_or places i 0)
read_same places i within =
    same_Some _ _ (sym (slice_get-get_or places i 0 within) ∙ slice_get-get_or places i (get_or places i 0) within)

-- nothing stands in no list
pub none_has : (x : ℕ) → Has [] x → ⊥
none_has x has = none-some x has.1

-- all of what was found was followed
pub closed_all : (rows : List (List ℕ)) (found : List ℕ) (head : ℕ) → length found ≤ head → IsClosedTo rows found head → IsClosed rows found
closed_all rows found head past closed from to has leads is =
    let within = slice_get_within found has.0 from has.1 in
    closed has.0 from to (omega (arith, within, past)) has.1 leads is

-- no more places are found than there are
pub few_apart : (found : List ℕ) (count : ℕ) → AreApart found →
    ((k place : ℕ) → slice_get found k ≡ Some place → place < count) → length found ≤ count
few_apart found count apart within =
    length-le_from_distinct_below found count
    (IsDistinct-from_apart eqb found (λ i j d below inside. by i j d below inside (eqb (get_or found i d) (get_or found j d)) refl))
    (λ q any. let has = any_has (eqb q) found any in
    let same : q ≡ has.0 = grind (arith, nat_tests, has.2) in
    subst (λ n. n < count) (sym same) (within has.1.0 has.0 has.1.1))
  where
    by : (i j d : ℕ) → i < j → j < length found → (b : Bool) → eqb (get_or found i d) (get_or found j d) ≡ b →
        eqb (get_or found i d) (get_or found j d) ≡ false
    by i j d below inside false is = is
    by i j d below inside true is =
        let same : get_or found i d ≡ get_or found j d = grind (arith, nat_tests, is) in
        let one = slice_get-get_or found i d (omega (arith, below, inside)) ∙ ap (λ n. Some n) same in
        let equal = apart i j (get_or found j d) one (slice_get-get_or found j d inside) in
        absurd (omega (arith, below, equal))

-- what was found are places
pub once_within : (flags : List Bool) (found : List ℕ) → AreOnce flags found → (k place : ℕ) →
    slice_get found k ≡ Some place → place < length flags
once_within flags found once k place at = slice_get_within flags place true (once.known k place at)

-- no more places are found than there are flags
pub once_few : (flags : List Bool) (found : List ℕ) → AreOnce flags found → length found ≤ length flags
once_few flags found once = few_apart found (length flags) once.apart (once_within flags found once)
