-- Functions of one component reach each other, and no call reaches a procedure that is no function.
use Rattle.std.proofs.Common.{◌≡◌, ◌⊎◌, ◌+◌, ◌-◌, ◌<◌, ◌≤◌, ◌∙◌, ℕ, zero, suc, Bool, true, false, List, Some, inl, inr, refl, ap, sym, subst, arith, length, get_or, take}
use Rattle.std.specs.Prelude.{map, slice_get, slice_index}
use Rattle.std.specs.Option.{option_map_or}
use Rattle.std.proofs.lemmas.Bool.{cases_lt}
use Rattle.std.proofs.lemmas.Bool.Decides.{nat_tests}
use Rattle.std.proofs.lemmas.Option.{get_or_from_slice_get, same_Some, slice_get_within}
use Rattle.std.specs.List.Sorted.{IsStrictlyIncreasing}
use Rattle.capl_meaning.specs.Names.{Function, Names}
use Rattle.capl_meaning.specs.Calls.{reaches, reaches_within}
use Rattle.check_calls.specs.Graph.{AreCallees, AreReached, AreReaching, Has, Leads, Reaches}
use Rattle.check_calls.specs.Inside.Marks.{IsMarked}
use Rattle.check_calls.proofs.GraphLemmas.{AreNumbered, at_map, map_at, reached_at, reached_keeps, reached_place}
use Rattle.check_calls.proofs.OrderLemmas.{rise_far}
use Rattle.check_calls.proofs.ReachLemmas.{Calls, called_function, first_call, itself}
use Rattle.check_calls.proofs.SearchLemmas.{has_take}

-- what is reached by the rows is reached by calls
pub reached_number : (names : Names) (rows : List (List ℕ)) (numbers : List ℕ) (i : ℕ) (f : Function) (o number : ℕ) →
    AreCallees names rows → AreNumbered names → numbers ≡ map (λ g. g.number) names.functions →
    slice_get names.functions i ≡ Some f → slice_get numbers o ≡ Some number → Reaches rows i o → reaches names f.number number ≡ true
reached_number names rows numbers i f o number are numbered same at there reach =
    let test = reached_place names f.number in
    let first : test i ≡ true =
    ap (λ p. option_map_or (λ g. reaches names f.number g.number) p false) at ∙ itself names (length names.functions) f.number in
    let g = reached_at names f.number o (reach test (reached_keeps names rows f.number are numbered) first) in
    let h = map_at (λ g. g.number) names.functions o number (ap (λ l. slice_get l o) (sym same) ∙ there) in
    let equal : g.0 ≡ h.0 = same_Some g.0 h.0 (sym g.1 ∙ h.1) in
    subst (λ z. reaches names f.number z ≡ true) (ap (λ (k : Function). k.number) equal ∙ h.2) g.2

-- what a function reaches is a function
reached_function : (names : Names) (y n : ℕ) (f : Function) → Has names.functions f → reaches_within names n f.number y ≡ true →
    (g : Function) × Has names.functions g × (g.number ≡ y)
reached_function names y zero f has is = (f, has, grind (arith, nat_tests, is))
reached_function names y (suc n) f has is = by (first_call names n f.number y is) (reached_function names y n)
  where
    by : (f.number ≡ y) ⊎ ((next : ℕ) × Calls names f.number next × (reaches_within names n next y ≡ true))
        → ((f' : Function) → Has names.functions f' → reaches_within names n f'.number y ≡ true → (g : Function) × Has names.functions g × (g.number ≡ y))
        → (g : Function) × Has names.functions g × (g.number ≡ y)
    by (inl same) rest = (f, has, same)
    by (inr next) rest =
        let g = called_function names f.number next.0 next.1 in
        rest g.0 g.1 (subst (λ z. reaches_within names n z y ≡ true) (sym g.2) next.2)

-- a number that is no function's is not reached
pub not_reached : (names : Names) (numbers : List ℕ) (i : ℕ) (f : Function) (number : ℕ) →
    numbers ≡ map (λ g. g.number) names.functions → slice_get names.functions i ≡ Some f →
    ((k : ℕ) → slice_get numbers k ≡ Some number → ⊥) → reaches names f.number number ≡ false
not_reached names numbers i f number same at none = by (reaches names f.number number) refl
  where
    by : (b : Bool) → reaches names f.number number ≡ b → reaches names f.number number ≡ false
    by false is = is
    by true is =
        let g = reached_function names number (length names.functions) f (i, at) is in
        let here = at_map (λ h. h.number) names.functions g.1.0 g.0 g.1.1 in
        absurd (none g.1.0 (ap (λ l. slice_get l g.1.0) same ∙ here ∙ ap (λ (n : ℕ). Some n) g.2))

-- numbers that rise do not fall
pub rise_below : (numbers : List ℕ) → IsStrictlyIncreasing numbers → (i j : ℕ) → i ≤ j → j < length numbers → get_or numbers i 0 ≤ get_or numbers j 0
rise_below numbers rise i j most within = by (cases_lt i j)
  where
    by : (i < j) ⊎ (j ≤ i) → get_or numbers i 0 ≤ get_or numbers j 0
    by (inl less) =
        let d : (d : ℕ) × (i + suc d ≡ j) = (j - suc i, omega (arith, less)) in
        let h = subst (λ k. slice_index numbers i < slice_index numbers k) d.1 (rise_far numbers rise d.0 i (omega (arith, d.1, within))) in
        omega (arith, h)
    by (inr least) =
        let same : i ≡ j = omega (arith, most, least) in
        let equal = ap (λ (k : ℕ). get_or numbers k 0) same in omega (arith, equal)

-- a number that numbers are below up to an index, and above from there on, is none of them
pub absent : (numbers xs : List ℕ) (number i : ℕ) → xs ≡ numbers → ((k : ℕ) → k < i → get_or xs k 0 < number) →
    ((k : ℕ) → i ≤ k → k < length xs → number < get_or xs k 0) → (k : ℕ) → slice_get numbers k ≡ Some number → ⊥
absent numbers xs number i same below above k at = by (cases_lt k i)
  where
    here : slice_get xs k ≡ Some number
    here = ap (λ (l : List ℕ). slice_get l k) same ∙ at

    value : get_or xs k 0 ≡ number
    value = get_or_from_slice_get xs k number 0 here

    by : (k < i) ⊎ (i ≤ k) → ⊥
    by (inl less) = let h = below k less in omega (arith, h, value)
    by (inr least) = let h = above k least (slice_get_within xs k number here) in omega (arith, h, value)

-- a root is reached from itself, and what it leads to is reached from it
pub reached_more : (rows : List (List ℕ)) (roots : List ℕ) (before after : List Bool) (New : ℕ → Type 0) → IsMarked before after New →
    ((place : ℕ) → New place → Reaches rows (slice_index roots place) place) → AreReached rows roots before → AreReached rows roots after
reached_more rows roots before after New marked new are place at = by (marked place at)
  where
    by : (slice_get before place ≡ Some true) ⊎ New place → Reaches rows (slice_index roots place) place
    by (inl was) = are place was
    by (inr is) = new place is

-- the same the other way
pub reaching_more : (rows : List (List ℕ)) (roots : List ℕ) (before after : List Bool) (New : ℕ → Type 0) → IsMarked before after New →
    ((place : ℕ) → New place → Reaches rows place (slice_index roots place)) → AreReaching rows roots before → AreReaching rows roots after
reaching_more rows roots before after New marked new are place at = by (marked place at)
  where
    by : (slice_get before place ≡ Some true) ⊎ New place → Reaches rows place (slice_index roots place)
    by (inl was) = are place was
    by (inr is) = new place is

-- a place reaches what is equal to it
pub reaches_same : (rows : List (List ℕ)) (from to : ℕ) → from ≡ to → Reaches rows from to
reaches_same rows from to same test keeps is = ap test (sym same) ∙ is

-- a place reaches what it leads to, and what that reaches
pub reaches_then : (rows : List (List ℕ)) (from middle to : ℕ) → Leads rows from middle → Reaches rows middle to → Reaches rows from to
reaches_then rows from middle to leads reach test keeps is = reach test keeps (keeps from middle leads is)

-- a place reaches what is led to by what it reaches
pub reaches_next : (rows : List (List ℕ)) (from middle to : ℕ) → Reaches rows from middle → Leads rows middle to → Reaches rows from to
reaches_next rows from middle to reach leads test keeps is = keeps middle to leads (reach test keeps is)

-- what reaches a root that another is reached from reaches the other
pub reaches_by_root : (rows : List (List ℕ)) (roots : List ℕ) (reached reaching : List Bool) (from to : ℕ) →
    AreReached rows roots reached → AreReaching rows roots reaching → slice_index roots from ≡ slice_index roots to →
    slice_get reaching from ≡ Some true → slice_get reached to ≡ Some true → Reaches rows from to
reaches_by_root rows roots reached reaching from to one other same up down test keeps is =
    one to down test keeps (ap test (sym same) ∙ other from up test keeps is)

-- what is marked in two steps
pub marked_then : (before middle after : List Bool) (One Two New : ℕ → Type 0) → IsMarked before middle One → IsMarked middle after Two →
    ((place : ℕ) → One place → New place) → ((place : ℕ) → Two place → New place) → IsMarked before after New
marked_then before middle after One Two New first second one two place at = by (second place at)
  where
    earlier : (slice_get before place ≡ Some true) ⊎ One place → (slice_get before place ≡ Some true) ⊎ New place
    earlier (inl was) = inl was
    earlier (inr is) = inr (one place is)

    by : (slice_get middle place ≡ Some true) ⊎ Two place → (slice_get before place ≡ Some true) ⊎ New place
    by (inl was) = earlier (first place was)
    by (inr is) = inr (two place is)

-- what is marked is among more
pub marked_wider : (before after : List Bool) (One New : ℕ → Type 0) → IsMarked before after One → ((place : ℕ) → One place → New place) →
    IsMarked before after New
marked_wider before after One New marked one place at = by (marked place at)
  where
    by : (slice_get before place ≡ Some true) ⊎ One place → (slice_get before place ≡ Some true) ⊎ New place
    by (inl was) = inl was
    by (inr is) = inr (one place is)

-- those of some places that have a root
abbrev pub OfRoot : List ℕ → ℕ → List ℕ → ℕ → Type 0
OfRoot roots root places other = Has places other × (slice_index roots other ≡ root)

-- one more place that has the root is marked
pub marked_one : (roots places : List ℕ) (root i x : ℕ) (first before after : List Bool) → i < length places → x ≡ get_or places i x →
    slice_index roots x ≡ root → IsMarked first before (OfRoot roots root (take i places)) → IsMarked before after (λ other. other ≡ x) →
    IsMarked first after (OfRoot roots root (take (i + 1) places))
marked_one roots places root i x first before after within is it one other =
    marked_then first before after (OfRoot roots root (take i places)) (λ p. p ≡ x) (OfRoot roots root (take (i + 1) places)) one other
    (λ p h. (has_take places i x within is p (inl h.0), h.1))
    (λ p same. (has_take places i x within is p (inr same), ap (slice_index roots) same ∙ it))

-- one more place that has another root is not
pub marked_none : (roots places : List ℕ) (root i x : ℕ) (first before : List Bool) → i < length places → x ≡ get_or places i x →
    IsMarked first before (OfRoot roots root (take i places)) → IsMarked first before (OfRoot roots root (take (i + 1) places))
marked_none roots places root i x first before within is one =
    marked_wider first before (OfRoot roots root (take i places)) (OfRoot roots root (take (i + 1) places)) one
    (λ p h. (has_take places i x within is p (inl h.0), h.1))

-- a root is its own
pub own_root : (roots : List ℕ) (place root other : ℕ) → root ≡ slice_index roots place → root ≡ place → other ≡ place →
    slice_index roots other ≡ other
own_root roots place root other is it same = ap (slice_index roots) same ∙ sym is ∙ it ∙ sym same

-- a root that is marked is reached from itself
pub reached_root : (rows : List (List ℕ)) (roots : List ℕ) (before after : List Bool) (place root : ℕ) → root ≡ slice_index roots place → root ≡ place →
    IsMarked before after (λ other. other ≡ place) → AreReached rows roots before → AreReached rows roots after
reached_root rows roots before after place root is it marked =
    reached_more rows roots before after (λ other. other ≡ place) marked
    (λ other same. reaches_same rows (slice_index roots other) other (own_root roots place root other is it same))

-- and reaches itself
pub reaching_root : (rows : List (List ℕ)) (roots : List ℕ) (before after : List Bool) (place root : ℕ) → root ≡ slice_index roots place → root ≡ place →
    IsMarked before after (λ other. other ≡ place) → AreReaching rows roots before → AreReaching rows roots after
reaching_root rows roots before after place root is it marked =
    reaching_more rows roots before after (λ other. other ≡ place) marked
    (λ other same. reaches_same rows other (slice_index roots other) (sym (own_root roots place root other is it same)))

-- what a marked place leads to in its component is reached from the root
pub reached_row : (rows : List (List ℕ)) (roots : List ℕ) (before after : List Bool) (place root : ℕ) (row : List ℕ) →
    root ≡ slice_index roots place → slice_get rows place ≡ Some row → slice_get before place ≡ Some true →
    IsMarked before after (OfRoot roots root row) → AreReached rows roots before → AreReached rows roots after
reached_row rows roots before after place root row is there at marked are =
    reached_more rows roots before after (OfRoot roots root row) marked
    (λ other h. reaches_next rows (slice_index roots other) place other
    (subst (λ z. Reaches rows z place) (sym (h.1 ∙ is)) (are place at)) (row, there, h.0)) are

-- what leads to a marked place of its component reaches the root
pub reaching_row : (rows : List (List ℕ)) (roots : List ℕ) (before after : List Bool) (place root to : ℕ) (row : List ℕ) →
    root ≡ slice_index roots place → slice_get rows place ≡ Some row → Has row to → slice_index roots to ≡ root → slice_get before to ≡ Some true →
    IsMarked before after (λ other. other ≡ place) → AreReaching rows roots before → AreReaching rows roots after
reaching_row rows roots before after place root to row is there has same at marked are =
    reaching_more rows roots before after (λ other. other ≡ place) marked
    (λ other it. subst (λ p. Reaches rows p (slice_index roots p)) (sym it) here) are
  where
    here : Reaches rows place (slice_index roots place)
    here = reaches_then rows place to (slice_index roots place) (row, there, has) (subst (λ z. Reaches rows to z) (same ∙ is) (are to at))
