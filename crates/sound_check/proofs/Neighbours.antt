-- Labels in their order differ where no two neighbours are the same.
use Rattle.std.proofs.Common.{arith, ◌≡◌, ◌≢◌, ◌<◌, ◌+◌, ◌∙◌, ℕ, true, false, Bool, List, length, get_or, Option, Some, None, refl, sym, ap, subst, Ordering, Less, Equal, Greater}
use Rattle.std.specs.Prelude.{AllPairs, ℤ}
use Rattle.std.specs.Option.{option_cmp}
use Rattle.std.specs.Ordering.{int_cmp, is_lt}
use Rattle.std.specs.List.Sorted.{IsSorted}
use Rattle.std.specs.Cmp.{int_cmp_is}
use Rattle.std.specs.Cmp.Lexicographic.{options_total}
use Rattle.std.proofs.lemmas.Cmp.{int_cmp_total, int_ranked}
use Rattle.std.proofs.lemmas.List.Sorted.{ranks_by, sorted_far}

-- a label is before another
abbrev is_before : Option ℤ → Option ℤ → Bool
is_before a b = is_lt (option_cmp int_cmp a b)

-- numbers of which neither is before the other are the same
same_number : (a b : ℤ) (r : Ordering) → r ≡ int_cmp a b → is_lt r ≡ false → is_lt (int_cmp b a) ≡ false → a ≡ b
same_number a b Less is h k = absurd (cc)
same_number a b Equal is h k = int_ranked a b Equal is
same_number a b Greater is h k =
    let back : Less ≡ int_cmp b a = int_cmp_is b a Less (int_ranked a b Greater is) in
    let t : true ≡ false = ap is_lt back ∙ k in absurd (cc)

-- labels of which neither is before the other are the same
same_label : (a b : Option ℤ) → is_before a b ≡ false → is_before b a ≡ false → a ≡ b
same_label None None h k = refl
same_label None (Some b) h k = absurd (cc)
same_label (Some a) None h k = absurd (cc)
same_label (Some a) (Some b) h k = ap (λ n. Some n) (same_number a b (int_cmp a b) refl h k)

-- where two labels were the same, one and its neighbour would be
pub differ_in_order : (labels : List (Option ℤ)) → IsSorted (option_cmp int_cmp) labels →
    ((k : ℕ) (d : Option ℤ) → k + 1 < length labels → get_or labels k d ≢ get_or labels (k + 1) d) →
    AllPairs (λ (a b : Option ℤ). a ≢ b) labels
differ_in_order labels sorted apart i j d below within same =
    let far : is_before (get_or labels j d) (get_or labels (i + 1) d) ≡ false =
    sorted_far is_before (ranks_by (options_total int_cmp_total) (λ x. x)) labels sorted (i + 1) j d (omega (arith, below)) within in
    let near : is_before (get_or labels (i + 1) d) (get_or labels i d) ≡ false = sorted i d (omega arith) (omega (arith, below, within)) in
    apart i d (omega (arith, below, within))
    (same_label _ _ (subst (λ x. is_before x (get_or labels (i + 1) d) ≡ false) (sym same) far) near)
