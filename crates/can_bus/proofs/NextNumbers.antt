-- The numbers of the nodes' next requests, as a finite map and as the map of the code.
use Rattle.std.proofs.Common.{◌≡◌, ◌≢◌, ℕ, Bool, true, false, cond, List, [], ◌∷◌, refl, sym, ap, ◌∙◌, arith}
use Rattle.std.specs.Prelude.{Some}
use Rattle.std.specs.Ordering.{nat_cmp, eq_by_cmp, is_eq}
use Rattle.std.specs.Cmp.{nat_cmp_total, eq_by_cmp_equiv}
use Rattle.std.specs.Map.{lookup}
use Rattle.std.specs.BTreeMap as btree
use Rattle.std.specs.BTreeMap.{BTreeMap, Updates, is_at}
use Rattle.std.specs.FinMap.{FinMap, find, from_entries, insert, get, get-from_entries, get-insert, same_map, nat_cmp-IsAntisymmetric}
use Rattle.std.proofs.lemmas.Bool.Decides.{nat_tests}

same_test : (q node : ℕ) → q ≡ node → eq_by_cmp nat_cmp q node ≡ true
same_test q node e = grind (arith, nat_tests)

other_test : (q node : ℕ) → q ≢ node → eq_by_cmp nat_cmp q node ≡ false
other_test q node e = grind (arith, nat_tests)

-- the node whose number was put in has it
pub get-insert_same : (m : FinMap nat_cmp ℕ) (node number : ℕ) → get (insert m node number) node ≡ Some number
get-insert_same m node number = get-insert nat_cmp_total m node number node ∙ ap (λ b. cond b (Some number) (get m node)) (same_test node node refl)

-- each other node keeps its own
pub get-insert_other : (m : FinMap nat_cmp ℕ) (node number q : ℕ) → q ≢ node → get (insert m node number) q ≡ get m q
get-insert_other m node number q e = get-insert nat_cmp_total m node number q ∙ ap (λ b. cond b (Some number) (get m q)) (other_test q node e)

-- the later of two numbers of one node stands
pub insert-insert : (m : FinMap nat_cmp ℕ) (node number further : ℕ) → insert (insert m node number) node further ≡ insert m node further
insert-insert m node number further =
    same_map nat_cmp_total nat_cmp-IsAntisymmetric _ _
    (λ q. get-insert nat_cmp_total (insert m node number) node further q
    ∙ shadowed (eq_by_cmp nat_cmp q node) _ _ _ _ (get-insert nat_cmp_total m node number q)
    ∙ sym (get-insert nat_cmp_total m node further q))
  where
    shadowed : {A : Type 0} (b : Bool) (x y z w : A) → w ≡ cond b y z → cond b x w ≡ cond b x z
    shadowed true x y z w e = refl
    shadowed false x y z w e = e

-- ---- the map of the code
find-lookup : (q : ℕ) (es : List (ℕ × ℕ)) → find nat_cmp q es ≡ lookup (is_at (nat_cmp q)) es
find-lookup q [] = refl
find-lookup q (e ∷ es) = ap (cond (is_eq (nat_cmp q e.0)) (Some e.1)) (find-lookup q es)

-- what the map of the code has
pub get-map : (m : BTreeMap ℕ ℕ) (q : ℕ) → get (from_entries {R = nat_cmp} m.entries) q ≡ btree.get nat_cmp m q
get-map m q = get-from_entries nat_cmp_total m.entries q ∙ find-lookup q m.entries

-- an insertion into the map of the code
pub insert-map : (m n : BTreeMap ℕ ℕ) (node number : ℕ) → Updates nat_cmp m n node (Some number) → from_entries {R = nat_cmp} n.entries ≡ insert (from_entries m.entries) node number
insert-map m n node number h =
    same_map nat_cmp_total nat_cmp-IsAntisymmetric _ _
    (λ q. get-map n q
    ∙ h.0 q
    ∙ ap (λ b. cond b (Some number) (btree.get nat_cmp m q)) ((eq_by_cmp_equiv nat_cmp_total).symm node q)
    ∙ ap (cond (eq_by_cmp nat_cmp q node) (Some number)) (sym (get-map m q))
    ∙ sym (get-insert nat_cmp_total (from_entries m.entries) node number q))
