-- The names in a table of declared variables.
use Rattle.std.proofs.Common.{◌≡◌, ℕ, Bool, true, false, ◌||◌, ◌&&◌, List, [], ◌∷◌, ◌++◌, refl, ap, sym, ◌∙◌}
use Rattle.std.specs.List.{list_any}
use Rattle.std.specs.Borrow.{Bor}
use Rattle.std.specs.BTreeSet.{insert_key}
use Rattle.std.specs.declared.cmp.Ordering.{Ordering}
use Rattle.std.specs.declared.cmp.Ordering.TheVariants.{Less, Equal, Greater}
use Rattle.std.specs.Ordering.{nat_cmp, ordering_then, is_eq, match_ordering}
use Rattle.std.specs.Cmp.Lexicographic.{slice_cmp}
use Rattle.std.specs.Str.{bytes_eq}
use Rattle.std.proofs.lemmas.Map.Text.{is_eq-slice_cmp}
use Rattle.std.proofs.lemmas.Map.Lookups.{exact_bytes, exact_pairs}
use Rattle.std.proofs.lemmas.List.Folds.{list_any-append}
use Rattle.sys_vars.specs.declared.item.SysItem.{SysItem}
use Rattle.sys_vars.specs.Name.{is_declared}
use Rattle.sys_vars.specs.Inside.Declared.{is_key}

-- the order of keys
abbrev pub key_cmp : Bor (List ℕ) × Bor (List ℕ) → Bor (List ℕ) × Bor (List ℕ) → Ordering
key_cmp x y = ordering_then (slice_cmp nat_cmp x.0.now y.0.now) (slice_cmp nat_cmp x.1.now y.1.now)

-- keys that the order does not tell apart have the same names
same_names : (space name : List ℕ) (x y : Bor (List ℕ) × Bor (List ℕ)) → key_cmp x y ≡ Equal → is_key space name x ≡ is_key space name y
same_names space name x y e =
    let same : (x.0.now, x.1.now) ≡ (y.0.now, y.1.now) =
    exact_pairs (slice_cmp nat_cmp) (slice_cmp nat_cmp) exact_bytes exact_bytes (x.0.now, x.1.now) (y.0.now, y.1.now) e in
    ap (λ (names : List ℕ × List ℕ). is_eq (ordering_then (slice_cmp nat_cmp space names.0) (slice_cmp nat_cmp name names.1))) same

or_same : (a b c : Bool) → a ≡ b → (b || c) ≡ (a || (b || c))
or_same true true c e = refl
or_same false false c e = refl
or_same true false c e = absurd cc
or_same false true c e = absurd cc

or_swap : (a b c : Bool) → (a || (b || c)) ≡ (b || (a || c))
or_swap true true c = refl
or_swap true false c = refl
or_swap false true c = refl
or_swap false false c = refl

-- one more key
pub has_more : (space name : List ℕ) (keys : List (Bor (List ℕ) × Bor (List ℕ))) (key : Bor (List ℕ) × Bor (List ℕ))
    → list_any (is_key space name) (insert_key key_cmp keys key) ≡ (is_key space name key || list_any (is_key space name) keys)
has_more space name [] key = refl
has_more space name (x ∷ xs) key = by (key_cmp key x) refl (has_more space name xs key)
  where
    by : (o : Ordering) → key_cmp key x ≡ o
        → list_any (is_key space name) (insert_key key_cmp xs key) ≡ (is_key space name key || list_any (is_key space name) xs)
        → list_any (is_key space name) (match_ordering o (key ∷ x ∷ xs) (x ∷ xs) (x ∷ insert_key key_cmp xs key))
        ≡ (is_key space name key || (is_key space name x || list_any (is_key space name) xs))
    by Less e more = refl
    by Equal e more = or_same (is_key space name key) (is_key space name x) (list_any (is_key space name) xs) (same_names space name key x e)
    by Greater e more =
        ap (λ (b : Bool). is_key space name x || b) more
        ∙ or_swap (is_key space name x) (is_key space name key) (list_any (is_key space name) xs)

then_equal : (a b : Ordering) → is_eq (ordering_then a b) ≡ (is_eq a && is_eq b)
then_equal Less b = refl
then_equal Equal b = refl
then_equal Greater b = refl

-- a key has the names that it lends
pub key_is : (space name : List ℕ) (key : Bor (List ℕ) × Bor (List ℕ)) → is_key space name key ≡ (bytes_eq space key.0.now && bytes_eq name key.1.now)
key_is space name key =
    then_equal (slice_cmp nat_cmp space key.0.now) (slice_cmp nat_cmp name key.1.now)
    ∙ ap (λ (b : Bool). b && is_eq (slice_cmp nat_cmp name key.1.now)) (is_eq-slice_cmp space key.0.now)
    ∙ ap (λ (b : Bool). bytes_eq space key.0.now && b) (is_eq-slice_cmp name key.1.now)

or_last : (a b : Bool) → (a || b) ≡ (b || (a || false))
or_last true true = refl
or_last true false = refl
or_last false true = refl
or_last false false = refl

-- one more variable in a table of the first ones
pub declared_more : (space name : List ℕ) (keys more : List (Bor (List ℕ) × Bor (List ℕ))) (key : Bor (List ℕ) × Bor (List ℕ)) (items longer : List SysItem) (item : SysItem)
    → more ≡ insert_key key_cmp keys key → key.0.now ≡ item.space → key.1.now ≡ item.name → longer ≡ items ++ item ∷ []
    → list_any (is_key space name) keys ≡ is_declared items space name
    → list_any (is_key space name) more ≡ is_declared longer space name
declared_more space name keys more key items longer item inserted same_space same_name grown known =
    ap (λ (ks : List (Bor (List ℕ) × Bor (List ℕ))). list_any (is_key space name) ks) inserted ∙ has_more space name keys key
    ∙ ap (λ (b : Bool). b || list_any (is_key space name) keys) (key_is space name key
    ∙ ap (λ (s : List ℕ). bytes_eq space s && bytes_eq name key.1.now) same_space
    ∙ ap (λ (n : List ℕ). bytes_eq space item.space && bytes_eq name n) same_name)
    ∙ ap (λ (b : Bool). (bytes_eq space item.space && bytes_eq name item.name) || b) known
    ∙ or_last (bytes_eq space item.space && bytes_eq name item.name) (is_declared items space name)
    ∙ sym (list_any-append (λ (i : SysItem). bytes_eq space i.space && bytes_eq name i.name) items (item ∷ []))
    ∙ ap (λ (is : List SysItem). is_declared is space name) (sym grown)
