-- A request that enters a list in order, and one that leaves it.
use Rattle.std.proofs.Common.{◌≡◌, ℕ, zero, suc, ◌+◌, ◌<◌, Bool, true, false, cond, not, List, [], ◌∷◌, length, map, get_or, refl, sym, ap, subst, ◌∙◌, arith, add-one}
use Rattle.std.specs.Prelude.{IsTrue, None, Some, nat_le, insert, remove}
use Rattle.std.specs.List.{All}
use Rattle.std.specs.Ordering.{nat_cmp, ordering_then, is_lt, is_eq, eq_by_cmp}
use Rattle.std.specs.declared.cmp.Ordering.{Ordering}
use Rattle.std.specs.declared.cmp.Ordering.TheVariants.{Less, Equal, Greater}
use Rattle.std.specs.Cmp.{tied_itself, eq_by_cmp_equiv}
use Rattle.std.specs.FinMap as finmap
use Rattle.std.specs.FinMap.{is_sorted, find, put, same_map, get-from_entries, get-remove, get-insert}
use Rattle.std.specs.FinMap.Entries.{below_all, where_key, by_order, is_sorted-where_key, find-where_key, find-put, is_sorted-put}
use Rattle.std.proofs.lemmas.Bool.Decides.{nat_tests}
use Rattle.std.proofs.lemmas.List.Elements.{All-head, All-tail}
use Rattle.can_frame.specs.Frame.{FrameFields}
use Rattle.can_bus.specs.declared.waiting.Waiting.{Waiting}
use Rattle.arbitration.specs.Inside.Places.{InOrder, place_behind}
use Rattle.can_bus.specs.Waiting.{RequestName, name_cmp, request_name, entry_of, requests_of}
use Rattle.can_bus.proofs.Requests.{name_cmp_total, name_cmp-IsAntisymmetric, to_T, from_T, both_true, below_member, Contains-map, reversed_not_eq}

-- ---- a request leaves
-- the test of the other names
abbrev other_than : RequestName → RequestName → Bool
other_than k q = not (eq_by_cmp name_cmp k q)

equal_dropped : (o : Ordering) → o ≡ Equal → not (is_eq o) ≡ false
equal_dropped o e = ap (λ p. not (is_eq p)) e

less_other : (o : Ordering) → IsTrue (is_lt o) → not (is_eq o) ≡ true
less_other Less h = refl
less_other Equal h = absurd (cc)
less_other Greater h = absurd (cc)

where_key-below : (k : RequestName) (es : List (RequestName × FrameFields)) → IsTrue (below_all name_cmp k es) → where_key name_cmp (other_than k) es ≡ es
where_key-below k [] h = refl
where_key-below k (e ∷ es) h =
    let parts = both_true (is_lt (name_cmp k e.0)) (below_all name_cmp k es) h in
    ap (λ b. cond b (e ∷ where_key name_cmp (other_than k) es) (where_key name_cmp (other_than k) es)) (less_other (name_cmp k e.0) parts.0)
    ∙ ap (λ rest. e ∷ rest) (where_key-below k es parts.1)

-- the entries without a request are those with another name
pub map-remove : (rs : List Waiting) (i : ℕ) (r : Waiting) → InOrder rs → i < length rs → r ≡ get_or rs i r
    → map entry_of (remove rs i) ≡ where_key name_cmp (other_than (request_name r)) (map entry_of rs)
map-remove [] i r order low is = absurd (omega arith)
map-remove (s ∷ rs) zero r order low is =
    let parts = both_true (below_all name_cmp (request_name s) (map entry_of rs)) (is_sorted name_cmp (map entry_of rs)) order in
    let P : Waiting → Type 0 = λ q. map entry_of rs ≡ where_key name_cmp (other_than (request_name q)) (map entry_of (s ∷ rs)) in
    let kept = where_key name_cmp (other_than (request_name s)) (map entry_of rs) in
    subst P (sym is)
    (sym (ap (λ b. cond b (entry_of s ∷ kept) kept) (equal_dropped _ (tied_itself name_cmp_total (request_name s))) ∙ where_key-below (request_name s) (map entry_of rs) parts.0))
map-remove (s ∷ rs) (suc i) r order low is =
    let parts = both_true (below_all name_cmp (request_name s) (map entry_of rs)) (is_sorted name_cmp (map entry_of rs)) order in
    let rest = map-remove rs i r parts.1 (omega arith) is in
    let less = below_member (request_name s) (map entry_of rs) (entry_of r) parts.0 (Contains-map entry_of r rs (i, omega arith, sym is)) in
    let kept = where_key name_cmp (other_than (request_name r)) (map entry_of rs) in
    let other : other_than (request_name r) (request_name s) ≡ true =
    ap not (ap is_eq (name_cmp_total.antisymm (request_name r) (request_name s)) ∙ reversed_not_eq (name_cmp (request_name s) (request_name r)) less) in
    ap (λ es. entry_of s ∷ es) rest ∙ sym (ap (λ b. cond b (entry_of s ∷ kept) kept) other)

turned : {A : Type 0} (b c : Bool) (x y : A) → b ≡ c → cond (not b) x y ≡ cond c y x
turned true c x y e = ap (λ t. cond t y x) e
turned false c x y e = ap (λ t. cond t y x) e

alike : (k q x : RequestName) → name_cmp q x ≡ Equal → other_than k x ≡ other_than k q
alike k q x e = ap (other_than k) (sym (name_cmp-IsAntisymmetric q x e))

-- the list without the request is the set without it, and still in order
pub requests_of-remove : (rs : List Waiting) (i : ℕ) (r : Waiting) → InOrder rs → i < length rs → r ≡ get_or rs i r
    → requests_of (remove rs i) ≡ finmap.remove (requests_of rs) (request_name r)
requests_of-remove rs i r order low is =
    let k : RequestName = request_name r in
    same_map name_cmp_total name_cmp-IsAntisymmetric _ _
    (λ q. get-from_entries name_cmp_total (map entry_of (remove rs i)) q
    ∙ ap (find name_cmp q) (map-remove rs i r order low is)
    ∙ find-where_key name_cmp (other_than k) q (alike k q) (map entry_of rs)
    ∙ turned (eq_by_cmp name_cmp k q) (eq_by_cmp name_cmp q k) (find name_cmp q (map entry_of rs)) None ((eq_by_cmp_equiv name_cmp_total).symm k q)
    ∙ ap (cond (eq_by_cmp name_cmp q k) None) (sym (get-from_entries name_cmp_total (map entry_of rs) q))
    ∙ sym (get-remove name_cmp_total (requests_of rs) k q))

-- and they stay in order
pub in_order-remove : (rs : List Waiting) (i : ℕ) (r : Waiting) → InOrder rs → i < length rs → r ≡ get_or rs i r
    → InOrder (remove rs i)
in_order-remove rs i r order low is =
    let P : List (RequestName × FrameFields) → Type 0 = λ es. IsTrue (is_sorted name_cmp es) in
    subst P (sym (map-remove rs i r order low is)) (from_T _ (is_sorted-where_key name_cmp (other_than (request_name r)) (map entry_of rs) (to_T _ order)))

-- ---- a request enters
later_number : (m n p q : ℕ) → nat_le n m ≡ true → (n ≡ m → q < p) → ordering_then (nat_cmp m n) (nat_cmp p q) ≡ Greater
later_number m n p q le less = grind (arith, nat_tests)

greater_node : (m n p q : ℕ) → nat_le n m ≡ false → ordering_then (nat_cmp m n) (nat_cmp p q) ≡ Less
greater_node m n p q gt = grind (arith, nat_tests)

-- each request of the node has a lesser number than this one
abbrev pub IsLast : List Waiting → Waiting → Type 0
IsLast rs r = All (λ (s : Waiting). s.node ≡ r.node → s.number < r.number) rs

-- the entries with a request behind its node's others are those with it put in
pub map-insert : (rs : List Waiting) (r : Waiting) → IsLast rs r
    → map entry_of (insert rs (place_behind rs r.node) r) ≡ put name_cmp (request_name r) r.frame (map entry_of rs)
map-insert [] r last = refl
map-insert (s ∷ rs) r last =
    elim (nat_le s.node r.node) as (λ b. nat_le s.node r.node ≡ b → map entry_of (insert (s ∷ rs) (cond b (place_behind rs r.node + 1) 0) r) ≡ put name_cmp (request_name r) r.frame (map entry_of (s ∷ rs))) [
      | true ↦ λ e.
          let greater : name_cmp (request_name r) (request_name s) ≡ Greater = later_number r.node s.node r.number s.number e (All-head (λ (t : Waiting). t.node ≡ r.node → t.number < r.number) s rs last) in
          ap (λ n. map entry_of (insert (s ∷ rs) n r)) (add-one (place_behind rs r.node))
          ∙ ap (λ es. entry_of s ∷ es) (map-insert rs r (All-tail (λ (t : Waiting). t.node ≡ r.node → t.number < r.number) s rs last))
          ∙ sym (ap (λ o. by_order o (entry_of r ∷ map entry_of (s ∷ rs)) ((request_name s, r.frame) ∷ map entry_of rs) (entry_of s ∷ put name_cmp (request_name r) r.frame (map entry_of rs))) greater)
      | false ↦ λ e.
          let less : name_cmp (request_name r) (request_name s) ≡ Less = greater_node r.node s.node r.number s.number e in
          sym (ap (λ o. by_order o (entry_of r ∷ map entry_of (s ∷ rs)) ((request_name s, r.frame) ∷ map entry_of rs) (entry_of s ∷ put name_cmp (request_name r) r.frame (map entry_of rs))) less)
    ] refl

-- the list with the request is the set with it, and in order
pub requests_of-insert : (rs : List Waiting) (r : Waiting) → IsLast rs r
    → requests_of (insert rs (place_behind rs r.node) r) ≡ finmap.insert (requests_of rs) (request_name r) r.frame
requests_of-insert rs r last =
    let k : RequestName = request_name r in
    same_map name_cmp_total name_cmp-IsAntisymmetric _ _
    (λ q. get-from_entries name_cmp_total (map entry_of (insert rs (place_behind rs r.node) r)) q
    ∙ ap (find name_cmp q) (map-insert rs r last)
    ∙ find-put name_cmp name_cmp_total q k r.frame (map entry_of rs)
    ∙ ap (cond (eq_by_cmp name_cmp q k) (Some r.frame)) (sym (get-from_entries name_cmp_total (map entry_of rs) q))
    ∙ sym (get-insert name_cmp_total (requests_of rs) k r.frame q))

-- and they stay in order
pub in_order-insert : (rs : List Waiting) (r : Waiting) → IsLast rs r → InOrder rs
    → InOrder (insert rs (place_behind rs r.node) r)
in_order-insert rs r last order =
    let P : List (RequestName × FrameFields) → Type 0 = λ es. IsTrue (is_sorted name_cmp es) in
    subst P (sym (map-insert rs r last)) (from_T _ (is_sorted-put name_cmp name_cmp_total (request_name r) r.frame (map entry_of rs) (to_T _ order)))
