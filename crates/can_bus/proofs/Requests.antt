-- Sets of requests, and the lists that they are made of.
use Rattle.std.proofs.Common.{◌≡◌, ℕ, zero, suc, ◌<◌, Bool, true, false, cond, ◌&&◌, ◌⊎◌, List, [], ◌∷◌, length, map, get_or, refl, sym, ap, subst, ◌∙◌, inl, inr, arith}
use lib.Dec.{T}
use Rattle.std.specs.Prelude.{IsTrue, None, Some}
use Rattle.std.specs.List.{Contains}
use Rattle.std.specs.Ordering.{nat_cmp, ordering_then, ordering_reverse, is_lt, is_eq, eq_by_cmp}
use Rattle.std.specs.Cmp.{IsTotalOrder, on_total, then_total, nat_cmp_total, tied_itself}
use Rattle.std.specs.declared.cmp.Ordering.{Ordering}
use Rattle.std.specs.declared.cmp.Ordering.TheVariants.{Less, Equal, Greater}
use Rattle.std.specs.FinMap.{IsAntisymmetric, entries, entries_sorted, find, is_sorted, from_entries, get-entries, get-from_entries, len, len-entries, retain_keys, get-retain_keys}
use Rattle.std.specs.FinMap.Entries.{below_all, same_entries, where_key, is_sorted-where_key, find-where_key}
use Rattle.std.proofs.lemmas.Bool.Decides.{nat_tests}
use Rattle.can_frame.specs.Frame.{FrameFields}
use Rattle.can_bus.specs.declared.waiting.Waiting.{Waiting}
use Rattle.can_bus.specs.Waiting.{RequestName, name_cmp, Requests, request_name, Waits, entry_of, request_at, requests_of, members}

-- ---- the order of names
-- it is a total order
pub name_cmp_total : IsTotalOrder name_cmp
name_cmp_total = then_total (on_total (λ (n : RequestName). n.0) nat_cmp_total) (on_total (λ (n : RequestName). n.1) nat_cmp_total)

same_numbers : (m n p q : ℕ) → ordering_then (nat_cmp m n) (nat_cmp p q) ≡ Equal → (m ≡ n) × (p ≡ q)
same_numbers m n p q e = grind (arith, nat_tests)

-- names that tie are equal
pub name_cmp-IsAntisymmetric : IsAntisymmetric name_cmp
name_cmp-IsAntisymmetric a b e = let same = same_numbers a.0 b.0 a.1 b.1 e in λ i. (same.0 i, same.1 i)

-- ---- membership in a list
module _ {X : Type 0} where
  -- the first item is one of a list
  pub Contains-first : (x : X) (xs : List X) → Contains (x ∷ xs) x
  Contains-first x xs = (0, omega arith, refl)

  -- and so is one of the rest
  pub Contains-later : (y x : X) (xs : List X) → Contains xs x → Contains (y ∷ xs) x
  Contains-later y x xs h = (suc h.0, (let low : h.0 < length xs = h.1 in omega arith), h.2)

  at_cons : (y x : X) (xs : List X) (k : ℕ) → k < length (y ∷ xs) → get_or (y ∷ xs) k x ≡ x → (y ≡ x) ⊎ Contains xs x
  at_cons y x xs zero low e = inl e
  at_cons y x xs (suc k) low e = inr (k, omega arith, e)

  -- an item of a list is the first or one of the rest
  pub Contains-cons : (y x : X) (xs : List X) → Contains (y ∷ xs) x → (y ≡ x) ⊎ Contains xs x
  Contains-cons y x xs h = at_cons y x xs h.0 h.1 h.2

  -- the empty list has none
  pub not_Contains-nil : (x : X) → ¬ Contains [] x
  not_Contains-nil x h = let low : h.0 < 0 = h.1 in absurd (omega arith)

-- ---- what is found in a list in order
-- a test that is true, in the form that finite maps take
pub to_T : (b : Bool) → IsTrue b → T b
to_T b h = subst T (sym h) tt

-- and back
pub from_T : (b : Bool) → T b → IsTrue b
from_T true h = refl
from_T false h = absurd h

-- both sides of a true conjunction are true
pub both_true : (a b : Bool) → IsTrue (a && b) → IsTrue a × IsTrue b
both_true true b h = (refl, h)
both_true false b h = absurd (cc)

-- what is less does not tie the other way round
pub reversed_not_eq : (o : Ordering) → IsTrue (is_lt o) → is_eq (ordering_reverse o) ≡ false
reversed_not_eq Less h = refl
reversed_not_eq Equal h = absurd (cc)
reversed_not_eq Greater h = absurd (cc)

-- what ties is equal
pub equal_from : (o : Ordering) → is_eq o ≡ true → o ≡ Equal
equal_from Less e = absurd (cc)
equal_from Equal e = refl
equal_from Greater e = absurd (cc)

-- a name below all entries of a list is below each
pub below_member : (x : RequestName) (es : List (RequestName × FrameFields)) (e : RequestName × FrameFields)
    → IsTrue (below_all name_cmp x es) → Contains es e → IsTrue (is_lt (name_cmp x e.0))
below_member x [] e h in' = absurd (not_Contains-nil e in')
below_member x (d ∷ es) e h in' =
    let parts = both_true (is_lt (name_cmp x d.0)) (below_all name_cmp x es) h in
    elim (Contains-cons d e es in') [
      | inl same ↦ subst (λ (p : RequestName × FrameFields). IsTrue (is_lt (name_cmp x p.0))) same parts.0
      | inr later ↦ below_member x es e parts.1 later
    ]

-- in a list in order, an entry is found under its name
pub find-member : (es : List (RequestName × FrameFields)) (e : RequestName × FrameFields) → IsTrue (is_sorted name_cmp es) → Contains es e → find name_cmp e.0 es ≡ Some e.1
find-member [] e h in' = absurd (not_Contains-nil e in')
find-member (d ∷ es) e h in' =
    let parts = both_true (below_all name_cmp d.0 es) (is_sorted name_cmp es) h in
    elim (Contains-cons d e es in') [
      | inl same ↦
          subst (λ (p : RequestName × FrameFields). find name_cmp p.0 (d ∷ es) ≡ Some p.1) same
          (ap (λ o. cond (is_eq o) (Some d.1) (find name_cmp d.0 es)) (tied_itself name_cmp_total d.0))
      | inr later ↦
          let less = below_member d.0 es e parts.0 later in
          let apart : is_eq (name_cmp e.0 d.0) ≡ false =
          ap is_eq (name_cmp_total.antisymm e.0 d.0) ∙ reversed_not_eq (name_cmp d.0 e.0) less in
          ap (λ b. cond b (Some d.1) (find name_cmp e.0 es)) apart ∙ find-member es e parts.1 later
    ]

-- what is found is an entry
pub member_found : (q : RequestName) (f : FrameFields) (es : List (RequestName × FrameFields)) → find name_cmp q es ≡ Some f → Contains es (q, f)
member_found q f [] e = absurd (cc)
member_found q f (d ∷ es) e =
    elim (eq_by_cmp name_cmp q d.0) as (λ b. eq_by_cmp name_cmp q d.0 ≡ b → cond b (Some d.1) (find name_cmp q es) ≡ Some f → Contains (d ∷ es) (q, f)) [
      | true ↦ λ t is.
          let name : q ≡ d.0 = name_cmp-IsAntisymmetric q d.0 (equal_from _ t) in
          let frame : d.1 ≡ f = cc in
          subst (λ (p : RequestName × FrameFields). Contains (d ∷ es) p) (λ i. (sym name i, frame i)) (Contains-first d es)
      | false ↦ λ t is. Contains-later d (q, f) es (member_found q f es is)
    ] refl e

-- ---- a list in order is the list of the set's entries
-- the set of a list in order has just its entries
pub entries-from_entries : (es : List (RequestName × FrameFields)) → IsTrue (is_sorted name_cmp es) → entries (from_entries {R = name_cmp} es) ≡ es
entries-from_entries es h =
    same_entries name_cmp name_cmp_total name_cmp-IsAntisymmetric _ es (entries_sorted (from_entries {R = name_cmp} es)) (to_T _ h)
    (λ q. sym (get-entries (from_entries {R = name_cmp} es) q) ∙ get-from_entries name_cmp_total es q)

-- ---- the members are the waiting requests
-- the requests of the entries of requests are these
pub map-back : (rs : List Waiting) → map request_at (map entry_of rs) ≡ rs
map-back [] = refl
map-back (r ∷ rs) = λ i. r ∷ map-back rs i

-- and the entries of the requests of entries
pub map-forth : (es : List (RequestName × FrameFields)) → map entry_of (map request_at es) ≡ es
map-forth [] = refl
map-forth (e ∷ es) = λ i. e ∷ map-forth es i

-- what is in a list is in its image
pub Contains-map : {X Y : Type 0} (f : X → Y) (x : X) (xs : List X) → Contains xs x → Contains (map f xs) (f x)
Contains-map f x [] h = absurd (not_Contains-nil x h)
Contains-map f x (y ∷ xs) h =
    elim (Contains-cons y x xs h) [
      | inl same ↦ subst (λ z. Contains (map f (y ∷ xs)) (f z)) same (Contains-first (f y) (map f xs))
      | inr later ↦ Contains-later (f y) (f x) (map f xs) (Contains-map f x xs later)
    ]

-- a request that waits is a member
pub Contains-members : (w : Requests) (r : Waiting) → Waits w r → Contains (members w) r
Contains-members w r h = Contains-map request_at (entry_of r) (entries w) (member_found (request_name r) r.frame (entries w) (sym (get-entries w (request_name r)) ∙ h))

-- and a member waits
pub Waits-members : (w : Requests) (r : Waiting) → Contains (members w) r → Waits w r
Waits-members w r h =
    get-entries w (request_name r)
    ∙ find-member (entries w) (entry_of r) (from_T _ (entries_sorted w))
    (subst (λ (es : List (RequestName × FrameFields)). Contains es (entry_of r)) (map-forth (entries w)) (Contains-map entry_of r (members w) h))

-- the members of the set of a list in order are the list
pub members-requests_of : (rs : List Waiting) → IsTrue (is_sorted name_cmp (map entry_of rs)) → members (requests_of rs) ≡ rs
members-requests_of rs h = ap (map request_at) (entries-from_entries (map entry_of rs) h) ∙ map-back rs

-- ---- how many there are
pub length-map : {X Y : Type 0} (f : X → Y) (xs : List X) → length (map f xs) ≡ length xs
length-map f [] = refl
length-map f (x ∷ xs) = ap suc (length-map f xs)

-- and as many
pub len-requests_of : (rs : List Waiting) → IsTrue (is_sorted name_cmp (map entry_of rs)) → len (requests_of rs) ≡ length rs
len-requests_of rs h = len-entries (requests_of rs) ∙ ap length (entries-from_entries (map entry_of rs) h) ∙ length-map entry_of rs

-- ---- the requests that pass a test
-- a test of names does not tell names that tie apart
pub ties : (p : RequestName → Bool) (q x : RequestName) → name_cmp q x ≡ Equal → p x ≡ p q
ties p q x e = ap p (sym (name_cmp-IsAntisymmetric q x e))

-- the set of those that pass a test has just their entries
pub entries-retain_keys : (w : Requests) (p : RequestName → Bool) → entries (retain_keys w p) ≡ where_key name_cmp p (entries w)
entries-retain_keys w p =
    same_entries name_cmp name_cmp_total name_cmp-IsAntisymmetric (entries (retain_keys w p)) (where_key name_cmp p (entries w))
    (entries_sorted (retain_keys w p)) (is_sorted-where_key name_cmp p (entries w) (entries_sorted w))
    (λ q. sym (get-entries (retain_keys w p) q)
    ∙ get-retain_keys w p q (ties p q)
    ∙ ap (λ o. cond (p q) o None) (get-entries w q)
    ∙ sym (find-where_key name_cmp p q (ties p q) (entries w)))
