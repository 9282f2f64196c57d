-- Lists of requests in any order, each with its own name, and their sets.
use Rattle.std.proofs.Common.{◌≡◌, ℕ, ◌+◌, ◌<◌, ◌≤◌, Bool, true, false, cond, List, [], ◌∷◌, length, map, get_or, zero, suc, refl, sym, ap, subst, ◌∙◌, inl, inr, arith}
use Rattle.std.specs.Prelude.{Option, None, Some, IsTrue, count_by}
use Rattle.std.specs.List.{All, Contains}
use Rattle.std.specs.List.Sorted.{IsPermutation}
use Rattle.std.specs.Ordering.{is_eq, is_lt, eq_by_cmp}
use Rattle.std.specs.declared.cmp.Ordering.TheVariants.{Less, Equal, Greater}
use Rattle.std.specs.Cmp.{tied_itself}
use Rattle.std.specs.FinMap as finmap
use Rattle.std.specs.FinMap.{find, put, is_sorted, entries, entries-insert, len, len-entries, get-from_entries, get-entries, get-remove, same_map}
use Rattle.std.specs.FinMap.Entries.{below_all, by_order}
use Rattle.std.proofs.lemmas.List.Elements.{All-head, All-tail, All-contains, Contains-get_or}
use Rattle.std.proofs.lemmas.List.Sums.{sum_by-cons}
use Rattle.std.proofs.lemmas.List.Sorted.{IsPermutation-refl, IsPermutation-sym, IsPermutation-trans, IsPermutation-cons, IsPermutation-swap, Contains-permutation, length_permutation, sum_by-IsPermutation}
use Rattle.can_frame.specs.Frame.{FrameFields}
use Rattle.can_bus.specs.declared.waiting.Waiting.{Waiting}
use Rattle.can_bus.specs.Waiting.{goes_before, RequestName, name_cmp, Requests, request_name, entry_of, request_at, Waits, requests_of, members, winner}
use Rattle.can_bus.proofs.Precedence.{goes_before-decides, one_goes_first}
use Rattle.can_bus.proofs.Requests.{name_cmp_total, name_cmp-IsAntisymmetric, both_true, equal_from, Contains-cons, Contains-map, not_Contains-nil, member_found, map-back, members-requests_of, length-map}
use Rattle.can_bus.proofs.Winner.{winner-from}
use Rattle.bus_heap.specs.Inside.HeapBus.{AreNamesDistinct}

-- whether the request has the name
abbrev pub is_named : RequestName → Waiting → Bool
is_named name r = eq_by_cmp name_cmp name (request_name r)

-- how many have it, request by request
count-cons : (name : RequestName) (r : Waiting) (rs : List Waiting) → count_by (is_named name) (r ∷ rs) ≡ cond (is_named name r) 1 0 + count_by (is_named name) rs
count-cons name r rs = sum_by-cons (λ s. cond (is_named name s) 1 0) r rs

own_name : (r : Waiting) → is_named (request_name r) r ≡ true
own_name r = ap is_eq (tied_itself name_cmp_total (request_name r))

-- a test that passes is of this name
pub named : (name : RequestName) (r : Waiting) → is_named name r ≡ true → name ≡ request_name r
named name r h = name_cmp-IsAntisymmetric name (request_name r) (equal_from (name_cmp name (request_name r)) h)

-- ---- lists in another order
-- the names stay distinct
pub distinct-permutation : (xs ys : List Waiting) → IsPermutation xs ys → AreNamesDistinct xs → AreNamesDistinct ys
distinct-permutation xs ys moved h name =
    let same = sum_by-IsPermutation (λ r. cond (is_named name r) 1 0) xs ys moved in let le = h name in omega arith

-- those of all but the first are distinct
pub distinct-tail : (r : Waiting) (rs : List Waiting) → AreNamesDistinct (r ∷ rs) → AreNamesDistinct rs
distinct-tail r rs h name = let le = h name in omega (arith, count-cons name r rs)

-- none of a list has the name
none_named : (name : RequestName) (rs : List Waiting) → All (λ r. is_named name r ≡ false) rs → count_by (is_named name) rs ≡ 0
none_named name [] h = refl
none_named name (r ∷ rs) h =
    let rest = none_named name rs (All-tail (λ s. is_named name s ≡ false) r rs h) in
    count-cons name r rs
    ∙ ap (λ b. cond b 1 0 + count_by (is_named name) rs) (All-head (λ s. is_named name s ≡ false) r rs h)
    ∙ omega (arith, rest)

-- with a request of another name, the names stay distinct
pub distinct-cons : (r : Waiting) (rs : List Waiting) → All (λ s. is_named (request_name r) s ≡ false) rs → AreNamesDistinct rs → AreNamesDistinct (r ∷ rs)
distinct-cons r rs other h name =
    elim (is_named name r) as (λ b. is_named name r ≡ b → count_by (is_named name) (r ∷ rs) ≤ 1) [
      | true ↦ λ e.
          let none : count_by (is_named name) rs ≡ 0 = ap (λ n. count_by (is_named n) rs) (named name r e) ∙ none_named (request_name r) rs other in
          let at : count_by (is_named name) (r ∷ rs) ≡ 1 + count_by (is_named name) rs = count-cons name r rs ∙ ap (λ b. cond b 1 0 + count_by (is_named name) rs) e in
          omega arith
      | false ↦ λ e.
          let le = h name in
          let at : count_by (is_named name) (r ∷ rs) ≡ 0 + count_by (is_named name) rs = count-cons name r rs ∙ ap (λ b. cond b 1 0 + count_by (is_named name) rs) e in
          omega arith
    ] refl

-- ---- what is found in a list
counted : (name : RequestName) (r : Waiting) (rs : List Waiting) → is_named name r ≡ true → Contains rs r → 1 ≤ count_by (is_named name) rs
counted name r [] e in' = absurd (not_Contains-nil r in')
counted name r (s ∷ rs) e in' =
    let at = count-cons name s rs in
    elim (Contains-cons s r rs in') [
      | inl same ↦ let here : is_named name s ≡ true = ap (is_named name) same ∙ e in
          let one : count_by (is_named name) (s ∷ rs) ≡ 1 + count_by (is_named name) rs = at ∙ ap (λ b. cond b 1 0 + count_by (is_named name) rs) here in
          omega arith
      | inr later ↦ let rest = counted name r rs e later in omega arith
    ]

-- where the names are distinct, a request is found under its name
found : (rs : List Waiting) (r : Waiting) → AreNamesDistinct rs → Contains rs r → find name_cmp (request_name r) (map entry_of rs) ≡ Some r.frame
found [] r h in' = absurd (not_Contains-nil r in')
found (s ∷ rs) r h in' =
    elim (Contains-cons s r rs in') [
      | inl same ↦
          subst (λ (t : Waiting). find name_cmp (request_name t) (map entry_of (s ∷ rs)) ≡ Some t.frame) same
          (ap (λ b. cond b (Some s.frame) (find name_cmp (request_name s) (map entry_of rs))) (own_name s))
      | inr later ↦
          let apart : is_named (request_name r) s ≡ false =
          elim (is_named (request_name r) s) as (λ b. is_named (request_name r) s ≡ b → b ≡ false) [
            | true ↦ λ e.
                let le = h (request_name r) in
                let more = counted (request_name r) r rs (own_name r) later in
                let at : count_by (is_named (request_name r)) (s ∷ rs) ≡ 1 + count_by (is_named (request_name r)) rs =
                count-cons (request_name r) s rs ∙ ap (λ b. cond b 1 0 + count_by (is_named (request_name r)) rs) e in
                absurd (omega arith)
            | false ↦ λ _. refl
          ] refl in
          ap (λ b. cond b (Some s.frame) (find name_cmp (request_name r) (map entry_of rs))) apart ∙ found rs r (distinct-tail s rs h) later
    ]

-- a request that was put in waits
pub Waits-list : (rs : List Waiting) (r : Waiting) → AreNamesDistinct rs → Contains rs r → Waits (requests_of rs) r
Waits-list rs r h in' = get-from_entries name_cmp_total (map entry_of rs) (request_name r) ∙ found rs r h in'

contained : (rs : List Waiting) (q : RequestName) (f : FrameFields) → find name_cmp q (map entry_of rs) ≡ Some f → Contains rs (request_at (q, f))
contained rs q f e =
    subst (λ (ts : List Waiting). Contains ts (request_at (q, f))) (map-back rs) (Contains-map request_at (q, f) (map entry_of rs) (member_found q f (map entry_of rs) e))

-- one that waits was put in
pub Contains-waits : (rs : List Waiting) (r : Waiting) → Waits (requests_of rs) r → Contains rs r
Contains-waits rs r h = contained rs (request_name r) r.frame (sym (get-from_entries name_cmp_total (map entry_of rs) (request_name r)) ∙ h)

-- ---- lists in another order have one set
find-same : (xs ys : List Waiting) (q : RequestName) → IsPermutation xs ys → AreNamesDistinct xs → find name_cmp q (map entry_of ys) ≡ find name_cmp q (map entry_of xs)
find-same xs ys q moved h =
    elim (find name_cmp q (map entry_of xs)) as (λ o. find name_cmp q (map entry_of xs) ≡ o → find name_cmp q (map entry_of ys) ≡ o) [
      | Some f ↦ λ e. found ys (request_at (q, f)) (distinct-permutation xs ys moved h) (Contains-permutation xs ys (request_at (q, f)) moved (contained xs q f e))
      | None ↦ λ e.
          elim (find name_cmp q (map entry_of ys)) as (λ o. find name_cmp q (map entry_of ys) ≡ o → o ≡ None) [
            | Some g ↦ λ f.
                let back = found xs (request_at (q, g)) h (Contains-permutation ys xs (request_at (q, g)) (IsPermutation-sym xs ys moved) (contained ys q g f)) in
                absurd (let never : Some g ≡ None = sym back ∙ e in cc)
            | None ↦ λ _. refl
          ] refl
    ] refl

-- the set does not depend on the order
pub requests_of-permutation : (xs ys : List Waiting) → IsPermutation xs ys → AreNamesDistinct xs → requests_of ys ≡ requests_of xs
requests_of-permutation xs ys moved h =
    same_map name_cmp_total name_cmp-IsAntisymmetric _ _
    (λ q. get-from_entries name_cmp_total (map entry_of ys) q ∙ find-same xs ys q moved h ∙ sym (get-from_entries name_cmp_total (map entry_of xs) q))

-- ---- a request enters, and one leaves
-- the list with a request is the set with it
pub requests_of-more : (xs ys : List Waiting) (r : Waiting) → IsPermutation (r ∷ xs) ys → AreNamesDistinct (r ∷ xs) → requests_of ys ≡ finmap.insert (requests_of xs) (request_name r) r.frame
requests_of-more xs ys r moved h = requests_of-permutation (r ∷ xs) ys moved h

none_found : (name : RequestName) (rs : List Waiting) → count_by (is_named name) rs ≡ 0 → find name_cmp name (map entry_of rs) ≡ None
none_found name [] e = refl
none_found name (r ∷ rs) e =
    let at = count-cons name r rs in
    let apart : is_named name r ≡ false =
    elim (is_named name r) as (λ b. is_named name r ≡ b → b ≡ false) [
      | true ↦ λ t.
          let one : count_by (is_named name) (r ∷ rs) ≡ 1 + count_by (is_named name) rs = at ∙ ap (λ b. cond b 1 0 + count_by (is_named name) rs) t in
          absurd (omega arith)
      | false ↦ λ _. refl
    ] refl in
    ap (λ b. cond b (Some r.frame) (find name_cmp name (map entry_of rs))) apart ∙ none_found name rs (omega arith)

left_out : {A : Type 0} (b : Bool) (x y z : Option A) → (b ≡ true → z ≡ None) → cond b None (cond b x z) ≡ z
left_out true x y z h = sym (h refl)
left_out false x y z h = refl

-- the list without the request is the set without it
pub requests_of-less : (xs ys : List Waiting) (r : Waiting) → IsPermutation xs (r ∷ ys) → AreNamesDistinct xs → requests_of ys ≡ finmap.remove (requests_of xs) (request_name r)
requests_of-less xs ys r moved h =
    let k : RequestName = request_name r in
    let both : AreNamesDistinct (r ∷ ys) = distinct-permutation xs (r ∷ ys) moved h in
    let gone : count_by (is_named k) ys ≡ 0 =
    let le = both k in
    let at : count_by (is_named k) (r ∷ ys) ≡ 1 + count_by (is_named k) ys = count-cons k r ys ∙ ap (λ b. cond b 1 0 + count_by (is_named k) ys) (own_name r) in
    omega arith in
    let absent : (q : RequestName) → eq_by_cmp name_cmp q k ≡ true → find name_cmp q (map entry_of ys) ≡ None =
    λ q e. ap (λ n. find name_cmp n (map entry_of ys)) (named q r e) ∙ none_found k ys gone in
    let without : requests_of ys ≡ finmap.remove (requests_of (r ∷ ys)) k =
    same_map name_cmp_total name_cmp-IsAntisymmetric _ _
    (λ q. get-from_entries name_cmp_total (map entry_of ys) q
    ∙ sym (left_out (eq_by_cmp name_cmp q k) (Some r.frame) None (find name_cmp q (map entry_of ys)) (absent q))
    ∙ ap (cond (eq_by_cmp name_cmp q k) None) (sym (get-from_entries name_cmp_total (map entry_of (r ∷ ys)) q))
    ∙ sym (get-remove name_cmp_total (requests_of (r ∷ ys)) k q)) in
    without ∙ ap (λ w. finmap.remove w k) (requests_of-permutation xs (r ∷ ys) moved h)

-- ---- the members of the set are the list in some order
above_all : (name low : RequestName) (rs : List Waiting) → IsTrue (below_all name_cmp low (map entry_of rs)) → is_lt (name_cmp low name) ≡ false → count_by (is_named name) rs ≡ 0
above_all name low [] h e = refl
above_all name low (r ∷ rs) h e =
    let parts = both_true (is_lt (name_cmp low (request_name r))) (below_all name_cmp low (map entry_of rs)) h in
    let apart : is_named name r ≡ false =
    elim (is_named name r) as (λ b. is_named name r ≡ b → b ≡ false) [
      | true ↦ λ t. let under : is_lt (name_cmp low (request_name r)) ≡ true = parts.0 in let same : is_lt (name_cmp low name) ≡ is_lt (name_cmp low (request_name r)) = ap (λ n. is_lt (name_cmp low n)) (named name r t) in absurd (cc)
      | false ↦ λ _. refl
    ] refl in
    let rest = above_all name low rs parts.1 e in
    count-cons name r rs ∙ ap (λ b. cond b 1 0 + count_by (is_named name) rs) apart ∙ omega (arith, rest)

-- a list in order has distinct names
pub distinct-sorted : (rs : List Waiting) → IsTrue (is_sorted name_cmp (map entry_of rs)) → AreNamesDistinct rs
distinct-sorted [] h name = omega arith
distinct-sorted (r ∷ rs) h name =
    let parts = both_true (below_all name_cmp (request_name r) (map entry_of rs)) (is_sorted name_cmp (map entry_of rs)) h in
    elim (is_named name r) as (λ b. is_named name r ≡ b → count_by (is_named name) (r ∷ rs) ≤ 1) [
      | true ↦ λ e.
          let none : count_by (is_named name) rs ≡ 0 =
          ap (λ n. count_by (is_named n) rs) (named name r e) ∙ above_all (request_name r) (request_name r) rs parts.0 (ap is_lt (tied_itself name_cmp_total (request_name r))) in
          let at : count_by (is_named name) (r ∷ rs) ≡ 1 + count_by (is_named name) rs = count-cons name r rs ∙ ap (λ b. cond b 1 0 + count_by (is_named name) rs) e in
          omega arith
      | false ↦ λ e.
          let le = distinct-sorted rs parts.1 name in
          let at : count_by (is_named name) (r ∷ rs) ≡ 0 + count_by (is_named name) rs = count-cons name r rs ∙ ap (λ b. cond b 1 0 + count_by (is_named name) rs) e in
          omega arith
    ] refl

put-moves : (r : Waiting) (es : List (RequestName × FrameFields)) → find name_cmp (request_name r) es ≡ None → IsPermutation (r ∷ map request_at es) (map request_at (put name_cmp (request_name r) r.frame es))
put-moves r [] none = IsPermutation-refl (r ∷ [])
put-moves r (e ∷ es) none =
    let k : RequestName = request_name r in
    let x : Waiting = request_at e in
    let xs : List Waiting = map request_at es in
    elim (name_cmp k e.0) as (λ o. cond (is_eq o) (Some e.1) (find name_cmp k es) ≡ None
    → IsPermutation (r ∷ x ∷ xs) (map request_at (by_order o (entry_of r ∷ e ∷ es) ((e.0, r.frame) ∷ es) (e ∷ put name_cmp k r.frame es)))) [
      | Less ↦ λ _. IsPermutation-refl (r ∷ x ∷ xs)
      | Equal ↦ λ h. absurd (cc)
      | Greater ↦ λ h.
          IsPermutation-trans (r ∷ x ∷ xs) (x ∷ r ∷ xs) (x ∷ map request_at (put name_cmp k r.frame es))
          (IsPermutation-swap (r ∷ x ∷ xs) (x ∷ r ∷ xs) 0 1 (omega arith) (omega arith) refl)
          (IsPermutation-cons x (r ∷ xs) (map request_at (put name_cmp k r.frame es)) (put-moves r es h))
    ] none

-- the list has the members in some order
pub members-permutation : (rs : List Waiting) → AreNamesDistinct rs → IsPermutation rs (members (requests_of rs))
members-permutation [] h = subst (IsPermutation []) (sym (members-requests_of [] refl)) (IsPermutation-refl [])
members-permutation (r ∷ rs) h =
    let w : Requests = requests_of rs in
    let k : RequestName = request_name r in
    let others : count_by (is_named k) rs ≡ 0 =
    let le = h k in
    let at : count_by (is_named k) (r ∷ rs) ≡ 1 + count_by (is_named k) rs = count-cons k r rs ∙ ap (λ b. cond b 1 0 + count_by (is_named k) rs) (own_name r) in
    omega arith in
    let absent : find name_cmp k (entries w) ≡ None = sym (get-entries w k) ∙ get-from_entries name_cmp_total (map entry_of rs) k ∙ none_found k rs others in
    let with : members (requests_of (r ∷ rs)) ≡ map request_at (put name_cmp k r.frame (entries w)) = ap (map request_at) (entries-insert name_cmp_total w k r.frame) in
    subst (IsPermutation (r ∷ rs)) (sym with)
    (IsPermutation-trans (r ∷ rs) (r ∷ members w) (map request_at (put name_cmp k r.frame (entries w)))
    (IsPermutation-cons r rs (members w) (members-permutation rs (distinct-tail r rs h)))
    (put-moves r (entries w) absent))

-- the set has as many members as the list
pub len-list : (rs : List Waiting) → AreNamesDistinct rs → len (requests_of rs) ≡ length rs
len-list rs h =
    let w : Requests = requests_of rs in
    len-entries w ∙ sym (length-map request_at (entries w)) ∙ length_permutation rs (members w) (members-permutation rs h)

-- no two places have requests of one name
pub distinct-places : (rs : List Waiting) (i j : ℕ) (d : Waiting) → AreNamesDistinct rs → i < j → j < length rs → ¬ (request_name (get_or rs j d) ≡ request_name (get_or rs i d))
distinct-places [] i j d h less low = absurd (omega arith)
distinct-places (r ∷ rs) i zero d h less low = absurd (omega arith)
distinct-places (r ∷ rs) zero (suc j) d h less low = λ e.
    let k : RequestName = request_name r in
    let le = h k in
    let at : count_by (is_named k) (r ∷ rs) ≡ 1 + count_by (is_named k) rs = count-cons k r rs ∙ ap (λ b. cond b 1 0 + count_by (is_named k) rs) (own_name r) in
    let other : is_named k (get_or rs j d) ≡ true = ap (eq_by_cmp name_cmp k) e ∙ own_name r in
    let more = counted k (get_or rs j d) rs other (Contains-get_or rs j d (omega arith)) in
    absurd (omega arith)
distinct-places (r ∷ rs) (suc i) (suc j) d h less low = distinct-places rs i j d (distinct-tail r rs h) (omega arith) (omega arith)

-- ---- the winner
-- the request that no other of the list goes before is the winner
pub winner-list : (rs : List Waiting) (r : Waiting) → AreNamesDistinct rs → Contains rs r → All (λ other. goes_before other r ≡ false) rs → winner (requests_of rs) ≡ Some r
winner-list rs r h in' first =
    winner-from (requests_of rs) r (record {
      waits = Waits-list rs r h in';
      before = λ other waits.
          let none : goes_before other r ≡ false = All-contains (λ o. goes_before o r ≡ false) rs other first (Contains-waits rs other waits) in
          elim (one_goes_first other r none) [ inl same ↦ inl same | inr before ↦ inr ((goes_before-decides r other).0 before) ];
    })
