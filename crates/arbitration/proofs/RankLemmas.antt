-- The ranks of a node's requests, by the list of those that wait.
use Rattle.std.proofs.Common.{◌≡◌, ◌≢◌, ℕ, zero, suc, ◌+◌, ◌<◌, ◌≤◌, Bool, true, false, cond, ◌&&◌, ◌⊎◌, List, [], ◌∷◌, ◌++◌, length, map, get_or, set, take, drop, eqb, ltb, refl, sym, ap, subst, ◌∙◌, inl, inr, arith, add-one, length-take}
use mir.Val.{bool_byte}
use Rattle.std.specs.Prelude.{IsTrue, Option, None, Some, nat_le, insert, count_by}
use Rattle.std.specs.List.{Contains, All}
use Rattle.std.specs.Ordering.{nat_cmp, ordering_then, is_lt}
use Rattle.std.specs.FinMap.{is_sorted}
use Rattle.std.specs.FinMap.Entries.{below_all}
use Rattle.std.proofs.lemmas.Bool.Decides.{nat_tests, eqb_tells}
use Rattle.std.proofs.lemmas.List.Sums.{sum_by-cons, sum_by-insert, sum_by-le-sum_by, count_by_more_yes, count_by_more_no, count_by-le-length}
use Rattle.std.proofs.lemmas.List.{set-get_or}
use Rattle.std.proofs.lemmas.List.Edits.{map_over_more}
use Rattle.std.proofs.lemmas.List.Elements.{All-head, All-tail, All-contains_itself}
use Rattle.can_bus.specs.declared.waiting.Waiting.{Waiting}
use Rattle.can_bus.specs.declared.transmission.Transmission.{Transmission}
use Rattle.can_bus.specs.Waiting.{name_cmp, request_name, entry_of}
use Rattle.can_bus.proofs.Requests.{both_true, below_member, Contains-cons, Contains-map, not_Contains-nil}
use Rattle.can_bus.proofs.RankLemmas.{count_on_wire}
use Rattle.arbitration.specs.Inside.Places.{InOrder, place_behind}
use Rattle.can_bus.specs.Ranks.{earlier_count, rank_in, with_rank_in}

-- the node's requests that are earlier than a number
abbrev pub is_earlier : ℕ → ℕ → Waiting → Bool
is_earlier node number r = eqb r.node node && ltb r.number number

-- how many are earlier, request by request
pub earlier_count-cons : (s : Waiting) (rs : List Waiting) (node number : ℕ) → earlier_count (s ∷ rs) node number ≡ cond (is_earlier node number s) 1 0 + earlier_count rs node number
earlier_count-cons s rs node number = sum_by-cons (λ r. cond (is_earlier node number r) 1 0) s rs

-- ---- a request has as many earlier ones as its node has requests before it in the list
later_not_earlier : (m n p q : ℕ) → is_lt (ordering_then (nat_cmp m n) (nat_cmp p q)) ≡ true → (eqb n m && ltb q p) ≡ false
later_not_earlier m n p q h = grind (arith, nat_tests)

before_earlier : (m n p q : ℕ) → is_lt (ordering_then (nat_cmp m n) (nat_cmp p q)) ≡ true → (eqb m n && ltb p q) ≡ eqb m n
before_earlier m n p q h = grind (arith, nat_tests)

not_before_itself : (n p : ℕ) → (eqb n n && ltb p p) ≡ false
not_before_itself n p = grind (arith, nat_tests)

none_earlier : (x : Waiting) (rs : List Waiting) → IsTrue (below_all name_cmp (request_name x) (map entry_of rs)) → earlier_count rs x.node x.number ≡ 0
none_earlier x [] h = refl
none_earlier x (s ∷ rs) h =
    let parts = both_true (is_lt (name_cmp (request_name x) (request_name s))) (below_all name_cmp (request_name x) (map entry_of rs)) h in
    let test : is_earlier x.node x.number s ≡ false = later_not_earlier x.node s.node x.number s.number parts.0 in
    let rest = none_earlier x rs parts.1 in
    earlier_count-cons s rs x.node x.number ∙ ap (λ b. cond b 1 0 + earlier_count rs x.node x.number) test ∙ omega (arith, rest)

-- in a list in order they are those of the node before the request
pub earlier_count-at : (rs : List Waiting) (i : ℕ) (x : Waiting) → InOrder rs → i < length rs → x ≡ get_or rs i x
    → earlier_count rs x.node x.number ≡ count_by (λ r. eqb r.node x.node) (take i rs)
earlier_count-at [] i x order low is = absurd (omega arith)
earlier_count-at (s ∷ rs) zero x order low is =
    let parts = both_true (below_all name_cmp (request_name s) (map entry_of rs)) (is_sorted name_cmp (map entry_of rs)) order in
    let P : Waiting → Type 0 = λ y. earlier_count (s ∷ rs) y.node y.number ≡ 0 in
    let rest = none_earlier s rs parts.0 in
    subst P (sym is)
    (earlier_count-cons s rs s.node s.number ∙ ap (λ b. cond b 1 0 + earlier_count rs s.node s.number) (not_before_itself s.node s.number) ∙ omega (arith, rest))
earlier_count-at (s ∷ rs) (suc i) x order low is =
    let parts = both_true (below_all name_cmp (request_name s) (map entry_of rs)) (is_sorted name_cmp (map entry_of rs)) order in
    let less = below_member (request_name s) (map entry_of rs) (entry_of x) parts.0 (Contains-map entry_of x rs (i, omega arith, sym is)) in
    earlier_count-cons s rs x.node x.number
    ∙ ap (λ b. cond b 1 0 + earlier_count rs x.node x.number) (before_earlier s.node x.node s.number x.number less)
    ∙ ap (λ n. cond (eqb s.node x.node) 1 0 + n) (earlier_count-at rs i x parts.1 (omega arith) is)
    ∙ sym (sum_by-cons (λ r. cond (eqb r.node x.node) 1 0) s (take i rs))

-- ---- one step of the loop that numbers with_rank
pub kept_at : (f : Waiting → Waiting) (xs : List Waiting) (i : ℕ) (d : Waiting) → i < length xs → get_or (map f (take i xs) ++ drop i xs) i d ≡ get_or xs i d
kept_at f [] i d low = absurd (omega arith)
kept_at f (x ∷ xs) zero d low = refl
kept_at f (x ∷ xs) (suc i) d low = kept_at f xs i d (omega arith)

-- a request of the node gets its rank
pub numbered_step : (xs ys : List Waiting) (wire : Option Transmission) (node i count extra : ℕ) (x : Waiting) → InOrder xs → i < length xs
    → ys ≡ map (with_rank_in xs wire node) (take i xs) ++ drop i xs → x ≡ get_or ys i x → x.node ≡ node
    → count ≡ count_by (λ r. eqb r.node node) (take i xs) → extra ≡ count_on_wire wire node x.number
    → set ys i (record x { number = count + extra }) ≡ map (with_rank_in xs wire node) (take (i + 1) xs) ++ drop (i + 1) xs
numbered_step xs ys wire node i count extra x order low so_far is of counted adds =
    let f : Waiting → Waiting = with_rank_in xs wire node in
    let at : x ≡ get_or xs i x = is ∙ ap (λ zs. get_or zs i x) so_far ∙ kept_at f xs i x low in
    let here : earlier_count xs node x.number ≡ count =
    subst (λ n. earlier_count xs n x.number ≡ count_by (λ r. eqb r.node n) (take i xs)) of (earlier_count-at xs i x order low at) ∙ sym counted in
    let own : eqb x.node node ≡ true = grind (arith, nat_tests) in
    let value : f x ≡ record x { number = count + extra } =
    ap (λ b. cond b (record x { number = rank_in xs wire node x.number }) x) own
    ∙ (λ j. record x { number = here j + sym adds j }) in
    ap (set ys i) (sym value) ∙ map_over_more f xs ys i x low so_far is

-- a request of another node stays
pub skipped_step : (xs ys : List Waiting) (wire : Option Transmission) (node i : ℕ) (x : Waiting) → i < length xs
    → ys ≡ map (with_rank_in xs wire node) (take i xs) ++ drop i xs → x ≡ get_or ys i x → x.node ≢ node
    → ys ≡ map (with_rank_in xs wire node) (take (i + 1) xs) ++ drop (i + 1) xs
skipped_step xs ys wire node i x low so_far is other =
    let f : Waiting → Waiting = with_rank_in xs wire node in
    let apart : eqb x.node node ≡ false = grind (arith, nat_tests) in
    let value : f x ≡ x = ap (λ b. cond b (record x { number = rank_in xs wire node x.number }) x) apart in
    sym (set-get_or ys i x) ∙ ap (set ys i) (sym is ∙ sym value) ∙ map_over_more f xs ys i x low so_far is

-- the count goes on
pub counted_more : (f : Waiting → Waiting) (xs ys : List Waiting) (node i count after : ℕ) (x : Waiting) → i < length xs → ys ≡ map f (take i xs) ++ drop i xs → x ≡ get_or ys i x → x.node ≡ node
    → count ≡ count_by (λ r. eqb r.node node) (take i xs) → after ≡ count + 1 → after ≡ count_by (λ r. eqb r.node node) (take (i + 1) xs)
counted_more f xs ys node i count after x low so_far is of counted one =
    let at : x ≡ get_or xs i x = is ∙ ap (λ zs. get_or zs i x) so_far ∙ kept_at f xs i x low in
    let own : eqb x.node node ≡ true = grind (arith, nat_tests) in
    let more = count_by_more_yes (λ (r : Waiting). eqb r.node node) xs i x low (ap (λ (r : Waiting). eqb r.node node) (sym at) ∙ own) in
    one ∙ ap (λ n. n + 1) counted ∙ sym more

-- and stays at one of another node
pub counted_same : (f : Waiting → Waiting) (xs ys : List Waiting) (node i count after : ℕ) (x : Waiting) → i < length xs → ys ≡ map f (take i xs) ++ drop i xs → x ≡ get_or ys i x → x.node ≢ node
    → count ≡ count_by (λ r. eqb r.node node) (take i xs) → after ≡ count → after ≡ count_by (λ r. eqb r.node node) (take (i + 1) xs)
counted_same f xs ys node i count after x low so_far is other counted same =
    let at : x ≡ get_or xs i x = is ∙ ap (λ zs. get_or zs i x) so_far ∙ kept_at f xs i x low in
    let apart : eqb x.node node ≡ false = grind (arith, nat_tests) in
    let more = count_by_more_no (λ (r : Waiting). eqb r.node node) xs i x low (ap (λ (r : Waiting). eqb r.node node) (sym at) ∙ apart) in
    same ∙ counted ∙ sym more

-- a truth value as a number is at most 1
pub bool_byte-le : (b : Bool) → bool_byte b ≤ 1
bool_byte-le true = omega arith
bool_byte-le false = omega arith

-- it is 1 where it is true, else 0
pub bool_byte-is : (b : Bool) → bool_byte b ≡ cond b 1 0
bool_byte-is true = refl
bool_byte-is false = refl

-- what bounds a count in a part of a list
pub ruleset counts = (count_by-le-length, length-take, bool_byte-le)

-- ---- a further request of the node that is not earlier
pub same_after : (rs : List Waiting) (i : ℕ) (r : Waiting) (node number : ℕ) → number ≤ r.number → earlier_count (insert rs i r) node number ≡ earlier_count rs node number
same_after rs i r node number last =
    let test : is_earlier node number r ≡ false = grind (arith, nat_tests) in
    sum_by-insert (λ s. cond (is_earlier node number s) 1 0) rs i r
    ∙ ap (λ b. earlier_count rs node number + cond b 1 0) test
    ∙ omega arith

-- a further request of the node that is not earlier leaves the ranks
pub with_rank_in-insert : (rs : List Waiting) (i : ℕ) (r : Waiting) (wire : Option Transmission) (node : ℕ) (s : Waiting) → s.number ≤ r.number → with_rank_in (insert rs i r) wire node s ≡ with_rank_in rs wire node s
with_rank_in-insert rs i r wire node s last =
    ap (λ n. cond (eqb s.node node) (record s { number = n + count_on_wire wire node s.number }) s) (same_after rs i r node s.number last)

-- ---- the new numbers rise as the old ones do
test-le : (m n p k l : ℕ) → k ≤ l → cond (eqb m n && ltb p k) 1 0 ≤ cond (eqb m n && ltb p l) 1 0
test-le m n p k l h = grind (arith, nat_tests)

test-less : (m k l : ℕ) → k < l → cond (eqb m m && ltb k k) 1 0 < cond (eqb m m && ltb k l) 1 0
test-less m k l h = grind (arith, nat_tests)

-- a greater number has no fewer earlier ones
pub earlier_count-le : (rs : List Waiting) (node k l : ℕ) → k ≤ l → earlier_count rs node k ≤ earlier_count rs node l
earlier_count-le rs node k l h =
    sum_by-le-sum_by (λ r. cond (is_earlier node k r) 1 0) (λ r. cond (is_earlier node l r) 1 0) rs (λ r. test-le r.node node r.number k l h)

-- and more where a request stands between
pub earlier_count-less : (rs : List Waiting) (s : Waiting) (l : ℕ) → Contains rs s → s.number < l → earlier_count rs s.node s.number < earlier_count rs s.node l
earlier_count-less [] s l in' h = absurd (not_Contains-nil s in')
earlier_count-less (t ∷ rs) s l in' h =
    let left = earlier_count-cons t rs s.node s.number in
    let right = earlier_count-cons t rs s.node l in
    elim (Contains-cons t s rs in') [
      | inl same ↦
          let P : Waiting → Type 0 = λ u. cond (is_earlier s.node s.number u) 1 0 < cond (is_earlier s.node l u) 1 0 in
          let here = subst P (sym same) (test-less s.node s.number l h) in
          let rest = earlier_count-le rs s.node s.number l (omega arith) in
          omega arith
      | inr later ↦
          let here = test-le t.node s.node t.number s.number l (omega arith) in
          let rest = earlier_count-less rs s l later h in
          omega arith
    ]

-- the same of the one on the wire
pub on_wire-le : (wire : Option Transmission) (node k l : ℕ) → k ≤ l → count_on_wire wire node k ≤ count_on_wire wire node l
on_wire-le None node k l h = omega arith
on_wire-le (Some t) node k l h = test-le t.request.node node t.request.number k l h

-- a greater number has no lesser rank
pub rank_in-le : (rs : List Waiting) (wire : Option Transmission) (node k l : ℕ) → k ≤ l → rank_in rs wire node k ≤ rank_in rs wire node l
rank_in-le rs wire node k l h =
    let a = earlier_count-le rs node k l h in let b = on_wire-le (wire) node k l h in omega arith

-- and a greater one where a request stands between
pub rank_in-less : (rs : List Waiting) (wire : Option Transmission) (s : Waiting) (l : ℕ) → Contains rs s → s.number < l → rank_in rs wire s.node s.number < rank_in rs wire s.node l
rank_in-less rs wire s l in' h =
    let a = earlier_count-less rs s l in' h in let b = on_wire-le (wire) s.node s.number l (omega arith) in omega arith

-- ---- the list stays in order
-- a request of the node gets its rank for its number
pub own_rank : (rs : List Waiting) (wire : Option Transmission) (node : ℕ) (s : Waiting) → s.node ≡ node → with_rank_in rs wire node s ≡ record s { number = rank_in rs wire node s.number }
own_rank rs wire node s of = let own : eqb s.node node ≡ true = grind (arith, nat_tests) in ap (λ b. cond b (record s { number = rank_in rs wire node s.number }) s) own

-- one of another node stays
pub other_rank : (rs : List Waiting) (wire : Option Transmission) (node : ℕ) (s : Waiting) → s.node ≢ node → with_rank_in rs wire node s ≡ s
other_rank rs wire node s of = let own : eqb s.node node ≡ false = grind (arith, nat_tests) in ap (λ b. cond b (record s { number = rank_in rs wire node s.number }) s) own

-- the node stays
pub node-with_rank_in : (rs : List Waiting) (wire : Option Transmission) (node : ℕ) (s : Waiting) → (with_rank_in rs wire node s).node ≡ s.node
node-with_rank_in rs wire node s = elim (eqb s.node node) as (λ b. (cond b (record s { number = rank_in rs wire node s.number }) s).node ≡ s.node) [ true ↦ refl | false ↦ refl ]

-- the number of a request of the node is its rank
pub number-with_rank_in : (rs : List Waiting) (wire : Option Transmission) (node : ℕ) (s : Waiting) → s.node ≡ node → (with_rank_in rs wire node s).number ≡ rank_in rs wire node s.number
number-with_rank_in rs wire node s of = ap (λ (r : Waiting). r.number) (own_rank rs wire node s of)

-- that of another node's stays
pub number-other_rank : (rs : List Waiting) (wire : Option Transmission) (node : ℕ) (s : Waiting) → s.node ≢ node → (with_rank_in rs wire node s).number ≡ s.number
number-other_rank rs wire node s of = ap (λ (r : Waiting). r.number) (other_rank rs wire node s of)

named_less : (m n p q : ℕ) → (m < n) ⊎ ((m ≡ n) × (p < q)) → is_lt (ordering_then (nat_cmp m n) (nat_cmp p q)) ≡ true
named_less m n p q h = grind (arith, nat_tests)

less_named : (m n p q : ℕ) → is_lt (ordering_then (nat_cmp m n) (nat_cmp p q)) ≡ true → (m < n) ⊎ ((m ≡ n) × (p < q))
less_named m n p q h = grind (arith, nat_tests)

numbers_less : (rs : List Waiting) (wire : Option Transmission) (node : ℕ) (s t : Waiting) → Contains rs s → s.node ≡ t.node → s.number < t.number
    → (with_rank_in rs wire node s).number < (with_rank_in rs wire node t).number
numbers_less rs wire node s t in' same less =
    elim (eqb_tells s.node node) [
      | inl own ↦
          let left = number-with_rank_in rs wire node s own.1 in
          let right = number-with_rank_in rs wire node t (sym same ∙ own.1) in
          let rises : rank_in rs wire node s.number < rank_in rs wire node t.number =
          let P : ℕ → Type 0 = λ n. rank_in rs wire n s.number < rank_in rs wire n t.number in subst P own.1 (rank_in-less rs wire s t.number in' less) in
          omega arith
      | inr other ↦
          let left = number-other_rank rs wire node s other.1 in
          let right = number-other_rank rs wire node t (λ e. other.1 (same ∙ e)) in
          omega arith
    ]

-- of two requests in the list the first name stays the lesser
stays_less : (rs : List Waiting) (wire : Option Transmission) (node : ℕ) (s t : Waiting) → Contains rs s
    → is_lt (name_cmp (request_name s) (request_name t)) ≡ true → is_lt (name_cmp (request_name (with_rank_in rs wire node s)) (request_name (with_rank_in rs wire node t))) ≡ true
stays_less rs wire node s t in' h =
    let ns = node-with_rank_in rs wire node s in
    let nt = node-with_rank_in rs wire node t in
    let less : ((with_rank_in rs wire node s).node < (with_rank_in rs wire node t).node) ⊎ (((with_rank_in rs wire node s).node ≡ (with_rank_in rs wire node t).node) × ((with_rank_in rs wire node s).number < (with_rank_in rs wire node t).number)) =
    elim (less_named s.node t.node s.number t.number h) [
      | inl lower ↦ inl (omega arith)
      | inr same ↦ inr (omega arith, numbers_less rs wire node s t in' same.0 same.1)
    ] in
    named_less (with_rank_in rs wire node s).node (with_rank_in rs wire node t).node (with_rank_in rs wire node s).number (with_rank_in rs wire node t).number less

two_true : (a b : Bool) → a ≡ true → b ≡ true → IsTrue (a && b)
two_true a b p q = cc

stays_below : (rs : List Waiting) (wire : Option Transmission) (node : ℕ) (s : Waiting) (ts : List Waiting) → Contains rs s
    → IsTrue (below_all name_cmp (request_name s) (map entry_of ts)) → IsTrue (below_all name_cmp (request_name (with_rank_in rs wire node s)) (map entry_of (map (with_rank_in rs wire node) ts)))
stays_below rs wire node s [] in' h = refl
stays_below rs wire node s (t ∷ ts) in' h =
    let parts = both_true (is_lt (name_cmp (request_name s) (request_name t))) (below_all name_cmp (request_name s) (map entry_of ts)) h in
    two_true _ _ (stays_less rs wire node s t in' parts.0) (stays_below rs wire node s ts in' parts.1)

stays_in_order : (rs : List Waiting) (wire : Option Transmission) (node : ℕ) (ts : List Waiting) → All (Contains rs) ts
    → InOrder ts → InOrder (map (with_rank_in rs wire node) ts)
stays_in_order rs wire node [] in' h = refl
stays_in_order rs wire node (t ∷ ts) in' h =
    let parts = both_true (below_all name_cmp (request_name t) (map entry_of ts)) (is_sorted name_cmp (map entry_of ts)) h in
    two_true _ _ (stays_below rs wire node t ts (All-head (Contains rs) t ts in') parts.0) (stays_in_order rs wire node ts (All-tail (Contains rs) t ts in') parts.1)

-- with ranks the list stays in order
pub in_order-ranks : (rs : List Waiting) (wire : Option Transmission) (node : ℕ) → InOrder rs
    → InOrder (map (with_rank_in rs wire node) rs)
in_order-ranks rs wire node h = stays_in_order rs wire node rs (All-contains_itself rs) h

-- ---- a list with one more request
-- a map of a list with one more request
pub map_insert : (f : Waiting → Waiting) (rs : List Waiting) (node : ℕ) (r : Waiting) → map f (insert rs (place_behind rs node) r) ≡ insert (map f rs) (place_behind rs node) (f r)
map_insert f [] node r = refl
map_insert f (s ∷ rs) node r =
    elim (nat_le s.node node) as (λ b. map f (insert (s ∷ rs) (cond b (place_behind rs node + 1) 0) r) ≡ insert (map f (s ∷ rs)) (cond b (place_behind rs node + 1) 0) (f r)) [
      | true ↦ ap (λ n. map f (insert (s ∷ rs) n r)) (add-one (place_behind rs node)) ∙ ap (λ ts. f s ∷ ts) (map_insert f rs node r) ∙ ap (λ n. insert (map f (s ∷ rs)) n (f r)) (sym (add-one (place_behind rs node)))
      | false ↦ refl
    ]

-- a map that keeps the nodes keeps the place behind a node
pub place_behind-map : (f : Waiting → Waiting) (rs : List Waiting) (node : ℕ) → ((s : Waiting) → (f s).node ≡ s.node) → place_behind (map f rs) node ≡ place_behind rs node
place_behind-map f [] node same = refl
place_behind-map f (s ∷ rs) node same = λ i. cond (nat_le (same s i) node) (place_behind-map f rs node same i + 1) 0

-- maps that agree on a list make one list of it
pub map_agree : (f g : Waiting → Waiting) (rs : List Waiting) → All (λ s. f s ≡ g s) rs → map f rs ≡ map g rs
map_agree f g [] h = refl
map_agree f g (s ∷ rs) h = λ i. All-head (λ t. f t ≡ g t) s rs h i ∷ map_agree f g rs (All-tail (λ t. f t ≡ g t) s rs h) i
