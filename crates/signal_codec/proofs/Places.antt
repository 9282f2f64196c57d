-- The numbers of a signal's bits, and their places in the word of its order.
use Rattle.std.proofs.Common.{◌≡◌, ℕ, zero, suc, ◌+◌, ◌-◌, ◌%◌, ◌<◌, ◌≤◌, Bool, true, false, cond, eqb, List, [], ◌∷◌, arith, sym, refl, subst, ⊎_elim}
use Rattle.std.specs.Prelude.{All, Contains, IsTrue, leb, ◌↔◌}
use Rattle.std.proofs.lemmas.List.Elements.{All-nil, All-cons, All-head, All-tail}
use Rattle.std.proofs.lemmas.Bool.{cases_eq}
use Rattle.std.proofs.lemmas.Bool.Decides.{nat_tests}
use Rattle.signal_codec.specs.Place.{big_endian_place, lowest_place, place_of}
use Rattle.signal_codec.specs.Signal.{big_endian, bit_numbers, following, little_endian, IsUsable}
use Rattle.signal_codec.specs.declared.layout.Layout.{Layout}

abbrev InPayload : List ℕ → Type 0
InPayload numbers = All (λ number. number < 64) numbers

-- a bit that is followed in the payload stands one place above the next
below : (n : ℕ) (t : Bool) → eqb (n % 8) 0 ≡ t → n < 64 → cond t (n + 15) (n - 1) < 64 → big_endian_place (cond t (n + 15) (n - 1)) + 1 ≡ big_endian_place n
below n true e p q = let zero_bit : n % 8 ≡ 0 = grind (arith, nat_tests) in omega arith
below n false e p q = let some_bit : 0 < n % 8 = grind (arith, nat_tests) in omega arith

-- the bit that follows stands one place lower
pub place-following : (n : ℕ) → n < 64 → following n < 64 → big_endian_place (following n) + 1 ≡ big_endian_place n
place-following n p q = below n (eqb (n % 8) 0) refl p q

-- each bit but the one at place 0 is followed in the payload
followed : (n : ℕ) (t : Bool) → eqb (n % 8) 0 ≡ t → n < 64 → 0 < big_endian_place n → cond t (n + 15) (n - 1) < 64
followed n true e p q = let zero_bit : n % 8 ≡ 0 = grind (arith, nat_tests) in omega arith
followed n false e p q = omega arith

-- a bit above place 0 is followed in the payload
pub following-lt : (n : ℕ) → n < 64 → 0 < big_endian_place n → following n < 64
following-lt n p q = followed n (eqb (n % 8) 0) refl p q

inside_big : (n k : ℕ) → n < 64 → k ≤ big_endian_place n → InPayload (big_endian n (suc k))
inside_big n zero p h = All-cons (λ b. b < 64) n [] p (All-nil (λ b. b < 64))
inside_big n (suc k) p h =
    let next = following-lt n p (omega arith) in
    let place = place-following n p next in
    All-cons (λ b. b < 64) n (big_endian (following n) (suc k)) p (inside_big (following n) k next (omega arith))

room_big : (n k : ℕ) → InPayload (big_endian n (suc k)) → k ≤ big_endian_place n
room_big n zero a = omega arith
room_big n (suc k) a =
    let tail = All-tail (λ b. b < 64) n (big_endian (following n) (suc k)) a in
    let here = All-head (λ b. b < 64) n (big_endian (following n) (suc k)) a in
    let next = All-head (λ b. b < 64) (following n) (big_endian (following (following n)) k) tail in
    let place = place-following n here next in
    let rest = room_big (following n) k tail in
    omega arith

inside_little : (s n : ℕ) → s + n ≤ 64 → InPayload (little_endian s n)
inside_little s zero h = All-nil (λ b. b < 64)
inside_little s (suc n) h = All-cons (λ b. b < 64) (s + n) (little_endian s n) (omega arith) (inside_little s n (omega arith))

-- the signal's bits are in the payload if from the start on there is room for them
pub inside : (big : Bool) (start len : ℕ) → start < 64 → len ≤ cond big (big_endian_place start + 1) (64 - start) → InPayload (cond big (big_endian start len) (little_endian start len))
inside true start zero p h = All-nil (λ b. b < 64)
inside true start (suc k) p h = inside_big start k p (omega arith)
inside false start len p h = inside_little start len (omega arith)

-- and only then
pub room : (big : Bool) (start len : ℕ) → 1 ≤ len → InPayload (cond big (big_endian start len) (little_endian start len)) → (start < 64) × (len ≤ cond big (big_endian_place start + 1) (64 - start))
room big start zero h a = absurd (omega arith)
room true start (suc k) h a =
    let here = All-head (λ b. b < 64) start (big_endian (following start) k) a in
    let enough = room_big start k a in
    (here, omega arith)
room false start (suc k) h a =
    let top = All-head (λ b. b < 64) (start + k) (little_endian start k) a in
    (omega arith, omega arith)

-- the start of a usable layout lies in the payload
pub start-lt : (l : Layout) → IsUsable l → l.start < 64
start-lt l u = (room l.big l.start l.len u.at_least_one u.in_payload).0

-- a usable layout in big-endian order has room from its start down
pub room_of_big : (l : Layout) → IsUsable l → l.big ≡ true → l.len ≤ big_endian_place l.start + 1
room_of_big l u e = subst (λ b. l.len ≤ cond b (big_endian_place l.start + 1) (64 - l.start)) e (room l.big l.start l.len u.at_least_one u.in_payload).1

-- one in little-endian order has room from its start up
pub room_of_little : (l : Layout) → IsUsable l → l.big ≡ false → l.start + l.len ≤ 64
room_of_little l u e = let fits = subst (λ b. l.len ≤ cond b (big_endian_place l.start + 1) (64 - l.start)) e (room l.big l.start l.len u.at_least_one u.in_payload).1 in let low = start-lt l u in omega arith

-- with room from its start down, a layout in big-endian order is usable
pub usable_big : (l : Layout) → l.big ≡ true → l.start < 64 → 1 ≤ l.len → l.len ≤ big_endian_place l.start + 1 → IsUsable l
usable_big l e p some h = record {
  at_least_one = some;
  at_most_64 = omega arith;
  in_payload = subst (λ b. InPayload (cond b (big_endian l.start l.len) (little_endian l.start l.len))) (sym e) (inside true l.start l.len p h);
}

-- with room from its start up, one in little-endian order is
pub usable_little : (l : Layout) → l.big ≡ false → l.start < 64 → 1 ≤ l.len → l.len ≤ 64 - l.start → IsUsable l
usable_little l e p some h = record {
  at_least_one = some;
  at_most_64 = omega arith;
  in_payload = subst (λ b. InPayload (cond b (big_endian l.start l.len) (little_endian l.start l.len))) (sym e) (inside false l.start l.len p h);
}

-- ---- which bits a signal has

contains_here : (x b : ℕ) (xs : List ℕ) → x ≡ b → Contains (x ∷ xs) b
contains_here x b xs e = (0, omega arith, e)

contains_there : (x b : ℕ) (xs : List ℕ) → Contains xs b → Contains (x ∷ xs) b
contains_there x b xs (k, within, e) = (suc k, omega arith, e)

contains_big : (low n k b : ℕ) → n < 64 → b < 64 → low + k ≡ big_endian_place n → low ≤ big_endian_place b → big_endian_place b ≤ low + k → Contains (big_endian n (suc k)) b
contains_big low n zero b p q e h t = let same : n ≡ b = omega arith in contains_here n b [] same
contains_big low n (suc k) b p q e h t =
    let next = following-lt n p (omega arith) in
    let place = place-following n p next in
    ⊎_elim
    (λ same. contains_here n b (big_endian (following n) (suc k)) (sym same))
    (λ other. contains_there n b (big_endian (following n) (suc k)) (contains_big low (following n) k b next q (omega arith) h (omega arith)))
    (cases_eq b n)

contains_little : (s n b : ℕ) → s ≤ b → b < s + n → Contains (little_endian s n) b
contains_little s zero b h t = absurd (omega arith)
contains_little s (suc n) b h t =
    ⊎_elim
    (λ same. contains_here (s + n) b (little_endian s n) (sym same))
    (λ other. contains_there (s + n) b (little_endian s n) (contains_little s n b h (omega arith)))
    (cases_eq b (s + n))

contains : (big : Bool) (start len b : ℕ) → start < 64 → len ≤ cond big (big_endian_place start + 1) (64 - start) → b < 64
    → cond big (big_endian_place start + 1 - len) start ≤ cond big (big_endian_place b) b → cond big (big_endian_place b) b < cond big (big_endian_place start + 1 - len) start + len
    → Contains (cond big (big_endian start len) (little_endian start len)) b
contains true start zero b p r q h t = absurd (omega arith)
contains true start (suc k) b p r q h t = contains_big (big_endian_place start + 1 - suc k) start k b p q (omega arith) h (omega arith)
contains false start len b p r q h t = contains_little start len b h t

-- each bit whose place is one of the signal's is one of its bits
pub contains_of_place : (l : Layout) (b : ℕ) → IsUsable l → b < 64 → lowest_place l ≤ place_of l b → place_of l b < lowest_place l + l.len → Contains (bit_numbers l) b
contains_of_place l b u q h t = let r = room l.big l.start l.len u.at_least_one u.in_payload in contains l.big l.start l.len b r.0 r.1 q h t

lowest : (big : Bool) (start len : ℕ) → len ≤ cond big (big_endian_place start + 1) (64 - start) → start < 64 → cond big (big_endian_place start + 1 - len) start + len ≤ 64
lowest true start len r p = omega arith
lowest false start len r p = omega arith

-- a signal lies below place 64
pub lowest_place-le : (l : Layout) → IsUsable l → lowest_place l + l.len ≤ 64
lowest_place-le l u = let r = room l.big l.start l.len u.at_least_one u.in_payload in lowest l.big l.start l.len r.1 r.0

within : (big : Bool) (b : ℕ) → b < 64 → cond big (big_endian_place b) b < 64
within true b h = omega arith
within false b h = h

-- each bit has a place below 64
pub place_of-lt : (l : Layout) (b : ℕ) → b < 64 → place_of l b < 64
place_of-lt l b h = within l.big b h

-- a comparison that answers whether P holds
pub answers : (a b : ℕ) (P : Type 0) → (a ≤ b → P) → (P → a ≤ b) → IsTrue (leb a b) ↔ P
answers a b P there back = (λ t. there (grind (arith, nat_tests)), λ p. let h = back p in grind (arith, nat_tests))
