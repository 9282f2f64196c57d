-- From the lanes of vectors to the items that they were loaded from.
use Rattle.std.proofs.Common.{◌≡◌, ℕ, zero, suc, ◌+◌, ◌%◌, ◌^◌, ◌<◌, ◌≤◌, eqb, leb, Bool, true, false, cond, not, ◌&&◌, List, [], ◌∷◌, map, length, get_or, take, drop, replicate, refl, sym, ap, ◌∙◌, arith, ◌≢◌, inl, inr, Some, None, position, ltb}
use lib.Count.{count_trailing_zeros}
use Rattle.std.specs.List.{zip, prefix_len}
use Rattle.std.proofs.lemmas.Bool.{cases_lt}
use Rattle.std.proofs.lemmas.Bool.Decides.{nat_tests}
use Rattle.std.proofs.lemmas.List.Sums.{prefix_len_is}
use Rattle.std.specs.Simd.Lanes.{chunk, zip2, sel_l, mask_l, top}
use Rattle.std.proofs.lemmas.Simd.{mask_l-mod, length-chunk, first_set_mask_l, none_from_empty_mask, run_in_chunk_le, run_in_chunk_fails}
use Rattle.std.proofs.lemmas.List.{length-map}
use Rattle.std.proofs.lemmas.Slice.Zip.{length-zip, get_or-zip}
use Rattle.lane_scan.specs.Ranges.{holds}
use Rattle.lane_scan.specs.Inside.Ranges.{IsPassed}

-- ---- pairs of two lists
drop-zip : {X Y : Type 0} (i : ℕ) (xs : List X) (ys : List Y) → length xs ≡ length ys → drop i (zip xs ys) ≡ zip (drop i xs) (drop i ys)
drop-zip zero xs ys same = refl
drop-zip (suc i) [] ys same = refl
drop-zip (suc i) (x ∷ xs) [] same = absurd (omega arith)
drop-zip (suc i) (x ∷ xs) (y ∷ ys) same = drop-zip i xs ys (omega arith)

take-zip : {X Y : Type 0} (n : ℕ) (xs : List X) (ys : List Y) → take n (zip xs ys) ≡ zip (take n xs) (take n ys)
take-zip zero xs ys = refl
take-zip (suc n) [] ys = refl
take-zip (suc n) (x ∷ xs) [] = refl
take-zip (suc n) (x ∷ xs) (y ∷ ys) = ap (λ r. (x, y) ∷ r) (take-zip n xs ys)

-- the pairs that two loads of vectors have
pub chunk-zip : {X Y : Type 0} (i n : ℕ) (xs : List X) (ys : List Y) → length xs ≡ length ys → chunk i n (zip xs ys) ≡ zip (chunk i n xs) (chunk i n ys)
chunk-zip i n xs ys same = ap (take n) (drop-zip i xs ys same) ∙ take-zip n (drop i xs) (drop i ys)

-- ---- the lanes that hold a key
-- a lane of 32 bits that is all ones where the test is true, else 0
abbrev all_ones : Bool → ℕ
all_ones b = cond b 4294967295 0

set : (b : Bool) → top 31 (all_ones b) ≡ b
set true = refl
set false = refl

-- the greater of the least number and the key, and the lesser of the greatest and the key, are equal in a range
between : (key low high : ℕ) → eqb (cond (ltb low key) key low) (cond (ltb high key) high key) ≡ (leb low key && leb key high)
between key low high = grind (arith, nat_tests)

lane_holds : (key low high : ℕ)
    → top 31 (all_ones (eqb (cond (top 31 (all_ones (ltb low key))) key low) (cond (top 31 (all_ones (ltb high key))) high key))) ≡ holds key (low, high)
lane_holds key low high =
    set _
    ∙ ap (λ b. eqb (cond b key low) (cond (top 31 (all_ones (ltb high key))) high key)) (set (ltb low key))
    ∙ ap (λ b. eqb (cond (ltb low key) key low) (cond b high key)) (set (ltb high key))
    ∙ between key low high

-- what `simd_max` and `simd_min` give of lanes and a key in each lane
abbrev at_least : List ℕ → List ℕ → List ℕ
at_least lows keys = sel_l (map (top 31) (zip2 (λ a b. all_ones (ltb a b)) lows keys)) keys lows

abbrev at_most : List ℕ → List ℕ → List ℕ
at_most highs keys = sel_l (map (top 31) (zip2 (λ a b. all_ones (ltb a b)) highs keys)) highs keys

lanes_hold : (key n : ℕ) (lows highs : List ℕ) → length lows ≡ n → length highs ≡ n
    → map (top 31) (zip2 (λ a b. all_ones (eqb a b)) (at_least lows (replicate n key)) (at_most highs (replicate n key))) ≡ map (holds key) (zip lows highs)
lanes_hold key zero [] highs long same = refl
lanes_hold key zero (low ∷ lows) highs long same = absurd (omega arith)
lanes_hold key (suc n) [] highs long same = absurd (omega arith)
lanes_hold key (suc n) (low ∷ lows) [] long same = absurd (omega arith)
lanes_hold key (suc n) (low ∷ lows) (high ∷ highs) long same =
    λ i. lane_holds key low high i ∷ lanes_hold key n lows highs (omega arith) (omega arith) i

-- the bits of the lanes from the place on that hold the key
pub held_mask : (key i n : ℕ) (lows highs : List ℕ) → i + n ≤ length lows → length lows ≡ length highs → n ≤ 64
    → mask_l (map (top 31) (zip2 (λ a b. all_ones (eqb a b)) (at_least (chunk i n lows) (replicate n key)) (at_most (chunk i n highs) (replicate n key)))) % 2 ^ 64
    ≡ mask_l (map (holds key) (chunk i n (zip lows highs)))
held_mask key i n lows highs room same few =
    let held : List Bool = map (holds key) (chunk i n (zip lows highs)) in
    let bits = lanes_hold key n (chunk i n lows) (chunk i n highs) (length-chunk i n lows room) (length-chunk i n highs (omega arith)) in
    let small : length held ≤ 64 =
    omega (arith, length-map (chunk i n (zip lows highs)) (holds key), length-chunk i n (zip lows highs) (omega (arith, length-zip lows highs))) in
    ap (λ ms. mask_l ms % 2 ^ 64) (bits ∙ ap (map (holds key)) (sym (chunk-zip i n lows highs same))) ∙ mask_l-mod held 64 small

-- ---- places up to which no range holds the key
-- some places more, of which none holds the key either
pub IsPassed-more : (lows highs : List ℕ) (key place more : ℕ) → length lows ≡ length highs → place + more ≤ length lows → IsPassed lows highs key place
    → ((k : ℕ) → place ≤ k → k < place + more → holds key (get_or (zip lows highs) k (0, 0)) ≡ false) → IsPassed lows highs key (place + more)
IsPassed-more lows highs key place more same room passed here = record {
  within = room;
  none = λ k low. elim (cases_lt k place) [
    | inl before ↦ passed.none k before
    | inr behind ↦ ap (holds key) (sym (get_or-zip lows highs k (0, 0) (omega arith) (omega arith))) ∙ here k behind low
  ];
}

-- a whole vector in which no lane is set
pub IsPassed-vector : (lows highs : List ℕ) (key place n mask : ℕ) → length lows ≡ length highs → place + n ≤ length lows → IsPassed lows highs key place
    → mask ≡ mask_l (map (holds key) (chunk place n (zip lows highs))) → mask ≡ 0 → IsPassed lows highs key (place + n)
IsPassed-vector lows highs key place n mask same room passed is none =
    IsPassed-more lows highs key place n same room passed
    (none_from_empty_mask (holds key) (zip lows highs) place n (0, 0) (omega (arith, length-zip lows highs)) (sym is ∙ none))

-- the lanes before the lowest that is set
pub IsPassed-lanes : (lows highs : List ℕ) (key place n mask : ℕ) → length lows ≡ length highs → place + n ≤ length lows → n ≤ 64 → IsPassed lows highs key place
    → mask ≡ mask_l (map (holds key) (chunk place n (zip lows highs))) → mask ≢ 0 → IsPassed lows highs key (place + count_trailing_zeros 64 mask)
IsPassed-lanes lows highs key place n mask same room few passed is some =
    let pairs : List (ℕ × ℕ) = zip lows highs in
    let long : place + n ≤ length pairs = omega (arith, length-zip lows highs) in
    let set : eqb mask 0 ≡ false = grind (arith, nat_tests) in
    let counted : count_trailing_zeros 64 mask ≡ prefix_len (λ x. not (holds key x)) (chunk place n pairs) =
    sym (ap (λ b. cond b n (count_trailing_zeros 64 mask)) set)
    ∙ ap (λ m. cond (eqb m 0) n (count_trailing_zeros 64 m)) is
    ∙ first_set_mask_l (holds key) (chunk place n pairs) n (length-chunk place n pairs long) few in
    let le = run_in_chunk_le (holds key) pairs place n _ (0, 0) long counted in
    IsPassed-more lows highs key place (count_trailing_zeros 64 mask) same (omega arith) passed
    (run_in_chunk_fails (holds key) pairs place n _ (0, 0) long counted)

-- the first place that holds the key
pub position-passed : (lows highs : List ℕ) (key place : ℕ) → length lows ≡ length highs → place < length lows → IsPassed lows highs key place
    → holds key (get_or lows place 0, get_or highs place 0) ≡ true → position (holds key) (zip lows highs) ≡ Some place
position-passed lows highs key place same low passed here =
    let pairs : List (ℕ × ℕ) = zip lows highs in
    let long : length pairs ≡ length lows = omega (arith, length-zip lows highs) in
    let at : prefix_len (λ x. not (holds key x)) pairs ≡ place =
    prefix_len_is (λ x. not (holds key x)) pairs place (0, 0) (omega arith)
    (λ k before. ap (λ x. not (holds key x)) (get_or-zip lows highs k (0, 0) (omega arith) (omega arith)) ∙ ap not (passed.none k before))
    (λ _. ap (λ x. not (holds key x)) (get_or-zip lows highs place (0, 0) low (omega arith)) ∙ ap not here) in
    let inside : ltb place (length pairs) ≡ true = grind (arith, nat_tests) in
    ap (λ n. cond (ltb n (length pairs)) (Some n) None) at ∙ ap (λ b. cond b (Some place) None) inside

-- no place holds it
pub position-none : (lows highs : List ℕ) (key : ℕ) → length lows ≡ length highs → IsPassed lows highs key (length lows)
    → position (holds key) (zip lows highs) ≡ None
position-none lows highs key same passed =
    let pairs : List (ℕ × ℕ) = zip lows highs in
    let long : length pairs ≡ length lows = omega (arith, length-zip lows highs) in
    let at : prefix_len (λ x. not (holds key x)) pairs ≡ length lows =
    prefix_len_is (λ x. not (holds key x)) pairs (length lows) (0, 0) (omega arith)
    (λ k before. ap (λ x. not (holds key x)) (get_or-zip lows highs k (0, 0) (omega arith) (omega arith)) ∙ ap not (passed.none k before))
    (λ inside. absurd (omega arith)) in
    let past : ltb (length lows) (length pairs) ≡ false = grind (arith, nat_tests) in
    ap (λ n. cond (ltb n (length pairs)) (Some n) None) at ∙ ap (λ b. cond b (Some (length lows)) None) past
