-- The run of equal bits in which a list ends, and the stuffing behind it.
use Rattle.std.proofs.Common.{◌≡◌, ◌⊎◌, inl, inr, ℕ, zero, suc, ◌+◌, ◌<◌, ◌≤◌, Bool, true, false, not, cond, eqb, List, [], ◌∷◌, ◌++◌, length, replicate, refl, sym, ap, subst, ◌∙◌, arith}
use Rattle.std.proofs.Math.Numerals.{add-one}
use Rattle.std.proofs.lemmas.Bool.{cases_lt}
use Rattle.std.proofs.lemmas.Bool.Decides.{nat_tests}
use Rattle.std.proofs.lemmas.List.{append-nil}
use Rattle.frame_bits.specs.Length.{begins_with_run, stuffing_after, stuffing_of}
use Rattle.frame_bits.specs.Inside.Stuffing.{run_with, stuffing_behind, CountsStuffing}

-- what stands before so many bits of one value: nothing, or a bit of the other value
abbrev Stops : ℕ → Bool → List Bool → Type 0
Stops zero x rest = rest ≡ []
Stops (suc k) x rest = (rest ≡ []) ⊎ ((tail : List Bool) × (rest ≡ not x ∷ tail))

-- a list, its last bit first, that ends in exactly so many bits of one value
pub record Ends (r : List Bool) (x : Bool) (k : ℕ) : Type 0 where
  pub rest : List Bool
  pub front : r ≡ replicate k x ++ rest
  pub stops : Stops k x rest

-- no bits end in no run
pub Ends-none : (x : Bool) → Ends [] x 0
Ends-none x = record { rest = []; front = refl; stops = refl }

-- one more bit of the same value
Ends-more : (r : List Bool) (x : Bool) (k : ℕ) → Ends r x k → Ends (x ∷ r) x (suc k)
Ends-more r x zero e = record { rest = e.rest; front = ap (λ l. x ∷ l) e.front; stops = inl e.stops }
Ends-more r x (suc k) e = record { rest = e.rest; front = ap (λ l. x ∷ l) e.front; stops = e.stops }

-- a bit of the other value
Ends-other : (r : List Bool) (x : Bool) (k : ℕ) → Ends r (not x) k → not (not x) ≡ x → Ends (x ∷ r) x 1
Ends-other r x zero e n = record { rest = r; front = refl; stops = inl (e.front ∙ e.stops) }
Ends-other r x (suc k) e n = record { rest = r; front = refl; stops = inr (replicate k (not x) ++ e.rest, e.front) }

-- one more bit makes the run longer or begins another
pub Ends-push : (r : List Bool) (x b : Bool) (k : ℕ) → Ends r x k → Ends (b ∷ r) b (run_with x k b)
Ends-push r true true k e = subst (Ends (true ∷ r) true) (sym (add-one k)) (Ends-more r true k e)
Ends-push r false false k e = subst (Ends (false ∷ r) false) (sym (add-one k)) (Ends-more r false k e)
Ends-push r true false k e = Ends-other r false k e refl
Ends-push r false true k e = Ends-other r true k e refl

-- the test for a run finds five equal bits
pub test_full : (x : Bool) (rest : List Bool) → begins_with_run (replicate 5 x ++ rest) ≡ true
test_full true rest = refl
test_full false rest = refl

test_end : (x : Bool) (k : ℕ) → k < 5 → begins_with_run (replicate k x ++ []) ≡ false
test_end true zero h = refl
test_end true (suc zero) h = refl
test_end true (suc (suc zero)) h = refl
test_end true (suc (suc (suc zero))) h = refl
test_end true (suc (suc (suc (suc zero)))) h = refl
test_end true (suc (suc (suc (suc (suc k))))) h = absurd (omega (arith, h))
test_end false zero h = refl
test_end false (suc zero) h = refl
test_end false (suc (suc zero)) h = refl
test_end false (suc (suc (suc zero))) h = refl
test_end false (suc (suc (suc (suc zero)))) h = refl
test_end false (suc (suc (suc (suc (suc k))))) h = absurd (omega (arith, h))

test_stop : (x : Bool) (k : ℕ) (tail : List Bool) → suc k < 5 → begins_with_run (replicate (suc k) x ++ not x ∷ tail) ≡ false
test_stop true zero tail h = refl
test_stop true (suc zero) tail h = refl
test_stop true (suc (suc zero)) tail h = refl
test_stop true (suc (suc (suc zero))) tail h = refl
test_stop true (suc (suc (suc (suc k)))) tail h = absurd (omega (arith, h))
test_stop false zero tail h = refl
test_stop false (suc zero) tail h = refl
test_stop false (suc (suc zero)) tail h = refl
test_stop false (suc (suc (suc zero))) tail h = refl
test_stop false (suc (suc (suc (suc k)))) tail h = absurd (omega (arith, h))

-- a shorter run is no run of five
pub not_five : (k : ℕ) → k < 5 → eqb k 5 ≡ false
not_five k h = grind (arith, nat_tests)

test_short : (k : ℕ) (x : Bool) (rest : List Bool) → k < 5 → Stops k x rest → begins_with_run (replicate k x ++ rest) ≡ false
test_short zero x rest h s = ap begins_with_run s
test_short (suc k) x rest h (inl s) = ap (λ l. begins_with_run (replicate (suc k) x ++ l)) s ∙ test_end x (suc k) h
test_short (suc k) x rest h (inr (tail, s)) = ap (λ l. begins_with_run (replicate (suc k) x ++ l)) s ∙ test_stop x k tail h

-- the test for five equal bits is a test of the run
pub run_test : (r : List Bool) (x : Bool) (k : ℕ) → k ≤ 5 → Ends r x k → begins_with_run r ≡ eqb k 5
run_test r x k h e =
    elim (cases_lt k 5) [
      | inl less ↦ ap begins_with_run e.front ∙ test_short k x e.rest less e.stops ∙ sym (not_five k less)
      | inr full ↦
          let five : k ≡ 5 = omega arith in
          ap begins_with_run e.front ∙ ap (λ n. begins_with_run (replicate n x ++ e.rest)) five ∙ test_full x e.rest ∙ ap (λ n. eqb n 5) (sym five)
    ]

-- a run grows to five at most
pub run_with-le : (x b : Bool) (k : ℕ) → k < 5 → run_with x k b ≤ 5
run_with-le true true k h = omega arith
run_with-le false false k h = omega arith
run_with-le true false k h = omega arith
run_with-le false true k h = omega arith

-- a bit of the other value begins a run
pub run_with-not : (b : Bool) (k : ℕ) → run_with b k (not b) ≡ 1
run_with-not true k = refl
run_with-not false k = refl

-- a bit of the same value makes the run longer
pub run_with-own : (b : Bool) (k : ℕ) → run_with b k b ≡ k + 1
run_with-own true k = refl
run_with-own false k = refl

-- a bit ends in a run
pub run_with-positive : (x b : Bool) (k : ℕ) → 0 < run_with x k b
run_with-positive true true k = omega arith
run_with-positive false false k = omega arith
run_with-positive true false k = omega arith
run_with-positive false true k = omega arith

-- a bit makes a run longer by one at most
pub run_with-more : (x b : Bool) (k : ℕ) → run_with x k b ≤ k + 1
run_with-more true true k = omega arith
run_with-more false false k = omega arith
run_with-more true false k = omega arith
run_with-more false true k = omega arith

-- ---- the stuffing behind a run
-- a fifth equal bit brings a stuff bit
pub stuffing_behind-run : (x b : Bool) (k : ℕ) (bits : List Bool) → run_with x k b ≡ 5 → stuffing_behind x k (b ∷ bits) ≡ b ∷ not b ∷ stuffing_behind (not b) 1 bits
stuffing_behind-run x b k bits e =
    ap (λ n. cond (eqb n 5) (b ∷ not b ∷ stuffing_behind (not b) 1 bits) (b ∷ stuffing_behind b n bits)) e

-- another bit brings none
pub stuffing_behind-more : (x b : Bool) (k : ℕ) (bits : List Bool) → run_with x k b < 5 → stuffing_behind x k (b ∷ bits) ≡ b ∷ stuffing_behind b (run_with x k b) bits
stuffing_behind-more x b k bits h =
    ap (λ t. cond t (b ∷ not b ∷ stuffing_behind (not b) 1 bits) (b ∷ stuffing_behind b (run_with x k b) bits)) (not_five (run_with x k b) h)

-- the run before the bits is all that their stuffing takes from what stands before them
pub stuffing_after-is : (bits r : List Bool) (x : Bool) (k : ℕ) → k < 5 → Ends r x k → stuffing_after r bits ≡ stuffing_behind x k bits
stuffing_after-is [] r x k h e = refl
stuffing_after-is (b ∷ bits) r x k h e =
    let n : ℕ = run_with x k b in
    let now : Ends (b ∷ r) b n = Ends-push r x b k e in
    let after : Ends (not b ∷ b ∷ r) (not b) 1 = subst (Ends (not b ∷ b ∷ r) (not b)) (run_with-not b n) (Ends-push (b ∷ r) b (not b) n now) in
    let test : begins_with_run (b ∷ r) ≡ eqb n 5 = run_test (b ∷ r) b n (run_with-le x b k h) now in
    elim (cases_lt n 5) [
      | inl less ↦
          ap (λ t. cond t (b ∷ not b ∷ stuffing_after (not b ∷ b ∷ r) bits) (b ∷ stuffing_after (b ∷ r) bits)) (test ∙ not_five n less)
          ∙ ap (λ l. b ∷ l) (stuffing_after-is bits (b ∷ r) b n less now)
          ∙ sym (stuffing_behind-more x b k bits less)
      | inr full ↦
          let five : n ≡ 5 = omega (arith, run_with-le x b k h, full) in
          ap (λ t. cond t (b ∷ not b ∷ stuffing_after (not b ∷ b ∷ r) bits) (b ∷ stuffing_after (b ∷ r) bits)) (test ∙ ap (λ m. eqb m 5) five)
          ∙ ap (λ l. b ∷ not b ∷ l) (stuffing_after-is bits (not b ∷ b ∷ r) (not b) 1 (omega arith) after)
          ∙ sym (stuffing_behind-run x b k bits five)
    ]

-- no bit is lost
pub length-stuffing_behind : (bits : List Bool) (x : Bool) (k : ℕ) → k < 5 → length bits ≤ length (stuffing_behind x k bits)
length-stuffing_behind [] x k h = omega arith
length-stuffing_behind (b ∷ bits) x k h =
    elim (cases_lt (run_with x k b) 5) [
      | inl less ↦
          omega (arith, ap length (stuffing_behind-more x b k bits less), length-stuffing_behind bits b (run_with x k b) less)
      | inr full ↦
          let five : run_with x k b ≡ 5 = omega (arith, run_with-le x b k h, full) in
          omega (arith, ap length (stuffing_behind-run x b k bits five), length-stuffing_behind bits (not b) 1 (omega arith))
    ]

-- the stuffing of a list stands behind no run
pub stuffing_of-is : (x : Bool) (bits : List Bool) → stuffing_of bits ≡ stuffing_behind x 0 bits
unfolding stuffing_of
stuffing_of-is x bits = stuffing_after-is bits [] x 0 (omega arith) (Ends-none x)

-- ---- what the counter starts and ends with
-- a counter of no bits
pub CountsStuffing-none : CountsStuffing 0 0 []
CountsStuffing-none more = ap length (stuffing_of-is false more) ∙ omega arith

-- what the counter has at the end is the length of the stuffing
pub CountsStuffing-all : (row count : ℕ) (bits : List Bool) → CountsStuffing row count bits → count ≡ length (stuffing_of bits)
CountsStuffing-all row count bits now =
    let all : length (stuffing_of bits) ≡ count + 0 = ap (λ l. length (stuffing_of l)) (sym (append-nil bits)) ∙ now [] in
    omega (arith, all)
