-- Every list of bits has exactly one stuffing.
use Rattle.std.proofs.Common.{◌≡◌, ◌≢◌, ℕ, ◌<◌, ◌≤◌, Bool, true, false, not, cond, eqb, List, [], ◌∷◌, ◌++◌, replicate, refl, sym, ap, subst, ◌∙◌, inl, inr, arith, append_assoc}
use Rattle.std.proofs.lemmas.Bool.{cases_lt}
use Rattle.std.proofs.lemmas.Bool.Decides.{nat_tests}
use Rattle.std.proofs.lemmas.List.{append-nil}
use Rattle.frame_bits.specs.Length.{begins_with_run, without_stuff_bits_after, without_stuff_bits, stuffing_of, IsStuffing, HasOneStuffing}
use Rattle.frame_bits.specs.Inside.Stuffing.{run_with, stuffing_behind}
use Rattle.frame_bits.proofs.Runs.{Ends, Ends-none, Ends-push, test_full, not_five, run_test, run_with-le, run_with-not, stuffing_behind-run, stuffing_behind-more, stuffing_of-is}

-- ---- the three points, at the bits behind a run
-- what follows is allowed: after five equal bits comes a bit of the other value
abbrev Follows : Bool → ℕ → List Bool → Type 0
Follows x k [] = k < 5
Follows x k (b ∷ s) = (k ≡ 5 → b ≡ not x) × Follows b (run_with x k b) s

-- the bits that do not follow five equal bits
abbrev without_stuff_bits_behind : Bool → ℕ → List Bool → List Bool
without_stuff_bits_behind x k [] = []
without_stuff_bits_behind x k (b ∷ s) = cond (eqb k 5) (without_stuff_bits_behind b (run_with x k b) s) (b ∷ without_stuff_bits_behind b (run_with x k b) s)

without_stuff_bits_behind-free : (x : Bool) (k : ℕ) (b : Bool) (s : List Bool) → k < 5 → without_stuff_bits_behind x k (b ∷ s) ≡ b ∷ without_stuff_bits_behind b (run_with x k b) s
without_stuff_bits_behind-free x k b s h =
    ap (λ t. cond t (without_stuff_bits_behind b (run_with x k b) s) (b ∷ without_stuff_bits_behind b (run_with x k b) s)) (not_five k h)

-- behind five equal bits the next one, of the other value, is left out
without_stuff_bits_behind-stuff : (x b : Bool) (s : List Bool) → b ≡ not x → without_stuff_bits_behind x 5 (b ∷ s) ≡ without_stuff_bits_behind b 1 s
without_stuff_bits_behind-stuff x b s e = ap (λ n. without_stuff_bits_behind b n s) (ap (run_with x 5) e ∙ run_with-not x 5)

run_stays : (x b : Bool) (k : ℕ) → k ≤ 5 → (k ≡ 5 → b ≡ not x) → run_with x k b ≤ 5
run_stays x b k h other =
    elim (cases_lt k 5) [
      | inl less ↦ run_with-le x b k less
      | inr full ↦
          let five : k ≡ 5 = omega arith in
          let one : run_with x k b ≡ 1 = ap (run_with x k) (other five) ∙ run_with-not x k in
          omega (arith, one)
    ]

without_stuff_bits_after-is : (s r : List Bool) (x : Bool) (k : ℕ) → k ≤ 5 → Ends r x k → Follows x k s → without_stuff_bits_after r s ≡ without_stuff_bits_behind x k s
without_stuff_bits_after-is [] r x k h e f = refl
without_stuff_bits_after-is (b ∷ s) r x k h e f =
    ap (λ t. cond t (without_stuff_bits_after (b ∷ r) s) (b ∷ without_stuff_bits_after (b ∷ r) s)) (run_test r x k h e)
    ∙ ap (λ l. cond (eqb k 5) l (b ∷ l)) (without_stuff_bits_after-is s (b ∷ r) b (run_with x k b) (run_stays x b k h f.0) (Ends-push r x b k e) f.1)

-- ---- the stuffing of a list meets them
Follows-stuffing_of : (bits : List Bool) (x : Bool) (k : ℕ) → k < 5 → Follows x k (stuffing_behind x k bits)
Follows-stuffing_of [] x k h = h
Follows-stuffing_of (b ∷ bits) x k h =
    elim (cases_lt (run_with x k b) 5) [
      | inl less ↦
          subst (Follows x k) (sym (stuffing_behind-more x b k bits less)) (λ five. absurd (omega (arith, h, five)), Follows-stuffing_of bits b (run_with x k b) less)
      | inr full ↦
          let five : run_with x k b ≡ 5 = omega (arith, run_with-le x b k h, full) in
          let after : Follows (not b) (run_with b (run_with x k b) (not b)) (stuffing_behind (not b) 1 bits) =
          subst (λ n. Follows (not b) n (stuffing_behind (not b) 1 bits)) (sym (run_with-not b (run_with x k b))) (Follows-stuffing_of bits (not b) 1 (omega arith)) in
          subst (Follows x k) (sym (stuffing_behind-run x b k bits five)) (λ q. absurd (omega (arith, h, q)), (λ q. refl, after))
    ]

kept-stuffing_of : (bits : List Bool) (x : Bool) (k : ℕ) → k < 5 → without_stuff_bits_behind x k (stuffing_behind x k bits) ≡ bits
kept-stuffing_of [] x k h = refl
kept-stuffing_of (b ∷ bits) x k h =
    elim (cases_lt (run_with x k b) 5) [
      | inl less ↦
          ap (without_stuff_bits_behind x k) (stuffing_behind-more x b k bits less)
          ∙ without_stuff_bits_behind-free x k b (stuffing_behind b (run_with x k b) bits) h
          ∙ ap (λ l. b ∷ l) (kept-stuffing_of bits b (run_with x k b) less)
      | inr full ↦
          let five : run_with x k b ≡ 5 = omega (arith, run_with-le x b k h, full) in
          ap (without_stuff_bits_behind x k) (stuffing_behind-run x b k bits five)
          ∙ without_stuff_bits_behind-free x k b (not b ∷ stuffing_behind (not b) 1 bits) h
          ∙ ap (λ n. b ∷ without_stuff_bits_behind b n (not b ∷ stuffing_behind (not b) 1 bits)) five
          ∙ ap (λ l. b ∷ l) (without_stuff_bits_behind-stuff b (not b) (stuffing_behind (not b) 1 bits) refl)
          ∙ ap (λ l. b ∷ l) (kept-stuffing_of bits (not b) 1 (omega arith))
    ]

-- ---- what meets them is the stuffing of what it keeps
only : (s : List Bool) (x : Bool) (k : ℕ) → k < 5 → Follows x k s → s ≡ stuffing_behind x k (without_stuff_bits_behind x k s)
only [] x k h f = refl
only (b ∷ []) x k h f = sym (ap (stuffing_behind x k) (without_stuff_bits_behind-free x k b [] h) ∙ stuffing_behind-more x b k [] f.1)
only (b ∷ d ∷ s) x k h f =
    elim (cases_lt (run_with x k b) 5) [
      | inl less ↦
          ap (λ l. b ∷ l) (only (d ∷ s) b (run_with x k b) less f.1)
          ∙ sym (ap (stuffing_behind x k) (without_stuff_bits_behind-free x k b (d ∷ s) h) ∙ stuffing_behind-more x b k (without_stuff_bits_behind b (run_with x k b) (d ∷ s)) less)
      | inr full ↦
          let five : run_with x k b ≡ 5 = omega (arith, run_with-le x b k h, full) in
          let other : d ≡ not b = f.1.0 five in
          let one : run_with b (run_with x k b) d ≡ 1 = ap (run_with b (run_with x k b)) other ∙ run_with-not b (run_with x k b) in
          let after : Follows d 1 s = subst (λ n. Follows d n s) one f.1.1 in
          let kept : List Bool = without_stuff_bits_behind d 1 s in
          let keeps : without_stuff_bits_behind x k (b ∷ d ∷ s) ≡ b ∷ kept =
          without_stuff_bits_behind-free x k b (d ∷ s) h
          ∙ ap (λ n. b ∷ without_stuff_bits_behind b n (d ∷ s)) five
          ∙ ap (λ l. b ∷ l) (without_stuff_bits_behind-stuff b d s other) in
          ap (λ l. b ∷ d ∷ l) (only s d 1 (omega arith) after)
          ∙ ap (λ y. b ∷ y ∷ stuffing_behind y 1 kept) other
          ∙ sym (ap (stuffing_behind x k) keeps ∙ stuffing_behind-run x b k kept five)
    ]

-- ---- the three points, as they are stated
abbrev NoSix : List Bool → Type 0
NoSix s = (front back : List Bool) (x : Bool) → s ≢ (front ++ replicate 6 x) ++ back

abbrev Followed : List Bool → Type 0
Followed s = (front back : List Bool) (x : Bool) → s ≡ (front ++ replicate 5 x) ++ back → back ≢ []

-- the bits of the first list in the other order, and then the second
abbrev onto : List Bool → List Bool → List Bool
onto [] s = s
onto (b ∷ r) s = onto r (b ∷ s)

onto-append : (a b s : List Bool) → onto (a ++ b) s ≡ onto b (onto a s)
onto-append [] b s = refl
onto-append (x ∷ a) b s = onto-append a b (x ∷ s)

onto-is : (r s : List Bool) → onto r s ≡ onto r [] ++ s
onto-is [] s = refl
onto-is (b ∷ r) s =
    onto-is r (b ∷ s) ∙ sym (append_assoc (onto r []) (b ∷ []) s) ∙ ap (λ l. l ++ s) (sym (onto-is r (b ∷ [])))

from_five : (r : List Bool) (x : Bool) (k : ℕ) → Ends r x k → k ≡ 5 → (rest : List Bool) × (r ≡ replicate 5 x ++ rest)
from_five r x k e five = (e.rest, e.front ∙ ap (λ n. replicate n x ++ e.rest) five)

other_bit : (b x : Bool) → b ≢ x → b ≡ not x
other_bit true true ne = absurd (ne refl)
other_bit false false ne = absurd (ne refl)
other_bit true false ne = refl
other_bit false true ne = refl

not_own : (b : Bool) → b ≢ not b
not_own true e = cc
not_own false e = cc

to_Follows : (s r : List Bool) (x : Bool) (k : ℕ) → k ≤ 5 → Ends r x k → NoSix (onto r s) → Followed (onto r s) → Follows x k s
to_Follows [] r x k h e no_six followed =
    elim (cases_lt k 5) [
      | inl less ↦ less
      | inr full ↦
          let w = from_five r x k e (omega (arith, h, full)) in
          absurd (followed (onto w.0 []) [] x (ap (λ l. onto l []) w.1 ∙ onto-append (replicate 5 x) w.0 [] ∙ onto-is w.0 (replicate 5 x) ∙ sym (append-nil (onto w.0 [] ++ replicate 5 x))) refl)
    ]
to_Follows (b ∷ s) r x k h e no_six followed =
    let other : k ≡ 5 → b ≡ not x =
    λ five. other_bit b x (λ q.
    let w = from_five r x k e five in
    no_six (onto w.0 []) s x (ap (λ l. onto l (b ∷ s)) w.1 ∙ onto-append (replicate 5 x) w.0 (b ∷ s) ∙ onto-is w.0 (replicate 5 x ++ b ∷ s) ∙ ap (λ y. onto w.0 [] ++ (replicate 5 x ++ y ∷ s)) q ∙ sym (append_assoc (onto w.0 []) (replicate 6 x) s))) in
    (other, to_Follows s (b ∷ r) b (run_with x k b) (run_stays x b k h other) (Ends-push r x b k e) no_six followed)

-- a list that begins with five equal bits ends, in the other order, in a run of five
head_run : (r : List Bool) (x : Bool) (k : ℕ) (y : Bool) (back : List Bool) → k ≤ 5 → Ends r x k → r ≡ replicate 5 y ++ back → (k ≡ 5) × (x ≡ y)
head_run r x k y back h e q =
    let test : eqb k 5 ≡ true = sym (run_test r x k h e) ∙ ap begins_with_run q ∙ test_full y back in
    let five : k ≡ 5 = grind (arith, nat_tests) in
    let w = from_five r x k e five in
    let both : replicate 5 x ++ w.0 ≡ replicate 5 y ++ back = sym w.1 ∙ q in
    (five, cc both)

NoSix-push : (r : List Bool) (x b : Bool) (k : ℕ) → k ≤ 5 → Ends r x k → (k ≡ 5 → b ≡ not x) → NoSix r → NoSix (b ∷ r)
NoSix-push r x b k h e other n [] back y q =
    let tail : r ≡ replicate 5 y ++ back = cc q in
    let first : b ≡ y = cc q in
    let run = head_run r x k y back h e tail in
    not_own x (run.1 ∙ sym first ∙ other run.0)
NoSix-push r x b k h e other n (z ∷ front) back y q = n front back y (cc q)

-- what a whole list ends in, in the other order
record EndsWell (r : List Bool) : Type 0 where
  pub last : Bool
  pub run : ℕ
  pub ends : Ends r last run
  pub short : run < 5
  pub no_six : NoSix r

from_Follows : (s r : List Bool) (x : Bool) (k : ℕ) → k ≤ 5 → Ends r x k → NoSix r → Follows x k s → EndsWell (onto s r)
from_Follows [] r x k h e n f = record { last = x; run = k; ends = e; short = f; no_six = n }
from_Follows (b ∷ s) r x k h e n f =
    from_Follows s (b ∷ r) b (run_with x k b) (run_stays x b k h f.0) (Ends-push r x b k e) (NoSix-push r x b k h e f.0 n) f.1

not_short : (k : ℕ) → k < 5 → k ≢ 5
not_short k h e = omega (arith, h, e)

-- a split of a list, in the other order
turned : (s front middle back : List Bool) → s ≡ (front ++ middle) ++ back → onto s [] ≡ onto back (onto middle (onto front []))
turned s front middle back q =
    ap (λ l. onto l []) q ∙ onto-append (front ++ middle) back [] ∙ ap (onto back) (onto-append front middle [])

no_six_nil : NoSix []
no_six_nil [] back x q = cc q
no_six_nil (z ∷ front) back x q = cc q

is_one : (b : List Bool) → IsStuffing (stuffing_of b) b
unfolding without_stuff_bits
is_one b =
    let s : List Bool = stuffing_behind false 0 b in
    let follows : Follows false 0 s = Follows-stuffing_of b false 0 (omega arith) in
    let well : EndsWell (onto s []) = from_Follows s [] false 0 (omega arith) (Ends-none false) no_six_nil follows in
    let here : IsStuffing s b = record {
      no_six = λ front back x q. well.no_six (onto back []) (onto front []) x (turned s front (replicate 6 x) back q ∙ onto-is back (replicate 6 x ++ onto front []) ∙ sym (append_assoc (onto back []) (replicate 6 x) (onto front [])));
      followed = λ front back x q none. not_short well.run well.short (head_run (onto s []) well.last well.run x (onto front []) (omega (arith, well.short)) well.ends (turned s front (replicate 5 x) back q ∙ ap (λ l. onto l (replicate 5 x ++ onto front [])) none)).0;
      carries = without_stuff_bits_after-is s [] false 0 (omega arith) (Ends-none false) follows ∙ kept-stuffing_of b false 0 (omega arith);
    } in
    subst (λ l. IsStuffing l b) (sym (stuffing_of-is false b)) here

no_other : (b s : List Bool) → IsStuffing s b → s ≡ stuffing_of b
unfolding without_stuff_bits
no_other b s is =
    let follows : Follows false 0 s = to_Follows s [] false 0 (omega arith) (Ends-none false) is.no_six is.followed in
    let keeps : without_stuff_bits_behind false 0 s ≡ b = sym (without_stuff_bits_after-is s [] false 0 (omega arith) (Ends-none false) follows) ∙ is.carries in
    only s false 0 (omega arith) follows ∙ ap (stuffing_behind false 0) keeps ∙ sym (stuffing_of-is false b)

-- the law of stuffing
pub HasOneStuffing-all : (b : List Bool) → HasOneStuffing b
HasOneStuffing-all b = record { is_one = is_one b; no_other = no_other b }
