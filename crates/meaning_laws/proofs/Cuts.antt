-- Parts of a program by what they are made of: where one is cut, no turn is left.
use Rattle.std.specs.Prelude.{◌≡◌, ℕ, zero, suc, ◌<◌, ◌≤◌, Bool, true, false, if◌then◌else◌, List, [], ◌∷◌, pos}
use Rattle.std.specs.Ordering.{int_eq}
use Rattle.std.proofs.Common.{arith, refl, subst}
use Rattle.run_effects.specs.declared.outcome.Outcome.{Outcome}
use Rattle.run_effects.specs.declared.outcome.Outcome.TheVariants.{Cut}
use Rattle.control_flow.specs.World.{World, Run, Gives, Fails, and_then, run_map, taking_turn, taking_turn_of}
use Rattle.control_flow.specs.Control.{Calls, Computes, Does, End, GoesOn, Breaks, Continues, Returns, calls_by, deciding, followed_by, going_on, in_order, leaving_switch, loop, looping, nothing, number_given, round}

-- the most turns that are left where a part fails that began with so many: none where it is cut
abbrev pub left_at_most : ℕ → Outcome → ℕ
left_at_most n Cut = 0
left_at_most n outcome = n

-- a part ends with at most so many turns left, and is cut with none
abbrev pub EndsWithin : {M A : Type 0} → ℕ → Run M A → Type 0
EndsWithin n (Gives a w) = w.turns ≤ n
EndsWithin n (Fails outcome w) = w.turns ≤ left_at_most n outcome

-- a part does so from each world with at most n turns left
pub record IsCutLast {M A : Type 0} (n : ℕ) (part : World M → Run M A) : Type 0 where
  pub cut : (w : World M) → w.turns ≤ n → EndsWithin w.turns (part w)

more_left : (m n : ℕ) (outcome : Outcome) → m ≤ n → left_at_most m outcome ≤ left_at_most n outcome
more_left m n Cut le = omega arith
more_left m n outcome le = le

module _ {M : Type 0} where
  -- more turns may be left
  within_more : {A : Type 0} (m n : ℕ) (run : Run M A) → m ≤ n → EndsWithin m run → EndsWithin n run
  within_more m n (Gives a w) le h = omega (arith, le, h)
  within_more m n (Fails outcome w) le h = omega (arith, h, more_left m n outcome le)

  -- what comes after
  within_then : {A B : Type 0} (n : ℕ) (run : Run M A) (next : A → World M → Run M B) → EndsWithin n run → ((a : A) → IsCutLast n (next a)) →
      EndsWithin n (and_then run next)
  within_then n (Gives a w) next h after = within_more w.turns n (next a w) h ((after a).cut w h)
  within_then n (Fails outcome w) next h after = h

  -- from fewer turns too
  pub cut_below : {A : Type 0} (m n : ℕ) (part : World M → Run M A) → m ≤ n → IsCutLast n part → IsCutLast m part
  cut_below m n part le h = record { cut = λ w less. h.cut w (omega (arith, le, less)) }

  module _ (n : ℕ) where
    -- one of two things
    pub either_cut : {A : Type 0} (b : Bool) (one other : World M → Run M A) → IsCutLast n one → IsCutLast n other → IsCutLast n (λ w. if b then one w else other w)
    either_cut true one other h k = record { cut = h.cut }
    either_cut false one other h k = record { cut = k.cut }

    -- one thing and then another
    pub then_cut : {A B : Type 0} (run : World M → Run M A) (next : A → World M → Run M B) → IsCutLast n run → ((a : A) → IsCutLast n (next a)) →
        IsCutLast n (λ w. and_then (run w) next)
    then_cut run next h after = record { cut = λ w le. within_then w.turns (run w) next (h.cut w le) (λ a. cut_below w.turns n (next a) le (after a)) }

    -- what is made of what is given
    pub map_cut : {A B : Type 0} (f : A → B) (run : World M → Run M A) → IsCutLast n run → IsCutLast n (λ w. run_map f (run w))
    map_cut f run h = then_cut run (λ a w. Gives (f a) w) h (λ a. record { cut = λ w le. omega arith })

    -- what a test decides
    pub test_cut : {A : Type 0} (test : Computes M) (one other : World M → Run M A) → IsCutLast n test → IsCutLast n one → IsCutLast n other →
        IsCutLast n (λ w. deciding (test w) one other)
    test_cut test one other t h k = then_cut test _ t (λ v. record { cut = (either_cut (int_eq v (pos 0)) other one k h).cut })

    -- nothing
    pub nothing_cut : IsCutLast n (nothing {M = M})
    nothing_cut = record { cut = λ w le. omega arith }

    going_on_cut : (next : Does M) (end : End) → IsCutLast n next → IsCutLast n (going_on next end)
    going_on_cut next GoesOn h = record { cut = h.cut }
    going_on_cut next Breaks h = record { cut = λ w le. omega arith }
    going_on_cut next Continues h = record { cut = λ w le. omega arith }
    going_on_cut next (Returns v) h = record { cut = λ w le. omega arith }

    -- one statement and another
    pub followed_by_cut : (first second : Does M) → IsCutLast n first → IsCutLast n second → IsCutLast n (followed_by first second)
    followed_by_cut first second h k = record { cut = (then_cut first (going_on second) h (λ end. going_on_cut second end k)).cut }

    -- statements one after the other
    pub in_order_cut : {S : Type 0} (does : S → Does M) (all : List S) → ((s : S) → IsCutLast n (does s)) → IsCutLast n (in_order does all)
    in_order_cut does [] h = record { cut = λ w le. omega arith }
    in_order_cut does (s ∷ rest) h = followed_by_cut (does s) (in_order does rest) (h s) (in_order_cut does rest h)

    -- what comes after a `switch`
    pub leaving_cut : (end : End) → IsCutLast {M = M} n (leaving_switch end)
    leaving_cut GoesOn = record { cut = λ w le. omega arith }
    leaving_cut Breaks = record { cut = λ w le. omega arith }
    leaving_cut Continues = record { cut = λ w le. omega arith }
    leaving_cut (Returns v) = record { cut = λ w le. omega arith }

    looping_cut : (again : Does M) (end : End) → IsCutLast n again → IsCutLast n (looping again end)
    looping_cut again GoesOn h = record { cut = h.cut }
    looping_cut again Breaks h = record { cut = λ w le. omega arith }
    looping_cut again Continues h = record { cut = h.cut }
    looping_cut again (Returns v) h = record { cut = λ w le. omega arith }

  within_turn_of : {A : Type 0} (m : ℕ) (w : World M) (next : World M → Run M A) → w.turns ≡ m →
      ((w' : World M) → w'.turns < w.turns → EndsWithin w'.turns (next w')) → EndsWithin w.turns (taking_turn_of m w next)
  within_turn_of zero w next e h = omega (arith, e)
  within_turn_of (suc m) w next e h =
      within_more m w.turns (next (record w { turns = m })) (omega (arith, e)) (h (record w { turns = m }) (omega (arith, e)))

  -- what comes after a turn
  within_turn : {A : Type 0} (w : World M) (next : World M → Run M A) →
      ((w' : World M) → w'.turns < w.turns → EndsWithin w'.turns (next w')) → EndsWithin w.turns (taking_turn w next)
  within_turn w next h = within_turn_of w.turns w next refl h

  -- a round, where what comes again is so with fewer turns
  pub round_cut : (n : ℕ) (body again : Does M) → IsCutLast n body → ((m : ℕ) → m < n → IsCutLast m again) → IsCutLast n (round body again)
  round_cut n body again h k = record {
    cut = λ w le. within_turn w _ (λ w' less. (then_cut w'.turns body (looping again) (cut_below w'.turns n body (omega (arith, le, less)) h)
        (λ end. looping_cut w'.turns again end (k w'.turns (omega (arith, le, less))))).cut w' (omega arith));
  }

  -- a loop, where n turns are left at most and its number is greater
  pub loop_cut : (n k : ℕ) (test : Computes M) (body step : Does M) → n < k → IsCutLast n test → IsCutLast n body → IsCutLast n step →
      IsCutLast n (loop k test body step)
  loop_cut n zero test body step less t b s = absurd (omega (arith, less))
  loop_cut n (suc k) test body step less t b s = record {
    cut = (test_cut n test _ nothing t (round_cut n body _ b (λ m below.
        followed_by_cut m step _ (cut_below m n step (omega (arith, below)) s)
        (loop_cut m k test body step (omega (arith, below, less)) (cut_below m n test (omega (arith, below)) t)
        (cut_below m n body (omega (arith, below)) b) (cut_below m n step (omega (arith, below)) s)))) (nothing_cut n)).cut;
  }

  -- calls, where n turns are left at most and their number is not less
  pub calls_cut : (body : Calls M → ℕ → ℕ → Does M) →
      ((call : Calls M) (n k f : ℕ) → n ≤ k → ((f : ℕ) → IsCutLast n (call f)) → IsCutLast n (body call k f)) →
      (n k f : ℕ) → n ≤ k → IsCutLast n (calls_by body k f)
  calls_cut body h n zero f enough = record { cut = λ w le. omega (arith, le, enough) }
  calls_cut body h n (suc k) f enough = record {
    cut = λ w le. within_turn w _ (λ w' less. (map_cut w'.turns number_given _
        (h (calls_by body k) w'.turns k f (omega (arith, le, less, enough)) (λ g. calls_cut body h w'.turns k g (omega (arith, le, less, enough))))).cut w' (omega arith));
  }

  within_none : {A : Type 0} (n : ℕ) (run : Run M A) (after : World M) → EndsWithin n run → run ≡ Fails Cut after → after.turns ≡ 0
  within_none n run after h is = let none : after.turns ≤ 0 = subst (EndsWithin n) is h in omega (arith, none)

  -- where a part is cut, no turn is left
  pub cut_with_none : {A : Type 0} (n : ℕ) (part : World M → Run M A) → IsCutLast n part → (w after : World M) → w.turns ≤ n →
      part w ≡ Fails Cut after → after.turns ≡ 0
  cut_with_none n part h w after enough is = within_none w.turns (part w) after (h.cut w enough) is
