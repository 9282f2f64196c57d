-- The number n of a loop or a call makes no difference where it is large enough for the turns that are left.
use Rattle.std.specs.Prelude.{◌≡◌, ℕ, zero, suc, ◌<◌, ◌≤◌, Bool, true, false, if◌then◌else◌, List, [], ◌∷◌, ℤ, pos}
use Rattle.std.specs.Ordering.{int_eq}
use Rattle.std.proofs.Common.{refl, ap, sym, ◌∙◌, arith}
use Rattle.run_effects.specs.declared.outcome.Outcome.TheVariants.{Cut}
use Rattle.control_flow.specs.World.{World, Run, Gives, Fails, and_then, run_map, taking_turn, taking_turn_of}
use Rattle.control_flow.specs.Control.{Calls, Computes, Does, End, GoesOn, Breaks, Continues, Returns, calls_by, deciding, followed_by, going_on, in_order, loop, looping, nothing, number_given, round}
use Rattle.control_flow.specs.Turns.{AddsNoTurns, Agree, LeavesAtMost}
use Rattle.control_flow.proofs.Turns.{calls_add_none}

module _ {M : Type 0} where
  same_after : {A B : Type 0} (n : ℕ) (run : Run M A) (next next' : A → World M → Run M B) → LeavesAtMost n run →
      ((a : A) → Agree n (next a) (next' a)) → and_then run next ≡ and_then run next'
  same_after n (Gives a w) next next' h after = (after a).same w h
  same_after n (Fails outcome w) next next' h after = refl

  -- the same is given, and then the same is done
  pub same_then : {A B : Type 0} (n : ℕ) (run run' : Run M A) (next next' : A → World M → Run M B) → run ≡ run' →
      LeavesAtMost n run' → ((a : A) → Agree n (next a) (next' a)) → and_then run next ≡ and_then run' next'
  same_then n run run' next next' e h after = ap (λ r. and_then r next) e ∙ same_after n run' next next' h after

  -- parts that agree do so from fewer turns too
  pub agree_below : {A : Type 0} (m n : ℕ) (one other : World M → Run M A) → m ≤ n → Agree n one other → Agree m one other
  agree_below m n one other le h = record { same = λ w less. h.same w (omega (arith, le, less)) }

  same_either : {A : Type 0} (n : ℕ) (b : Bool) (one one' other other' : World M → Run M A) → Agree n one one' → Agree n other other' →
      (w : World M) → w.turns ≤ n → ◌≡◌ {A = Run M A} (if b then other w else one w) (if b then other' w else one' w)
  same_either n true one one' other other' same_one same_other w le = same_other.same w le
  same_either n false one one' other other' same_one same_other w le = same_one.same w le

  -- two tests that give the same decide the same
  pub same_deciding : {A : Type 0} (n : ℕ) (test test' : Run M ℤ) (one one' other other' : World M → Run M A) → test ≡ test' →
      LeavesAtMost n test' → Agree n one one' → Agree n other other' → deciding test one other ≡ deciding test' one' other'
  same_deciding n test test' one one' other other' e h same_one same_other = same_then n test test' _ _ e h
      (λ v. record { same = λ w le. same_either n (int_eq v (pos 0)) one one' other other' same_one same_other w le })

  same_turn_of : {A : Type 0} (n : ℕ) (w : World M) (next next' : World M → Run M A) →
      ((w : World M) → w.turns < n → next w ≡ next' w) → taking_turn_of n w next ≡ taking_turn_of n w next'
  same_turn_of zero w next next' h = refl
  same_turn_of (suc n) w next next' h = h (record w { turns = n }) (omega arith)

  -- the same is done after a turn
  pub same_turn : {A : Type 0} (w : World M) (next next' : World M → Run M A) →
      ((w' : World M) → w'.turns < w.turns → next w' ≡ next' w') → taking_turn w next ≡ taking_turn w next'
  same_turn w next next' h = same_turn_of w.turns w next next' h

  same_going_on : (n : ℕ) (next next' : Does M) (end : End) → Agree n next next' → Agree n (going_on next end) (going_on next' end)
  same_going_on n next next' GoesOn h = h
  same_going_on n next next' Breaks h = record { same = λ w le. refl }
  same_going_on n next next' Continues h = record { same = λ w le. refl }
  same_going_on n next next' (Returns v) h = record { same = λ w le. refl }

  -- one statement and another
  pub same_followed_by : (n : ℕ) (first first' second second' : Does M) → AddsNoTurns first' → Agree n first first' →
      Agree n second second' → Agree n (followed_by first second) (followed_by first' second')
  same_followed_by n first first' second second' h same_first same_second = record {
    same = λ w le. same_then w.turns (first w) (first' w) _ _ (same_first.same w le) (h.turns w)
        (λ end. same_going_on w.turns second second' end (agree_below w.turns n second second' le same_second));
  }

  -- statements one after the other
  pub same_in_order : {S : Type 0} (n : ℕ) (does does' : S → Does M) (all : List S) → ((s : S) → AddsNoTurns (does' s)) →
      ((s : S) → Agree n (does s) (does' s)) → Agree n (in_order does all) (in_order does' all)
  same_in_order n does does' [] h same = record { same = λ w le. refl }
  same_in_order n does does' (s ∷ rest) h same =
      same_followed_by n (does s) (does' s) _ _ (h s) (same s) (same_in_order n does does' rest h same)

  same_looping : (n : ℕ) (again again' : Does M) (end : End) → Agree n again again' → Agree n (looping again end) (looping again' end)
  same_looping n again again' GoesOn h = h
  same_looping n again again' Breaks h = record { same = λ w le. refl }
  same_looping n again again' Continues h = h
  same_looping n again again' (Returns v) h = record { same = λ w le. refl }

  -- a round, where what comes again agrees with one turn less
  pub same_round : (n : ℕ) (body body' again again' : Does M) → AddsNoTurns body' → Agree n body body' →
      ((m : ℕ) → m < n → Agree m again again') → Agree n (round body again) (round body' again')
  same_round n body body' again again' h same_body same_again = record {
    same = λ w le. same_turn w _ _ (λ w' less. same_then w'.turns (body w') (body' w') _ _
        (same_body.same w' (omega (arith, le, less))) (h.turns w')
        (λ end. same_looping w'.turns again again' end (same_again w'.turns (omega (arith, le, less)))));
  }

  -- a loop, where n turns are left at most and both numbers are greater
  pub same_loop : (n k k' : ℕ) (test test' : Computes M) (body body' step step' : Does M) → n < k → n < k' →
      AddsNoTurns test' → AddsNoTurns body' → AddsNoTurns step' → Agree n test test' → Agree n body body' → Agree n step step' →
      Agree n (loop k test body step) (loop k' test' body' step')
  same_loop n zero k' test test' body body' step step' less less' t b s same_t same_b same_s = absurd (omega (arith, less))
  same_loop n (suc k) zero test test' body body' step step' less less' t b s same_t same_b same_s = absurd (omega (arith, less'))
  same_loop n (suc k) (suc k') test test' body body' step step' less less' t b s same_t same_b same_s = record {
    same = λ w le. same_deciding w.turns (test w) (test' w) _ _ _ _ (same_t.same w le) (t.turns w)
        (same_round w.turns body body' _ _ b (agree_below w.turns n body body' le same_b) (λ m below.
        same_followed_by m step step' _ _ s (agree_below m n step step' (omega (arith, below, le)) same_s)
        (same_loop m k k' test test' body body' step step' (omega (arith, below, le, less)) (omega (arith, below, le, less')) t b s
        (agree_below m n test test' (omega (arith, below, le)) same_t) (agree_below m n body body' (omega (arith, below, le)) same_b)
        (agree_below m n step step' (omega (arith, below, le)) same_s))))
        (record { same = λ w le. refl });
  }

  cut_turn : {A : Type 0} (n : ℕ) (w : World M) (next : World M → Run M A) → n ≤ 0 → taking_turn_of n w next ≡ Fails Cut w
  cut_turn zero w next le = refl
  cut_turn (suc n) w next le = absurd (omega (arith, le))

  -- Calls, where n turns are left at most and no number is less. What a body does agrees where its calls agree, and it adds no
  -- turns where they add none.
  pub same_calls : (body : Calls M → ℕ → ℕ → Does M) →
      ((call : Calls M) (k f : ℕ) → ((f : ℕ) → AddsNoTurns (call f)) → AddsNoTurns (body call k f)) →
      ((call call' : Calls M) (n k k' f : ℕ) → n ≤ k → n ≤ k' → ((f : ℕ) → AddsNoTurns (call' f)) →
      ((f : ℕ) → Agree n (call f) (call' f)) → Agree n (body call k f) (body call' k' f)) →
      (n k k' f : ℕ) → n ≤ k → n ≤ k' → Agree n (calls_by body k f) (calls_by body k' f)
  same_calls body adds same n zero zero f le le' = record { same = λ w less. refl }
  same_calls body adds same n zero (suc k') f le le' =
      record { same = λ w less. sym (cut_turn w.turns w _ (omega (arith, less, le))) }
  same_calls body adds same n (suc k) zero f le le' = record { same = λ w less. cut_turn w.turns w _ (omega (arith, less, le')) }
  same_calls body adds same n (suc k) (suc k') f le le' = record {
    same = λ w less. same_turn w _ _ (λ w' below. ap (run_map number_given)
        ((same (calls_by body k) (calls_by body k') w'.turns k k' f (omega (arith, below, less, le)) (omega (arith, below, less, le'))
        (calls_add_none body adds k')
        (λ g. same_calls body adds same w'.turns k k' g (omega (arith, below, less, le)) (omega (arith, below, less, le')))).same w' (omega arith)));
  }

  -- a loop does what it does once it is unrolled
  pub loop_unrolled : (n : ℕ) (test : Computes M) (body step : Does M) → AddsNoTurns test → AddsNoTurns body → AddsNoTurns step →
      (w : World M) → w.turns ≤ n →
      loop (suc n) test body step w ≡ deciding (test w) (round body (followed_by step (loop (suc n) test body step))) nothing
  loop_unrolled n test body step t b s w le = same_deciding w.turns (test w) (test w) _ _ _ _ refl (t.turns w)
      (same_round w.turns body body _ _ b (record { same = λ w' le'. refl }) (λ m below.
      same_followed_by m step step _ _ s (record { same = λ w' le'. refl })
      (same_loop m n (suc n) test test body body step step (omega (arith, below, le)) (omega (arith, below, le)) t b s
      (record { same = λ w' le'. refl }) (record { same = λ w' le'. refl }) (record { same = λ w' le'. refl }))))
      (record { same = λ w' le'. refl })

  -- a round and then the loop with one number, or with the next
  pub round_then_loop : (n : ℕ) (test : Computes M) (body step : Does M) → AddsNoTurns test → AddsNoTurns body → AddsNoTurns step →
      (w : World M) → w.turns ≤ n → round body (loop n test body step) w ≡ round body (loop (suc n) test body step) w
  round_then_loop n test body step t b s w le = (same_round w.turns body body _ _ b (record { same = λ w' le'. refl }) (λ m below.
      same_loop m n (suc n) test test body body step step (omega (arith, below, le)) (omega (arith, below, le)) t b s
      (record { same = λ w' le'. refl }) (record { same = λ w' le'. refl }) (record { same = λ w' le'. refl }))).same w (omega arith)
