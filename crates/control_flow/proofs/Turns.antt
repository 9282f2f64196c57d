-- What adds no turns, and that the number n of a loop or a call makes no difference where it is large enough.
use Rattle.std.specs.Prelude.{ℕ, zero, suc, ◌≤◌, Bool, true, false, if◌then◌else◌, List, [], ◌∷◌, ℤ, pos}
use Rattle.std.specs.Ordering.{int_eq}
use Rattle.std.proofs.Common.{arith}
use Rattle.control_flow.specs.World.{World, Run, Gives, Fails, and_then, run_map, taking_turn, taking_turn_of}
use Rattle.control_flow.specs.Control.{Calls, Computes, Does, End, GoesOn, Breaks, Continues, Returns, calls_by, deciding, followed_by, going_on, in_order, leaving_switch, loop, looping, nothing, number_given, round}
use Rattle.control_flow.specs.Turns.{AddsNoTurns, LeavesAtMost}

module _ {M : Type 0} where
  -- more turns may be left
  pub at_most_more : {A : Type 0} (m n : ℕ) (run : Run M A) → m ≤ n → LeavesAtMost m run → LeavesAtMost n run
  at_most_more m n (Gives a w) le h = omega (arith, le, h)
  at_most_more m n (Fails outcome w) le h = omega (arith, le, h)

  -- what comes after adds none either
  pub at_most_then : {A B : Type 0} (n : ℕ) (run : Run M A) (next : A → World M → Run M B) → LeavesAtMost n run →
      ((a : A) (w : World M) → LeavesAtMost w.turns (next a w)) → LeavesAtMost n (and_then run next)
  at_most_then n (Gives a w) next h after = at_most_more w.turns n (next a w) h (after a w)
  at_most_then n (Fails outcome w) next h after = h

  -- what is made of what is given
  pub at_most_map : {A B : Type 0} (n : ℕ) (f : A → B) (run : Run M A) → LeavesAtMost n run → LeavesAtMost n (run_map f run)
  at_most_map n f (Gives a w) h = h
  at_most_map n f (Fails outcome w) h = h

  -- what comes after a turn, of which there are so many
  at_most_turn_of : {A : Type 0} (n : ℕ) (w : World M) (next : World M → Run M A) → n ≤ w.turns → AddsNoTurns next →
      LeavesAtMost w.turns (taking_turn_of n w next)
  at_most_turn_of zero w next le h = omega arith
  at_most_turn_of (suc n) w next le h = at_most_more n w.turns (next (record w { turns = n })) (omega (arith, le)) (h.turns (record w { turns = n }))

  -- what comes after a turn
  pub at_most_turn : {A : Type 0} (w : World M) (next : World M → Run M A) → AddsNoTurns next →
      LeavesAtMost w.turns (taking_turn w next)
  at_most_turn w next h = at_most_turn_of w.turns w next (omega arith) h

  -- one of two things
  at_most_either : {A : Type 0} (b : Bool) (one other : World M → Run M A) (w : World M) → AddsNoTurns one → AddsNoTurns other →
      LeavesAtMost w.turns (if b then other w else one w)
  at_most_either true one other w h k = k.turns w
  at_most_either false one other w h k = h.turns w

  -- what a test decides
  pub at_most_deciding : {A : Type 0} (n : ℕ) (test : Run M ℤ) (one other : World M → Run M A) → LeavesAtMost n test →
      AddsNoTurns one → AddsNoTurns other → LeavesAtMost n (deciding test one other)
  at_most_deciding n test one other t h k = at_most_then n test _ t (λ v w. at_most_either (int_eq v (pos 0)) one other w h k)

  -- nothing
  pub nothing_adds_none : AddsNoTurns (nothing {M = M})
  nothing_adds_none = record { turns = λ w. omega arith }

  -- what follows where a statement goes on
  at_most_going_on : (next : Does M) (end : End) (w : World M) → AddsNoTurns next → LeavesAtMost w.turns (going_on next end w)
  at_most_going_on next GoesOn w h = h.turns w
  at_most_going_on next Breaks w h = omega arith
  at_most_going_on next Continues w h = omega arith
  at_most_going_on next (Returns n) w h = omega arith

  -- one statement and another
  pub followed_by_adds_none : (first second : Does M) → AddsNoTurns first → AddsNoTurns second → AddsNoTurns (followed_by first second)
  followed_by_adds_none first second h k = record {
    turns = λ w. at_most_then w.turns (first w) _ (h.turns w) (λ end w. at_most_going_on second end w k);
  }

  -- statements one after the other
  pub in_order_adds_none : {S : Type 0} (does : S → Does M) (all : List S) → ((s : S) → AddsNoTurns (does s)) → AddsNoTurns (in_order does all)
  in_order_adds_none does [] h = nothing_adds_none
  in_order_adds_none does (s ∷ rest) h = followed_by_adds_none (does s) (in_order does rest) (h s) (in_order_adds_none does rest h)

  -- what comes after a loop's body
  at_most_looping : (again : Does M) (end : End) (w : World M) → AddsNoTurns again → LeavesAtMost w.turns (looping again end w)
  at_most_looping again GoesOn w h = h.turns w
  at_most_looping again Breaks w h = omega arith
  at_most_looping again Continues w h = h.turns w
  at_most_looping again (Returns n) w h = omega arith

  -- a round
  pub round_adds_none : (body again : Does M) → AddsNoTurns body → AddsNoTurns again → AddsNoTurns (round body again)
  round_adds_none body again h k = record {
    turns = λ w. at_most_turn w _ (record { turns = λ w. at_most_then w.turns (body w) _ (h.turns w) (λ end w. at_most_looping again end w k) });
  }

  -- a loop
  pub loop_adds_none : (n : ℕ) (test : Computes M) (body step : Does M) → AddsNoTurns test → AddsNoTurns body → AddsNoTurns step →
      AddsNoTurns (loop n test body step)
  loop_adds_none zero test body step t b s = record { turns = λ w. omega arith }
  loop_adds_none (suc n) test body step t b s = record {
    turns = λ w. at_most_deciding w.turns (test w) _ _ (t.turns w)
        (round_adds_none body _ b (followed_by_adds_none step _ s (loop_adds_none n test body step t b s))) nothing_adds_none;
  }

  -- what comes after a `switch`
  pub at_most_leaving : (end : End) (w : World M) → LeavesAtMost w.turns (leaving_switch end w)
  at_most_leaving GoesOn w = omega arith
  at_most_leaving Breaks w = omega arith
  at_most_leaving Continues w = omega arith
  at_most_leaving (Returns n) w = omega arith

  -- calls
  pub calls_add_none : (body : Calls M → ℕ → ℕ → Does M) →
      ((call : Calls M) (n f : ℕ) → ((f : ℕ) → AddsNoTurns (call f)) → AddsNoTurns (body call n f)) →
      (n f : ℕ) → AddsNoTurns (calls_by body n f)
  calls_add_none body h zero f = record { turns = λ w. omega arith }
  calls_add_none body h (suc n) f = record {
    turns = λ w. at_most_turn w _ (record {
      turns = λ w. at_most_map w.turns number_given _ ((h (calls_by body n) n f (calls_add_none body h n)).turns w);
    });
  }
