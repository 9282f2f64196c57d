-- Parts of a program by what they are made of: that they add no turns, and that they do the same.
use Rattle.std.specs.Prelude.{ℕ, Bool, true, false, if◌then◌else◌}
use Rattle.std.proofs.Common.{ap, refl}
use Rattle.control_flow.specs.World.{World, Run, and_then, run_map}
use Rattle.control_flow.specs.Control.{Computes, deciding}
use Rattle.control_flow.specs.Turns.{AddsNoTurns, Agree}
use Rattle.control_flow.proofs.Turns.{at_most_deciding, at_most_map, at_most_then}
use Rattle.control_flow.proofs.Fuel.{agree_below, same_deciding, same_then}

module _ {M : Type 0} where
  -- one of two things adds no turns
  pub either_adds_none : {A : Type 0} (b : Bool) (one other : World M → Run M A) → AddsNoTurns one → AddsNoTurns other →
      AddsNoTurns (λ w. if b then one w else other w)
  either_adds_none true one other h k = record { turns = h.turns }
  either_adds_none false one other h k = record { turns = k.turns }

  -- one thing and then another
  pub then_adds_none : {A B : Type 0} (run : World M → Run M A) (next : A → World M → Run M B) → AddsNoTurns run → ((a : A) → AddsNoTurns (next a)) →
      AddsNoTurns (λ w. and_then (run w) next)
  then_adds_none run next h after = record { turns = λ w. at_most_then w.turns (run w) next (h.turns w) (λ a w. (after a).turns w) }

  -- what is made of what is given
  pub map_adds_none : {A B : Type 0} (f : A → B) (run : World M → Run M A) → AddsNoTurns run → AddsNoTurns (λ w. run_map f (run w))
  map_adds_none f run h = record { turns = λ w. at_most_map w.turns f (run w) (h.turns w) }

  -- what a test decides
  pub test_adds_none : {A : Type 0} (test : Computes M) (one other : World M → Run M A) → AddsNoTurns test → AddsNoTurns one → AddsNoTurns other →
      AddsNoTurns (λ w. deciding (test w) one other)
  test_adds_none test one other t h k = record { turns = λ w. at_most_deciding w.turns (test w) one other (t.turns w) h k }

  module _ (n : ℕ) where
    -- a part does the same as itself
    pub same_self : {A : Type 0} (part : World M → Run M A) → Agree n part part
    same_self part = record { same = λ w le. refl }

    -- one of two things does the same
    pub same_either : {A : Type 0} (b : Bool) (one one' other other' : World M → Run M A) → Agree n one one' → Agree n other other' →
        Agree n (λ w. if b then one w else other w) (λ w. if b then one' w else other' w)
    same_either true one one' other other' h k = record { same = h.same }
    same_either false one one' other other' h k = record { same = k.same }

    -- one thing and then another
    pub same_next : {A B : Type 0} (run run' : World M → Run M A) (next next' : A → World M → Run M B) → AddsNoTurns run' → Agree n run run' →
        ((a : A) → Agree n (next a) (next' a)) → Agree n (λ w. and_then (run w) next) (λ w. and_then (run' w) next')
    same_next run run' next next' adds h after = record {
      same = λ w le. same_then w.turns (run w) (run' w) next next' (h.same w le) (adds.turns w) (λ a. agree_below w.turns n (next a) (next' a) le (after a));
    }

    -- what is made of what is given
    pub same_map : {A B : Type 0} (f : A → B) (run run' : World M → Run M A) → Agree n run run' → Agree n (λ w. run_map f (run w)) (λ w. run_map f (run' w))
    same_map f run run' h = record { same = λ w le. ap (run_map f) (h.same w le) }

    -- what a test decides
    pub same_test : {A : Type 0} (test test' : Computes M) (one one' other other' : World M → Run M A) → AddsNoTurns test' → Agree n test test' →
        Agree n one one' → Agree n other other' → Agree n (λ w. deciding (test w) one other) (λ w. deciding (test' w) one' other')
    same_test test test' one one' other other' adds t h k = record {
      same = λ w le. same_deciding w.turns (test w) (test' w) one one' other other' (t.same w le) (adds.turns w)
          (agree_below w.turns n one one' le h) (agree_below w.turns n other other' le k);
    }
