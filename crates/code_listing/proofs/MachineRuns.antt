-- Runs of the machine on code that holds a listing, put together part by part.
use Rattle.std.proofs.Common.{◌≡◌, ℕ, zero, suc, ◌+◌, ◌≤◌, Bool, List, [], ◌∷◌, ◌++◌, length, Some, slice_get, refl, ap, ◌∙◌, subst, arith}
use Rattle.std.specs.Prelude.{ℤ}
use Rattle.run_effects.specs.declared.outcome.Outcome.{Outcome}
use Rattle.bytecode.specs.declared.code.Code.{Code}
use Rattle.bytecode.specs.declared.instr.Instr.{Instr}
use Rattle.bytecode.specs.Machine.{Machine, Goes, Ends}
use Rattle.bytecode.specs.Runs.{HoldKinds}
use Rattle.bytecode.specs.Step.{continuing, row}
use Rattle.bytecode.proofs.RunLemmas.{go-further, step_is_row}
use Rattle.control_flow.specs.World.{World, Run, Gives, Fails, and_then}
use Rattle.typed_tree.specs.Memory.{Memory}
use Rattle.code_listing.specs.Listing.{Listing}
use Rattle.code_listing.specs.Runs.{Comes, Follows, StandsAt, Stops, machine_at, world_of}

-- the first of two listings
pub stands_front : (code : Code) (place : ℕ) (xs ys : Listing) → StandsAt code place (xs ++ ys) → StandsAt code place xs
stands_front code place [] ys h = tt
stands_front code place (x ∷ xs) ys h = (h.0, stands_front code (place + 1) xs ys h.1)

-- the second of two listings, where the first one has this length
pub stands_back : (code : Code) (place n : ℕ) (xs ys : Listing) → length xs ≡ n → StandsAt code place (xs ++ ys) →
    StandsAt code (place + n) ys
stands_back code place n [] ys e h =
    let here : place ≡ place + n = omega (arith, e) in subst (λ p. StandsAt code p ys) here h
stands_back code place zero (x ∷ xs) ys e h = absurd (omega (arith, e))
stands_back code place (suc n) (x ∷ xs) ys e h =
    let here : place + 1 + n ≡ place + suc n = omega arith in
    subst (λ p. StandsAt code p ys) here (stands_back code (place + 1) n xs ys (omega (arith, e)) h.1)

module _ (code : Code) (closed : Bool) (moment : ℕ) where
  -- no step
  pub stays : (m : Machine) → Comes code closed moment m m
  stays m = record { steps = zero; goes = refl; turns = omega arith; cells_held = λ h. h; timers = refl }

  -- steps after steps
  pub comes_on : {a b c : Machine} → Comes code closed moment a b → Comes code closed moment b c → Comes code closed moment a c
  comes_on {a} {b} {c} r q = record {
    steps = r.steps + q.steps;
    goes = go-further code closed moment r.steps q.steps (r.steps + q.steps) a b refl r.goes ∙ q.goes;
    turns = omega (arith, r.turns, q.turns);
    cells_held = λ h. q.cells_held (r.cells_held h);
    timers = q.timers ∙ r.timers;
  }

  -- an end after steps
  pub stops_on : {a b : Machine} {o : Outcome} {w : World Memory} → Comes code closed moment a b → Stops code closed moment b o w →
      Stops code closed moment a o w
  stops_on {a} {b} {o} {w} r q = record {
    steps = r.steps + q.steps;
    after = q.after;
    ends = go-further code closed moment r.steps q.steps (r.steps + q.steps) a b refl r.goes ∙ q.ends;
    world = q.world;
  }

  -- one step
  pub one_comes : (m : Machine) (i : Instr) (after : Machine) → slice_get code.instrs m.place ≡ Some i →
      row code closed moment m i m.stack ≡ Goes after → after.turns ≤ m.turns →
      (HoldKinds code.cells m.cells → HoldKinds code.cells after.cells) → length after.active ≡ length m.active →
      Comes code closed moment m after
  one_comes m i after at e t held a = record {
    steps = suc zero;
    goes = ap (λ next. continuing next (λ m. Goes m)) (step_is_row code closed moment m i at ∙ e);
    turns = t;
    cells_held = held;
    timers = a;
  }

  -- one step that leaves the world as it is
  pub one_moves : (place next : ℕ) (stack stack' : List ℤ) (calls : List ℕ) (w : World Memory) (i : Instr) →
      slice_get code.instrs place ≡ Some i →
      row code closed moment (machine_at place stack calls w) i stack ≡ Goes (machine_at next stack' calls w) →
      Comes code closed moment (machine_at place stack calls w) (machine_at next stack' calls w)
  one_moves place next stack stack' calls w i at e =
      one_comes (machine_at place stack calls w) i (machine_at next stack' calls w) at e (omega arith) (λ h. h) refl

  -- one step that ends the run
  pub one_stops : (m : Machine) (i : Instr) (o : Outcome) (after : Machine) → slice_get code.instrs m.place ≡ Some i →
      row code closed moment m i m.stack ≡ Ends o after → Stops code closed moment m o (world_of after)
  one_stops m i o after at e = record {
    steps = suc zero;
    after = after;
    ends = ap (λ next. continuing next (λ m. Goes m)) (step_is_row code closed moment m i at ∙ e);
    world = refl;
  }

  -- the same state, with its place written in another way
  pub at_place : {m : Machine} {stack : List ℤ} {calls : List ℕ} {w : World Memory} (p q : ℕ) → p ≡ q →
      Comes code closed moment m (machine_at p stack calls w) → Comes code closed moment m (machine_at q stack calls w)
  at_place {m} {stack} {calls} {w} p q e r = subst (λ n. Comes code closed moment m (machine_at n stack calls w)) e r

  -- one part after another
  pub follows_then : {A B : Type 0} (m : Machine) (IsSo : A → World Memory → Type 0) (Then : B → World Memory → Type 0)
      (run : Run Memory A) (next : A → World Memory → Run Memory B) → Follows code closed moment m IsSo run →
      ((a : A) (w : World Memory) → IsSo a w → Follows code closed moment m Then (next a w)) → Follows code closed moment m Then (and_then run next)
  follows_then m IsSo Then (Gives a w) next first second = second a w first
  follows_then m IsSo Then (Fails o w) next first second = first

  -- from an earlier state on
  pub follows_from : {A : Type 0} (m m' : Machine) (IsSo Then : A → World Memory → Type 0) (run : Run Memory A) →
      Comes code closed moment m m' → ((a : A) (w : World Memory) → IsSo a w → Then a w) → Follows code closed moment m' IsSo run →
      Follows code closed moment m Then run
  follows_from m m' IsSo Then (Gives a w) r f h = f a w h
  follows_from m m' IsSo Then (Fails o w) r f h = stops_on r h

  -- one part after another, where the first one comes to a state
  pub then_on : {A B : Type 0} (m : Machine) (there : A → World Memory → Machine)
      (Then : Machine → B → World Memory → Type 0) (run : Run Memory A) (next : A → World Memory → Run Memory B) →
      ((m' : Machine) (b : B) (w : World Memory) → Comes code closed moment m m' → Then m' b w → Then m b w) →
      Follows code closed moment m (λ a w. Comes code closed moment m (there a w)) run →
      ((a : A) (w : World Memory) → Comes code closed moment m (there a w) → Follows code closed moment (there a w) (Then (there a w)) (next a w)) →
      Follows code closed moment m (Then m) (and_then run next)
  then_on m there Then run next further first second =
      follows_then m (λ a w. Comes code closed moment m (there a w)) (Then m) run next first
      (λ a w r. follows_from m (there a w) (Then (there a w)) (Then m) (next a w) r
      (λ b w' g. further (there a w) b w' r g) (second a w r))
