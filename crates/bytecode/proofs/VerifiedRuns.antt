-- Runs of verified code: never stuck, and they end.
use Rattle.std.proofs.Common.{◌≡◌, ◌≢◌, ◌≤◌, ◌<◌, ◌+◌, ◌*◌, ℕ, zero, suc, Bool, length, slice_get, refl, sym, ap, ◌∙◌, subst, arith}
use Rattle.std.specs.List.{AllByRecursion, sum_by}
use Rattle.std.proofs.lemmas.List.Sums.{sum_by-cons}
use Rattle.int_kinds.specs.Kind.{IsNumber}
use Rattle.run_effects.specs.declared.outcome.Outcome.{Outcome}
use Rattle.bytecode.specs.declared.code.Code.{Code}
use Rattle.bytecode.specs.declared.code.Fun.{Fun}
use Rattle.bytecode.specs.Laws.{GoesOn, IsStepOf, RunsToItsEnd, StepsInCode, enters_earlier, goes_later, leaves_function, takes_turn}
use Rattle.bytecode.specs.Machine.{Machine, Next, Goes, Ends, Stuck}
use Rattle.bytecode.specs.Runs.{HasEnded, HoldKinds, IsStartOf, Reaches, places_left, steps_left}
use Rattle.bytecode.specs.Step.{continuing, go, step}
use Rattle.bytecode.specs.Verified.{IsVerified}
use Rattle.bytecode.proofs.MachineStates.{Below, IsAt, IsSafe, IsSafeStep, Stands}
use Rattle.bytecode.proofs.Moves.{IsSafeStep-needing}
use Rattle.bytecode.proofs.PlaceRules.{begins, place_in_code, rule_here}
use Rattle.bytecode.proofs.Rows.{IsSafeStep-row}

-- ---- one step

-- where the machine stands, its step is safe
pub IsSafeStep-step : (code : Code) → IsVerified code → (closed : Bool) (moment : ℕ) (m : Machine) (s : Stands code m) →
    IsSafeStep s (step code closed moment m)
IsSafeStep-step code verified closed moment m s =
    let here = rule_here code verified m s in
    IsSafeStep-needing s (slice_get code.instrs m.place) here.instr _ here.is_instr
    (IsSafeStep-row verified closed moment s here.instr m.stack here.keeps s.numbers s.height)

step_of : {code : Code} {m : Machine} (s : Stands code m) (next : Next) → IsSafeStep s next → IsStepOf code s.number s.function m next
step_of s (Goes after) w = w.0
step_of s (Ends outcome after) w = w
step_of s Stuck w = w

-- the turns that are left, each with one more step than there are places
turns_less : (n before after : ℕ) → before ≡ after + 1 → before * (n + 1) ≡ after * (n + 1) + (n + 1)
turns_less n before after e = ap (λ k. k * (n + 1)) e ∙ (let d : (after + 1) * (n + 1) ≡ after * (n + 1) + (n + 1) = omega arith in d)

-- a step that goes on leaves fewer steps
fewer_by : (code : Code) (number : ℕ) (function : Fun) (m after : Machine) → m.place < length code.instrs →
    GoesOn code number function m after → steps_left code after < steps_left code m
fewer_by code number function m after inside (goes_later g) =
    let s : sum_by (places_left code) after.calls ≡ sum_by (places_left code) m.calls = ap (sum_by (places_left code)) g.same_calls in
    let t : after.turns * (length code.instrs + 1) ≡ m.turns * (length code.instrs + 1) = ap (λ n. n * (length code.instrs + 1)) g.same_turns in
    omega (arith, s, t, g.later)
fewer_by code number function m after inside (enters_earlier g) =
    let s : sum_by (places_left code) after.calls ≡ places_left code (m.place + 1) + sum_by (places_left code) m.calls =
    ap (sum_by (places_left code)) g.call_opens ∙ sum_by-cons (places_left code) (m.place + 1) m.calls in
    omega (arith, s, turns_less (length code.instrs) m.turns after.turns g.turn_taken)
fewer_by code number function m after inside (leaves_function g) =
    let s : sum_by (places_left code) m.calls ≡ places_left code after.place + sum_by (places_left code) after.calls =
    ap (sum_by (places_left code)) g.call_closes ∙ sum_by-cons (places_left code) after.place after.calls in
    let t : after.turns * (length code.instrs + 1) ≡ m.turns * (length code.instrs + 1) = ap (λ n. n * (length code.instrs + 1)) g.same_turns in
    omega (arith, s, t)
fewer_by code number function m after inside (takes_turn g) =
    let s : sum_by (places_left code) after.calls ≡ sum_by (places_left code) m.calls = ap (sum_by (places_left code)) g.same_calls in
    omega (arith, s, turns_less (length code.instrs) m.turns after.turns g.turn_taken)

module _ (code : Code) (verified : IsVerified code) (closed : Bool) (moment : ℕ) (m : Machine) (s : Stands code m) where
  -- where the machine goes on, it stands in the code
  pub stands_after : (after : Machine) → step code closed moment m ≡ Goes after → Stands code after
  stands_after after e = (subst (IsSafeStep s) e (IsSafeStep-step code verified closed moment m s)).1

  -- where the machine goes on, fewer steps are left
  pub fewer_left : (after : Machine) → step code closed moment m ≡ Goes after → steps_left code after < steps_left code m
  fewer_left after e =
      fewer_by code s.number s.function m after (place_in_code code verified m s) (subst (IsSafeStep s) e (IsSafeStep-step code verified closed moment m s)).0

  -- where the run ends, the cells hold numbers of their kinds
  pub held_at_end : (outcome : Outcome) (after : Machine) → step code closed moment m ≡ Ends outcome after → HoldKinds code.cells after.cells
  held_at_end outcome after e =
      let w = subst (IsSafeStep s) e (IsSafeStep-step code verified closed moment m s) in
      subst (λ (z : Machine). HoldKinds code.cells z.cells) (sym w.0) s.cells_held

-- ---- runs

-- the machine stands where a handler begins
pub start_stands : (code : Code) → IsVerified code → (number : ℕ) (m : Machine) → IsStartOf code number m → Stands code m
start_stands code verified number m s = record {
  number = s.handler.function;
  function = s.function;
  depth = 0;
  below = 0;
  at = subst (λ p. IsAt code s.handler.function s.function p 0) (sym s.at_start) (begins code verified s.handler.function s.function s.is_function);
  height = ap length s.no_numbers;
  callers = subst (λ cs. Below code s.handler.function s.function cs 0) (sym s.no_calls) refl;
  cells_held = s.cells_held;
  numbers = subst (AllByRecursion IsNumber) (sym s.no_numbers) tt;
  timers = s.timers_exist;
}

IsSafe-continuing : (code : Code) (m : Machine) (s : Stands code m) (next : Next) (further : Machine → Next) → IsSafeStep s next →
    ((after : Machine) → Stands code after → IsSafe code (further after)) → IsSafe code (continuing next further)
IsSafe-continuing code m s (Goes after) further w f = f after w.1
IsSafe-continuing code m s (Ends outcome after) further w f = subst (λ (z : Machine). HoldKinds code.cells z.cells) (sym w.0) s.cells_held
IsSafe-continuing code m s Stuck further w f = absurd w

-- a run from where the machine stands is safe
pub IsSafe-go : (code : Code) → IsVerified code → (closed : Bool) (moment n : ℕ) (m : Machine) → Stands code m → IsSafe code (go code closed moment n m)
IsSafe-go code verified closed moment zero m s = s
IsSafe-go code verified closed moment (suc n) m s =
    IsSafe-continuing code m s (step code closed moment m) (λ after. go code closed moment n after) (IsSafeStep-step code verified closed moment m s)
    (λ after s'. IsSafe-go code verified closed moment n after s')

-- the machine stands in the code in each state that a run of a handler comes to
pub stands_reached : (code : Code) → IsVerified code → (handler : ℕ) (start : Machine) → IsStartOf code handler start →
    (closed : Bool) (moment steps : ℕ) (m : Machine) → go code closed moment steps start ≡ Goes m → Stands code m
stands_reached code verified handler start is closed moment steps m e =
    subst (IsSafe code) e (IsSafe-go code verified closed moment steps start (start_stands code verified handler start is))

after_ends : (code : Code) (m : Machine) (next : Next) (further : Machine → Next) → next ≢ Stuck →
    ((after : Machine) → next ≡ Goes after → HasEnded (further after)) → HasEnded (continuing next further)
after_ends code m (Goes after) further w f = f after refl
after_ends code m (Ends outcome after) further w f = tt
after_ends code m Stuck further w f = absurd (w refl)

step_not_stuck : (code : Code) (m : Machine) (s : Stands code m) (next : Next) → IsSafeStep s next → next ≢ Stuck
step_not_stuck code m s (Goes after) w = λ e. cc
step_not_stuck code m s (Ends outcome after) w = λ e. cc
step_not_stuck code m s Stuck w = absurd w

-- after as many steps as were left, the run has ended
go_ends : (code : Code) → IsVerified code → (closed : Bool) (moment n : ℕ) (m : Machine) → Stands code m → steps_left code m ≤ n →
    HasEnded (go code closed moment n m)
go_ends code verified closed moment zero m s h = absurd (omega (arith, h, place_in_code code verified m s))
go_ends code verified closed moment (suc n) m s h =
    after_ends code m (step code closed moment m) (λ after. go code closed moment n after)
    (step_not_stuck code m s (step code closed moment m) (IsSafeStep-step code verified closed moment m s))
    (λ after e. go_ends code verified closed moment n after (stands_after code verified closed moment m s after e)
    (let less = fewer_left code verified closed moment m s after e in omega (arith, less, h)))

not_stuck : (code : Code) (next : Next) → IsSafe code next → next ≢ Stuck
not_stuck code (Goes m) w = λ e. cc
not_stuck code (Ends outcome m) w = λ e. cc
not_stuck code Stuck w = absurd w

-- a run of verified code from where a handler begins
pub runs_to_its_end : (code : Code) (handler : ℕ) (start : Machine) → IsVerified code → IsStartOf code handler start → RunsToItsEnd code start
runs_to_its_end code handler start verified is =
    let s = start_stands code verified handler start is in
    record {
      never_stuck = λ closed moment n. not_stuck code (go code closed moment n start) (IsSafe-go code verified closed moment n start s);
      ends = λ closed moment n h. go_ends code verified closed moment n start s h;
    }

-- each step of such a run
pub steps_in_code : (code : Code) (handler : ℕ) (start m : Machine) (closed : Bool) (moment : ℕ) → IsVerified code →
    IsStartOf code handler start → Reaches code closed moment start m → StepsInCode code m (step code closed moment m)
steps_in_code code handler start m closed moment verified is reached =
    let s = stands_reached code verified handler start is closed moment reached.0 m reached.1 in
    record {
      number = s.number;
      function = s.function;
      is_function = s.at.is_there;
      inside = s.at.inside;
      is_step = step_of s (step code closed moment m) (IsSafeStep-step code verified closed moment m s);
    }
