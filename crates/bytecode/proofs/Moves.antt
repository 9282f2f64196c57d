-- Steps within a function: what a row asks for is there, and the machine goes on, jumps up, or takes a turn.
use Rattle.std.proofs.Common.{◌≡◌, ◌≤◌, ◌<◌, ◌+◌, ℕ, zero, suc, Bool, true, false, cond, List, length, Option, Some, refl, sym, ap, ◌∙◌, subst, arith, inl, inr}
use Rattle.std.specs.Prelude.{ℤ, pos, negsuc, nat_lt}
use Rattle.std.specs.List.{AllByRecursion}
use Rattle.std.proofs.lemmas.Bool.Decides.{leb_tells}
use Rattle.int_kinds.specs.Kind.{IsNumber}
use Rattle.bytecode.specs.declared.code.Code.{Code}
use Rattle.bytecode.specs.Laws.{goes_later, takes_turn}
use Rattle.bytecode.specs.Machine.{Machine, Next}
use Rattle.bytecode.specs.Rule.{IsIn, IsReached, Target}
use Rattle.bytecode.specs.Runs.{HoldKinds}
use Rattle.bytecode.specs.Step.{goes_on, goes_to, indexing, needing, taking_turn}
use Rattle.bytecode.proofs.MachineStates.{Below, IsAt, IsSafeStep, Stands}

module _ {code : Code} {m : Machine} (s : Stands code m) where
  -- ---- what a row asks for is there

  -- a row that asks for what is there
  pub IsSafeStep-needing : {A : Type 0} (o : Option A) (x : A) (row : A → Next) → o ≡ Some x → IsSafeStep s (row x) →
      IsSafeStep s (needing o row)
  IsSafeStep-needing o x row e h = subst (λ p. IsSafeStep s (needing p row)) (sym e) h

  -- one of two steps
  pub IsSafeStep-if : (b : Bool) (first second : Next) → (b ≡ true → IsSafeStep s first) → (b ≡ false → IsSafeStep s second) →
      IsSafeStep s (cond b first second)
  IsSafeStep-if true first second y n = y refl
  IsSafeStep-if false first second y n = n refl

  -- a row of an index below a length, or a trap
  pub IsSafeStep-indexing : (i : ℤ) (len : ℕ) (row : ℕ → Next) → ((k : ℕ) → k < len → IsSafeStep s (row k)) →
      IsSafeStep s (indexing i len m row)
  IsSafeStep-indexing (negsuc i) len row h = (refl, tt)
  IsSafeStep-indexing (pos i) len row h =
      IsSafeStep-if (nat_lt i len) (row i) _
      (λ e. elim (leb_tells (suc i) len) [
        | inl below ↦ h i (omega (arith, below.1))
        | inr past ↦ absurd (let t : true ≡ false = sym e ∙ past.0 in cc)
      ])
      (λ _. (refl, tt))

  -- ---- moves

  -- a state at a target of the function
  pub arrives : (after : Machine) (target : Target) → after.place ≡ target.place → after.calls ≡ m.calls →
      IsReached code s.function target → length after.stack ≡ target.depth + s.below →
      HoldKinds code.cells after.cells → AllByRecursion IsNumber after.stack → length code.timers ≤ length after.active →
      Stands code after
  arrives after target p c reached height cells numbers timers = record {
    number = s.number;
    function = s.function;
    depth = target.depth;
    below = s.below;
    at = subst (λ q. IsAt code s.number s.function q target.depth) (sym p)
        (record { is_there = s.at.is_there; inside = reached.inside; has_depth = reached.depth });
    height = height;
    callers = subst (λ cs. Below code s.number s.function cs s.below) (sym c) s.callers;
    cells_held = cells;
    numbers = numbers;
    timers = timers;
  }

  inside_at : (place : ℕ) (target : Target) → place ≡ target.place → IsReached code s.function target → IsIn s.function place
  inside_at place target p reached = subst (IsIn s.function) (sym p) reached.inside

  -- on to the next place, with changed cells, timers or effects
  pub IsSafeStep-on : (changed : Machine) (stack : List ℤ) (target : Target) → target.place ≡ m.place + 1 →
      changed.place ≡ m.place → changed.calls ≡ m.calls → changed.turns ≡ m.turns →
      HoldKinds code.cells changed.cells → length code.timers ≤ length changed.active →
      AllByRecursion IsNumber stack → length stack ≡ target.depth + s.below → IsReached code s.function target →
      IsSafeStep s (goes_on changed stack)
  IsSafeStep-on changed stack target t p c u cells timers numbers height reached =
      let there : changed.place + 1 ≡ target.place = ap (λ n. n + 1) p ∙ sym t in (
        goes_later (record {
          inside = inside_at (changed.place + 1) target there reached;
          later = omega (arith, p);
          same_calls = c;
          same_turns = u;
        }),
        arrives (record changed { place = changed.place + 1; stack = stack }) target there c reached height cells numbers timers,
      )

  -- the same with nothing else changed
  pub IsSafeStep-on_same : (stack : List ℤ) (target : Target) → target.place ≡ m.place + 1 →
      AllByRecursion IsNumber stack → length stack ≡ target.depth + s.below → IsReached code s.function target →
      IsSafeStep s (goes_on m stack)
  IsSafeStep-on_same stack target t numbers height reached =
      IsSafeStep-on m stack target t refl refl refl s.cells_held s.timers numbers height reached

  -- the same with changed cells
  pub IsSafeStep-on_cells : (cells : List ℤ) (stack : List ℤ) (target : Target) → target.place ≡ m.place + 1 → HoldKinds code.cells cells →
      AllByRecursion IsNumber stack → length stack ≡ target.depth + s.below → IsReached code s.function target →
      IsSafeStep s (goes_on (record m { cells = cells }) stack)
  IsSafeStep-on_cells cells stack target t new numbers height reached =
      IsSafeStep-on (record m { cells = cells }) stack target t refl refl refl new s.timers numbers height reached

  -- a jump to a place above
  pub IsSafeStep-up : (stack : List ℤ) (target : Target) → m.place < target.place →
      AllByRecursion IsNumber stack → length stack ≡ target.depth + s.below → IsReached code s.function target →
      IsSafeStep s (goes_to target.place m stack)
  IsSafeStep-up stack target above numbers height reached = (
    goes_later (record { inside = reached.inside; later = above; same_calls = refl; same_turns = refl }),
    arrives (record m { place = target.place; stack = stack }) target refl refl reached height s.cells_held numbers s.timers,
  )

  -- a turn, and then a place of the function
  pub IsSafeStep-turn : (turns : ℕ) → m.turns ≡ turns → (stack : List ℤ) (target : Target) →
      AllByRecursion IsNumber stack → length stack ≡ target.depth + s.below → IsReached code s.function target →
      IsSafeStep s (taking_turn turns m (λ after. goes_to target.place after stack))
  IsSafeStep-turn zero e stack target numbers height reached = (refl, e)
  IsSafeStep-turn (suc turns) e stack target numbers height reached = (
    takes_turn (record { inside = reached.inside; same_calls = refl; turn_taken = omega (arith, e) }),
    arrives (record m { place = target.place; stack = stack; turns = turns }) target refl refl reached height s.cells_held numbers s.timers,
  )

  -- a turn, and then the next place
  pub IsSafeStep-turn_on : (turns : ℕ) → m.turns ≡ turns → (stack : List ℤ) (target : Target) → target.place ≡ m.place + 1 →
      AllByRecursion IsNumber stack → length stack ≡ target.depth + s.below → IsReached code s.function target →
      IsSafeStep s (taking_turn turns m (λ after. goes_on after stack))
  IsSafeStep-turn_on zero e stack target p numbers height reached = (refl, e)
  IsSafeStep-turn_on (suc turns) e stack target p numbers height reached = (
    takes_turn (record { inside = inside_at (m.place + 1) target (sym p) reached; same_calls = refl; turn_taken = omega (arith, e) }),
    arrives (record m { place = m.place + 1; stack = stack; turns = turns }) target (sym p) refl reached height s.cells_held numbers s.timers,
  )
