-- Steps into a function and out of one.
use Rattle.std.proofs.Common.{◌≡◌, ◌<◌, ◌+◌, ℕ, zero, suc, List, [], ◌∷◌, slice_get, Some, refl, subst, arith}
use Rattle.bytecode.specs.declared.code.Code.{Code}
use Rattle.bytecode.specs.declared.code.Fun.{Fun}
use Rattle.bytecode.specs.Laws.{enters_earlier, leaves_function}
use Rattle.bytecode.specs.Machine.{Machine, Goes}
use Rattle.bytecode.specs.Rule.{IsReached, Target}
use Rattle.bytecode.specs.Shape.{numbers_given}
use Rattle.bytecode.specs.Step.{returns_to, taking_turn}
use Rattle.bytecode.specs.Verified.{IsVerified}
use Rattle.bytecode.proofs.MachineStates.{Below, IsAt, IsSafeStep, ReturnsTo, Stands}
use Rattle.bytecode.proofs.PlaceRules.{begins}

module _ {code : Code} (verified : IsVerified code) {m : Machine} (s : Stands code m) where
  -- a call of an earlier function, which returns to a target
  pub IsSafeStep-call : (f : ℕ) (callee : Fun) (target : Target) → slice_get code.functions f ≡ Some callee → f < s.number →
      target.place ≡ m.place + 1 → target.depth ≡ s.depth + numbers_given callee → IsReached code s.function target →
      (turns : ℕ) → m.turns ≡ turns →
      IsSafeStep s (taking_turn turns m (λ after. Goes (record after { place = callee.start; calls = (m.place + 1) ∷ m.calls })))
  IsSafeStep-call f callee target there earlier p d reached zero e = (refl, e)
  IsSafeStep-call f callee target there earlier p d reached (suc turns) e =
      let back : IsAt code s.number s.function (m.place + 1) target.depth =
      subst (λ q. IsAt code s.number s.function q target.depth) p
      (record { is_there = s.at.is_there; inside = reached.inside; has_depth = reached.depth }) in
      let returns : ReturnsTo code f callee (m.place + 1) (s.depth + s.below) s.number s.function target.depth s.below =
      record { greater = earlier; at = back; height = omega (arith, d) } in (
        enters_earlier (record {
          entered = f;
          function = callee;
          earlier = earlier;
          is_function = there;
          at_start = refl;
          call_opens = refl;
          turn_taken = omega (arith, e);
        }),
        record {
          number = f;
          function = callee;
          depth = 0;
          below = s.depth + s.below;
          at = begins code verified f callee there;
          height = omega (arith, s.height);
          callers = (s.number, s.function, target.depth, s.below, returns, s.callers);
          cells_held = s.cells_held;
          numbers = s.numbers;
          timers = s.timers;
        },
      )

  -- a return to the innermost open call, or the end of the run
  pub IsSafeStep-return : s.depth ≡ numbers_given s.function → (calls : List ℕ) → m.calls ≡ calls →
      Below code s.number s.function calls s.below → IsSafeStep s (returns_to calls m)
  IsSafeStep-return d [] e b = (refl, e)
  IsSafeStep-return d (place ∷ calls) e (caller, calling, depth, under, returns, rest) = (
    leaves_function (record { call_closes = e; same_turns = refl }),
    record {
      number = caller;
      function = calling;
      depth = depth;
      below = under;
      at = returns.at;
      height = omega (arith, s.height, d, returns.height);
      callers = rest;
      cells_held = s.cells_held;
      numbers = s.numbers;
      timers = s.timers;
    },
  )
