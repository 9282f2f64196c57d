-- What stays true of the machine's state as it runs verified code.
use Rattle.std.proofs.Common.{◌≡◌, ◌≤◌, ◌<◌, ◌+◌, ℕ, List, [], ◌∷◌, length, slice_get, Some}
use Rattle.std.specs.List.{AllByRecursion}
use Rattle.int_kinds.specs.Kind.{IsNumber}
use Rattle.bytecode.specs.declared.code.Code.{Code}
use Rattle.bytecode.specs.declared.code.Fun.{Fun}
use Rattle.bytecode.specs.Laws.{GoesOn, MayEnd}
use Rattle.bytecode.specs.Machine.{Machine, Next, Goes, Ends, Stuck}
use Rattle.bytecode.specs.Rule.{IsIn}
use Rattle.bytecode.specs.Runs.{HoldKinds}
use Rattle.bytecode.specs.Shape.{numbers_given}

-- a place of a function, by the function's number, with the place's depth
pub record IsAt (code : Code) (number : ℕ) (function : Fun) (place depth : ℕ) : Type 0 where
  pub is_there : slice_get code.functions number ≡ Some function
  pub inside : IsIn function place
  pub has_depth : slice_get code.depths place ≡ Some depth

-- the open call that a function returns to: a place of a function of a greater number, whose depth counts what the call gives
pub record ReturnsTo (code : Code) (number : ℕ) (function : Fun) (place below caller : ℕ) (calling : Fun) (depth under : ℕ) : Type 0 where
  pub greater : number < caller
  pub at : IsAt code caller calling place depth
  pub height : numbers_given function + below ≡ depth + under

-- the numbers below a function's own are those of its callers: none without a caller
abbrev pub Below : Code → ℕ → Fun → List ℕ → ℕ → Type 0
Below code number function [] below = below ≡ 0
Below code number function (place ∷ calls) below = (caller : ℕ) × (calling : Fun) × (depth : ℕ) × (under : ℕ) ×
    ReturnsTo code number function place below caller calling depth under × Below code caller calling calls under

-- The machine stands at a place of a function, with the place's depth and the callers' numbers on the stack, cells that
-- their kinds hold, and as many timers as the code has, or more.
pub record Stands (code : Code) (m : Machine) : Type 0 where
  pub number : ℕ
  pub function : Fun
  pub depth : ℕ
  pub below : ℕ
  pub at : IsAt code number function m.place depth
  pub height : length m.stack ≡ depth + below
  pub callers : Below code number function m.calls below
  pub cells_held : HoldKinds code.cells m.cells
  pub numbers : AllByRecursion IsNumber m.stack
  pub timers : length code.timers ≤ length m.active

-- A safe step: where it goes on, it does so in one of the ways of verified code, and the machine stands in the code then;
-- where it ends the run, it leaves the state as it was; it is not stuck.
abbrev pub IsSafeStep : {code : Code} {m : Machine} → Stands code m → Next → Type 0
IsSafeStep {code} {m} s (Goes after) = GoesOn code s.number s.function m after × Stands code after
IsSafeStep {code} {m} s (Ends outcome after) = (after ≡ m) × MayEnd outcome m
IsSafeStep {code} {m} s Stuck = ⊥

-- a state of a run of verified code: the machine stands in the code, or the run has ended with cells that their kinds hold
abbrev pub IsSafe : Code → Next → Type 0
IsSafe code (Goes m) = Stands code m
IsSafe code (Ends outcome m) = HoldKinds code.cells m.cells
IsSafe code Stuck = ⊥
