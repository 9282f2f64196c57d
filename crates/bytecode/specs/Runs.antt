-- Where runs of code begin, what they come to, and how long they may take.
use Rattle.std.specs.Prelude.{◌≡◌, ℕ, Bool, ◌+◌, ◌-◌, ◌*◌, ◌≤◌, List, [], length, Some, slice_get, ℤ, ⊤}
use Rattle.std.specs.List.{AllZip, sum_by}
use Rattle.int_kinds.specs.declared.kinds.Kind.{Kind}
use Rattle.int_kinds.specs.Kind.{Holds}
use Rattle.run_effects.specs.declared.outcome.Outcome.{Outcome}
use Rattle.bytecode.specs.declared.code.Code.{Code}
use Rattle.bytecode.specs.declared.code.Handler.{Handler}
use Rattle.bytecode.specs.declared.code.Fun.{Fun}
use Rattle.bytecode.specs.Machine.{Machine, Next, Goes, Ends, Stuck}
use Rattle.bytecode.specs.Step.{go}

-- each cell holds a number of its kind
abbrev pub HoldKinds : List Kind → List ℤ → Type 0
HoldKinds kinds cells = AllZip Holds kinds cells

-- a state in which a handler begins: at its function, with nothing on the stack and no open call, with
-- cells that their kinds hold, among the timers of the code and maybe more
pub record IsStartOf (code : Code) (number : ℕ) (m : Machine) : Type 0 where
  pub handler : Handler
  pub function : Fun
  pub is_handler : slice_get code.handlers number ≡ Some handler
  pub is_function : slice_get code.functions handler.function ≡ Some function
  pub at_start : m.place ≡ function.start
  pub no_numbers : m.stack ≡ []
  pub no_calls : m.calls ≡ []
  pub cells_held : HoldKinds code.cells m.cells
  pub timers_exist : length code.timers ≤ length m.active

-- the run from a state comes to another, in a measurement that has ended or not and at a moment
abbrev pub Reaches : Code → Bool → ℕ → Machine → Machine → Type 0
Reaches code closed moment start m = (steps : ℕ) × (go code closed moment steps start ≡ Goes m)

-- the run from a state ends with an outcome, in another state
abbrev pub EndsIn : Code → Bool → ℕ → Machine → Outcome → Machine → Type 0
EndsIn code closed moment start outcome m = (steps : ℕ) × (go code closed moment steps start ≡ Ends outcome m)

-- a run that has ended, and was not stuck
abbrev pub HasEnded : Next → Type 0
HasEnded (Goes m) = ⊥
HasEnded (Ends outcome m) = ⊤
HasEnded Stuck = ⊥

-- how many places are left from this one on
abbrev pub places_left : Code → ℕ → ℕ
places_left code place = length code.instrs - place

-- At least as many steps as a run may still take: for each turn one more than there are places, and the
-- places that are left in the function and in each open call.
abbrev pub steps_left : Code → Machine → ℕ
steps_left code m =
    m.turns * (length code.instrs + 1) + (places_left code m.place + sum_by (places_left code) m.calls)
