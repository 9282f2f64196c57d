-- What the laws of runs say.
use Rattle.std.specs.Prelude.{◌≡◌, ◌≢◌, ℕ, Bool, ◌+◌, ◌<◌, ◌≤◌, List, [], ◌∷◌, ◌++◌, Some, slice_get, ⊤}
use Rattle.run_effects.specs.declared.outcome.Outcome.{Outcome}
use Rattle.run_effects.specs.declared.outcome.Outcome.TheVariants.{Done, Trapped, Cut}
use Rattle.bytecode.specs.declared.code.Code.{Code}
use Rattle.bytecode.specs.declared.code.Fun.{Fun}
use Rattle.bytecode.specs.Machine.{Machine, Next, Goes, Ends, Stuck}
use Rattle.bytecode.specs.Rule.{IsIn}
use Rattle.bytecode.specs.Runs.{EndsIn, HasEnded, Reaches, steps_left}
use Rattle.bytecode.specs.Step.{go}

-- a run has one end, whatever the number of steps
abbrev pub HasOneEnd : Code → Bool → ℕ → Machine → Type 0
HasOneEnd code closed moment start = (first second : Outcome) (m m' : Machine) →
    EndsIn code closed moment start first m → EndsIn code closed moment start second m' →
    (first ≡ second) × (m ≡ m')

-- a list begins with another
abbrev pub BeginsWith : {A : Type 0} → List A → List A → Type 0
BeginsWith {A} xs front = (rest : List A) × (xs ≡ front ++ rest)

-- the effects of the end begin with those of each state that the run comes to
abbrev pub KeepsEffects : Code → Bool → ℕ → Machine → Type 0
KeepsEffects code closed moment start = (m end : Machine) (outcome : Outcome) →
    Reaches code closed moment start m → EndsIn code closed moment start outcome end →
    BeginsWith end.effects m.effects

-- a run from this state, in a measurement that has ended or not and at any moment, is never stuck and ends
pub record RunsToItsEnd (code : Code) (start : Machine) : Type 0 where
  pub never_stuck : (closed : Bool) (moment n : ℕ) → go code closed moment n start ≢ Stuck
  pub ends : (closed : Bool) (moment n : ℕ) → steps_left code start ≤ n →
      HasEnded (go code closed moment n start)

-- goes to a later place of the function, with the same open calls and turns
pub record GoesLater (function : Fun) (before after : Machine) : Type 0 where
  pub inside : IsIn function after.place
  pub later : before.place < after.place
  pub same_calls : after.calls ≡ before.calls
  pub same_turns : after.turns ≡ before.turns

-- enters a function of a smaller number, which is to return to the next place, and takes a turn
pub record EntersEarlier (code : Code) (number : ℕ) (before after : Machine) : Type 0 where
  pub entered : ℕ
  pub function : Fun
  pub earlier : entered < number
  pub is_function : slice_get code.functions entered ≡ Some function
  pub at_start : after.place ≡ function.start
  pub call_opens : after.calls ≡ (before.place + 1) ∷ before.calls
  pub turn_taken : before.turns ≡ after.turns + 1

-- leaves the function for the place that its call returns to
pub record LeavesFunction (before after : Machine) : Type 0 where
  pub call_closes : before.calls ≡ after.place ∷ after.calls
  pub same_turns : after.turns ≡ before.turns

-- takes a turn, and goes to a place of the function
pub record TakesTurn (function : Fun) (before after : Machine) : Type 0 where
  pub inside : IsIn function after.place
  pub same_calls : after.calls ≡ before.calls
  pub turn_taken : before.turns ≡ after.turns + 1

-- the four ways in which a step goes on in a function of this number
pub data GoesOn (code : Code) (number : ℕ) (function : Fun) (before after : Machine) : Type 0 where
  goes_later : GoesLater function before after → GoesOn code number function before after
  enters_earlier : EntersEarlier code number before after → GoesOn code number function before after
  leaves_function : LeavesFunction before after → GoesOn code number function before after
  takes_turn : TakesTurn function before after → GoesOn code number function before after

-- a run is done where no call is open, and cut where no turn is left
abbrev pub MayEnd : Outcome → Machine → Type 0
MayEnd Done m = m.calls ≡ []
MayEnd (Trapped kind) m = ⊤
MayEnd Cut m = m.turns ≡ 0

-- what a step does in a function of this number: it goes on in one of the four ways, or ends the run and
-- leaves the state as it was
abbrev pub IsStepOf : Code → ℕ → Fun → Machine → Next → Type 0
IsStepOf code number function m (Goes after) = GoesOn code number function m after
IsStepOf code number function m (Ends outcome after) = (after ≡ m) × MayEnd outcome m
IsStepOf code number function m Stuck = ⊥

-- the state is at a place of a function of the code, and the step is one of that function
pub record StepsInCode (code : Code) (m : Machine) (next : Next) : Type 0 where
  pub number : ℕ
  pub function : Fun
  pub is_function : slice_get code.functions number ≡ Some function
  pub inside : IsIn function m.place
  pub is_step : IsStepOf code number function m next
