-- The verifier's rule of one place.
use Rattle.std.specs.Prelude.{◌≡◌, ℕ, ◌+◌, ◌-◌, ◌<◌, ◌≤◌, List, [], ◌∷◌, length, slice_get, Some, ⊤}
use Rattle.std.specs.List.{AllByRecursion}
use Rattle.int_kinds.specs.declared.kinds.Kind.{Kind}
use Rattle.int_kinds.specs.declared.operators.BinOp.{BinOp}
use Rattle.int_kinds.specs.declared.operators.BinOp.TheVariants.{OrElse, AndAlso}
use Rattle.int_kinds.specs.Kind.{IsNumber}
use Rattle.signal_codec.specs.Signal.{IsUsable}
use Rattle.bytecode.specs.declared.code.Code.{Code}
use Rattle.bytecode.specs.declared.code.Fun.{Fun}
use Rattle.bytecode.specs.declared.instr.Instr.{Instr}
use Rattle.bytecode.specs.declared.shape.Flow.{Flow}
use Rattle.bytecode.specs.declared.shape.Flow.TheVariants.{Next, Jump, Branch, Loop, Call, Return}
use Rattle.bytecode.specs.declared.shape.Named.{Named}
use Rattle.bytecode.specs.declared.shape.Named.TheVariants.{Nothing, Number, Cell, Array, Message, Messages, Signal, Field, Operation, Format, Timer}
use Rattle.bytecode.specs.declared.shape.Shape.{Shape}
use Rattle.message_cells.specs.Message.{IsMessage}
use Rattle.bytecode.specs.Shape.{numbers_given, shape_of}

-- a place that an instruction may go to, and the depth with which it arrives there
pub record Target : Type 0 where
  pub place : ℕ
  pub depth : ℕ

-- the next place, with what is given there
abbrev pub next : Shape → ℕ → ℕ → Target
next shape place depth = record { place = place + 1; depth = depth - shape.taken + shape.given }

-- a target of the instruction
abbrev pub aim : Shape → ℕ → ℕ → Target
aim shape target depth = record { place = target; depth = depth - shape.taken }

-- where an instruction of a shape may go, by its flow, from a place that is reached with a depth. A call
-- goes on to the next place in the end.
abbrev pub targets_by : Flow → Shape → ℕ → ℕ → List Target
targets_by Next shape place depth = next shape place depth ∷ []
targets_by (Jump target) shape place depth = aim shape target depth ∷ []
targets_by (Branch target) shape place depth = aim shape target depth ∷ next shape place depth ∷ []
targets_by (Loop target) shape place depth = aim shape target depth ∷ next shape place depth ∷ []
targets_by (Call f) shape place depth = next shape place depth ∷ []
targets_by Return shape place depth = []

-- where an instruction of a shape may go from a place that is reached with a depth
abbrev pub targets : Shape → ℕ → ℕ → List Target
targets shape place depth = targets_by shape.flow shape place depth

-- a place of a function
pub record IsIn (function : Fun) (place : ℕ) : Type 0 where
  pub from : function.start ≤ place
  pub below : place < function.end

-- a target lies in the function, and its place has the depth with which it is reached
pub record IsReached (code : Code) (function : Fun) (target : Target) : Type 0 where
  pub inside : IsIn function target.place
  pub depth : slice_get code.depths target.place ≡ Some target.depth

-- jumps and branches go above their place, and a loop to its place or below
abbrev pub GoesTheRightWay : Flow → ℕ → Type 0
GoesTheRightWay Next place = ⊤
GoesTheRightWay (Jump target) place = place < target
GoesTheRightWay (Branch target) place = place < target
GoesTheRightWay (Loop target) place = target ≤ place
GoesTheRightWay (Call f) place = ⊤
GoesTheRightWay Return place = ⊤

-- a call is of a function of a smaller number
abbrev pub CallsEarlier : Flow → ℕ → Type 0
CallsEarlier Next number = ⊤
CallsEarlier (Jump target) number = ⊤
CallsEarlier (Branch target) number = ⊤
CallsEarlier (Loop target) number = ⊤
CallsEarlier (Call f) number = f < number
CallsEarlier Return number = ⊤

-- a function that gives a number ends with depth 1, and any other with depth 0
abbrev pub ReturnsAsItSays : Flow → Fun → ℕ → Type 0
ReturnsAsItSays Next function depth = ⊤
ReturnsAsItSays (Jump target) function depth = ⊤
ReturnsAsItSays (Branch target) function depth = ⊤
ReturnsAsItSays (Loop target) function depth = ⊤
ReturnsAsItSays (Call f) function depth = ⊤
ReturnsAsItSays Return function depth = depth ≡ numbers_given function

-- an array of at least one cell
pub record IsArray (kinds : List Kind) (base len : ℕ) : Type 0 where
  pub at_least_one : 1 ≤ len
  pub there : base + len ≤ length kinds

-- an operator on two numbers, which `||` and `&&` are not
abbrev pub IsOperation : BinOp → Type 0
IsOperation OrElse = ⊥
IsOperation AndAlso = ⊥
IsOperation _ = ⊤

-- what an instruction names exists
abbrev pub NamesWhatExists : Code → Named → Type 0
NamesWhatExists code Nothing = ⊤
NamesWhatExists code (Number n) = IsNumber n
NamesWhatExists code (Cell cell) = cell < length code.cells
NamesWhatExists code (Array base len) = IsArray code.cells base len
NamesWhatExists code (Message at) = IsMessage code.cells at
NamesWhatExists code (Messages to from) = IsMessage code.cells to × IsMessage code.cells from
NamesWhatExists code (Signal l at) = IsUsable l × IsMessage code.cells at
NamesWhatExists code (Field f at) = (f ≤ 3) × IsMessage code.cells at
NamesWhatExists code (Operation op) = IsOperation op
NamesWhatExists code (Format f) = f < length code.formats
NamesWhatExists code (Timer timer) = timer < length code.timers

-- the rule of a place with an instruction and a depth, in the function of a number
pub record KeepsRule (code : Code) (number : ℕ) (function : Fun) (place : ℕ) (instr : Instr) (depth : ℕ)
    : Type 0 where
  pub depth_in_range : depth ≤ 1000000
  pub begins_empty : place ≡ function.start → depth ≡ 0
  pub takes_what_is_there : (shape_of code instr).taken ≤ depth
  pub targets_agree : AllByRecursion (IsReached code function) (targets (shape_of code instr) place depth)
  pub goes_the_right_way : GoesTheRightWay (shape_of code instr).flow place
  pub calls_earlier : CallsEarlier (shape_of code instr).flow number
  pub returns_as_it_says : ReturnsAsItSays (shape_of code instr).flow function depth
  pub names_exist : NamesWhatExists code (shape_of code instr).named
