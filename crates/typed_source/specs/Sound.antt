-- What makes a typed expression sound besides its sort: the tables of the typed program have what the
-- source's names need, and each number, assignment and call in the expression can be made.
use Rattle.std.specs.Prelude.{◌≡◌, ℕ, ◌≤◌, ◌<◌, ◌^◌, Bool, true, false, List, length, slice_get, Option, Some, None, ⊤}
use Rattle.int_kinds.specs.declared.kinds.Kind.{Kind}
use Rattle.int_kinds.specs.declared.operators.BinOp.{BinOp}
use Rattle.run_effects.specs.Effect.{IsUnit}
use Rattle.message_cells.specs.Cells.{BeginWithEvent}
use Rattle.message_cells.specs.Message.{IsMessage}
use Rattle.capl_tree.specs.declared.expr.Expr.{Expr, Row_of-Expr, end_of-Expr, more_of-Expr}
use Rattle.capl_tree.specs.declared.expr.Expr.TheVariants as expr
use Rattle.capl_tree.specs.declared.expr.Field.{Field}
use Rattle.capl_tree.specs.declared.expr.Field.TheVariants.{Named}
use Rattle.capl_tree.specs.Forms as tree
use Rattle.typed_tree.specs.declared.program.TFun.{TFun}
use Rattle.typed_tree.specs.declared.program.Typed.{Typed}
use Rattle.typed_tree.specs.Memory.{kind_of}
use Rattle.typed_tree.specs.SoundExpression.{IsOperation, IsUniformArray}
use Rattle.capl_meaning.specs.declared.sort.Sort.{Sort}
use Rattle.capl_meaning.specs.declared.sort.Sort.TheVariants as sort
use Rattle.capl_meaning.specs.Variable.{Number, Array, Message, MessageType, Timer, Variable}
use Rattle.capl_meaning.specs.Names.{Function, Names, OfProgram, Scope, callee}
use Rattle.capl_meaning.specs.Constant.{elements_of}
use Rattle.capl_meaning.specs.Store.{variable_key, timer_number}
use Rattle.typed_laws.specs.Laid.{HasForm, slot}
use Rattle.typed_source.specs.Expression.{place_in}

-- an expression of this sort is a number
abbrev pub IsOfNumber : Sort → Type 0
IsOfNumber (sort.Number k) = ⊤
IsOfNumber _ = ⊥

-- the cells of a typed program are those of the event and of a source's variables, and it has their timers
pub record HasTables (names : Names) (typed : Typed) : Type 0 where
  pub numbers : (v : Variable) (k : Kind) (fixed : Bool) → HasForm names v (Number k fixed) →
      slot names (variable_key v) < length typed.cells
  pub arrays : (v : Variable) (k : Kind) (fixed : Bool) (size : Expr) → HasForm names v (Array k fixed size) →
      IsUniformArray typed.cells (slot names (variable_key v)) (elements_of names v) ×
      (kind_of typed.cells (slot names (variable_key v)) ≡ k)
  pub messages : (v : Variable) (type_ : MessageType) → HasForm names v (Message type_) →
      IsMessage typed.cells (slot names (variable_key v))
  pub event : BeginWithEvent typed.cells
  pub timers : (v : Variable) (unit : ℕ) → HasForm names v (Timer unit) →
      timer_number names v < length typed.timers

-- each array of a source has an element
abbrev pub HaveElements : Names → Type 0
HaveElements names = (v : Variable) (k : Kind) (fixed : Bool) (size : Expr) →
    HasForm names v (Array k fixed size) → 1 ≤ elements_of names v

-- each timer of a source has the unit of seconds or milliseconds
abbrev pub HaveUnits : Names → Type 0
HaveUnits names = (v : Variable) (unit : ℕ) → HasForm names v (Timer unit) → IsUnit unit

-- a function of the source stands in a typed program before the procedure of a number, with as many
-- parameters, and gives a number where it does in the source
pub record IsCallable (order : List ℕ) (typed : Typed) (number : ℕ) (f : Function) : Type 0 where
  pub place : ℕ
  pub is_there : place_in order f.number ≡ Some place
  pub earlier : place < number
  pub function : TFun
  pub is_function : slice_get typed.functions place ≡ Some function
  pub same_count : length function.params ≡ length f.parameters
  pub same_gives : function.gives ≡ f.gives
  pub few_parameters : length f.parameters < 2 ^ 32

-- a number of the source is below 2^64; with `x` it is an identifier
abbrev pub IsSmall : Option ℕ → Bool → Type 0
IsSmall None extended = ⊤
IsSmall (Some n) false = n < 2 ^ 64
IsSmall (Some n) true = n < 2 ^ 32

-- a compound assignment has an operator on two numbers
abbrev pub IsCompoundOrPlain : Option BinOp → Type 0
IsCompoundOrPlain None = ⊤
IsCompoundOrPlain (Some operator) = IsOperation operator

abbrev mutual
  -- each number in an expression is below 2^64, each compound assignment in it has an operator on two
  -- numbers, and each function that is called in it can be called
  pub CanBeMade : Scope → List ℕ → Typed → ℕ → Expr → Type 0
  CanBeMade s order typed number (expr.Num value extended at) = IsSmall value extended
  CanBeMade s order typed number (expr.Char value at) = value < 2 ^ 8
  CanBeMade s order typed number (expr.Str text at) = ⊤
  CanBeMade s order typed number (expr.This at) = ⊤
  CanBeMade s order typed number (expr.Name name at) = ⊤
  CanBeMade s order typed number (tree.Paren inner at) = CanBeMade s order typed number inner
  CanBeMade s order typed number (expr.Call' name shape args at) =
      ((f : Function) → callee s.names name ≡ OfProgram f → IsCallable order typed number f) ×
      CanRowBeMade s order typed number args
  CanBeMade s order typed number (tree.Index base index at) = CanBeMade s order typed number index
  CanBeMade s order typed number (tree.Member base field at) = CanFieldBeMade s order typed number field
  CanBeMade s order typed number (tree.Cast kind inner at) = CanBeMade s order typed number inner
  CanBeMade s order typed number (tree.Unary operator inner at) = CanBeMade s order typed number inner
  CanBeMade s order typed number (tree.Post up inner at) = CanBeMade s order typed number inner
  CanBeMade s order typed number (tree.Binary operator left right at) =
      CanBeMade s order typed number left × CanBeMade s order typed number right
  CanBeMade s order typed number (tree.Cond test one other at) =
      CanBeMade s order typed number test × CanBeMade s order typed number one ×
      CanBeMade s order typed number other
  CanBeMade s order typed number (tree.Assign operator left right at) =
      IsCompoundOrPlain operator × CanBeMade s order typed number left ×
      CanBeMade s order typed number right

  -- the same of the index in a field
  pub CanFieldBeMade : Scope → List ℕ → Typed → ℕ → Field → Type 0
  CanFieldBeMade s order typed number (Named name at) = ⊤
  CanFieldBeMade s order typed number (tree.Bytes kind index at) = CanBeMade s order typed number index

  -- the same of expressions in a row
  pub CanRowBeMade : Scope → List ℕ → Typed → ℕ → {m : _} → Row_of-Expr m → Type 0
  CanRowBeMade s order typed number end_of-Expr = ⊤
  CanRowBeMade s order typed number (more_of-Expr first rest) =
      CanBeMade s order typed number first × CanRowBeMade s order typed number rest
