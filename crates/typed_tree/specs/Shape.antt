-- What decides which instructions the compiler makes of a typed tree, read from the tree alone.
use Rattle.std.specs.Prelude.{ℕ, Bool, true, false, not, ◌&&◌, ◌||◌, nat_lt, List, [], ◌∷◌, is_some, slice_get}
use Rattle.std.specs.Option.{option_map_or}
use Rattle.int_kinds.specs.declared.kinds.Kind.{Kind}
use Rattle.int_kinds.specs.declared.operators.BinOp.{BinOp}
use Rattle.int_kinds.specs.declared.operators.BinOp.TheVariants.{Equal, NotEqual, Less, LessEqual, Greater, GreaterEqual, Div, Rem}
use Rattle.int_kinds.specs.declared.operators.UnOp.{UnOp}
use Rattle.int_kinds.specs.declared.operators.UnOp.TheVariants.{Not}
use Rattle.int_kinds.specs.Kind.{width}
use Rattle.message_cells.specs.Message.{message_kinds}
use Rattle.typed_tree.specs.declared.expression.Place.{Place}
use Rattle.typed_tree.specs.declared.expression.Place.TheVariants.{Cell, Set, Signal}
use Rattle.typed_tree.specs.declared.expression.TExpr.{TExpr}
use Rattle.typed_tree.specs.declared.expression.TExpr.TheVariants.{Const, Load, Bump, Call', Active, Now}
use Rattle.typed_tree.specs.declared.statement.TStmt.{TStmt, Row_of-TStmt, end_of-TStmt, more_of-TStmt}
use Rattle.typed_tree.specs.declared.statement.TStmt.TheVariants.{Block', If', Break, Continue, Return}
use Rattle.typed_tree.specs.declared.statement.TStmt.TheBlock.{Held-TStmt-If-1, Row_of-TArm, end_of-TArm, more_of-TArm, Row_of-TGroup, end_of-TGroup, more_of-TGroup}
use Rattle.typed_tree.specs.declared.program.Typed.{Typed}
use Rattle.typed_tree.specs.Forms.{Binary, Both, Bytes, Cond, Convert, Either, Elem, NoPart, Part, Store, Unary, Update}
use Rattle.typed_tree.specs.Memory.{kind_of}

-- a place has an index, which stands on the stack while it is used
abbrev pub has_index : Place → Bool
has_index (Cell cell) = false
has_index (Elem base len index) = true
has_index (Set at field) = false
has_index (Bytes at k index) = true
has_index (Signal at l) = false

-- on how many low bits of a number it depends what a store to a place leaves there
abbrev pub stored_width : Typed → Place → ℕ
stored_width typed (Cell cell) = width (kind_of typed.cells cell)
stored_width typed (Elem base len index) = width (kind_of typed.cells base)
stored_width typed (Set at field) = width (kind_of message_kinds field)
stored_width typed (Bytes at k index) = width k
stored_width typed (Signal at l) = l.len

-- the result of an operator is wrapped to a kind by an instruction of its own, since the store alone would
-- keep more of it
abbrev pub is_wrapped_first : Typed → Place → Kind → Bool
is_wrapped_first typed place back = nat_lt (width back) (stored_width typed place)

-- an operator that compares, so that it gives 0 or 1, and that has an opposite
abbrev pub is_comparison : BinOp → Bool
is_comparison Equal = true
is_comparison NotEqual = true
is_comparison Less = true
is_comparison LessEqual = true
is_comparison Greater = true
is_comparison GreaterEqual = true
is_comparison _ = false

-- an operator whose right operand may not be 0
abbrev pub divides : BinOp → Bool
divides Div = true
divides Rem = true
divides _ = false

-- the operator `!`
abbrev pub is_not : UnOp → Bool
is_not Not = true
is_not _ = false

-- an expression that gives 0 or 1 and nothing else
abbrev pub is_truth : TExpr → Bool
is_truth (Unary op k e) = is_not op
is_truth (Binary op k a b) = is_comparison op
is_truth (Both a b) = true
is_truth (Either a b) = true
is_truth (Active timer) = true
is_truth _ = false

abbrev mutual
  -- an expression that changes nothing, and that no trap ends but that of an index
  pub is_plain : TExpr → Bool
  is_plain (Const n) = true
  is_plain (Load place) = has_plain_index place
  is_plain (Store place e) = false
  is_plain (Update op k back place e) = false
  is_plain (Bump place k up post) = false
  is_plain (Unary op k e) = is_plain e
  is_plain (Binary op k a b) = not (divides op) && (is_plain a && is_plain b)
  is_plain (Both a b) = is_plain a && is_plain b
  is_plain (Either a b) = is_plain a && is_plain b
  is_plain (Cond test a b) = is_plain test && (is_plain a && is_plain b)
  is_plain (Convert k e) = is_plain e
  is_plain (Call' f shape args) = false
  is_plain (Active timer) = true
  is_plain Now = true

  -- a place whose index, if it has one, is such an expression
  pub has_plain_index : Place → Bool
  has_plain_index (Cell cell) = true
  has_plain_index (Elem base len index) = is_plain index
  has_plain_index (Set at field) = true
  has_plain_index (Bytes at k index) = is_plain index
  has_plain_index (Signal at l) = true

-- An assignment has an instruction that checks the index before the right side is evaluated. Where the right
-- side is plain there is none: the store checks the index too, and it makes no difference which comes first.
abbrev pub is_checked_first : Place → TExpr → Bool
is_checked_first place e = has_index place && not (is_plain e)

-- an expression leaves a number on the stack: each does but for a call of a function that gives none
abbrev pub leaves_number : Typed → TExpr → Bool
leaves_number typed (Call' f shape args) =
    option_map_or (λ function. is_some function.gives) (slice_get typed.functions f) true
leaves_number typed _ = true

-- a statement is `break`
abbrev pub is_break : TStmt → Bool
is_break Break = true
is_break _ = false

-- no statement is left
abbrev pub is_end : {m : _} → Row_of-TStmt m → Bool
is_end end_of-TStmt = true
is_end (more_of-TStmt s rest) = false

-- no group is left
abbrev pub is_end_of_groups : {m : _} → Row_of-TGroup m → Bool
is_end_of_groups end_of-TGroup = true
is_end_of_groups (more_of-TGroup labels shape body rest) = false

abbrev mutual
  -- control may come to the end of a statement, by what stands last in it
  pub goes_on : TStmt → Bool
  goes_on (Block' shape all) = last_goes_on true all
  goes_on (If' shape arms other) = arms_go_on arms (part_goes_on other)
  goes_on Break = false
  goes_on Continue = false
  goes_on (Return value) = false
  goes_on _ = true

  -- the last of statements goes on, or what stands before them where there is none
  pub last_goes_on : {m : _} → Bool → Row_of-TStmt m → Bool
  last_goes_on before end_of-TStmt = before
  last_goes_on before (more_of-TStmt s rest) = last_goes_on (goes_on s) rest

  -- one of the arms goes on, or what stands behind them
  pub arms_go_on : {m : _} → Row_of-TArm m → Bool → Bool
  arms_go_on end_of-TArm other = other
  arms_go_on (more_of-TArm test body rest) other = goes_on body || arms_go_on rest other

  -- a part that may be missing goes on
  pub part_goes_on : Held-TStmt-If-1 → Bool
  part_goes_on NoPart = true
  part_goes_on (Part part) = goes_on part

-- the last of the statements of a procedure goes on, or what stands before them where there is none
abbrev pub body_goes_on : Bool → List TStmt → Bool
body_goes_on before [] = before
body_goes_on before (s ∷ rest) = body_goes_on (goes_on s) rest
