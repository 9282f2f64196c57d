-- The number of instructions that the compiler makes of a typed program. Each size is that of the code of one
-- part, which stands in one piece: the codes of the parts in order, and between them the instructions of its
-- own.
use Rattle.std.specs.Prelude.{ℕ, ◌+◌, ◌*◌, Bool, true, false, not, ◌&&◌, if◌then◌else◌, ◌==◌, List, [], ◌∷◌, length, take, sum, sum_by, count_by, is_some, ℤ, Option, Some, None}
use Rattle.int_kinds.specs.declared.operators.BinOp.{BinOp}
use Rattle.typed_tree.specs.declared.expression.Place.{Place}
use Rattle.typed_tree.specs.declared.expression.Place.TheVariants.{Cell, Signal}
use Rattle.typed_tree.specs.declared.expression.Place.TheVariants as place
use Rattle.typed_tree.specs.declared.expression.TExpr.{TExpr, Row_of-TExpr, end_of-TExpr, more_of-TExpr}
use Rattle.typed_tree.specs.declared.expression.TExpr.TheVariants.{Const, Load, Bump, Call', Active, Now}
use Rattle.typed_tree.specs.declared.statement.TStmt.{TStmt, Row_of-TStmt, end_of-TStmt, more_of-TStmt}
use Rattle.typed_tree.specs.declared.statement.TStmt.TheVariants.{Empty, Block', If', Switch', Break, Continue, Return, Eval, Write, Send, Copy, Halt, Set, Cancel}
use Rattle.typed_tree.specs.declared.statement.TStmt.TheBlock.{Held-TStmt-If-1, Row_of-TArm, end_of-TArm, more_of-TArm, Row_of-TGroup, end_of-TGroup, more_of-TGroup}
use Rattle.typed_tree.specs.declared.program.Typed.{Typed}
use Rattle.typed_tree.specs.Forms.{Binary, Both, Bytes, Cond, Convert, Do, Either, Elem, For, NoPart, Part, Store, Unary, Update, While}
use Rattle.typed_tree.specs.Expression.{params_of}
use Rattle.typed_tree.specs.Statement.{default_group, labels_of}
use Rattle.typed_tree.specs.Shape.{body_goes_on, goes_on, has_index, is_break, is_checked_first, is_comparison, is_end, is_end_of_groups, is_not, is_truth, is_wrapped_first, leaves_number}

-- 1 where something is needed, and 0 otherwise
abbrev pub one_if : Bool → ℕ
one_if needed = if needed then 1 else 0

-- a jump over so many instructions; there is none where there is nothing to jump over
abbrev pub jump_size : ℕ → ℕ
jump_size over = one_if (not (over == 0))

-- What an expression's code has: as a value, which it leaves on the stack; and as a test, which goes to an
-- exit where its truth is the first of the two, and on to the end of its code otherwise. The second is the
-- truth for which the exit's own instruction goes there: not 0 for `Back`, and 0 for `Zero`.
pub record Sizes : Type 0 where
  pub value : ℕ
  pub test : Bool → Bool → ℕ

-- the exit of a test, behind the number that decides: where its instruction goes there for the other truth,
-- `Not` is before it
abbrev pub exit_size : Bool → Bool → ℕ
exit_size true true = 1
exit_size true false = 2
exit_size false true = 2
exit_size false false = 1

-- the sizes of an expression that is a test by its value
abbrev pub by_value : ℕ → Sizes
by_value n = record { value = n; test = λ when fires. n + exit_size when fires }

-- the sizes of `!`, which is a test by the opposite one of its operand
abbrev pub negation_sizes : Sizes → Sizes
negation_sizes e = record { value = e.value + 1; test = λ when fires. e.test (not when) fires }

-- the sizes of an operator with its operands, where a comparison is a test by itself or by its opposite
abbrev pub operator_sizes : BinOp → ℕ → Sizes
operator_sizes op n =
    record { value = n; test = λ when fires. if is_comparison op then n + 1 else n + exit_size when fires }

-- `Not` twice, behind a number that is to be 0 or 1, and none where it is already
abbrev pub truth_size : TExpr → ℕ
truth_size e = if is_truth e then 0 else 2

-- the sizes of `&&`: the left operand goes to where the whole is 0; as a value there is a jump over the 0
-- behind the right one
abbrev pub both_sizes : Sizes → Sizes → ℕ → Sizes
both_sizes a b truth = record {
  value = a.test false false + (b.value + (truth + 2));
  test = λ when fires. a.test false (if when then false else fires) + b.test when fires;
}

-- the sizes of `||`: the left operand goes to where the whole is 1; as a value there is the 1 and a jump
-- before the right one
abbrev pub either_sizes : Sizes → Sizes → ℕ → Sizes
either_sizes a b truth = record {
  value = a.test false false + (2 + (b.value + truth));
  test = λ when fires. a.test true (if when then fires else false) + b.test when fires;
}

-- Where 1 is added to a place: it is read, a copy of its index staying below; 1, the operator and the store
-- follow. To give the number as it was, it is copied before and what is stored dropped; at an index, 1 is
-- taken from what is stored.
abbrev pub bump_size : Place → Bool → ℕ
bump_size place post = one_if (has_index place) + (4 + (if post then 2 else 0))

abbrev mutual
  -- the sizes of an expression
  pub sizes_of : Typed → TExpr → Sizes
  sizes_of typed (Const n) = by_value 1
  sizes_of typed (Load place) = by_value (index_size typed place + 1)
  sizes_of typed (Store place e) =
      by_value (index_size typed place + (one_if (is_checked_first place e) + ((sizes_of typed e).value + 1)))
  sizes_of typed (Update op k back place e) =
      by_value (index_size typed place + (one_if (has_index place) + (1 + ((sizes_of typed e).value +
      (1 + (one_if (is_wrapped_first typed place back) + 1))))))
  sizes_of typed (Bump place k up post) = by_value (index_size typed place + bump_size place post)
  sizes_of typed (Unary op k e) =
      if is_not op then negation_sizes (sizes_of typed e) else by_value ((sizes_of typed e).value + 1)
  sizes_of typed (Binary op k a b) =
      operator_sizes op ((sizes_of typed a).value + ((sizes_of typed b).value + 1))
  sizes_of typed (Both a b) = both_sizes (sizes_of typed a) (sizes_of typed b) (truth_size b)
  sizes_of typed (Either a b) = either_sizes (sizes_of typed a) (sizes_of typed b) (truth_size b)
  sizes_of typed (Cond test a b) =
      by_value ((sizes_of typed test).test false false +
      ((sizes_of typed a).value + (1 + (sizes_of typed b).value)))
  sizes_of typed (Convert k e) = by_value ((sizes_of typed e).value + 1)
  sizes_of typed (Call' f shape args) = by_value (args_size typed args + (2 * length (params_of typed f) + 1))
  sizes_of typed (Active timer) = by_value 1
  sizes_of typed Now = by_value 1

  -- the size of a place's index
  pub index_size : Typed → Place → ℕ
  index_size typed (Cell cell) = 0
  index_size typed (Elem base len index) = (sizes_of typed index).value
  index_size typed (place.Set at field) = 0
  index_size typed (Bytes at k index) = (sizes_of typed index).value
  index_size typed (Signal at l) = 0

  -- the size of arguments
  pub args_size : Typed → {m : _} → Row_of-TExpr m → ℕ
  args_size typed end_of-TExpr = 0
  args_size typed (more_of-TExpr e rest) = (sizes_of typed e).value + args_size typed rest

-- the size of an expression as a value
abbrev pub value_size : Typed → TExpr → ℕ
value_size typed e = (sizes_of typed e).value

-- the size of an expression as a test
abbrev pub test_size : Typed → Bool → Bool → TExpr → ℕ
test_size typed when fires e = (sizes_of typed e).test when fires

-- the size of an expression whose value is dropped: it need not be what a place held before
abbrev pub dropped_size : Typed → TExpr → ℕ
dropped_size typed (Bump place k up post) = value_size typed (Bump place k up false)
dropped_size typed e = value_size typed e

-- the size of the expression of a `return`
abbrev pub returned_size : Typed → Option TExpr → ℕ
returned_size typed None = 0
returned_size typed (Some e) = value_size typed e

-- the size of a loop's body and test, where a jump to the test stands before the body
abbrev pub loop_size : ℕ → ℕ → ℕ
loop_size body test = jump_size body + (body + test)

-- the size of the test of a `for`: without one, a number that is not 0 goes back
abbrev pub for_test_size : Typed → Option TExpr → ℕ
for_test_size typed None = 2
for_test_size typed (Some e) = test_size typed true true e

-- how many `case` labels groups have
abbrev pub case_count : List (List (Option ℤ)) → ℕ
case_count groups = sum_by (count_by is_some) groups

-- the size of a `switch` behind its value: a case for each label, the drop of a value that is none of them, a
-- jump to the group with `default`, or else to the end, and the groups
abbrev pub switch_size : List (List (Option ℤ)) → List ℕ → ℕ
switch_size labels groups =
    case_count labels + (1 + (jump_size (sum (take (default_group labels) groups)) + sum groups))

abbrev mutual
  -- the size of a statement
  pub stmt_size : Typed → TStmt → ℕ
  stmt_size typed Empty = 0
  stmt_size typed (Block' shape all) = stmts_size typed all
  stmt_size typed (If' shape arms other) = arms_size typed arms (part_size typed other)
  stmt_size typed (While test body) = loop_size (stmt_size typed body) (test_size typed true true test)
  stmt_size typed (Do body test) = 1 + (stmt_size typed body + test_size typed true true test)
  stmt_size typed (For init test step body) =
      part_size typed init +
      loop_size (stmt_size typed body + part_size typed step) (for_test_size typed test)
  stmt_size typed (Switch' on shape groups) =
      value_size typed on + switch_size (labels_of groups) (group_sizes typed groups)
  stmt_size typed Break = 1
  stmt_size typed Continue = 1
  stmt_size typed (Return value) = returned_size typed value + 1
  stmt_size typed (Eval e) = dropped_size typed e + one_if (leaves_number typed e)
  stmt_size typed (Write format args) = sum_by (value_size typed) args + 1
  stmt_size typed (Send at) = 1
  stmt_size typed (Copy to from) = 1
  stmt_size typed Halt = 1
  stmt_size typed (Set timer cyclic e) = value_size typed e + 1
  stmt_size typed (Cancel timer) = 1

  -- the size of statements in a row
  pub stmts_size : Typed → {m : _} → Row_of-TStmt m → ℕ
  stmts_size typed end_of-TStmt = 0
  stmts_size typed (more_of-TStmt s rest) = stmt_size typed s + stmts_size typed rest

  -- the size of the arms of an `if` and of what stands behind them: each arm jumps once, over the rest
  pub arms_size : Typed → {m : _} → Row_of-TArm m → ℕ → ℕ
  arms_size typed end_of-TArm other = other
  arms_size typed (more_of-TArm test body rest) other =
      let behind : ℕ = arms_size typed rest other in
      test_size typed false false test + (stmt_size typed body +
      ((if goes_on body then jump_size behind else 0) + behind))

  -- the size of a part that may be missing
  pub part_size : Typed → Held-TStmt-If-1 → ℕ
  part_size typed NoPart = 0
  part_size typed (Part part) = stmt_size typed part

  -- the sizes of the groups of a `switch`
  pub group_sizes : Typed → {m : _} → Row_of-TGroup m → List ℕ
  group_sizes typed end_of-TGroup = []
  group_sizes typed (more_of-TGroup labels shape body rest) =
      (if is_end_of_groups rest then last_group_size typed body else stmts_size typed body) ∷
      group_sizes typed rest

  -- the size of the last group, where a `break` at its end has nothing to jump over
  pub last_group_size : Typed → {m : _} → Row_of-TStmt m → ℕ
  last_group_size typed end_of-TStmt = 0
  last_group_size typed (more_of-TStmt s rest) =
      if is_break s && is_end rest then 0 else stmt_size typed s + last_group_size typed rest

-- the size of the end of a procedure, where control may come to it: it returns, with 0 where it gives a
-- number
abbrev pub tail_size : Bool → Bool → ℕ
tail_size gives false = 0
tail_size gives true = if gives then 2 else 1

-- the size of a procedure that gives a number or not
abbrev pub procedure_size : Typed → Bool → List TStmt → ℕ
procedure_size typed gives body = sum_by (stmt_size typed) body + tail_size gives (body_goes_on true body)

-- the number of instructions of a typed program
abbrev pub size : Typed → ℕ
size typed =
    sum_by (λ function. procedure_size typed (is_some function.gives) function.body) typed.functions +
    sum_by (λ handler. procedure_size typed false handler.body) typed.handlers
