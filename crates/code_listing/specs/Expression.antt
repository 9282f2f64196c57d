-- The code of an expression, of each variant, from a place and a depth on. As a value it leaves the number
-- on the stack. As a test it leaves nothing: for one truth of the expression it goes to an exit, and for the
-- other it goes on to its end. What is not evaluated is jumped over; `!`, `&&` and `||` that stand as a test
-- are not turned into 0 or 1, and a comparison is decided by its own instruction and the exit's alone.
--
-- The targets of jumps are numbers from the start, made of the sizes of the parts (`Size` of typed_tree).
use Rattle.std.specs.Prelude.{ℕ, ◌+◌, Bool, true, false, not, if◌then◌else◌, List, [], ◌∷◌, ◌++◌, pos}
use Rattle.int_kinds.specs.declared.kinds.Kind.{Kind}
use Rattle.int_kinds.specs.declared.operators.BinOp.{BinOp}
use Rattle.int_kinds.specs.declared.operators.BinOp.TheVariants.{Equal, NotEqual, Less, LessEqual, Greater, GreaterEqual}
use Rattle.int_kinds.specs.declared.operators.UnOp.{UnOp}
use Rattle.int_kinds.specs.declared.operators.UnOp.TheVariants.{Minus, Plus, Not, Inv, Up, Down}
use Rattle.bytecode.specs.declared.instr.Instr.{Instr}
use Rattle.bytecode.specs.declared.instr.Instr.TheVariants as instr
use Rattle.typed_tree.specs.declared.expression.Place.{Place}
use Rattle.typed_tree.specs.declared.expression.Place.TheVariants.{Cell, Signal}
use Rattle.typed_tree.specs.declared.expression.Place.TheVariants as place
use Rattle.typed_tree.specs.declared.expression.TExpr.{TExpr, Row_of-TExpr, end_of-TExpr, more_of-TExpr}
use Rattle.typed_tree.specs.declared.expression.TExpr.TheVariants.{Const, Load, Bump, Call', Active, Now}
use Rattle.typed_tree.specs.declared.program.Typed.{Typed}
use Rattle.typed_tree.specs.Expression.{params_of}
use Rattle.typed_tree.specs.Forms.{Binary, Both, Bytes, Cond, Convert, Either, Elem, Store, Unary, Update}
use Rattle.typed_tree.specs.Shape.{has_index, is_checked_first, is_comparison, is_not, is_truth, is_wrapped_first}
use Rattle.typed_tree.specs.Size.{Sizes, index_size, one_if, sizes_of, truth_size}
use Rattle.code_listing.specs.Exit.{Exit, Forward, exit_code, exit_instr, own_truth, same_truth}
use Rattle.code_listing.specs.Listing.{Listing, instr_if}
use Rattle.code_listing.specs.Place.{bump_code, index_count, index_depth, read_instr, write_instr}

-- the code of an expression from a place and a depth on: as a value, and as a test that goes to an exit where
-- the expression's truth is this one
pub record Codes : Type 0 where
  pub value : ℕ → ℕ → Listing
  pub test : Bool → Exit → ℕ → ℕ → Listing

-- the codes of an expression that is a test by its value
abbrev pub codes_by_value : (ℕ → ℕ → Listing) → Codes
codes_by_value value = record {
  value = value;
  test = λ when exit place depth. value place depth ++ exit_code when exit (depth + 1);
}

-- the comparison that gives the opposite truth
abbrev pub opposite_op : BinOp → BinOp
opposite_op Equal = NotEqual
opposite_op NotEqual = Equal
opposite_op Less = GreaterEqual
opposite_op LessEqual = Greater
opposite_op Greater = LessEqual
opposite_op GreaterEqual = Less
opposite_op op = op

-- the operator of a comparison that goes to an exit for a truth: itself where the exit's own instruction goes
-- there for this truth, and else its opposite
abbrev pub test_op : Bool → Exit → BinOp → BinOp
test_op when exit op = if same_truth when (own_truth exit) then op else opposite_op op

-- the codes of an operator, behind its operands
abbrev pub operator_codes : BinOp → Kind → (ℕ → ℕ → Listing) → Codes
operator_codes op k operands = record {
  value = λ place depth. operands place depth ++ (instr.Bin op k, depth + 2) ∷ [];
  test = λ when exit place depth. if is_comparison op
      then operands place depth ++
      (instr.Bin (test_op when exit op) k, depth + 2) ∷ (exit_instr exit, depth + 1) ∷ []
      else (operands place depth ++ (instr.Bin op k, depth + 2) ∷ []) ++ exit_code when exit (depth + 1);
}

-- the codes of `!`, which is a test by the opposite one of its operand
abbrev pub negation_codes : Codes → Codes
negation_codes e = record {
  value = λ place depth. e.value place depth ++ (instr.Not, depth + 1) ∷ [];
  test = λ when exit place depth. e.test (not when) exit place depth;
}

-- `Not` twice, behind a number that is to be 0 or 1, and none where it is already
abbrev pub truth_code : TExpr → ℕ → Listing
truth_code e depth = if is_truth e then [] else (instr.Not, depth) ∷ (instr.Not, depth) ∷ []

-- the exit of the left operand of `&&`, which is at the end of the whole where the whole goes on to it
abbrev pub both_exit : Bool → Exit → ℕ → Exit
both_exit when exit end = if when then Forward end else exit

-- The codes of `&&`, by those of its operands, their sizes and the right one. As a value, the left operand
-- goes to where the whole is 0, and there is a jump over that behind the right one.
abbrev pub both_codes : Codes → Codes → Sizes → Sizes → TExpr → Codes
both_codes a b sa sb e = record {
  value = λ place depth.
      let right : ℕ = place + sa.test false false in
      let zero_at : ℕ = right + (sb.value + (truth_size e + 1)) in
      a.test false (Forward zero_at) place depth ++ (b.value right depth ++ (truth_code e (depth + 1) ++
      (instr.Jump (zero_at + 1), depth + 1) ∷ (instr.Push (pos 0), depth) ∷ []));
  test = λ when exit place depth.
      let right : ℕ = place + sa.test false (if when then false else own_truth exit) in
      let end : ℕ = right + sb.test when (own_truth exit) in
      a.test false (both_exit when exit end) place depth ++ b.test when exit right depth;
}

-- the exit of the left operand of `||`, which is at the end of the whole where the whole goes on to it
abbrev pub either_exit : Bool → Exit → ℕ → Exit
either_exit when exit end = if when then exit else Forward end

-- The codes of `||`, by those of its operands, their sizes and the right one. As a value, the left operand
-- goes to the right one where it is 0, and there is a 1 and a jump before that.
abbrev pub either_codes : Codes → Codes → Sizes → Sizes → TExpr → Codes
either_codes a b sa sb e = record {
  value = λ place depth.
      let right : ℕ = place + (sa.test false false + 2) in
      a.test false (Forward right) place depth ++
      (instr.Push (pos 1), depth) ∷ (instr.Jump (right + (sb.value + truth_size e)), depth + 1) ∷
      (b.value right depth ++ truth_code e (depth + 1));
  test = λ when exit place depth.
      let right : ℕ = place + sa.test true (if when then own_truth exit else false) in
      let end : ℕ = right + sb.test when (own_truth exit) in
      a.test true (either_exit when exit end) place depth ++ b.test when exit right depth;
}

-- `?:`, by the codes of its parts and their sizes: one jump, over the second of the two values
abbrev pub choice_code : Codes → Codes → Codes → Sizes → Sizes → Sizes → ℕ → ℕ → Listing
choice_code test a b st sa sb place depth =
    let first : ℕ = place + st.test false false in
    let second : ℕ = first + (sa.value + 1) in
    test.test false (Forward second) place depth ++ (a.value first depth ++
    (instr.Jump (second + sb.value), depth + 1) ∷ b.value second depth)

-- the instruction of a prefix operator; `++` and `--` are none
abbrev pub prefix_instr : UnOp → Kind → Instr
prefix_instr Minus k = instr.Neg k
prefix_instr Plus k = instr.Conv k
prefix_instr Not k = instr.Not
prefix_instr Inv k = instr.Inv k
prefix_instr Up k = instr.Conv k
prefix_instr Down k = instr.Conv k

-- arguments on the stack, below which there are so many numbers, are stored in the parameters, the last one
-- first, which is on top
abbrev pub params_code : List ℕ → ℕ → Listing
params_code [] depth = []
params_code (param ∷ params) depth =
    params_code params (depth + 1) ++ (instr.Store param, depth + 1) ∷ (instr.Drop, depth + 1) ∷ []

abbrev mutual
  -- the codes of an expression
  pub codes_of : Typed → TExpr → Codes
  codes_of typed (Const n) = codes_by_value (λ place depth. (instr.Push n, depth) ∷ [])
  codes_of typed (Load at) = codes_by_value (λ place depth.
      index_code typed at place depth ++ (read_instr at, depth + index_depth at) ∷ [])
  codes_of typed (Store at e) = codes_by_value (λ place depth.
      let value_at : ℕ = place + (index_size typed at + one_if (is_checked_first at e)) in
      index_code typed at place depth ++ (instr_if (is_checked_first at e)
      (instr.Check (index_count at), depth + index_depth at) ++
      ((codes_of typed e).value value_at (depth + index_depth at) ++
      (write_instr at, depth + index_depth at + 1) ∷ [])))
  codes_of typed (Update op k back at e) = codes_by_value (λ place depth.
      let value_at : ℕ = place + (index_size typed at + (index_depth at + 1)) in
      index_code typed at place depth ++ (instr_if (has_index at) (instr.Dup, depth + 1) ++
      (read_instr at, depth + index_depth at + index_depth at) ∷
      ((codes_of typed e).value value_at (depth + index_depth at + 1) ++
      (instr.Bin op k, depth + index_depth at + 2) ∷
      (instr_if (is_wrapped_first typed at back) (instr.Conv back, depth + index_depth at + 1) ++
      (write_instr at, depth + index_depth at + 1) ∷ []))))
  codes_of typed (Bump at k up post) = codes_by_value (λ place depth.
      index_code typed at place depth ++ bump_code typed at k up post depth)
  codes_of typed (Unary op k e) = if is_not op then negation_codes (codes_of typed e)
      else codes_by_value (λ place depth.
      (codes_of typed e).value place depth ++ (prefix_instr op k, depth + 1) ∷ [])
  codes_of typed (Binary op k a b) = operator_codes op k (λ place depth.
      (codes_of typed a).value place depth ++
      (codes_of typed b).value (place + (sizes_of typed a).value) (depth + 1))
  codes_of typed (Both a b) =
      both_codes (codes_of typed a) (codes_of typed b) (sizes_of typed a) (sizes_of typed b) b
  codes_of typed (Either a b) =
      either_codes (codes_of typed a) (codes_of typed b) (sizes_of typed a) (sizes_of typed b) b
  codes_of typed (Cond test a b) = codes_by_value (choice_code
      (codes_of typed test) (codes_of typed a) (codes_of typed b)
      (sizes_of typed test) (sizes_of typed a) (sizes_of typed b))
  codes_of typed (Convert k e) = codes_by_value (λ place depth.
      (codes_of typed e).value place depth ++ (instr.Conv k, depth + 1) ∷ [])
  codes_of typed (Call' f shape args) = codes_by_value (λ place depth.
      args_code typed args place depth ++
      (params_code (params_of typed f) depth ++ (instr.Call f, depth) ∷ []))
  codes_of typed (Active timer) = codes_by_value (λ place depth. (instr.Active timer, depth) ∷ [])
  codes_of typed Now = codes_by_value (λ place depth. (instr.Now, depth) ∷ [])

  -- the code of a place's index
  pub index_code : Typed → Place → ℕ → ℕ → Listing
  index_code typed (Cell cell) place depth = []
  index_code typed (Elem base len index) place depth = (codes_of typed index).value place depth
  index_code typed (place.Set at field) place depth = []
  index_code typed (Bytes at k index) place depth = (codes_of typed index).value place depth
  index_code typed (Signal at l) place depth = []

  -- the code of arguments, each a number deeper
  pub args_code : Typed → {m : _} → Row_of-TExpr m → ℕ → ℕ → Listing
  args_code typed end_of-TExpr place depth = []
  args_code typed (more_of-TExpr e rest) place depth =
      (codes_of typed e).value place depth ++
      args_code typed rest (place + (sizes_of typed e).value) (depth + 1)

-- the code of an expression as a value
abbrev pub value_code : Typed → TExpr → ℕ → ℕ → Listing
value_code typed e place depth = (codes_of typed e).value place depth

-- the code of an expression as a test that goes to an exit where the expression's truth is this one
abbrev pub test_code : Typed → Bool → Exit → TExpr → ℕ → ℕ → Listing
test_code typed when exit e place depth = (codes_of typed e).test when exit place depth
