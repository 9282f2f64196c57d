-- The code of each form, appended piece by piece: what each piece appends is known, and where a later one begins.
use Rattle.std.specs.Prelude.{◌≡◌, ℕ, ◌+◌, ◌<◌, ◌≤◌, Bool, true, false, if◌then◌else◌, List, [], ◌∷◌, ◌++◌, length, pos}
use Rattle.std.proofs.Common.{ap, arith, append_assoc, get_or, drop}
use Rattle.int_kinds.specs.declared.kinds.Kind.{Kind}
use Rattle.int_kinds.specs.declared.operators.BinOp.{BinOp}
use Rattle.int_kinds.specs.declared.operators.UnOp.{UnOp}
use Rattle.int_kinds.specs.declared.operators.UnOp.TheVariants.{Minus, Plus, Not, Inv, Up, Down}
use Rattle.bytecode.specs.declared.instr.Instr.TheVariants as instr
use Rattle.typed_tree.specs.declared.expression.Place.{Place}
use Rattle.typed_tree.specs.declared.expression.TExpr.{TExpr}
use Rattle.typed_tree.specs.declared.expression.TExpr.TheVariants as expr
use Rattle.typed_tree.specs.declared.expression.TExpr.TheVariants.{Const, Load, Bump, Call', Active, Now}
use Rattle.typed_tree.specs.declared.expression.Place.TheVariants.{Cell, Set, Signal}
use Rattle.typed_tree.specs.Forms.{Binary, Both, Bytes, Cond, Convert, Either, Elem, Store, Unary, Update}
use Rattle.typed_tree.specs.declared.program.Typed.{Typed}
use Rattle.typed_tree.specs.Expression.{params_of}
use Rattle.typed_tree.specs.Shape.{has_index, is_checked_first, is_not, is_wrapped_first}
use Rattle.typed_tree.specs.Size.{Sizes, index_size, one_if, test_size, truth_size, value_size}
use Rattle.code_listing.specs.Exit.{Forward}
use Rattle.code_listing.specs.Expression.{index_code, params_code, prefix_instr, test_code, truth_code, value_code}
use Rattle.code_listing.specs.Listing.{Listing, instr_if}
use Rattle.code_listing.specs.Place.{index_count, index_depth, read_instr, write_instr}
use Rattle.code_listing.specs.Statement.{values_code}
use Rattle.code_size.proofs.Steps.{drop_next}
use Rattle.gen_expr.proofs.Rows.{call_code}

module _ (typed : Typed) (e : TExpr) (old : Listing) (depth : ℕ) where
  -- a store
  pub store_emitted : (at : Place) (a : TExpr) (c1 c2 c3 c4 : Listing) → e ≡ expr.Store at a →
      c1 ≡ old ++ index_code typed at (length old) depth →
      c2 ≡ c1 ++ instr_if (is_checked_first at a) (instr.Check (index_count at), depth + index_depth at) →
      length c2 ≡ length old + (index_size typed at + one_if (is_checked_first at a)) →
      c3 ≡ c2 ++ value_code typed a (length c2) (depth + index_depth at) →
      c4 ≡ c3 ++ (write_instr at, depth + index_depth at + 1) ∷ [] →
      c4 ≡ old ++ value_code typed e (length old) depth
  unfolding Rattle.typed_tree.specs.declared.expression.Place.TheBlock.hidden-the_row-TExpr-0 denote.Hole.Carrier.hidden
  store_emitted at a c1 c2 c3 c4 is e1 e2 place e3 e4 =
      rw (is, e4, e3, place, e2, e1) (simp append_assoc)

  -- an update
  pub update_emitted : (op : BinOp) (k back : Kind) (at : Place) (a : TExpr) (c1 c2 c3 c4 : Listing) →
      e ≡ expr.Update op k back at a →
      c1 ≡ old ++ index_code typed at (length old) depth →
      c2 ≡ c1 ++ (instr_if (has_index at) (instr.Dup, depth + 1) ++
      (read_instr at, depth + index_depth at + index_depth at) ∷ []) →
      length c2 ≡ length old + (index_size typed at + (index_depth at + 1)) →
      c3 ≡ c2 ++ value_code typed a (length c2) (depth + index_depth at + 1) →
      c4 ≡ c3 ++ (instr.Bin op k, depth + index_depth at + 2) ∷
      (instr_if (is_wrapped_first typed at back) (instr.Conv back, depth + index_depth at + 1) ++
      (write_instr at, depth + index_depth at + 1) ∷ []) →
      c4 ≡ old ++ value_code typed e (length old) depth
  unfolding Rattle.typed_tree.specs.declared.expression.Place.TheBlock.hidden-the_row-TExpr-0 denote.Hole.Carrier.hidden
  update_emitted op k back at a c1 c2 c3 c4 is e1 e2 place e3 e4 =
      rw (is, e4, e3, place, e2, e1) (simp append_assoc)

  -- a prefix operator
  pub unary_emitted : (op : UnOp) (k : Kind) (a : TExpr) (c1 c2 : Listing) → e ≡ expr.Unary op k a →
      c1 ≡ old ++ value_code typed a (length old) depth →
      c2 ≡ c1 ++ (prefix_instr op k, depth + 1) ∷ [] →
      c2 ≡ old ++ value_code typed e (length old) depth
  unfolding Rattle.typed_tree.specs.declared.expression.Place.TheBlock.hidden-the_row-TExpr-0 denote.Hole.Carrier.hidden
  unary_emitted Minus k a c1 c2 is e1 e2 = rw (is, e2, e1) (simp append_assoc)
  unary_emitted Plus k a c1 c2 is e1 e2 = rw (is, e2, e1) (simp append_assoc)
  unary_emitted Not k a c1 c2 is e1 e2 = rw (is, e2, e1) (simp append_assoc)
  unary_emitted Inv k a c1 c2 is e1 e2 = rw (is, e2, e1) (simp append_assoc)
  unary_emitted Up k a c1 c2 is e1 e2 = rw (is, e2, e1) (simp append_assoc)
  unary_emitted Down k a c1 c2 is e1 e2 = rw (is, e2, e1) (simp append_assoc)

  -- a binary operator
  pub binary_emitted : (op : BinOp) (k : Kind) (a b : TExpr) (c1 c2 c3 : Listing) → e ≡ expr.Binary op k a b →
      c1 ≡ old ++ value_code typed a (length old) depth →
      length c1 ≡ length old + value_size typed a →
      c2 ≡ c1 ++ value_code typed b (length c1) (depth + 1) →
      c3 ≡ c2 ++ (instr.Bin op k, depth + 2) ∷ [] →
      c3 ≡ old ++ value_code typed e (length old) depth
  unfolding Rattle.typed_tree.specs.declared.expression.Place.TheBlock.hidden-the_row-TExpr-0 denote.Hole.Carrier.hidden
  binary_emitted op k a b c1 c2 c3 is e1 place e2 e3 = rw (is, e3, e2, place, e1) (simp append_assoc)

  -- `&&`
  pub both_emitted : (a b : TExpr) (zero_at : ℕ) (c1 c2 c3 c4 c5 : Listing) → e ≡ expr.Both a b →
      zero_at ≡ length old + test_size typed false false a + (value_size typed b + (truth_size b + 1)) →
      c1 ≡ old ++ test_code typed false (Forward zero_at) a (length old) depth →
      length c1 ≡ length old + test_size typed false false a →
      c2 ≡ c1 ++ value_code typed b (length c1) depth →
      c3 ≡ c2 ++ truth_code b (depth + 1) →
      c4 ≡ c3 ++ (instr.Jump (zero_at + 1), depth + 1) ∷ [] →
      c5 ≡ c4 ++ (instr.Push (pos 0), depth) ∷ [] →
      c5 ≡ old ++ value_code typed e (length old) depth
  unfolding Rattle.typed_tree.specs.declared.expression.Place.TheBlock.hidden-the_row-TExpr-0 denote.Hole.Carrier.hidden
  both_emitted a b zero_at c1 c2 c3 c4 c5 is zero e1 place e2 e3 e4 e5 =
      rw (is, e5, e4, e3, e2, place, e1, zero) (simp append_assoc)

  -- `||`
  pub either_emitted : (a b : TExpr) (right end : ℕ) (c1 c2 c3 c4 c5 : Listing) → e ≡ expr.Either a b →
      right ≡ length old + (test_size typed false false a + 2) →
      end ≡ right + (value_size typed b + truth_size b) →
      c1 ≡ old ++ test_code typed false (Forward right) a (length old) depth →
      c2 ≡ c1 ++ (instr.Push (pos 1), depth) ∷ [] →
      c3 ≡ c2 ++ (instr.Jump end, depth + 1) ∷ [] →
      length c3 ≡ length old + (test_size typed false false a + 2) →
      c4 ≡ c3 ++ value_code typed b (length c3) depth →
      c5 ≡ c4 ++ truth_code b (depth + 1) →
      c5 ≡ old ++ value_code typed e (length old) depth
  unfolding Rattle.typed_tree.specs.declared.expression.Place.TheBlock.hidden-the_row-TExpr-0 denote.Hole.Carrier.hidden
  either_emitted a b right end c1 c2 c3 c4 c5 is at_right at_end e1 e2 e3 place e4 e5 =
      rw (is, e5, e4, place, e3, e2, e1, at_end, at_right) (simp append_assoc)

  -- `?:`
  pub choice_emitted : (test a b : TExpr) (second end : ℕ) (c1 c2 c3 c4 : Listing) → e ≡ expr.Cond test a b →
      second ≡ length old + test_size typed false false test + (value_size typed a + 1) →
      end ≡ second + value_size typed b →
      c1 ≡ old ++ test_code typed false (Forward second) test (length old) depth →
      length c1 ≡ length old + test_size typed false false test →
      c2 ≡ c1 ++ value_code typed a (length c1) depth →
      c3 ≡ c2 ++ (instr.Jump end, depth + 1) ∷ [] →
      length c3 ≡ length old + test_size typed false false test + (value_size typed a + 1) →
      c4 ≡ c3 ++ value_code typed b (length c3) depth →
      c4 ≡ old ++ value_code typed e (length old) depth
  unfolding Rattle.typed_tree.specs.declared.expression.Place.TheBlock.hidden-the_row-TExpr-0 denote.Hole.Carrier.hidden
  choice_emitted test a b second end c1 c2 c3 c4 is at_second at_end e1 place e2 e3 later e4 =
      rw (is, e4, later, e3, e2, place, e1, at_end, at_second) (simp append_assoc)

  -- a conversion
  pub convert_emitted : (k : Kind) (a : TExpr) (c1 c2 : Listing) → e ≡ expr.Convert k a →
      c1 ≡ old ++ value_code typed a (length old) depth →
      c2 ≡ c1 ++ (instr.Conv k, depth + 1) ∷ [] →
      c2 ≡ old ++ value_code typed e (length old) depth
  unfolding Rattle.typed_tree.specs.declared.expression.Place.TheBlock.hidden-the_row-TExpr-0 denote.Hole.Carrier.hidden
  convert_emitted k a c1 c2 is e1 e2 = rw (is, e2, e1) (simp append_assoc)

  -- a call
  pub call_emitted : (f : ℕ) (args : List TExpr) (c1 c2 c3 : Listing) → e ≡ expr.Call f args →
      c1 ≡ old ++ values_code typed args (length old) depth →
      c2 ≡ c1 ++ params_code (params_of typed f) depth →
      c3 ≡ c2 ++ (instr.Call f, depth) ∷ [] →
      c3 ≡ old ++ value_code typed e (length old) depth
  call_emitted f args c1 c2 c3 is e1 e2 e3 =
      rw (call_code typed e f args (length old) depth is, e3, e2, e1) (simp append_assoc)

-- one of two sizes that are not 0
some_if : (b : Bool) (m n : Sizes) → 1 ≤ m.value → 1 ≤ n.value → 1 ≤ (if b then m else n).value
some_if true m n p q = p
some_if false m n p q = q

-- the code of an expression as a value is not empty
pub value_some : (typed : Typed) (e : TExpr) → 1 ≤ value_size typed e
value_some typed (Const n) = omega arith
value_some typed (Load at) = omega arith
value_some typed (Store at a) = omega arith
value_some typed (Update op k back at a) = omega arith
value_some typed (Bump at k up post) = omega arith
value_some typed (Unary op k a) = some_if (is_not op) _ _ (omega arith) (omega arith)
value_some typed (Binary op k a b) = omega arith
value_some typed (Both a b) = omega arith
value_some typed (Either a b) = omega arith
value_some typed (Cond test a b) = omega arith
value_some typed (Convert k a) = omega arith
value_some typed (Call' f shape args) = omega arith
value_some typed (Active timer) = omega arith
value_some typed Now = omega arith

-- a place with an index has code for it
pub index_some : (typed : Typed) (at : Place) → index_depth at ≤ index_size typed at
index_some typed (Cell cell) = omega arith
index_some typed (Elem base len index) = value_some typed index
index_some typed (Set at field) = omega arith
index_some typed (Bytes at k index) = value_some typed index
index_some typed (Signal at l) = omega arith

-- the size of a binary operator
pub binary_size : (typed : Typed) (e : TExpr) (op : BinOp) (k : Kind) (a b : TExpr) → e ≡ expr.Binary op k a b →
    value_size typed e ≡ value_size typed a + (value_size typed b + 1)
unfolding Rattle.typed_tree.specs.declared.expression.Place.TheBlock.hidden-the_row-TExpr-0 denote.Hole.Carrier.hidden
binary_size typed e op k a b is = ap (value_size typed) is

-- the size of a store
pub store_size : (typed : Typed) (e : TExpr) (at : Place) (a : TExpr) → e ≡ expr.Store at a →
    value_size typed e ≡ index_size typed at + (one_if (is_checked_first at a) + (value_size typed a + 1))
unfolding Rattle.typed_tree.specs.declared.expression.Place.TheBlock.hidden-the_row-TExpr-0 denote.Hole.Carrier.hidden
store_size typed e at a is = ap (value_size typed) is

-- one more expression of several
pub values_next : (typed : Typed) (all : List TExpr) (i : ℕ) (e : TExpr) (below : ℕ) (c1 c2 : Listing) →
    i < length all → e ≡ get_or all i e → c2 ≡ c1 ++ value_code typed e (length c1) below →
    length c2 ≡ length c1 + value_size typed e →
    c2 ++ values_code typed (drop (i + 1) all) (length c2) (below + 1) ≡
    c1 ++ values_code typed (drop i all) (length c1) below
values_next typed all i e below c1 c2 within is code place =
    rw (drop_next all i e within is, place, code) (simp append_assoc)
