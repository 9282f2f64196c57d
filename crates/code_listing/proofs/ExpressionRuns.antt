-- The code of an expression does what the expression means, variant by variant, where that of its parts does.
use Rattle.std.proofs.Common.{ℕ, ◌<◌, ◌≤◌, ◌+◌, length, refl, arith}
use Rattle.std.specs.Prelude.{ℤ}
use Rattle.int_kinds.specs.declared.kinds.Kind.{Kind}
use Rattle.int_kinds.specs.declared.operators.BinOp.{BinOp}
use Rattle.int_kinds.specs.declared.operators.UnOp.TheVariants.{Minus, Plus, Not, Inv}
use Rattle.int_kinds.specs.Arithmetic.{inverted, negated}
use Rattle.int_kinds.specs.Kind.{wrap}
use Rattle.signal_codec.specs.declared.layout.Layout.{Layout}
use Rattle.bytecode.specs.declared.code.Code.{Code}
use Rattle.bytecode.specs.declared.instr.Instr.TheVariants as instr
use Rattle.bytecode.specs.Rule.{IsArray, IsOperation}
use Rattle.message_cells.specs.Message.{IsMessage}
use Rattle.message_cells.proofs.MessageLemmas.{message_within}
use Rattle.control_flow.specs.Control.{Calls}
use Rattle.typed_tree.specs.declared.expression.Place.TheVariants.{Cell, Signal}
use Rattle.typed_tree.specs.declared.expression.Place.TheVariants as place
use Rattle.typed_tree.specs.declared.expression.TExpr.{TExpr}
use Rattle.typed_tree.specs.declared.expression.TExpr.TheVariants.{Const, Load, Active, Now}
use Rattle.typed_tree.specs.Expression.{Setting, value_of}
use Rattle.typed_tree.specs.Forms.{Binary, Both, Bytes, Cond, Convert, Either, Elem, Unary}
use Rattle.typed_tree.specs.Memory.{Memory}
use Rattle.typed_tree.specs.Size.{sizes_of}
use Rattle.code_listing.specs.Expression.{codes_of}
use Rattle.code_listing.proofs.ChoiceRuns.{means_both, means_choice, means_either}
use Rattle.code_listing.proofs.LoadRuns.{means_bytes, means_cell, means_element, means_signal}
use Rattle.code_listing.proofs.OperatorRuns.{means_operator}
use Rattle.code_listing.proofs.TestRuns.{Mean}
use Rattle.code_listing.proofs.TruthLemmas.{truth_given}
use Rattle.code_listing.proofs.ValueRuns.{means_active, means_negation, means_now, means_number, means_prefix}

module _ (code : Code) (s : Setting) (call : Calls Memory) (most : ℕ) where
  -- the codes of an expression do what it means, wherever they stand, in worlds with at most so many turns left
  abbrev pub Means : TExpr → Type 0
  Means e = Mean code s.closed s.moment most (codes_of s.typed e) (sizes_of s.typed e) (value_of s call e)

  -- a number
  pub of_const : (n : ℤ) → Means (Const n)
  of_const n = means_number code s.closed s.moment most n

  -- the moment
  pub of_now : Means Now
  of_now = means_now code s.closed s.moment most

  -- whether a timer is active
  pub of_active : (timer : ℕ) → timer < length code.timers → Means (Active timer)
  of_active timer there = means_active code s.closed s.moment most timer there

  -- the number in a cell
  pub of_cell : (cell : ℕ) → cell < length code.cells → Means (Load (Cell cell))
  of_cell cell there = means_cell code s.closed s.moment most cell there

  -- a field of a message
  pub of_field : (at field : ℕ) → field ≤ 3 → IsMessage code.cells at → Means (Load (place.Set at field))
  of_field at field small is = means_cell code s.closed s.moment most (at + field) (omega (arith, small, message_within code.cells at is))

  -- a signal
  pub of_signal : (at : ℕ) (l : Layout) → IsMessage code.cells at → Means (Load (Signal at l))
  of_signal at l is = means_signal code s.closed s.moment most at l is

  -- an element of an array
  pub of_element : (base len : ℕ) (index : TExpr) → IsArray code.cells base len → Means index → Means (Load (Elem base len index))
  of_element base len index array means = means_element code s.closed s.moment most _ _ _ base len array means

  -- payload bytes
  pub of_bytes : (at : ℕ) (k : Kind) (index : TExpr) → IsMessage code.cells at → Means index → Means (Load (Bytes at k index))
  of_bytes at k index is means = means_bytes code s.closed s.moment most _ _ _ at k is means

  -- `-`
  pub of_minus : (k : Kind) (e : TExpr) → Means e → Means (Unary Minus k e)
  of_minus k e means = means_prefix code s.closed s.moment most _ _ _ (instr.Neg k) (negated k) means (λ m n stack. refl)

  -- `+`
  pub of_plus : (k : Kind) (e : TExpr) → Means e → Means (Unary Plus k e)
  of_plus k e means = means_prefix code s.closed s.moment most _ _ _ (instr.Conv k) (wrap k) means (λ m n stack. refl)

  -- `~`
  pub of_inverse : (k : Kind) (e : TExpr) → Means e → Means (Unary Inv k e)
  of_inverse k e means = means_prefix code s.closed s.moment most _ _ _ (instr.Inv k) (inverted k) means (λ m n stack. refl)

  -- `!`
  pub of_negation : (k : Kind) (e : TExpr) → Means e → Means (Unary Not k e)
  of_negation k e means = means_negation code s.closed s.moment most _ _ _ means

  -- a number wrapped to a kind
  pub of_convert : (k : Kind) (e : TExpr) → Means e → Means (Convert k e)
  of_convert k e means = means_prefix code s.closed s.moment most _ _ _ (instr.Conv k) (wrap k) means (λ m n stack. refl)

  -- a binary operator
  pub of_binary : (op : BinOp) (k : Kind) (a b : TExpr) → IsOperation op → Means a → Means b → Means (Binary op k a b)
  of_binary op k a b is ma mb = means_operator code s.closed s.moment most _ _ _ _ _ _ ma mb op k is

  -- `&&`
  pub of_both : (a b : TExpr) → Means a → Means b → Means (Both a b)
  of_both a b ma mb = means_both code s.closed s.moment most _ _ _ _ _ _ b ma mb (λ w h. truth_given s call b w h)

  -- `||`
  pub of_either : (a b : TExpr) → Means a → Means b → Means (Either a b)
  of_either a b ma mb = means_either code s.closed s.moment most _ _ _ _ _ _ b ma mb (λ w h. truth_given s call b w h)

  -- `?:`
  pub of_choice : (t a b : TExpr) → Means t → Means a → Means b → Means (Cond t a b)
  of_choice t a b mt ma mb = means_choice code s.closed s.moment most _ _ _ _ _ _ _ _ _ mt ma mb
