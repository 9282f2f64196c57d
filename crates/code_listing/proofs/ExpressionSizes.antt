-- The code of an expression has as many instructions as its size says.
use mathlib.Core.Former.{Count}
use Rattle.std.specs.Prelude.{◌≡◌, ℕ, suc, ◌+◌, ◌*◌, Bool, true, false, not, if◌then◌else◌, List, [], ◌∷◌, ◌++◌, length}
use Rattle.std.proofs.Common.{refl, ap, ◌∙◌, arith, length-append}
use Rattle.int_kinds.specs.declared.kinds.Kind.{Kind}
use Rattle.int_kinds.specs.declared.operators.BinOp.{BinOp}
use Rattle.bytecode.specs.declared.instr.Instr.{Instr}
use Rattle.bytecode.specs.declared.instr.Instr.TheVariants as instr
use Rattle.typed_tree.specs.declared.expression.Place.{Place}
use Rattle.typed_tree.specs.declared.expression.Place.TheVariants.{Cell, Signal}
use Rattle.typed_tree.specs.declared.expression.Place.TheVariants as place
use Rattle.typed_tree.specs.declared.expression.TExpr.{TExpr, Row_of-TExpr, end_of-TExpr, more_of-TExpr}
use Rattle.typed_tree.specs.declared.expression.TExpr.TheVariants.{Const, Load, Bump, Call', Active, Now}
use Rattle.typed_tree.specs.declared.program.Typed.{Typed}
use Rattle.typed_tree.specs.Expression.{params_of}
use Rattle.typed_tree.specs.Forms.{Binary, Both, Bytes, Cond, Convert, Either, Elem, Store, Unary, Update}
use Rattle.typed_tree.specs.Shape.{has_index, is_checked_first, is_comparison, is_not, is_truth, is_wrapped_first}
use Rattle.typed_tree.specs.Size.{Sizes, args_size, both_sizes, bump_size, by_value, either_sizes, exit_size, index_size, negation_sizes, one_if, operator_sizes, sizes_of, truth_size}
use Rattle.code_listing.specs.Exit.{Backward, Exit, Forward, exit_code, exit_instr, own_truth}
use Rattle.code_listing.specs.Expression.{Codes, args_code, both_codes, both_exit, codes_by_value, codes_of, either_codes, either_exit, index_code, negation_codes, operator_codes, params_code, test_op, truth_code}
use Rattle.code_listing.specs.Listing.{Listing, instr_if}
use Rattle.code_listing.specs.Place.{bump_at_index_code, bump_code, bump_in_place_code}

-- codes are as long as these sizes
pub record Fit (c : Codes) (s : Sizes) : Type 0 where
  pub value : (place depth : ℕ) → length (c.value place depth) ≡ s.value
  pub test : (when : Bool) (exit : Exit) (place depth : ℕ) →
      length (c.test when exit place depth) ≡ s.test when (own_truth exit)

-- an instruction where it is needed
pub instr_if_long : (needed : Bool) (x : _) → length (instr_if needed x) ≡ one_if needed
instr_if_long true x = refl
instr_if_long false x = refl

exit_long : (when : Bool) (exit : Exit) (depth : ℕ) →
    length (exit_code when exit depth) ≡ exit_size when (own_truth exit)
exit_long true (Forward t) d = refl
exit_long true (Backward t) d = refl
exit_long false (Forward t) d = refl
exit_long false (Backward t) d = refl

-- two lists of known lengths
pub both_long : (xs ys : Listing) (m n : ℕ) → length xs ≡ m → length ys ≡ n → length (xs ++ ys) ≡ m + n
both_long xs ys m n e f = length-append xs ys ∙ ap (λ k. k + length ys) e ∙ ap (λ k. m + k) f

-- one more instruction
pub cons_long : (m n : ℕ) → m ≡ n → suc m ≡ 1 + n
cons_long m n e = omega (arith, e)

-- codes of an expression that is a test by its value
pub value_fits : (c : ℕ → ℕ → Listing) (n : ℕ) → ((place depth : ℕ) → length (c place depth) ≡ n) →
    Fit (codes_by_value c) (by_value n)
value_fits c n h = record {
  value = h;
  test = λ when exit place depth.
      both_long (c place depth) (exit_code when exit (depth + 1)) n _ (h place depth) (exit_long when exit (depth + 1));
}

-- two instructions or none
none_or_two : (b : Bool) (x y : Instr × ℕ) → length (if b then [] else (x ∷ y ∷ [])) ≡ (if b then 0 else 2)
none_or_two true x y = refl
none_or_two false x y = refl

-- `Not` twice, where it is needed
pub truth_long : (e : TExpr) (depth : ℕ) → length (truth_code e depth) ≡ truth_size e
truth_long e depth = none_or_two (is_truth e) _ _

-- the codes of an operator
pub operator_fits : (op : BinOp) (k : Kind) (operands : ℕ → ℕ → Listing) (m n : ℕ) →
    ((place depth : ℕ) → length (operands place depth) ≡ m + n) →
    Fit (operator_codes op k operands) (operator_sizes op (m + (n + 1)))
operator_fits op k operands m n h = record {
  value = λ place depth. simp length-append (omega (arith, h place depth));
  test = λ when exit place depth. at_kind (is_comparison op) when exit place depth;
}
  where
    at_kind : (b : Bool) (when : Bool) (exit : Exit) (place depth : ℕ) →
        length (if b
        then operands place depth ++
        (instr.Bin (test_op when exit op) k, depth + 2) ∷ (exit_instr exit, depth + 1) ∷ []
        else (operands place depth ++ (instr.Bin op k, depth + 2) ∷ []) ++ exit_code when exit (depth + 1)) ≡
        (if b then m + (n + 1) + 1 else m + (n + 1) + exit_size when (own_truth exit))
    at_kind true when exit place depth = simp length-append (omega (arith, h place depth))
    at_kind false when exit place depth =
        simp length-append (omega (arith, h place depth, exit_long when exit (depth + 1)))

-- the codes of `!`
pub negation_fits : (c : Codes) (s : Sizes) → Fit c s → Fit (negation_codes c) (negation_sizes s)
negation_fits c s h = record {
  value = λ place depth. simp length-append (omega (arith, h.value place depth));
  test = λ when exit place depth. h.test (not when) exit place depth;
}

-- the exit of the left operand of `&&` has the truth that its size says
pub both_exit_truth : (when : Bool) (end : ℕ) (exit : Exit) →
    own_truth (both_exit when exit end) ≡ (if when then false else own_truth exit)
both_exit_truth true end exit = refl
both_exit_truth false end exit = refl

-- and so has that of the left operand of `||`
pub either_exit_truth : (when : Bool) (end : ℕ) (exit : Exit) →
    own_truth (either_exit when exit end) ≡ (if when then own_truth exit else false)
either_exit_truth true end exit = refl
either_exit_truth false end exit = refl

-- the codes of `&&`
pub both_fits : (a b : Codes) (sa sb : Sizes) (e : TExpr) → Fit a sa → Fit b sb →
    Fit (both_codes a b sa sb e) (both_sizes sa sb (truth_size e))
both_fits a b sa sb e fa fb = record {
  value = λ place depth. simp length-append (omega (
    arith,
    fa.test false (Forward (place + sa.test false false + (sb.value + (truth_size e + 1)))) place depth,
    fb.value (place + sa.test false false) depth,
    truth_long e (depth + 1),
  ));
  test = λ when exit place depth.
      let right : ℕ = place + sa.test false (if when then false else own_truth exit) in
      let end : ℕ = right + sb.test when (own_truth exit) in
      both_long _ _ _ _
      (fa.test false (both_exit when exit end) place depth ∙
      ap (λ f. sa.test false f) (both_exit_truth when end exit)) (fb.test when exit right depth);
}

-- the codes of `||`
pub either_fits : (a b : Codes) (sa sb : Sizes) (e : TExpr) → Fit a sa → Fit b sb →
    Fit (either_codes a b sa sb e) (either_sizes sa sb (truth_size e))
either_fits a b sa sb e fa fb = record {
  value = λ place depth. simp length-append (omega (
    arith,
    fa.test false (Forward (place + (sa.test false false + 2))) place depth,
    fb.value (place + (sa.test false false + 2)) depth,
    truth_long e (depth + 1),
  ));
  test = λ when exit place depth.
      let right : ℕ = place + sa.test true (if when then own_truth exit else false) in
      let end : ℕ = right + sb.test when (own_truth exit) in
      both_long _ _ _ _
      (fa.test true (either_exit when exit end) place depth ∙
      ap (λ f. sa.test true f) (either_exit_truth when end exit)) (fb.test when exit right depth);
}

bump_long : (typed : Typed) (at : Place) (k : Kind) (up post : Bool) (depth : ℕ) →
    length (bump_code typed at k up post depth) ≡ bump_size at post
bump_long typed at k up post depth = at_index (has_index at) post
  where
    at_index : (index post : Bool) → length (if index
        then bump_at_index_code typed at k up post depth else bump_in_place_code at k up post depth) ≡
        one_if index + (4 + (if post then 2 else 0))
    at_index true true = refl
    at_index true false = refl
    at_index false true = refl
    at_index false false = refl

-- arguments stored in parameters
pub params_long : (params : List ℕ) (depth : ℕ) → length (params_code params depth) ≡ 2 * length params
params_long [] depth = refl
params_long (param ∷ params) depth = simp length-append (omega (arith, params_long params (depth + 1)))

-- one of two codes
fits_if : (b : Bool) (c d : Codes) (sc sd : Sizes) → Fit c sc → Fit d sd →
    Fit (if b then c else d) (if b then sc else sd)
fits_if true c d sc sd h k = h
fits_if false c d sc sd h k = k

mutual
  -- the codes of an expression are as long as its sizes
  pub codes_fit : (typed : Typed) (e : TExpr) → Fit (codes_of typed e) (sizes_of typed e)
  codes_fit typed (Const n) = value_fits _ _ (λ place depth. refl)
  codes_fit typed (Load at) =
      value_fits _ _ (λ place depth. simp length-append (omega (arith, index_long typed at place depth)))
  codes_fit typed (Store at e) = value_fits _ _ (λ place depth.
      both_long _ _ _ _ (index_long typed at place depth)
      (both_long _ _ _ _ (instr_if_long (is_checked_first at e) _)
      (both_long _ _ _ _ ((codes_fit typed e).value _ _) refl)))
  codes_fit typed (Update op k back at e) = value_fits _ _ (λ place depth.
      both_long _ _ _ _ (index_long typed at place depth)
      (both_long _ _ _ _ (instr_if_long (has_index at) _)
      (cons_long _ _ (both_long _ _ _ _ ((codes_fit typed e).value _ _)
      (cons_long _ _ (both_long _ _ _ _ (instr_if_long (is_wrapped_first typed at back) _) refl))))))
  codes_fit typed (Bump at k up post) = value_fits _ _ (λ place depth.
      simp length-append (omega (arith, index_long typed at place depth, bump_long typed at k up post depth)))
  codes_fit typed (Unary op k e) = fits_if (is_not op) _ _ _ _ (negation_fits _ _ (codes_fit typed e))
      (value_fits _ _ (λ place depth. both_long _ _ _ _ ((codes_fit typed e).value place depth) refl))
  codes_fit typed (Binary op k a b) = operator_fits op k _ _ _ (λ place depth.
      both_long _ _ _ _ ((codes_fit typed a).value place depth) ((codes_fit typed b).value _ (depth + 1)))
  codes_fit typed (Both a b) = both_fits _ _ _ _ b (codes_fit typed a) (codes_fit typed b)
  codes_fit typed (Either a b) = either_fits _ _ _ _ b (codes_fit typed a) (codes_fit typed b)
  codes_fit typed (Cond test a b) = value_fits _ _ (λ place depth.
      both_long _ _ _ _ ((codes_fit typed test).test false (Forward _) place depth)
      (both_long _ _ _ _ ((codes_fit typed a).value _ depth) (cons_long _ _ ((codes_fit typed b).value _ depth))))
  codes_fit typed (Convert k e) = value_fits _ _ (λ place depth.
      simp length-append (omega (arith, (codes_fit typed e).value place depth)))
  codes_fit typed (Call' f shape args) = value_fits _ _ (λ place depth.
      simp length-append (omega (arith, args_long typed args place depth, params_long (params_of typed f) depth)))
  codes_fit typed (Active timer) = value_fits _ _ (λ place depth. refl)
  codes_fit typed Now = value_fits _ _ (λ place depth. refl)

  -- the code of an index is as long as its size
  pub index_long : (typed : Typed) (at : Place) (place depth : ℕ) →
      length (index_code typed at place depth) ≡ index_size typed at
  index_long typed (Cell cell) place depth = refl
  index_long typed (Elem base len index) place depth = (codes_fit typed index).value place depth
  index_long typed (place.Set at field) place depth = refl
  index_long typed (Bytes at k index) place depth = (codes_fit typed index).value place depth
  index_long typed (Signal at l) place depth = refl

  -- the code of arguments is as long as its size
  pub args_long : (typed : Typed) {m : Count} (args : Row_of-TExpr m) (place depth : ℕ) →
      length (args_code typed args place depth) ≡ args_size typed args
  args_long typed end_of-TExpr place depth = refl
  args_long typed (more_of-TExpr e rest) place depth =
      both_long _ _ _ _ ((codes_fit typed e).value place depth) (args_long typed rest _ (depth + 1))
