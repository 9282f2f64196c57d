-- The code of a binary operator does what the operator means, where that of its operands does.
use Rattle.std.proofs.Common.{◌≡◌, ℕ, ◌+◌, Bool, true, false, List, [], ◌∷◌, ◌++◌, length, Option, Some, None, slice_get, refl, sym, ap, ◌∙◌, subst, arith}
use Rattle.std.specs.Prelude.{ℤ, pos, not, if◌then◌else◌}
use Rattle.std.specs.Ordering.{int_eq}
use Rattle.int_kinds.specs.declared.kinds.Kind.{Kind}
use Rattle.int_kinds.specs.declared.operators.BinOp.{BinOp}
use Rattle.int_kinds.specs.declared.operators.BinOp.TheVariants.{OrElse, AndAlso}
use Rattle.int_kinds.specs.Arithmetic.{truth, value}
use Rattle.bytecode.specs.declared.code.Code.{Code}
use Rattle.bytecode.specs.declared.instr.Instr.TheVariants as instr
use Rattle.bytecode.specs.Machine.{Machine}
use Rattle.bytecode.specs.Rule.{IsOperation}
use Rattle.bytecode.specs.Step.{gives_or_traps as row_gives, operates as row_operates}
use Rattle.control_flow.specs.World.{World, Run, Gives, Fails, and_then}
use Rattle.control_flow.specs.Control.{Computes}
use Rattle.typed_tree.specs.Expression.{gives_or_traps, operates}
use Rattle.typed_tree.specs.Memory.{Memory}
use Rattle.typed_tree.specs.Shape.{is_comparison}
use Rattle.typed_tree.specs.Size.{Sizes, exit_size, operator_sizes}
use Rattle.code_listing.specs.Exit.{Exit, exit_code, exit_instr, own_truth, same_truth}
use Rattle.code_listing.specs.Expression.{Codes, operator_codes, opposite_op, test_op}
use Rattle.code_listing.specs.Listing.{Listing}
use Rattle.code_listing.specs.Runs.{Comes, Decides, Follows, GoesBy, IsFit, Leaves, StandsAt, branch, going, machine_at, target_of}
use Rattle.code_listing.proofs.ComparisonLemmas.{IsDecided, comparison_decides, not_twice}
use Rattle.code_listing.proofs.ExpressionSizes.{both_long, operator_fits}
use Rattle.code_listing.proofs.MachineRuns.{at_place, comes_on, one_moves, one_stops, stands_back, stands_front, stays, then_on}
use Rattle.code_listing.proofs.ValueRuns.{and_then_again}
use Rattle.code_listing.proofs.TestRuns.{Mean, decides_by, exit_runs, goes_from, own_exit, still_fit}

-- `||` and `&&` are no instructions
operates_is : (op : BinOp) (k : Kind) (x y : ℤ) (m : Machine) (stack : List ℤ) → IsOperation op →
    row_operates op k x y m stack ≡ row_gives (value op k x y) m stack
operates_is OrElse k x y m stack is = absurd is
operates_is AndAlso k x y m stack is = absurd is
operates_is op k x y m stack is = refl

-- what has a value is an operation
operation_of : (op : BinOp) (k : Kind) (x y n : ℤ) → value op k x y ≡ Some n → IsOperation op
operation_of OrElse k x y n e = absurd (let f : None ≡ Some n = e in cc)
operation_of AndAlso k x y n e = absurd (let f : None ≡ Some n = e in cc)
operation_of op k x y n e = tt

-- a test by an operator, part by part
branch_of_operands : (when : Bool) (exit : Exit) (left : Run Memory ℤ) (right : World Memory → Run Memory ℤ)
    (f : ℤ → ℤ → World Memory → Run Memory ℤ) →
    and_then left (λ x w. and_then (right w) (λ y w. and_then (f x y w) (branch when exit))) ≡
    and_then (and_then left (λ x w. and_then (right w) (f x))) (branch when exit)
branch_of_operands when exit (Gives x w) right f = sym (and_then_again (right w) (f x) (branch when exit))
branch_of_operands when exit (Fails o w) right f = refl

-- a truth that stands as a number
truth_back : (b : Bool) → not (int_eq (truth b) (pos 0)) ≡ b
truth_back true = refl
truth_back false = refl

truth_zero : (b : Bool) → int_eq (truth b) (pos 0) ≡ not b
truth_zero true = refl
truth_zero false = refl

-- A comparison or its opposite, whichever is taken, goes the way of the comparison.
same_way : (when own holds : Bool) → same_truth own (if same_truth when own then holds else not holds) ≡ same_truth when holds
same_way true true holds = refl
same_way true false holds = not_twice holds
same_way false true holds = refl
same_way false false holds = refl

-- the value of a comparison or its opposite
value_of_either : (op : BinOp) (k : Kind) (x y : ℤ) (d : IsDecided op k x y) (b : Bool) →
    value (if b then op else opposite_op op) k x y ≡ Some (truth (if b then d.holds else not d.holds))
value_of_either op k x y d true = d.value_is
value_of_either op k x y d false = d.opposite_is

module _ (code : Code) (closed : Bool) (moment : ℕ) (most : ℕ) where
  -- the instruction of an operator
  pub bin_runs : (op : BinOp) (k : Kind) (x y : ℤ) (place end : ℕ) (stack : List ℤ) (calls : List ℕ) (w : World Memory) → IsOperation op →
      slice_get code.instrs place ≡ Some (instr.Bin op k) → place + 1 ≡ end → (o : Option ℤ) → value op k x y ≡ o →
      Follows code closed moment (machine_at place (y ∷ x ∷ stack) calls w)
      (λ n after. Comes code closed moment (machine_at place (y ∷ x ∷ stack) calls w) (machine_at end (n ∷ stack) calls after)) (gives_or_traps o w)
  bin_runs op k x y place end stack calls w is at len None e =
      let m = machine_at place (y ∷ x ∷ stack) calls w in
      one_stops code closed moment m (instr.Bin op k) _ m at (operates_is op k x y m stack is ∙ ap (λ o. row_gives o m stack) e)
  bin_runs op k x y place end stack calls w is at len (Some n) e =
      let m = machine_at place (y ∷ x ∷ stack) calls w in
      at_place code closed moment (place + 1) end len
      (one_moves code closed moment place (place + 1) (y ∷ x ∷ stack) (n ∷ stack) calls w (instr.Bin op k) at
      (operates_is op k x y m stack is ∙ ap (λ o. row_gives o m stack) e))

  -- a comparison that is true or not, and then the instruction of an exit
  compares : (op : BinOp) (k : Kind) (x y : ℤ) (holds : Bool) → value op k x y ≡ Some (truth holds) →
      (exit : Exit) (place : ℕ) (stack : List ℤ) (calls : List ℕ) (w : World Memory) →
      slice_get code.instrs place ≡ Some (instr.Bin op k) → slice_get code.instrs (place + 1) ≡ Some (exit_instr exit) →
      GoesBy code closed moment (machine_at place (y ∷ x ∷ stack) calls w) exit stack calls (place + 2)
      (if same_truth (own_truth exit) holds then going exit w else Gives false w)
  compares op k x y holds e exit place stack calls w at at' =
      let m = machine_at place (y ∷ x ∷ stack) calls w in
      goes_from code closed moment m (machine_at (place + 1) (truth holds ∷ stack) calls w) exit stack calls (place + 1 + 1) (place + 2)
      (if same_truth (own_truth exit) holds then going exit w else Gives false w) (omega arith)
      (one_moves code closed moment place (place + 1) (y ∷ x ∷ stack) (truth holds ∷ stack) calls w (instr.Bin op k) at
      (operates_is op k x y m stack (operation_of op k x y (truth holds) e) ∙ ap (λ o. row_gives o m stack) e))
      (subst (λ b. GoesBy code closed moment (machine_at (place + 1) (truth holds ∷ stack) calls w) exit stack calls (place + 1 + 1)
      (if same_truth (own_truth exit) b then going exit w else Gives false w)) (not_twice holds)
      (own_exit code closed moment exit (place + 1) (truth holds) stack calls w (not holds) (truth_zero holds) at'))

  -- a comparison as a test
  comparison_goes : (op : BinOp) (k : Kind) (x y : ℤ) → is_comparison op ≡ true →
      (when : Bool) (exit : Exit) (place : ℕ) (stack : List ℤ) (calls : List ℕ) (w : World Memory) →
      slice_get code.instrs place ≡ Some (instr.Bin (test_op when exit op) k) → slice_get code.instrs (place + 1) ≡ Some (exit_instr exit) →
      GoesBy code closed moment (machine_at place (y ∷ x ∷ stack) calls w) exit stack calls (place + 2)
      (and_then (operates op k x y w) (branch when exit))
  comparison_goes op k x y is when exit place stack calls w at at' =
      let m = machine_at place (y ∷ x ∷ stack) calls w in
      let d = comparison_decides op k x y is in
      let own = own_truth exit in
      let first = compares (test_op when exit op) k x y (if same_truth when own then d.holds else not d.holds)
      (value_of_either op k x y d (same_truth when own)) exit place stack calls w at at' in
      let right = subst (λ b. GoesBy code closed moment m exit stack calls (place + 2) (if b then going exit w else Gives false w))
      (same_way when own d.holds ∙ ap (λ b. same_truth when b) (sym (truth_back d.holds))) first in
      subst (λ o. GoesBy code closed moment m exit stack calls (place + 2) (and_then (gives_or_traps o w) (branch when exit)))
      (sym d.value_is) right

  module _ (a b : Codes) (sa sb : Sizes) (left right : Computes Memory)
      (means_a : Mean code closed moment most a sa left) (means_b : Mean code closed moment most b sb right) where
    -- the code of the operands
    abbrev pub operands : ℕ → ℕ → Listing
    operands place depth = a.value place depth ++ b.value (place + sa.value) (depth + 1)

    -- the operands are on the stack, the right one on top, and then what comes next
    operands_run : {B : Type 0} (Then : Machine → B → World Memory → Type 0) (next : ℤ → ℤ → World Memory → Run Memory B) →
        ((m m' : Machine) (v : B) (w : World Memory) → Comes code closed moment m m' → Then m' v w → Then m v w) →
        (place depth : ℕ) (stack : List ℤ) (calls : List ℕ) (w : World Memory) → IsFit code most w →
        StandsAt code place (operands place depth) →
        ((x y : ℤ) (w : World Memory) → IsFit code most w →
        Follows code closed moment (machine_at (place + sa.value + sb.value) (y ∷ x ∷ stack) calls w)
        (Then (machine_at (place + sa.value + sb.value) (y ∷ x ∷ stack) calls w)) (next x y w)) →
        Follows code closed moment (machine_at place stack calls w) (Then (machine_at place stack calls w))
        (and_then (left w) (λ x w. and_then (right w) (next x)))
    operands_run Then next further place depth stack calls w fit h last =
        let xs = a.value place depth in
        let ys = b.value (place + sa.value) (depth + 1) in
        then_on code closed moment (machine_at place stack calls w) (λ x w1. machine_at (place + sa.value) (x ∷ stack) calls w1) Then
        (left w) (λ x w. and_then (right w) (next x)) (λ m' v after r g. further _ m' v after r g)
        (means_a.value place depth stack calls w fit (stands_front code place xs ys h))
        (λ x w1 r1.
        let fit1 = still_fit code closed moment fit r1 in
        then_on code closed moment (machine_at (place + sa.value) (x ∷ stack) calls w1)
        (λ y w2. machine_at (place + sa.value + sb.value) (y ∷ x ∷ stack) calls w2) Then
        (right w1) (next x) (λ m' v after r g. further _ m' v after r g)
        (means_b.value (place + sa.value) (depth + 1) (x ∷ stack) calls w1 fit1
        (stands_back code place sa.value xs ys (means_a.fits.value place depth) h))
        (λ y w2 r2. last x y w2 (still_fit code closed moment fit1 r2)))

    -- the value of an operator
    pub operator_value : (op : BinOp) (k : Kind) → IsOperation op →
        (place depth : ℕ) (stack : List ℤ) (calls : List ℕ) (w : World Memory) → IsFit code most w →
        StandsAt code place (operands place depth ++ (instr.Bin op k, depth + 2) ∷ []) →
        Leaves code closed moment place stack calls w (place + (sa.value + (sb.value + 1)))
        (and_then (left w) (λ x w. and_then (right w) (λ y w. operates op k x y w)))
    operator_value op k is place depth stack calls w fit h =
        let last = stands_back code place (sa.value + sb.value) (operands place depth) ((instr.Bin op k, depth + 2) ∷ [])
        (both_long _ _ _ _ (means_a.fits.value place depth) (means_b.fits.value _ _)) h in
        let same : place + (sa.value + sb.value) ≡ place + sa.value + sb.value = omega arith in
        let at = subst (λ p. StandsAt code p ((instr.Bin op k, depth + 2) ∷ [])) same last in
        operands_run (λ m n after. Comes code closed moment m (machine_at (place + (sa.value + (sb.value + 1))) (n ∷ stack) calls after))
        (λ x y w. operates op k x y w) (λ m m' v after r g. comes_on code closed moment r g) place depth stack calls w fit
        (stands_front code place (operands place depth) _ h)
        (λ x y w2 fit2. bin_runs op k x y (place + sa.value + sb.value) _ stack calls w2 is at.0.0 (omega arith) (value op k x y) refl)

    -- the code of the operands is as long as their sizes
    operands_long : (place depth : ℕ) → length (operands place depth) ≡ sa.value + sb.value
    operands_long place depth = both_long _ _ _ _ (means_a.fits.value place depth) (means_b.fits.value _ _)

    -- a comparison as a test
    comparison_test : (op : BinOp) (k : Kind) → is_comparison op ≡ true → (when : Bool) (exit : Exit)
        (place depth : ℕ) (stack : List ℤ) (calls : List ℕ) (w : World Memory) → IsFit code most w →
        StandsAt code place (operands place depth ++ (instr.Bin (test_op when exit op) k, depth + 2) ∷ (exit_instr exit, depth + 1) ∷ []) →
        Decides code closed moment when exit place stack calls w (place + (sa.value + (sb.value + 1) + 1))
        (and_then (left w) (λ x w. and_then (right w) (λ y w. operates op k x y w)))
    comparison_test op k is when exit place depth stack calls w fit h =
        let tail : Listing = (instr.Bin (test_op when exit op) k, depth + 2) ∷ (exit_instr exit, depth + 1) ∷ [] in
        let end = place + (sa.value + (sb.value + 1) + 1) in
        let last = stands_back code place (sa.value + sb.value) (operands place depth) tail (operands_long place depth) h in
        let same : place + (sa.value + sb.value) ≡ place + sa.value + sb.value = omega arith in
        let at = subst (λ p. StandsAt code p tail) same last in
        subst (λ run. GoesBy code closed moment (machine_at place stack calls w) exit stack calls end run)
        (branch_of_operands when exit (left w) right (λ x y w. operates op k x y w))
        (operands_run (λ m taken after. Comes code closed moment m (machine_at (if taken then target_of exit else end) stack calls after))
        (λ x y w. and_then (operates op k x y w) (branch when exit)) (λ m m' v after r g. comes_on code closed moment r g) place depth stack calls w fit
        (stands_front code place (operands place depth) tail h)
        (λ x y w2 fit2. goes_from code closed moment _ _ exit stack calls _ end (and_then (operates op k x y w2) (branch when exit)) (omega arith) (stays code closed moment _)
        (comparison_goes op k x y is when exit (place + sa.value + sb.value) stack calls w2 at.0.0 at.1.0.0)))

    -- any other operator as a test
    value_test : (op : BinOp) (k : Kind) → IsOperation op → (when : Bool) (exit : Exit)
        (place depth : ℕ) (stack : List ℤ) (calls : List ℕ) (w : World Memory) → IsFit code most w →
        StandsAt code place ((operands place depth ++ (instr.Bin op k, depth + 2) ∷ []) ++ exit_code when exit (depth + 1)) →
        Decides code closed moment when exit place stack calls w (place + (sa.value + (sb.value + 1) + exit_size when (own_truth exit)))
        (and_then (left w) (λ x w. and_then (right w) (λ y w. operates op k x y w)))
    value_test op k is when exit place depth stack calls w fit h =
        let xs : Listing = operands place depth ++ (instr.Bin op k, depth + 2) ∷ [] in
        let ys = exit_code when exit (depth + 1) in
        let long : length xs ≡ sa.value + (sb.value + 1) =
        both_long (operands place depth) ((instr.Bin op k, depth + 2) ∷ []) _ 1 (operands_long place depth) refl ∙ omega arith in
        let there = place + (sa.value + (sb.value + 1)) in
        decides_by code closed moment (machine_at place stack calls w) (λ n after. machine_at there (n ∷ stack) calls after) when exit stack calls _ _
        (operator_value op k is place depth stack calls w fit (stands_front code place xs ys h))
        (λ n after r. goes_from code closed moment _ _ exit stack calls _ _ (branch when exit n after) (omega arith) (stays code closed moment _)
        (exit_runs code closed moment when exit there (depth + 1) n stack calls after (stands_back code place (sa.value + (sb.value + 1)) xs ys long h)))

    -- a binary operator
    pub means_operator : (op : BinOp) (k : Kind) → IsOperation op →
        Mean code closed moment most (operator_codes op k operands) (operator_sizes op (sa.value + (sb.value + 1)))
        (λ w. and_then (left w) (λ x w. and_then (right w) (λ y w. operates op k x y w)))
    means_operator op k is = record {
      fits = operator_fits op k operands sa.value sb.value operands_long;
      value = operator_value op k is;
      test = λ when exit place depth stack calls w fit h. at_kind (is_comparison op) refl when exit place depth stack calls w fit h;
    }
      where
        at_kind : (c : Bool) → is_comparison op ≡ c → (when : Bool) (exit : Exit)
            (place depth : ℕ) (stack : List ℤ) (calls : List ℕ) (w : World Memory) → IsFit code most w →
            StandsAt code place (if c
            then operands place depth ++ (instr.Bin (test_op when exit op) k, depth + 2) ∷ (exit_instr exit, depth + 1) ∷ []
            else (operands place depth ++ (instr.Bin op k, depth + 2) ∷ []) ++ exit_code when exit (depth + 1)) →
            Decides code closed moment when exit place stack calls w
            (place + (if c then sa.value + (sb.value + 1) + 1 else sa.value + (sb.value + 1) + exit_size when (own_truth exit)))
            (and_then (left w) (λ x w. and_then (right w) (λ y w. operates op k x y w)))
        at_kind true e when exit place depth stack calls w fit h = comparison_test op k e when exit place depth stack calls w fit h
        at_kind false e when exit place depth stack calls w fit h = value_test op k is when exit place depth stack calls w fit h
