-- The code of each form of expression does what the expression means, where that of its parts does.
use Rattle.std.proofs.Common.{◌≡◌, ℕ, ◌+◌, ◌<◌, Bool, true, false, List, [], ◌∷◌, ◌++◌, length, refl, ap, subst, arith}
use Rattle.std.specs.Prelude.{ℤ, pos, not, if◌then◌else◌, ◌/◌, slice_index_or}
use Rattle.std.specs.Ordering.{int_eq}
use Rattle.std.proofs.lemmas.Option.{slice_get-get_or}
use Rattle.int_kinds.specs.declared.kinds.Kind.TheVariants.{Dword}
use Rattle.int_kinds.specs.Arithmetic.{truth}
use Rattle.int_kinds.specs.Kind.{wrap}
use Rattle.bytecode.specs.declared.code.Code.{Code}
use Rattle.bytecode.specs.declared.instr.Instr.{Instr}
use Rattle.bytecode.specs.declared.instr.Instr.TheVariants as instr
use Rattle.bytecode.specs.Machine.{Machine}
use Rattle.bytecode.specs.Step.{goes_on, needing, row}
use Rattle.control_flow.specs.World.{World, Run, Gives, Fails, and_then, run_map}
use Rattle.control_flow.specs.Control.{Computes}
use Rattle.typed_tree.specs.Memory.{Memory}
use Rattle.typed_tree.specs.Size.{Sizes, by_value, negation_sizes}
use Rattle.code_listing.specs.Exit.{Exit, own_truth, same_truth}
use Rattle.code_listing.specs.Expression.{Codes, codes_by_value, negation_codes}
use Rattle.code_listing.specs.Runs.{Comes, GoesBy, IsFit, Leaves, StandsAt, branch, going, machine_at}
use Rattle.code_listing.proofs.ExpressionSizes.{both_long, negation_fits}
use Rattle.code_listing.proofs.MachineRuns.{at_place, comes_on, one_moves, stands_back, stands_front, then_on}
use Rattle.code_listing.proofs.TestRuns.{Mean, means_by_value}

-- what comes after two parts
pub and_then_again : {A B C : Type 0} (run : Run Memory A) (f : A → World Memory → Run Memory B) (g : B → World Memory → Run Memory C) →
    and_then (and_then run f) g ≡ and_then run (λ a w. and_then (f a w) g)
and_then_again (Gives a w) f g = refl
and_then_again (Fails o w) f g = refl

-- a test for a truth of what `!` gives is one for the other truth
pub branch_negation : (when : Bool) (exit : Exit) (run : Run Memory ℤ) →
    and_then run (branch (not when) exit) ≡ and_then (run_map (λ n. truth (int_eq n (pos 0))) run) (branch when exit)
branch_negation when exit (Fails o w) = refl
branch_negation when exit (Gives n w) = by_truth when (int_eq n (pos 0))
  where
    by_truth : (when z : Bool) → (if same_truth (not when) (not z) then going exit w else Gives false w) ≡
        (if same_truth when (not (int_eq (truth z) (pos 0))) then going exit w else Gives false w)
    by_truth true true = refl
    by_truth true false = refl
    by_truth false true = refl
    by_truth false false = refl

module _ (code : Code) (closed : Bool) (moment : ℕ) (most : ℕ) where
  -- a number
  pub means_number : (n : ℤ) → Mean code closed moment most (codes_by_value (λ place depth. (instr.Push n, depth) ∷ [])) (by_value 1) (λ w. Gives n w)
  means_number n = means_by_value code closed moment most _ 1 _ (λ place depth. refl)
      (λ place depth stack calls w fit h. one_moves code closed moment place (place + 1) stack (n ∷ stack) calls w (instr.Push n) h.0.0 refl)

  -- the moment
  pub means_now : Mean code closed moment most (codes_by_value (λ place depth. (instr.Now, depth) ∷ [])) (by_value 1)
      (λ w. Gives (wrap Dword (pos (moment / 10))) w)
  means_now = means_by_value code closed moment most _ 1 _ (λ place depth. refl)
      (λ place depth stack calls w fit h. one_moves code closed moment place (place + 1) stack _ calls w instr.Now h.0.0 refl)

  -- whether a timer is active
  pub means_active : (timer : ℕ) → timer < length code.timers →
      Mean code closed moment most (codes_by_value (λ place depth. (instr.Active timer, depth) ∷ [])) (by_value 1)
      (λ w. Gives (truth (slice_index_or w.memory.active timer false)) w)
  means_active timer there = means_by_value code closed moment most _ 1 _ (λ place depth. refl)
      (λ place depth stack calls w fit h.
      let active = slice_get-get_or w.memory.active timer false (omega (arith, there, fit.timers)) in
      one_moves code closed moment place (place + 1) stack (truth (slice_index_or w.memory.active timer false) ∷ stack) calls w (instr.Active timer) h.0.0
      (ap (λ o. needing o (λ active. goes_on (machine_at place stack calls w) (truth active ∷ stack))) active))

  -- an instruction that makes one number of another, behind an expression
  one_more : (c : Codes) (z : Sizes) (does : Computes Memory) (i : Instr) (f : ℤ → ℤ) → Mean code closed moment most c z does →
      ((m : Machine) (n : ℤ) (stack : List ℤ) → row code closed moment m i (n ∷ stack) ≡ goes_on m (f n ∷ stack)) →
      (place depth : ℕ) (stack : List ℤ) (calls : List ℕ) (w : World Memory) → IsFit code most w →
      StandsAt code place (c.value place depth ++ (i, depth + 1) ∷ []) →
      Leaves code closed moment place stack calls w (place + (z.value + 1)) (run_map f (does w))
  one_more c z does i f means rows place depth stack calls w fit h =
      let xs = c.value place depth in
      let m = machine_at place stack calls w in
      let last = stands_back code place z.value xs ((i, depth + 1) ∷ []) (means.fits.value place depth) h in
      then_on code closed moment m (λ n after. machine_at (place + z.value) (n ∷ stack) calls after)
      (λ m n after. Comes code closed moment m (machine_at (place + (z.value + 1)) (n ∷ stack) calls after)) (does w) (λ n w. Gives (f n) w)
      (λ m' n after r g. comes_on code closed moment r g)
      (means.value place depth stack calls w fit (stands_front code place xs _ h))
      (λ n after r. at_place code closed moment (place + z.value + 1) (place + (z.value + 1)) (omega arith)
      (one_moves code closed moment (place + z.value) (place + z.value + 1) (n ∷ stack) (f n ∷ stack) calls after i last.0.0 (rows _ n stack)))

  -- an expression with such an instruction
  pub means_prefix : (c : Codes) (z : Sizes) (does : Computes Memory) (i : Instr) (f : ℤ → ℤ) → Mean code closed moment most c z does →
      ((m : Machine) (n : ℤ) (stack : List ℤ) → row code closed moment m i (n ∷ stack) ≡ goes_on m (f n ∷ stack)) →
      Mean code closed moment most (codes_by_value (λ place depth. c.value place depth ++ (i, depth + 1) ∷ [])) (by_value (z.value + 1))
      (λ w. run_map f (does w))
  means_prefix c z does i f means rows = means_by_value code closed moment most _ (z.value + 1) _
      (λ place depth. both_long _ _ _ _ (means.fits.value place depth) refl) (one_more c z does i f means rows)

  -- `!`
  pub means_negation : (c : Codes) (z : Sizes) (does : Computes Memory) → Mean code closed moment most c z does →
      Mean code closed moment most (negation_codes c) (negation_sizes z) (λ w. run_map (λ n. truth (int_eq n (pos 0))) (does w))
  means_negation c z does means = record {
    fits = negation_fits c z means.fits;
    value = one_more c z does instr.Not (λ n. truth (int_eq n (pos 0))) means (λ m n stack. refl);
    test = λ when exit place depth stack calls w fit h.
        subst (λ run. GoesBy code closed moment (machine_at place stack calls w) exit stack calls (place + z.test (not when) (own_truth exit)) run)
        (branch_negation when exit (does w)) (means.test (not when) exit place depth stack calls w fit h);
  }
