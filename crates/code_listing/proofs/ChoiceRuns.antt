-- The code of `?:`, `&&` and `||` does what they mean, where that of their parts does.
use Rattle.std.proofs.Common.{◌≡◌, ℕ, zero, suc, ◌+◌, Bool, true, false, List, [], ◌∷◌, ◌++◌, Some, slice_get, refl, sym, ap, subst, arith}
use Rattle.std.specs.Prelude.{ℤ, pos, not, if◌then◌else◌, ⊤}
use Rattle.std.specs.Ordering.{int_eq}
use Rattle.int_kinds.specs.Arithmetic.{truth}
use Rattle.bytecode.specs.declared.code.Code.{Code}
use Rattle.bytecode.specs.declared.instr.Instr.TheVariants as instr
use Rattle.bytecode.specs.Machine.{Machine}
use Rattle.control_flow.specs.World.{World, Run, Gives, Fails, and_then, run_map, taking_turn_of}
use Rattle.control_flow.specs.Control.{Computes, deciding}
use Rattle.typed_tree.specs.declared.expression.TExpr.{TExpr}
use Rattle.typed_tree.specs.Expression.{truth_of}
use Rattle.typed_tree.specs.Memory.{Memory}
use Rattle.typed_tree.specs.Shape.{is_truth}
use Rattle.typed_tree.specs.Size.{Sizes, both_sizes, by_value, either_sizes, truth_size}
use Rattle.code_listing.specs.Exit.{Backward, Exit, Forward, own_truth, same_truth}
use Rattle.code_listing.specs.Expression.{Codes, both_codes, choice_code, codes_by_value, either_codes, truth_code}
use Rattle.code_listing.specs.Listing.{Listing}
use Rattle.code_listing.specs.Runs.{Comes, Decides, Follows, GoesBy, IsFit, Leaves, StandsAt, branch, going, machine_at}
use Rattle.code_listing.proofs.ExpressionSizes.{both_fits, both_long, cons_long, either_fits, truth_long}
use Rattle.code_listing.proofs.MachineRuns.{at_place, comes_on, follows_from, one_moves, stands_back, stands_front, stays}
use Rattle.code_listing.proofs.TestRuns.{Mean, goes_from, means_by_value, still_fit}

module _ (code : Code) (closed : Bool) (moment : ℕ) where
  -- a test that goes forward where the number is 0, and then one thing or another
  pub decides_then : {A : Type 0} (m : Machine) (target end : ℕ) (stack : List ℤ) (calls : List ℕ)
      (Then : A → World Memory → Type 0) (run : Run Memory ℤ) (one other : World Memory → Run Memory A) →
      GoesBy code closed moment m (Forward target) stack calls end (and_then run (branch false (Forward target))) →
      ((w : World Memory) → Comes code closed moment m (machine_at end stack calls w) → Follows code closed moment m Then (one w)) →
      ((w : World Memory) → Comes code closed moment m (machine_at target stack calls w) → Follows code closed moment m Then (other w)) →
      Follows code closed moment m Then (deciding run one other)
  decides_then m target end stack calls Then (Fails o w) one other h take skip = h
  decides_then {A} m target end stack calls Then (Gives n w) one other h take skip = by_zero (int_eq n (pos 0)) h
    where
      by_zero : (z : Bool) →
          GoesBy code closed moment m (Forward target) stack calls end (if same_truth false (not z) then going (Forward target) w else Gives false w) →
          Follows code closed moment m Then (if z then other w else one w)
      by_zero true g = skip w g
      by_zero false g = take w g

  module _ (most : ℕ) where
    -- `?:`
    pub means_choice : (t a b : Codes) (st sa sb : Sizes) (test one other : Computes Memory) →
        Mean code closed moment most t st test → Mean code closed moment most a sa one → Mean code closed moment most b sb other →
        Mean code closed moment most (codes_by_value (choice_code t a b st sa sb))
        (by_value (st.test false false + (sa.value + (1 + sb.value)))) (λ w. deciding (test w) one other)
    means_choice t a b st sa sb test one other mt ma mb = means_by_value code closed moment most _ _ _
        (λ place depth. both_long _ _ _ _ (mt.fits.test false (Forward _) place depth)
        (both_long _ _ _ _ (ma.fits.value _ depth) (cons_long _ _ (mb.fits.value _ depth))))
        (λ place depth stack calls w fit h.
        let m = machine_at place stack calls w in
        let first = place + st.test false false in
        let second = first + (sa.value + 1) in
        let end = place + (st.test false false + (sa.value + (1 + sb.value))) in
        let xs = t.test false (Forward second) place depth in
        let ys = a.value first depth in
        let zs : Listing = (instr.Jump (second + sb.value), depth + 1) ∷ b.value second depth in
        let h1 = stands_back code place (st.test false false) xs (ys ++ zs) (mt.fits.test false (Forward second) place depth) h in
        let h2 = stands_back code first sa.value ys zs (ma.fits.value first depth) h1 in
        let there : first + sa.value + 1 ≡ second = omega arith in
        let h3 = subst (λ p. StandsAt code p (b.value second depth)) there h2.1 in
        decides_then m second first stack calls
        (λ n after. Comes code closed moment m (machine_at end (n ∷ stack) calls after)) (test w) one other
        (mt.test false (Forward second) place depth stack calls w fit (stands_front code place xs (ys ++ zs) h))
        (λ w1 r. follows_from code closed moment m (machine_at first stack calls w1) _ _ (one w1) r
        (λ n after g. at_place code closed moment (second + sb.value) end (omega arith) (comes_on code closed moment r (comes_on code closed moment g
        (one_moves code closed moment (first + sa.value) (second + sb.value) (n ∷ stack) (n ∷ stack) calls after (instr.Jump (second + sb.value)) h2.0.0 refl))))
        (ma.value first depth stack calls w1 (still_fit code closed moment fit r) (stands_front code first ys zs h1)))
        (λ w1 r. follows_from code closed moment m (machine_at second stack calls w1) _ _ (other w1) r
        (λ n after g. at_place code closed moment (second + sb.value) end (omega arith) (comes_on code closed moment r g))
        (mb.value second depth stack calls w1 (still_fit code closed moment fit r) h3)))

-- what a part of a program gives is 0 or 1
abbrev pub GivesTruth : Run Memory ℤ → Type 0
GivesTruth (Gives n w) = truth_of n ≡ n
GivesTruth (Fails o w) = ⊤

module _ (code : Code) (closed : Bool) (moment : ℕ) where
  -- what follows a part of a program, with what is known of its number
  with_truth : (m : Machine) (IsSo Then : ℤ → World Memory → Type 0) (run : Run Memory ℤ) (b : Bool) → (b ≡ true → GivesTruth run) →
      ((n : ℤ) (w : World Memory) → IsSo n w → (b ≡ true → truth_of n ≡ n) → Then (truth_of n) w) →
      Follows code closed moment m IsSo run → Follows code closed moment m Then (run_map truth_of run)
  with_truth m IsSo Then (Gives n w) b known further h = further n w h known
  with_truth m IsSo Then (Fails o w) b known further h = h

  not_not : (z : Bool) → truth (int_eq (truth z) (pos 0)) ≡ truth (not z)
  not_not true = refl
  not_not false = refl

  -- `Not` twice, where it is needed, makes a number 0 or 1
  truth_runs : (b : Bool) (place depth : ℕ) (n : ℤ) (stack : List ℤ) (calls : List ℕ) (w : World Memory) →
      (b ≡ true → truth_of n ≡ n) → StandsAt code place (if b then [] else ((instr.Not, depth) ∷ (instr.Not, depth) ∷ [])) →
      Comes code closed moment (machine_at place (n ∷ stack) calls w)
      (machine_at (place + (if b then 0 else 2)) (truth_of n ∷ stack) calls w)
  truth_runs true place depth n stack calls w known h =
      at_place code closed moment place (place + 0) (omega arith)
      (subst (λ v. Comes code closed moment (machine_at place (n ∷ stack) calls w) (machine_at place (v ∷ stack) calls w)) (sym (known refl))
      (stays code closed moment _))
  truth_runs false place depth n stack calls w known h =
      let z = int_eq n (pos 0) in
      at_place code closed moment (place + 1 + 1) (place + 2) (omega arith)
      (subst (λ v. Comes code closed moment (machine_at place (n ∷ stack) calls w) (machine_at (place + 1 + 1) (v ∷ stack) calls w)) (not_not z)
      (comes_on code closed moment (one_moves code closed moment place (place + 1) (n ∷ stack) (truth z ∷ stack) calls w instr.Not h.0.0 refl)
      (one_moves code closed moment (place + 1) (place + 1 + 1) (truth z ∷ stack) (truth (int_eq (truth z) (pos 0)) ∷ stack) calls w instr.Not h.1.0.0 refl)))

  -- a value, and `Not` twice behind it where that is needed
  truth_behind : (most : ℕ) (b : Codes) (sb : Sizes) (right : Computes Memory) (e : TExpr) → Mean code closed moment most b sb right →
      ((w : World Memory) → is_truth e ≡ true → GivesTruth (right w)) →
      (place depth : ℕ) (stack : List ℤ) (calls : List ℕ) (w : World Memory) → IsFit code most w →
      StandsAt code place (b.value place depth) → StandsAt code (place + sb.value) (truth_code e (depth + 1)) →
      Leaves code closed moment place stack calls w (place + sb.value + truth_size e) (run_map truth_of (right w))
  truth_behind most b sb right e mb known place depth stack calls w fit h t =
      with_truth (machine_at place stack calls w) _ _ (right w) (is_truth e) (known w)
      (λ n after r k. comes_on code closed moment r (truth_runs (is_truth e) (place + sb.value) (depth + 1) n stack calls after k t))
      (mb.value place depth stack calls w fit h)

  -- the value of `&&`
  both_value : (most : ℕ) (a b : Codes) (sa sb : Sizes) (left right : Computes Memory) (e : TExpr) →
      Mean code closed moment most a sa left → Mean code closed moment most b sb right →
      ((w : World Memory) → is_truth e ≡ true → GivesTruth (right w)) →
      (place depth : ℕ) (stack : List ℤ) (calls : List ℕ) (w : World Memory) → IsFit code most w →
      StandsAt code place ((both_codes a b sa sb e).value place depth) →
      Leaves code closed moment place stack calls w (place + (both_sizes sa sb (truth_size e)).value)
      (deciding (left w) (λ w. run_map truth_of (right w)) (Gives (pos 0)))
  both_value most a b sa sb left right e ma mb known place depth stack calls w fit h =
      let m = machine_at place stack calls w in
      let second = place + sa.test false false in
      let zero_at = second + (sb.value + (truth_size e + 1)) in
      let end = place + (sa.test false false + (sb.value + (truth_size e + 2))) in
      let xs = a.test false (Forward zero_at) place depth in
      let ys = b.value second depth in
      let ts = truth_code e (depth + 1) in
      let zs : Listing = (instr.Jump (zero_at + 1), depth + 1) ∷ (instr.Push (pos 0), depth) ∷ [] in
      let h1 = stands_back code place (sa.test false false) xs (ys ++ (ts ++ zs)) (ma.fits.test false (Forward zero_at) place depth) h in
      let h2 = stands_back code second sb.value ys (ts ++ zs) (mb.fits.value second depth) h1 in
      let h3 = stands_back code (second + sb.value) (truth_size e) ts zs (truth_long e (depth + 1)) h2 in
      let there : second + sb.value + truth_size e + 1 ≡ zero_at = omega arith in
      let zero : slice_get code.instrs zero_at ≡ Some (instr.Push (pos 0)) = subst (λ p. slice_get code.instrs p ≡ Some (instr.Push (pos 0))) there h3.1.0.0 in
      decides_then code closed moment m zero_at second stack calls
      (λ n after. Comes code closed moment m (machine_at end (n ∷ stack) calls after)) (left w) (λ w. run_map truth_of (right w)) (Gives (pos 0))
      (ma.test false (Forward zero_at) place depth stack calls w fit (stands_front code place xs (ys ++ (ts ++ zs)) h))
      (λ w1 r. follows_from code closed moment m (machine_at second stack calls w1) _ _ (run_map truth_of (right w1)) r
      (λ n after g. at_place code closed moment (zero_at + 1) end (omega arith) (comes_on code closed moment r (comes_on code closed moment g
      (one_moves code closed moment (second + sb.value + truth_size e) (zero_at + 1) (n ∷ stack) (n ∷ stack) calls after (instr.Jump (zero_at + 1)) h3.0.0 refl))))
      (truth_behind most b sb right e mb known second depth stack calls w1 (still_fit code closed moment fit r)
      (stands_front code second ys (ts ++ zs) h1) (stands_front code (second + sb.value) ts zs h2)))
      (λ w1 r. at_place code closed moment (zero_at + 1) end (omega arith) (comes_on code closed moment r
      (one_moves code closed moment zero_at (zero_at + 1) stack (pos 0 ∷ stack) calls w1 (instr.Push (pos 0)) zero refl)))

  -- the value of `||`
  either_value : (most : ℕ) (a b : Codes) (sa sb : Sizes) (left right : Computes Memory) (e : TExpr) →
      Mean code closed moment most a sa left → Mean code closed moment most b sb right →
      ((w : World Memory) → is_truth e ≡ true → GivesTruth (right w)) →
      (place depth : ℕ) (stack : List ℤ) (calls : List ℕ) (w : World Memory) → IsFit code most w →
      StandsAt code place ((either_codes a b sa sb e).value place depth) →
      Leaves code closed moment place stack calls w (place + (either_sizes sa sb (truth_size e)).value)
      (deciding (left w) (Gives (pos 1)) (λ w. run_map truth_of (right w)))
  either_value most a b sa sb left right e ma mb known place depth stack calls w fit h =
      let m = machine_at place stack calls w in
      let first = place + sa.test false false in
      let second = place + (sa.test false false + 2) in
      let jump_to = second + (sb.value + truth_size e) in
      let end = place + (sa.test false false + (2 + (sb.value + truth_size e))) in
      let xs = a.test false (Forward second) place depth in
      let ys = b.value second depth in
      let ts = truth_code e (depth + 1) in
      let zs : Listing = (instr.Push (pos 1), depth) ∷ (instr.Jump jump_to, depth + 1) ∷ (ys ++ ts) in
      let h1 = stands_back code place (sa.test false false) xs zs (ma.fits.test false (Forward second) place depth) h in
      let there : first + 1 + 1 ≡ second = omega arith in
      let h2 = subst (λ p. StandsAt code p (ys ++ ts)) there h1.1.1 in
      let h3 = stands_back code second sb.value ys ts (mb.fits.value second depth) h2 in
      decides_then code closed moment m second first stack calls
      (λ n after. Comes code closed moment m (machine_at end (n ∷ stack) calls after)) (left w) (Gives (pos 1)) (λ w. run_map truth_of (right w))
      (ma.test false (Forward second) place depth stack calls w fit (stands_front code place xs zs h))
      (λ w1 r. at_place code closed moment jump_to end (omega arith) (comes_on code closed moment r (comes_on code closed moment
      (one_moves code closed moment first (first + 1) stack (pos 1 ∷ stack) calls w1 (instr.Push (pos 1)) h1.0.0 refl)
      (one_moves code closed moment (first + 1) jump_to (pos 1 ∷ stack) (pos 1 ∷ stack) calls w1 (instr.Jump jump_to) h1.1.0.0 refl))))
      (λ w1 r. follows_from code closed moment m (machine_at second stack calls w1) _ _ (run_map truth_of (right w1)) r
      (λ n after g. at_place code closed moment (second + sb.value + truth_size e) end (omega arith) (comes_on code closed moment r g))
      (truth_behind most b sb right e mb known second depth stack calls w1 (still_fit code closed moment fit r)
      (stands_front code second ys ts h2) h3))

-- a test of a truth is one of the number that it is the truth of
branch_truth : (when : Bool) (exit : Exit) (run : Run Memory ℤ) →
    and_then run (branch when exit) ≡ and_then (run_map truth_of run) (branch when exit)
branch_truth when exit (Fails o w) = refl
branch_truth when exit (Gives n w) =
    ap (λ b. if same_truth when b then going exit w else Gives false w) (by_truth (int_eq n (pos 0)))
  where
    by_truth : (z : Bool) → not z ≡ not (int_eq (truth (not z)) (pos 0))
    by_truth true = refl
    by_truth false = refl

-- where a test of `&&` goes for a truth
both_branch : (when : Bool) (exit : Exit) (left : Run Memory ℤ) (right : World Memory → Run Memory ℤ) →
    and_then left (λ n w. if same_truth false (not (int_eq n (pos 0)))
    then (if when then Gives false w else going exit w) else and_then (right w) (branch when exit)) ≡
    and_then (deciding left (λ w. run_map truth_of (right w)) (Gives (pos 0))) (branch when exit)
both_branch when exit (Fails o w) right = refl
both_branch when exit (Gives n w) right = by_zero when (int_eq n (pos 0))
  where
    by_zero : (when z : Bool) → (if same_truth false (not z)
        then (if when then Gives false w else going exit w) else and_then (right w) (branch when exit)) ≡
        and_then (if z then Gives (pos 0) w else run_map truth_of (right w)) (branch when exit)
    by_zero true true = refl
    by_zero false true = refl
    by_zero when false = branch_truth when exit (right w)

-- where a test of `||` goes for a truth
either_branch : (when : Bool) (exit : Exit) (left : Run Memory ℤ) (right : World Memory → Run Memory ℤ) →
    and_then left (λ n w. if same_truth true (not (int_eq n (pos 0)))
    then (if when then going exit w else Gives false w) else and_then (right w) (branch when exit)) ≡
    and_then (deciding left (Gives (pos 1)) (λ w. run_map truth_of (right w))) (branch when exit)
either_branch when exit (Fails o w) right = refl
either_branch when exit (Gives n w) right = by_zero when (int_eq n (pos 0))
  where
    by_zero : (when z : Bool) → (if same_truth true (not z)
        then (if when then going exit w else Gives false w) else and_then (right w) (branch when exit)) ≡
        and_then (if z then run_map truth_of (right w) else Gives (pos 1) w) (branch when exit)
    by_zero true false = refl
    by_zero false false = refl
    by_zero when true = branch_truth when exit (right w)

module _ (code : Code) (closed : Bool) (moment : ℕ) where
  -- an exit that is taken, whatever the end
  going_any : (m : Machine) (exit : Exit) (stack : List ℤ) (calls : List ℕ) (p end : ℕ) (w : World Memory) →
      GoesBy code closed moment m exit stack calls p (going exit w) → GoesBy code closed moment m exit stack calls end (going exit w)
  going_any m (Forward target) stack calls p end w h = h
  going_any m (Backward target) stack calls p end w h = by_turns w.turns h
    where
      by_turns : (turns : ℕ) → GoesBy code closed moment m (Backward target) stack calls p (taking_turn_of turns w (Gives true)) →
          GoesBy code closed moment m (Backward target) stack calls end (taking_turn_of turns w (Gives true))
      by_turns zero g = g
      by_turns (suc turns) g = g

  -- a left operand that goes to the exit itself, and then the right one
  same_exit : (m : Machine) (first : Bool) (exit : Exit) (stack : List ℤ) (calls : List ℕ) (p end : ℕ) (run : Run Memory ℤ)
      (rest : World Memory → Run Memory Bool) →
      GoesBy code closed moment m exit stack calls p (and_then run (branch first exit)) →
      ((w : World Memory) → Comes code closed moment m (machine_at p stack calls w) → GoesBy code closed moment m exit stack calls end (rest w)) →
      GoesBy code closed moment m exit stack calls end
      (and_then run (λ n w. if same_truth first (not (int_eq n (pos 0))) then going exit w else rest w))
  same_exit m first exit stack calls p end (Fails o w) rest h next = h
  same_exit m first exit stack calls p end (Gives n w) rest h next = by_truth (same_truth first (not (int_eq n (pos 0)))) h
    where
      by_truth : (b : Bool) → GoesBy code closed moment m exit stack calls p (if b then going exit w else Gives false w) →
          GoesBy code closed moment m exit stack calls end (if b then going exit w else rest w)
      by_truth true g = going_any m exit stack calls p end w g
      by_truth false g = next w g

  -- a left operand that goes to the end, and then the right one
  to_end : (m : Machine) (first : Bool) (exit : Exit) (stack : List ℤ) (calls : List ℕ) (p end : ℕ) (run : Run Memory ℤ)
      (rest : World Memory → Run Memory Bool) →
      GoesBy code closed moment m (Forward end) stack calls p (and_then run (branch first (Forward end))) →
      ((w : World Memory) → Comes code closed moment m (machine_at p stack calls w) → GoesBy code closed moment m exit stack calls end (rest w)) →
      GoesBy code closed moment m exit stack calls end
      (and_then run (λ n w. if same_truth first (not (int_eq n (pos 0))) then Gives false w else rest w))
  to_end m first exit stack calls p end (Fails o w) rest h next = h
  to_end m first exit stack calls p end (Gives n w) rest h next = by_truth (same_truth first (not (int_eq n (pos 0)))) h
    where
      by_truth : (b : Bool) → GoesBy code closed moment m (Forward end) stack calls p (if b then going (Forward end) w else Gives false w) →
          GoesBy code closed moment m exit stack calls end (if b then Gives false w else rest w)
      by_truth true g = g
      by_truth false g = next w g

  module _ (most : ℕ) (a b : Codes) (sa sb : Sizes) (left right : Computes Memory) (e : TExpr)
      (ma : Mean code closed moment most a sa left) (mb : Mean code closed moment most b sb right)
      (known : (w : World Memory) → is_truth e ≡ true → GivesTruth (right w)) where
    -- the right operand of a test, from where the left one leaves off
    right_goes : (when : Bool) (exit : Exit) (place depth second end : ℕ) (stack : List ℤ) (calls : List ℕ) (w : World Memory) →
        IsFit code most w → StandsAt code second (b.test when exit second depth) → second + sb.test when (own_truth exit) ≡ end →
        (after : World Memory) → Comes code closed moment (machine_at place stack calls w) (machine_at second stack calls after) →
        GoesBy code closed moment (machine_at place stack calls w) exit stack calls end (and_then (right after) (branch when exit))
    right_goes when exit place depth second end stack calls w fit h len after r =
        goes_from code closed moment (machine_at place stack calls w) (machine_at second stack calls after) exit stack calls
        (second + sb.test when (own_truth exit)) end (and_then (right after) (branch when exit)) len r
        (mb.test when exit second depth stack calls after (still_fit code closed moment fit r) h)

    -- `&&` as a test
    both_test : (when : Bool) (exit : Exit) (place depth : ℕ) (stack : List ℤ) (calls : List ℕ) (w : World Memory) →
        IsFit code most w → StandsAt code place ((both_codes a b sa sb e).test when exit place depth) →
        Decides code closed moment when exit place stack calls w (place + (both_sizes sa sb (truth_size e)).test when (own_truth exit))
        (deciding (left w) (λ w. run_map truth_of (right w)) (Gives (pos 0)))
    both_test true exit place depth stack calls w fit h =
        let m = machine_at place stack calls w in
        let second = place + sa.test false false in
        let end = second + sb.test true (own_truth exit) in
        let xs = a.test false (Forward end) place depth in
        let ys = b.test true exit second depth in
        let h1 = stands_back code place (sa.test false false) xs ys (ma.fits.test false (Forward end) place depth) h in
        goes_from code closed moment m m exit stack calls end _ _ (omega arith) (stays code closed moment m)
        (subst (λ run. GoesBy code closed moment m exit stack calls end run) (both_branch true exit (left w) right)
        (to_end m false exit stack calls second end (left w) (λ w. and_then (right w) (branch true exit))
        (ma.test false (Forward end) place depth stack calls w fit (stands_front code place xs ys h))
        (right_goes true exit place depth second end stack calls w fit h1 refl)))
    both_test false exit place depth stack calls w fit h =
        let m = machine_at place stack calls w in
        let second = place + sa.test false (own_truth exit) in
        let end = second + sb.test false (own_truth exit) in
        let xs = a.test false exit place depth in
        let ys = b.test false exit second depth in
        let h1 = stands_back code place (sa.test false (own_truth exit)) xs ys (ma.fits.test false exit place depth) h in
        goes_from code closed moment m m exit stack calls end _ _ (omega arith) (stays code closed moment m)
        (subst (λ run. GoesBy code closed moment m exit stack calls end run) (both_branch false exit (left w) right)
        (same_exit m false exit stack calls second end (left w) (λ w. and_then (right w) (branch false exit))
        (ma.test false exit place depth stack calls w fit (stands_front code place xs ys h))
        (right_goes false exit place depth second end stack calls w fit h1 refl)))

    -- `||` as a test
    either_test : (when : Bool) (exit : Exit) (place depth : ℕ) (stack : List ℤ) (calls : List ℕ) (w : World Memory) →
        IsFit code most w → StandsAt code place ((either_codes a b sa sb e).test when exit place depth) →
        Decides code closed moment when exit place stack calls w (place + (either_sizes sa sb (truth_size e)).test when (own_truth exit))
        (deciding (left w) (Gives (pos 1)) (λ w. run_map truth_of (right w)))
    either_test false exit place depth stack calls w fit h =
        let m = machine_at place stack calls w in
        let second = place + sa.test true false in
        let end = second + sb.test false (own_truth exit) in
        let xs = a.test true (Forward end) place depth in
        let ys = b.test false exit second depth in
        let h1 = stands_back code place (sa.test true false) xs ys (ma.fits.test true (Forward end) place depth) h in
        goes_from code closed moment m m exit stack calls end _ _ (omega arith) (stays code closed moment m)
        (subst (λ run. GoesBy code closed moment m exit stack calls end run) (either_branch false exit (left w) right)
        (to_end m true exit stack calls second end (left w) (λ w. and_then (right w) (branch false exit))
        (ma.test true (Forward end) place depth stack calls w fit (stands_front code place xs ys h))
        (right_goes false exit place depth second end stack calls w fit h1 refl)))
    either_test true exit place depth stack calls w fit h =
        let m = machine_at place stack calls w in
        let second = place + sa.test true (own_truth exit) in
        let end = second + sb.test true (own_truth exit) in
        let xs = a.test true exit place depth in
        let ys = b.test true exit second depth in
        let h1 = stands_back code place (sa.test true (own_truth exit)) xs ys (ma.fits.test true exit place depth) h in
        goes_from code closed moment m m exit stack calls end _ _ (omega arith) (stays code closed moment m)
        (subst (λ run. GoesBy code closed moment m exit stack calls end run) (either_branch true exit (left w) right)
        (same_exit m true exit stack calls second end (left w) (λ w. and_then (right w) (branch true exit))
        (ma.test true exit place depth stack calls w fit (stands_front code place xs ys h))
        (right_goes true exit place depth second end stack calls w fit h1 refl)))

    -- `&&`
    pub means_both : Mean code closed moment most (both_codes a b sa sb e) (both_sizes sa sb (truth_size e))
        (λ w. deciding (left w) (λ w. run_map truth_of (right w)) (Gives (pos 0)))
    means_both = record {
      fits = both_fits a b sa sb e ma.fits mb.fits;
      value = both_value code closed moment most a b sa sb left right e ma mb known;
      test = both_test;
    }

    -- `||`
    pub means_either : Mean code closed moment most (either_codes a b sa sb e) (either_sizes sa sb (truth_size e))
        (λ w. deciding (left w) (Gives (pos 1)) (λ w. run_map truth_of (right w)))
    means_either = record {
      fits = either_fits a b sa sb e ma.fits mb.fits;
      value = either_value code closed moment most a b sa sb left right e ma mb known;
      test = either_test;
    }
