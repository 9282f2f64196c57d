-- Tests: where the machine goes by a number, and expressions that are tests by their value.
use Rattle.std.proofs.Common.{◌≡◌, ℕ, zero, suc, ◌+◌, Bool, true, false, List, ◌∷◌, length, Some, slice_get, refl, ap, ◌∙◌, subst, arith}
use Rattle.std.specs.Prelude.{ℤ, pos, not, if◌then◌else◌}
use Rattle.std.specs.Ordering.{int_eq}
use Rattle.int_kinds.specs.Arithmetic.{truth}
use Rattle.run_effects.specs.declared.outcome.Outcome.TheVariants.{Cut}
use Rattle.bytecode.specs.declared.code.Code.{Code}
use Rattle.bytecode.specs.declared.instr.Instr.TheVariants as instr
use Rattle.bytecode.specs.Machine.{Machine}
use Rattle.bytecode.specs.Step.{goes_on, goes_to, taking_turn as row_turn}
use Rattle.control_flow.specs.World.{World, Run, Gives, and_then, taking_turn_of}
use Rattle.control_flow.specs.Control.{Computes}
use Rattle.typed_tree.specs.Memory.{Memory}
use Rattle.typed_tree.specs.Size.{Sizes, by_value, exit_size}
use Rattle.code_listing.specs.Exit.{Backward, Exit, Forward, exit_code, exit_instr, own_truth, same_truth}
use Rattle.code_listing.specs.Expression.{Codes, codes_by_value}
use Rattle.code_listing.specs.Listing.{Listing}
use Rattle.code_listing.specs.Runs.{Comes, Decides, Follows, GoesBy, IsFit, Leaves, StandsAt, branch, going, machine_at, target_of}
use Rattle.code_listing.proofs.ExpressionSizes.{Fit, value_fits}
use Rattle.code_listing.proofs.MachineRuns.{comes_on, follows_from, one_comes, one_moves, one_stops, stands_back, stands_front, stays, then_on}

module _ (code : Code) (closed : Bool) (moment : ℕ) where
  -- `Back` goes back, or is cut
  back_goes : (place target end : ℕ) (n : ℤ) (stack : List ℤ) (calls : List ℕ) (w : World Memory) (turns : ℕ) → w.turns ≡ turns →
      int_eq n (pos 0) ≡ false → slice_get code.instrs place ≡ Some (instr.Back target) →
      GoesBy code closed moment (machine_at place (n ∷ stack) calls w) (Backward target) stack calls end (taking_turn_of turns w (Gives true))
  back_goes place target end n stack calls w zero t e at =
      let m = machine_at place (n ∷ stack) calls w in
      one_stops code closed moment m (instr.Back target) Cut m at
      (ap (λ z. if z then goes_on m stack else row_turn w.turns m (λ after. goes_to target after stack)) e ∙
      ap (λ k. row_turn k m (λ after. goes_to target after stack)) t)
  back_goes place target end n stack calls w (suc turns) t e at =
      let m = machine_at place (n ∷ stack) calls w in
      one_comes code closed moment m (instr.Back target) (machine_at target stack calls (record w { turns = turns })) at
      (ap (λ z. if z then goes_on m stack else row_turn w.turns m (λ after. goes_to target after stack)) e ∙
      ap (λ k. row_turn k m (λ after. goes_to target after stack)) t) (omega (arith, t)) (λ h. h) refl

  -- the instruction of an exit
  pub own_exit : (exit : Exit) (place : ℕ) (n : ℤ) (stack : List ℤ) (calls : List ℕ) (w : World Memory) (z : Bool) → int_eq n (pos 0) ≡ z →
      slice_get code.instrs place ≡ Some (exit_instr exit) →
      GoesBy code closed moment (machine_at place (n ∷ stack) calls w) exit stack calls (place + 1)
      (if same_truth (own_truth exit) (not z) then going exit w else Gives false w)
  own_exit (Forward target) place n stack calls w true e at =
      let m = machine_at place (n ∷ stack) calls w in
      one_moves code closed moment place target (n ∷ stack) stack calls w (instr.Zero target) at (ap (λ z. if z then goes_to target m stack else goes_on m stack) e)
  own_exit (Forward target) place n stack calls w false e at =
      let m = machine_at place (n ∷ stack) calls w in
      one_moves code closed moment place (place + 1) (n ∷ stack) stack calls w (instr.Zero target) at (ap (λ z. if z then goes_to target m stack else goes_on m stack) e)
  own_exit (Backward target) place n stack calls w true e at =
      let m = machine_at place (n ∷ stack) calls w in
      one_moves code closed moment place (place + 1) (n ∷ stack) stack calls w (instr.Back target) at
      (ap (λ z. if z then goes_on m stack else row_turn w.turns m (λ after. goes_to target after stack)) e)
  own_exit (Backward target) place n stack calls w false e at =
      back_goes place target (place + 1) n stack calls w w.turns refl e at

  -- `Not`
  not_moves : (place : ℕ) (n : ℤ) (stack : List ℤ) (calls : List ℕ) (w : World Memory) (z : Bool) → int_eq n (pos 0) ≡ z →
      slice_get code.instrs place ≡ Some instr.Not →
      Comes code closed moment (machine_at place (n ∷ stack) calls w) (machine_at (place + 1) (truth z ∷ stack) calls w)
  not_moves place n stack calls w z e at =
      one_moves code closed moment place (place + 1) (n ∷ stack) (truth z ∷ stack) calls w instr.Not at
      (ap (λ z. goes_on (machine_at place (n ∷ stack) calls w) (truth z ∷ stack)) e)

  -- from an earlier state on
  pub goes_from : (m m' : Machine) (exit : Exit) (stack : List ℤ) (calls : List ℕ) (p end : ℕ) (run : Run Memory Bool) → p ≡ end →
      Comes code closed moment m m' → GoesBy code closed moment m' exit stack calls p run → GoesBy code closed moment m exit stack calls end run
  goes_from m m' exit stack calls p end run e r h =
      follows_from code closed moment m m' _ _ run r (λ taken after g. comes_on code closed moment r
      (subst (λ k. Comes code closed moment m' (machine_at (if taken then target_of exit else k) stack calls after)) e g)) h

  -- the instruction of an exit behind `Not`
  other_exit : (exit : Exit) (place : ℕ) (n : ℤ) (stack : List ℤ) (calls : List ℕ) (w : World Memory) (z : Bool) → int_eq n (pos 0) ≡ z →
      slice_get code.instrs place ≡ Some instr.Not → slice_get code.instrs (place + 1) ≡ Some (exit_instr exit) →
      GoesBy code closed moment (machine_at place (n ∷ stack) calls w) exit stack calls (place + 2)
      (if same_truth (not (own_truth exit)) (not z) then going exit w else Gives false w)
  other_exit (Forward target) place n stack calls w true e at at' =
      goes_from _ _ (Forward target) stack calls (place + 1 + 1) (place + 2) (Gives false w) (omega arith)
      (not_moves place n stack calls w true e at)
      (own_exit (Forward target) (place + 1) (pos 1) stack calls w false refl at')
  other_exit (Forward target) place n stack calls w false e at at' =
      goes_from _ _ (Forward target) stack calls (place + 1 + 1) (place + 2) (Gives true w) (omega arith)
      (not_moves place n stack calls w false e at)
      (own_exit (Forward target) (place + 1) (pos 0) stack calls w true refl at')
  other_exit (Backward target) place n stack calls w true e at at' =
      goes_from _ _ (Backward target) stack calls (place + 1 + 1) (place + 2) (going (Backward target) w) (omega arith)
      (not_moves place n stack calls w true e at)
      (own_exit (Backward target) (place + 1) (pos 1) stack calls w false refl at')
  other_exit (Backward target) place n stack calls w false e at at' =
      goes_from _ _ (Backward target) stack calls (place + 1 + 1) (place + 2) (Gives false w) (omega arith)
      (not_moves place n stack calls w false e at)
      (own_exit (Backward target) (place + 1) (pos 0) stack calls w true refl at')

  -- the code of an exit goes where the number says
  pub exit_runs : (when : Bool) (exit : Exit) (place depth : ℕ) (n : ℤ) (stack : List ℤ) (calls : List ℕ) (w : World Memory) →
      StandsAt code place (exit_code when exit depth) →
      GoesBy code closed moment (machine_at place (n ∷ stack) calls w) exit stack calls (place + exit_size when (own_truth exit)) (branch when exit n w)
  exit_runs true (Forward target) place depth n stack calls w h = other_exit (Forward target) place n stack calls w (int_eq n (pos 0)) refl h.0.0 h.1.0.0
  exit_runs true (Backward target) place depth n stack calls w h = own_exit (Backward target) place n stack calls w (int_eq n (pos 0)) refl h.0.0
  exit_runs false (Forward target) place depth n stack calls w h = own_exit (Forward target) place n stack calls w (int_eq n (pos 0)) refl h.0.0
  exit_runs false (Backward target) place depth n stack calls w h = other_exit (Backward target) place n stack calls w (int_eq n (pos 0)) refl h.0.0 h.1.0.0

  -- the world is so later too
  pub still_fit : {most : ℕ} {w after : World Memory} {place place' : ℕ} {stack stack' : List ℤ} {calls calls' : List ℕ} → IsFit code most w →
      Comes code closed moment (machine_at place stack calls w) (machine_at place' stack' calls' after) → IsFit code most after
  still_fit f r = record {
    turns = omega (arith, f.turns, r.turns);
    cells_held = r.cells_held f.cells_held;
    timers = omega (arith, f.timers, r.timers);
  }

  -- codes with these sizes do what an expression does, wherever they stand, from any stack, open calls and world
  pub record Mean (most : ℕ) (c : Codes) (z : Sizes) (does : Computes Memory) : Type 0 where
    pub fits : Fit c z
    pub value : (place depth : ℕ) (stack : List ℤ) (calls : List ℕ) (w : World Memory) → IsFit code most w →
        StandsAt code place (c.value place depth) →
        Leaves code closed moment place stack calls w (place + z.value) (does w)
    pub test : (when : Bool) (exit : Exit) (place depth : ℕ) (stack : List ℤ) (calls : List ℕ) (w : World Memory) → IsFit code most w →
        StandsAt code place (c.test when exit place depth) →
        Decides code closed moment when exit place stack calls w (place + z.test when (own_truth exit)) (does w)

  -- one part, and then a test by its number
  pub decides_by : (m : Machine) (there : ℤ → World Memory → Machine) (when : Bool) (exit : Exit) (stack : List ℤ) (calls : List ℕ) (end : ℕ) (run : Run Memory ℤ) →
      Follows code closed moment m (λ n after. Comes code closed moment m (there n after)) run →
      ((n : ℤ) (w : World Memory) → Comes code closed moment m (there n w) → GoesBy code closed moment (there n w) exit stack calls end (branch when exit n w)) →
      GoesBy code closed moment m exit stack calls end (and_then run (branch when exit))
  decides_by m there when exit stack calls end run first second =
      then_on code closed moment m there
      (λ m taken after. Comes code closed moment m (machine_at (if taken then target_of exit else end) stack calls after)) run (branch when exit)
      (λ m' taken after r g. comes_on code closed moment r g) first second

  -- an expression that is a test by its value
  pub means_by_value : (most : ℕ) (c : ℕ → ℕ → Listing) (k : ℕ) (does : Computes Memory) → ((place depth : ℕ) → length (c place depth) ≡ k) →
      ((place depth : ℕ) (stack : List ℤ) (calls : List ℕ) (w : World Memory) → IsFit code most w → StandsAt code place (c place depth) →
      Leaves code closed moment place stack calls w (place + k) (does w)) →
      Mean most (codes_by_value c) (by_value k) does
  means_by_value most c k does long runs = record {
    fits = value_fits c k long;
    value = runs;
    test = λ when exit place depth stack calls w fit h.
        let xs = c place depth in
        let ys = exit_code when exit (depth + 1) in
        decides_by (machine_at place stack calls w) (λ n after. machine_at (place + k) (n ∷ stack) calls after) when exit stack calls _ (does w)
        (runs place depth stack calls w fit (stands_front code place xs ys h))
        (λ n after r. goes_from _ _ exit stack calls _ _ (branch when exit n after) (omega arith) (stays code closed moment _)
        (exit_runs when exit (place + k) (depth + 1) n stack calls after (stands_back code place k xs ys (long place depth) h)));
  }
