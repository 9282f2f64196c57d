-- A loop does what it means, from its test on, where its test, its body and its third part do; and the jump to its test.
use Rattle.std.proofs.Common.{◌≡◌, ℕ, zero, suc, ◌+◌, ◌<◌, ◌≤◌, Bool, true, false, List, Some, slice_get, refl, ap, arith}
use Rattle.std.specs.Prelude.{ℤ, pos, not, ◌==◌, if◌then◌else◌}
use Rattle.std.specs.Ordering.{int_eq}
use Rattle.std.proofs.lemmas.Bool.{eqb-true}
use Rattle.run_effects.specs.declared.outcome.Outcome.TheVariants.{Cut}
use Rattle.bytecode.specs.declared.code.Code.{Code}
use Rattle.bytecode.specs.declared.instr.Instr.TheVariants as instr
use Rattle.bytecode.specs.Machine.{Machine}
use Rattle.bytecode.specs.Step.{goes_on, taking_turn as row_turn}
use Rattle.control_flow.specs.World.{World, Run, Gives, Fails, and_then, taking_turn, taking_turn_of}
use Rattle.control_flow.specs.Control.{Breaks, Computes, Continues, Does, End, GoesOn, Returns, deciding, followed_by, going_on, loop, looping, nothing}
use Rattle.control_flow.specs.Turns.{AddsNoTurns, LeavesAtMost}
use Rattle.control_flow.proofs.Turns.{at_most_more}
use Rattle.typed_tree.specs.Memory.{Memory}
use Rattle.typed_tree.specs.Size.{jump_size, one_if}
use Rattle.code_listing.specs.Exit.{Backward, same_truth}
use Rattle.code_listing.specs.Listing.{instr_if, jump_code}
use Rattle.code_listing.specs.Statement.{Exits}
use Rattle.code_listing.proofs.MachineRuns.{at_place, follows_then, one_comes, one_stops, stays}
use Rattle.code_listing.proofs.TestRuns.{still_fit}
use Rattle.code_meaning.proofs.LeavingOff.{jumps, obeys_next, obeys_on}
use Rattle.code_listing.specs.Runs.{Comes, Follows, GoesBy, IsFit, StandsAt, branch, going, machine_at}
use Rattle.code_meaning.specs.Statement.{LeavesOff, Obeys, ObeysFrom}

module _ (code : Code) (closed : Bool) (moment : ℕ) (gives : Bool) (stack : List ℤ) (calls : List ℕ) where
  abbrev at : ℕ → World Memory → Machine
  at place w = machine_at place stack calls w

  -- a jump over so many instructions leads behind them
  pub jump_over : (over place : ℕ) (w : World Memory) → StandsAt code place (jump_code over place) →
      Comes code closed moment (at place w) (at (place + (jump_size over + over)) w)
  jump_over over place w h = by_over (over == 0) refl h
    where
      by_over : (b : Bool) → (over == 0) ≡ b → StandsAt code place (instr_if (not b) (instr.Jump (place + 1 + over), 0)) →
          Comes code closed moment (at place w) (at (place + (one_if (not b) + over)) w)
      by_over true e h =
          at_place code closed moment place (place + (0 + over)) (omega (arith, eqb-true over 0 e)) (stays code closed moment (at place w))
      by_over false e h = at_place code closed moment (place + 1 + over) (place + (1 + over)) (omega arith)
          (jumps code closed moment gives stack calls place (place + 1 + over) w h.0.0)

  -- `Turn` takes a turn, and the rest follows; or the run is cut
  pub turn_runs : {A : Type 0} (place : ℕ) (Then : A → World Memory → Type 0) (w : World Memory) (next : World Memory → Run Memory A) →
      slice_get code.instrs place ≡ Some instr.Turn →
      ((w1 : World Memory) → Comes code closed moment (at place w) (at (place + 1) w1) → w1.turns < w.turns →
      Follows code closed moment (at place w) Then (next w1)) →
      Follows code closed moment (at place w) Then (taking_turn w next)
  turn_runs place Then w next there further = by_turns w.turns refl
    where
      m : Machine
      m = at place w

      by_turns : (turns : ℕ) → w.turns ≡ turns → Follows code closed moment m Then (taking_turn_of turns w next)
      by_turns zero e = one_stops code closed moment m instr.Turn Cut m there (ap (λ k. row_turn k m (λ after. goes_on after stack)) e)
      by_turns (suc turns) e =
          let w1 : World Memory = record w { turns = turns } in
          further w1 (one_comes code closed moment m instr.Turn (at (place + 1) w1) there
          (ap (λ k. row_turn k m (λ after. goes_on after stack)) e) (omega (arith, e)) (λ h. h) refl) (omega (arith, e))

  -- a test that goes back, with a turn, where the number is not 0, and then a round, or the end
  decides_round : (m : Machine) (Then : End → World Memory → Type 0) (start end k : ℕ) (run : Run Memory ℤ) (does : Does Memory) →
      GoesBy code closed moment m (Backward start) stack calls end (and_then run (branch true (Backward start))) → LeavesAtMost k run →
      ((w : World Memory) → Comes code closed moment m (at start w) → w.turns < k → Follows code closed moment m Then (does w)) →
      ((w : World Memory) → Comes code closed moment m (at end w) → Then GoesOn w) →
      Follows code closed moment m Then (deciding run (λ w. taking_turn w does) nothing)
  decides_round m Then start end k (Fails o w) does h less again leave = h
  decides_round m Then start end k (Gives n w) does h less again leave = by_zero (int_eq n (pos 0)) h
    where
      by_turns : (turns : ℕ) → turns ≤ k →
          GoesBy code closed moment m (Backward start) stack calls end (taking_turn_of turns w (Gives true)) →
          Follows code closed moment m Then (taking_turn_of turns w does)
      by_turns zero le g = g
      by_turns (suc turns) le g = again (record w { turns = turns }) g (omega (arith, le))

      by_zero : (z : Bool) →
          GoesBy code closed moment m (Backward start) stack calls end (if same_truth true (not z) then going (Backward start) w else Gives false w) →
          Follows code closed moment m Then (if z then nothing w else taking_turn w does)
      by_zero true g = leave w g
      by_zero false g = by_turns w.turns less g

  module _ (most : ℕ) (exits : Exits) (test_at start step_at end : ℕ) (body : Does Memory)
      (body_runs : (w : World Memory) → IsFit code most w →
      Obeys code closed moment gives stack calls (record { break_at = end; continue_at = step_at }) start w step_at (body w)) where
    abbrev inner : Exits
    inner = record { break_at = end; continue_at = step_at }

    -- from the place behind the body, with fewer turns than these left, what comes again is done
    abbrev Again : ℕ → Does Memory → Type 0
    Again k again = (w : World Memory) → w.turns < k → IsFit code most w →
        Obeys code closed moment gives stack calls exits step_at w end (again w)

    after_body : (k : ℕ) (again : Does Memory) → Again k again → (before : World Memory) → before.turns < k → IsFit code most before →
        (e : End) (w : World Memory) → LeavesOff code closed moment gives stack calls inner step_at (at start before) e w →
        ObeysFrom code closed moment gives stack calls (at start before) exits end (looping again e w)
    after_body k again more before less fit GoesOn w r =
        obeys_on code closed moment gives stack calls exits end (at start before) (at step_at w) (again w) r
        (more w (omega (arith, less, r.turns)) (still_fit code closed moment fit r))
    after_body k again more before less fit Breaks w r = r
    after_body k again more before less fit Continues w r =
        obeys_on code closed moment gives stack calls exits end (at start before) (at step_at w) (again w) r
        (more w (omega (arith, less, r.turns)) (still_fit code closed moment fit r))
    after_body k again more before less fit (Returns n) w r = r

    -- a round once its turn is taken, and what comes again
    pub round_runs : (k : ℕ) (again : Does Memory) → Again k again → (w : World Memory) → w.turns < k → IsFit code most w →
        Obeys code closed moment gives stack calls exits start w end (and_then (body w) (looping again))
    round_runs k again more w less fit =
        follows_then code closed moment (at start w) (LeavesOff code closed moment gives stack calls inner step_at (at start w))
        (LeavesOff code closed moment gives stack calls exits end (at start w)) (body w) (looping again) (body_runs w fit)
        (λ e w1 r. after_body k again more w less fit e w1 r)

    module _ (test : Computes Memory) (step : Does Memory) (adds : AddsNoTurns test)
        (test_runs : (w : World Memory) → IsFit code most w →
        GoesBy code closed moment (at test_at w) (Backward start) stack calls end (and_then (test w) (branch true (Backward start))))
        (step_runs : (w : World Memory) → IsFit code most w →
        Obeys code closed moment gives stack calls exits step_at w test_at (step w)) where
      step_then : (k : ℕ) (next : Does Memory) →
          ((w : World Memory) → w.turns < k → IsFit code most w → Obeys code closed moment gives stack calls exits test_at w end (next w)) →
          Again k (followed_by step next)
      step_then k next more w less fit =
          follows_then code closed moment (at step_at w) (LeavesOff code closed moment gives stack calls exits test_at (at step_at w))
          (LeavesOff code closed moment gives stack calls exits end (at step_at w)) (step w) (going_on next) (step_runs w fit)
          (λ e w1 h. obeys_next code closed moment gives stack calls exits test_at end (at step_at w) next e w1 h
          (λ r. more w1 (omega (arith, less, r.turns)) (still_fit code closed moment fit r)))

      -- the loop, from its test on
      pub loop_runs : (k : ℕ) (w : World Memory) → w.turns < k → IsFit code most w →
          Obeys code closed moment gives stack calls exits test_at w end (loop k test body step w)
      loop_runs zero w less fit = absurd (omega (arith, less))
      loop_runs (suc k) w less fit =
          decides_round (at test_at w) (LeavesOff code closed moment gives stack calls exits end (at test_at w)) start end k (test w)
          (λ w. and_then (body w) (looping (followed_by step (loop k test body step)))) (test_runs w fit)
          (at_most_more w.turns k (test w) (omega (arith, less)) (adds.turns w))
          (λ w1 r fewer. obeys_on code closed moment gives stack calls exits end (at test_at w) (at start w1) _ r
          (round_runs k (followed_by step (loop k test body step))
          (step_then k (loop k test body step) (λ w2 less2 fit2. loop_runs k w2 less2 fit2))
          w1 fewer (still_fit code closed moment fit r)))
          (λ w1 r. r)
