-- How statements leave off on the machine, and what comes after them.
use Rattle.std.proofs.Common.{◌≡◌, ℕ, Bool, List, [], ◌∷◌, Some, slice_get, refl, subst, arith}
use Rattle.std.specs.Prelude.{ℤ}
use Rattle.run_effects.specs.declared.outcome.Outcome.TheVariants.{Done}
use Rattle.bytecode.specs.declared.code.Code.{Code}
use Rattle.bytecode.specs.declared.instr.Instr.TheVariants as instr
use Rattle.bytecode.specs.Machine.{Machine}
use Rattle.control_flow.specs.World.{World, Run, and_then}
use Rattle.control_flow.specs.Control.{Breaks, Continues, Does, End, GoesOn, Returns, going_on, leaving_switch}
use Rattle.typed_tree.specs.Memory.{Memory}
use Rattle.code_listing.specs.Statement.{Exits}
use Rattle.code_listing.proofs.MachineRuns.{comes_on, follows_from, follows_then, one_comes, one_moves, one_stops, stays, stops_on}
use Rattle.code_listing.proofs.TestRuns.{still_fit}
use Rattle.code_listing.specs.Runs.{Comes, IsFit, machine_at}
use Rattle.code_meaning.specs.Statement.{HasReturned, LeavesOff, Obeys, ObeysFrom, with_given}

module _ (code : Code) (closed : Bool) (moment : ℕ) (gives : Bool) (stack : List ℤ) where
  -- `Ret`, with what the procedure gives on the stack
  pub ret_returns : (calls : List ℕ) (place : ℕ) (n : ℤ) (w : World Memory) → slice_get code.instrs place ≡ Some instr.Ret →
      HasReturned code closed moment gives stack (machine_at place (with_given gives n stack) calls w) calls n w
  ret_returns [] place n w at =
      let m = machine_at place (with_given gives n stack) [] w in one_stops code closed moment m instr.Ret Done m at refl
  ret_returns (back ∷ calls) place n w at =
      one_comes code closed moment (machine_at place (with_given gives n stack) (back ∷ calls) w) instr.Ret
      (machine_at back (with_given gives n stack) calls w) at refl (omega arith) (λ h. h) refl

  -- steps, and then a return
  pub returned_on : {m m' : Machine} (calls : List ℕ) (n : ℤ) (w : World Memory) → Comes code closed moment m m' → HasReturned code closed moment gives stack m' calls n w →
      HasReturned code closed moment gives stack m calls n w
  returned_on [] n w r h = stops_on code closed moment r h
  returned_on (back ∷ calls) n w r h = comes_on code closed moment r h

  module _ (calls : List ℕ) where
    -- the machine at a place, with nothing of the procedure's own on the stack
    abbrev pub bare_at : ℕ → World Memory → Machine
    bare_at place w = machine_at place stack calls w

    -- from an earlier state on
    leaves_on : (exits : Exits) (end : ℕ) (m m' : Machine) → Comes code closed moment m m' → (e : End) (w : World Memory) →
        LeavesOff code closed moment gives stack calls exits end m' e w → LeavesOff code closed moment gives stack calls exits end m e w
    leaves_on exits end m m' r GoesOn w h = comes_on code closed moment r h
    leaves_on exits end m m' r Breaks w h = comes_on code closed moment r h
    leaves_on exits end m m' r Continues w h = comes_on code closed moment r h
    leaves_on exits end m m' r (Returns n) w h = returned_on calls n w r h

    -- steps, and then a statement
    pub obeys_on : (exits : Exits) (end : ℕ) (m m' : Machine) (run : Run Memory End) → Comes code closed moment m m' →
        ObeysFrom code closed moment gives stack calls m' exits end run → ObeysFrom code closed moment gives stack calls m exits end run
    obeys_on exits end m m' run r h =
        follows_from code closed moment m m' (LeavesOff code closed moment gives stack calls exits end m') (LeavesOff code closed moment gives stack calls exits end m) run r (leaves_on exits end m m' r) h

    leaves_to : (exits : Exits) (mid end : ℕ) (m : Machine) → ((w : World Memory) → Comes code closed moment (bare_at mid w) (bare_at end w)) →
        (e : End) (w : World Memory) → LeavesOff code closed moment gives stack calls exits mid m e w → LeavesOff code closed moment gives stack calls exits end m e w
    leaves_to exits mid end m r GoesOn w h = comes_on code closed moment h (r w)
    leaves_to exits mid end m r Breaks w h = h
    leaves_to exits mid end m r Continues w h = h
    leaves_to exits mid end m r (Returns n) w h = h

    -- a statement, and then steps
    pub obeys_to : (exits : Exits) (mid end : ℕ) (m : Machine) (run : Run Memory End) →
        ((w : World Memory) → Comes code closed moment (bare_at mid w) (bare_at end w)) →
        ObeysFrom code closed moment gives stack calls m exits mid run → ObeysFrom code closed moment gives stack calls m exits end run
    obeys_to exits mid end m run r h =
        follows_from code closed moment m m (LeavesOff code closed moment gives stack calls exits mid m) (LeavesOff code closed moment gives stack calls exits end m) run (stays code closed moment m)
        (leaves_to exits mid end m r) h

    -- the same end, written in another way
    pub obeys_at : (exits : Exits) (mid end : ℕ) (m : Machine) (run : Run Memory End) → mid ≡ end → ObeysFrom code closed moment gives stack calls m exits mid run → ObeysFrom code closed moment gives stack calls m exits end run
    obeys_at exits mid end m run e h = subst (λ p. ObeysFrom code closed moment gives stack calls m exits p run) e h

    -- what follows a statement that has left off
    pub obeys_next : (exits : Exits) (mid end : ℕ) (m : Machine) (next : Does Memory) (e : End) (w : World Memory) → LeavesOff code closed moment gives stack calls exits mid m e w →
        (Comes code closed moment m (bare_at mid w) → Obeys code closed moment gives stack calls exits mid w end (next w)) → ObeysFrom code closed moment gives stack calls m exits end (going_on next e w)
    obeys_next exits mid end m next GoesOn w h further = obeys_on exits end m (bare_at mid w) (next w) h (further h)
    obeys_next exits mid end m next Breaks w h further = h
    obeys_next exits mid end m next Continues w h further = h
    obeys_next exits mid end m next (Returns n) w h further = h

    leaves_switch : (exits inner : Exits) (end : ℕ) (m : Machine) (e : End) (w : World Memory) → inner.break_at ≡ end →
        inner.continue_at ≡ exits.continue_at → LeavesOff code closed moment gives stack calls inner end m e w → ObeysFrom code closed moment gives stack calls m exits end (leaving_switch e w)
    leaves_switch exits inner end m GoesOn w b c h = h
    leaves_switch exits inner end m Breaks w b c h = subst (λ p. Comes code closed moment m (bare_at p w)) b h
    leaves_switch exits inner end m Continues w b c h = subst (λ p. Comes code closed moment m (bare_at p w)) c h
    leaves_switch exits inner end m (Returns n) w b c h = h

    -- the groups of a `switch`, out of which a `break` leads to the end
    pub obeys_switch : (exits inner : Exits) (end : ℕ) (m : Machine) (run : Run Memory End) → inner.break_at ≡ end →
        inner.continue_at ≡ exits.continue_at → ObeysFrom code closed moment gives stack calls m inner end run → ObeysFrom code closed moment gives stack calls m exits end (and_then run leaving_switch)
    obeys_switch exits inner end m run b c h =
        follows_then code closed moment m (LeavesOff code closed moment gives stack calls inner end m) (LeavesOff code closed moment gives stack calls exits end m) run leaving_switch h
        (λ e w g. leaves_switch exits inner end m e w b c g)

    -- a jump
    pub jumps : (place target : ℕ) (w : World Memory) → slice_get code.instrs place ≡ Some (instr.Jump target) →
        Comes code closed moment (bare_at place w) (bare_at target w)
    jumps place target w at = one_moves code closed moment place target stack stack calls w (instr.Jump target) at refl

    module _ (most : ℕ) where
      -- one statement, and then another where it goes on
      pub obeys_then : (exits : Exits) (place mid end : ℕ) (w : World Memory) (run : Run Memory End) (next : Does Memory) →
          IsFit code most w → Obeys code closed moment gives stack calls exits place w mid run →
          ((w : World Memory) → IsFit code most w → Obeys code closed moment gives stack calls exits mid w end (next w)) →
          Obeys code closed moment gives stack calls exits place w end (and_then run (going_on next))
      obeys_then exits place mid end w run next fit first further =
          let m = bare_at place w in
          follows_then code closed moment m (LeavesOff code closed moment gives stack calls exits mid m) (LeavesOff code closed moment gives stack calls exits end m) run (going_on next) first
          (λ e w1 h. obeys_next exits mid end m next e w1 h (λ r. further w1 (still_fit code closed moment fit r)))
