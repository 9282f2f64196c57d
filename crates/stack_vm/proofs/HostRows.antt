-- The rows of instructions that a host takes.
use Rattle.std.proofs.Common.{◌≡◌, ◌<◌, ◌≤◌, ◌+◌, ℕ, Bool, true, false, List, [], ◌∷◌, ◌++◌, length, reverse, take, get_or, slice_get, drop, Option, Some, None, Result, Ok, Err, OnErr, refl, sym, ap, ◌∙◌, append-nil, le-leb}
use Rattle.std.specs.Prelude.{ℤ, pos, IsTrue, nat_le, ◌&&◌, if◌then◌else◌}
use Rattle.std.specs.List.{list_all}
use Rattle.std.proofs.lemmas.Option.{slice_get-get_or}
use Rattle.write_format.specs.Line.{FormatText, char_arrays, numbers_taken, rendered}
use Rattle.run_effects.specs.Effect.{Effect, micros}
use Rattle.run_effects.specs.Effect as effect
use Rattle.vm_host.specs.Host.{HostMeaning, TakesUnlessClosed}
use Rattle.bytecode.specs.declared.code.Code.{Code}
use Rattle.bytecode.specs.declared.instr.Instr.{Instr}
use Rattle.bytecode.specs.declared.instr.Instr.TheVariants.{Send, Set, Write}
use Rattle.bytecode.specs.Machine.{Machine, Next, Goes, Stuck}
use Rattle.message_cells.specs.Message.{frame_of, message_at}
use Rattle.bytecode.specs.Step.{after_effect, after_set, goes_on, needing, row, unless, writes}
use Rattle.stack_vm.specs.Inside.State.{RunState, machine}
use Rattle.stack_vm.specs.Inside.Step.{DoesOn, GivesLineOrFrame, RefusesOn}
use Rattle.stack_vm.specs.Runs.{IsRefusal, MayBeRefused}
use Rattle.stack_vm.proofs.MessageRows.{cells_at}
use Rattle.stack_vm.proofs.StepLemmas.{one_taken, same_room}

module _ {S : Type 0} (host : HostMeaning S) (code : Code) (instr : Instr) (before : RunState) (stands : S) (after : RunState) (stands_after : S)
    (there : RunState) (numbers : there.numbers_room ≡ before.numbers_room) (calls : there.calls_room ≡ before.calls_room) (e : after ≡ there) where
  -- the host stays as it was
  pub does_quietly : (closed : Bool) (moment : ℕ) → closed ≡ host.is_closed stands → moment ≡ host.moment stands →
      ((effects : List Effect) →
      row code closed moment (machine before (host.active_timers stands) effects) instr before.stack ≡ Goes (machine there (host.active_timers stands) effects)) →
      stands_after ≡ stands → DoesOn host code instr before stands None after stands_after
  does_quietly closed moment c m leads h = record {
    new = [];
    room = same_room before after there numbers calls e;
    leads = λ effects.
        (λ i. row code (sym c i) (sym m i) (machine before (host.active_timers stands) effects) instr before.stack) ∙ leads effects
        ∙ ap (λ (es : List Effect). Goes (machine there (host.active_timers stands) es)) (sym (append-nil effects))
        ∙ ap (λ (s : RunState). Goes (machine s (host.active_timers stands) (effects ++ []))) (sym e)
        ∙ ap (λ (z : S). Goes (machine after (host.active_timers z) (effects ++ []))) (sym h);
    taken = h;
  }

  -- the host takes one effect
  pub does_effect : (effect : Effect) (active : List Bool) (closed : Bool) (moment : ℕ) → closed ≡ host.is_closed stands → moment ≡ host.moment stands →
      ((effects : List Effect) →
      row code closed moment (machine before (host.active_timers stands) effects) instr before.stack ≡ Goes (machine there active (effects ++ effect ∷ []))) →
      host.active_timers stands_after ≡ active → host.takes stands effect stands_after → DoesOn host code instr before stands None after stands_after
  does_effect effect active closed moment c m leads t h = record {
    new = effect ∷ [];
    room = same_room before after there numbers calls e;
    leads = λ effects.
        (λ i. row code (sym c i) (sym m i) (machine before (host.active_timers stands) effects) instr before.stack) ∙ leads effects
        ∙ ap (λ (s : RunState). Goes (machine s active (effects ++ effect ∷ []))) (sym e)
        ∙ ap (λ (a : List Bool). Goes (machine after a (effects ++ effect ∷ []))) (sym t);
    taken = (stands_after, h, refl);
  }

  -- the host takes one effect unless it is closed, and its timers are then those of the machine
  pub does_unless_closed : (effect : Effect) (active : List Bool) →
      ((closed : Bool) (effects : List Effect) → row code closed (host.moment stands) (machine before (host.active_timers stands) effects) instr before.stack
      ≡ Goes (if closed then machine there (host.active_timers stands) effects else machine there active (effects ++ effect ∷ []))) →
      (host.is_closed stands ≡ false → host.active_timers stands_after ≡ active) → TakesUnlessClosed host stands effect stands_after →
      DoesOn host code instr before stands None after stands_after
  does_unless_closed effect active leads t h = either (host.is_closed stands) refl
    where
      either : (closed : Bool) → closed ≡ host.is_closed stands → DoesOn host code instr before stands None after stands_after
      either true c = does_quietly true (host.moment stands) c refl (leads true) (h.passed (sym c))
      either false c = does_effect effect active false (host.moment stands) c refl (leads false) (t (sym c)) (h.taken (sym c))

-- an error is one of which something holds
pub on_err : {T E P : Type 0} (r : Result T E) → P → OnErr r P
on_err (Ok x) p = tt
on_err (Err e) p = p

-- a closed host refuses no such effect, so that an open one refused the effect of the row
pub refuses_when_open : {S : Type 0} (host : HostMeaning S) (code : Code) (instr : Instr) (before : RunState) (stands : S) (there : RunState) (stands_after : S) (effect : Effect) →
    GivesLineOrFrame instr →
    ((closed : Bool) (effects : List Effect) → row code closed (host.moment stands) (machine before (host.active_timers stands) effects) instr before.stack
    ≡ Goes (machine there (host.active_timers stands) (if closed then effects else effects ++ effect ∷ []))) →
    (IsTrue (host.is_closed stands) → ⊥) → MayBeRefused effect → IsRefusal host stands effect stands_after → RefusesOn host code instr before stands stands_after
refuses_when_open host code instr before stands there stands_after effect gives leads is_open may refusal = either (host.is_closed stands) refl
  where
    either : (closed : Bool) → closed ≡ host.is_closed stands → RefusesOn host code instr before stands stands_after
    either true c = absurd (is_open (sym c))
    either false c = record {
      effect = effect;
      next = there;
      gives = gives;
      leads = λ effects. (λ i. row code (sym c i) (host.moment stands) (machine before (host.active_timers stands) effects) instr before.stack) ∙ leads false effects;
      may_be = may;
      refusal = refusal;
    }

-- a timer is set, unless the host is closed
pub set_row : (code : Code) (closed : Bool) (moment : ℕ) (m : Machine) (timer unit : ℕ) (cyclic : Bool) (stack : List ℤ) → 1 ≤ length stack →
    slice_get code.timers timer ≡ Some unit → timer < length m.active →
    row code closed moment m (Set timer cyclic) stack
    ≡ goes_on (unless closed (after_set timer (micros unit (get_or stack 0 (pos 0))) cyclic) m) (drop 1 stack)
set_row code closed moment m timer unit cyclic stack h there exists =
    let n : ℤ = get_or stack 0 (pos 0) in
    one_taken stack h _
    ∙ ap (λ (o : Option ℕ). needing o (λ u. needing (slice_get m.active timer) (λ _. goes_on (unless closed (after_set timer (micros u n) cyclic) m) (drop 1 stack)))) there
    ∙ ap (λ (o : Option Bool). needing o (λ _. goes_on (unless closed (after_set timer (micros unit n) cyclic) m) (drop 1 stack))) (slice_get-get_or m.active timer false exists)

-- the timer of an instruction is one of the machine's
pub timer_row : (m : Machine) (timer : ℕ) (doing : Bool → Next) → timer < length m.active →
    needing (slice_get m.active timer) doing ≡ doing (get_or m.active timer false)
timer_row m timer doing exists = ap (λ (o : Option Bool). needing o doing) (slice_get-get_or m.active timer false exists)

-- a message is sent, unless the host is closed
pub send_row : (code : Code) (closed : Bool) (moment : ℕ) (m : Machine) (at : ℕ) (stack : List ℤ) → message_at at m.cells ≡ Some (cells_at at m.cells) →
    row code closed moment m (Send at) stack ≡ goes_on (unless closed (after_effect (effect.Send (frame_of (cells_at at m.cells)))) m) stack
send_row code closed moment m at stack e =
    ap (λ (o : Option (List ℤ)). needing o (λ (message : List ℤ). goes_on (unless closed (after_effect (effect.Send (frame_of message))) m) stack)) e

-- the line of a format, where the numbers stand on a stack
abbrev pub line_of : FormatText → List ℤ → List ℤ → Effect
line_of format stack cells = effect.Line (rendered format (reverse (take (numbers_taken format) stack)) cells)

-- a line is written, where its numbers and its arrays are there
pub write_row : (code : Code) (closed : Bool) (moment : ℕ) (m : Machine) (f : ℕ) (format : FormatText) (stack : List ℤ) → slice_get code.formats f ≡ Some format →
    numbers_taken format ≤ length stack → list_all (λ array. nat_le (array.0 + array.1) (length m.cells)) (char_arrays format) ≡ true →
    row code closed moment m (Write f) stack ≡ goes_on (after_effect (line_of format stack m.cells) m) (drop (numbers_taken format) stack)
write_row code closed moment m f format stack e enough arrays =
    let there : Bool = list_all (λ array. nat_le (array.0 + array.1) (length m.cells)) (char_arrays format) in
    let goes : Next = goes_on (after_effect (line_of format stack m.cells) m) (drop (numbers_taken format) stack) in
    let is : nat_le (numbers_taken format) (length stack) ≡ true = le-leb (numbers_taken format) (length stack) enough in
    ap (λ (o : Option FormatText). needing o (λ (x : FormatText). writes x m stack)) e ∙ ap (λ (b : Bool). if b && there then goes else Stuck) is
    ∙ ap (λ (b : Bool). if b then goes else Stuck) arrays
