-- One step: what a state that is ready for an instruction gives, and what a row leads to.
use Rattle.std.proofs.Common.{◌≡◌, ◌≤◌, ◌<◌, ℕ, zero, suc, Bool, List, [], ◌∷◌, length, get_or, drop, Option, refl, sym, ap, ◌∙◌, subst, arith, append-nil, slice_get, Some}
use Rattle.std.specs.Prelude.{ℤ, pos}
use Rattle.std.specs.List.{AllByRecursion}
use Rattle.int_kinds.specs.Kind.{IsNumber}
use Rattle.run_effects.specs.Effect.{Effect}
use Rattle.vm_host.specs.Host.{HostMeaning}
use Rattle.run_effects.specs.declared.outcome.Outcome.{Outcome}
use Rattle.bytecode.specs.declared.code.Code.{Code}
use Rattle.bytecode.specs.declared.instr.Instr.{Instr}
use Rattle.bytecode.specs.Machine.{Next}
use Rattle.bytecode.specs.Step.{goes_on, row, taking_one, taking_two}
use Rattle.stack_vm.specs.Inside.State.{HasSameRoom, RunState, machine}
use Rattle.stack_vm.specs.Inside.Step.{Does, DoesIn, DoesOn, IsNeededBy, IsOtherCase, IsReady, RefusesOn, answered, top_of}
use Rattle.stack_vm.specs.Cases.{HasOtherLabel}
use Rattle.stack_vm.specs.declared.step.Needs.{Needs}
use Rattle.stack_vm.specs.declared.step.Needs.TheVariants.{Cases}

-- ---- numbers on the stack

-- a number that is taken is the top
pub one_taken : (stack : List ℤ) → 1 ≤ length stack → (doing : ℤ → List ℤ → Next) → taking_one stack doing ≡ doing (get_or stack 0 (pos 0)) (drop 1 stack)
one_taken [] h doing = absurd (omega arith)
one_taken (n ∷ below) h doing = refl

-- two numbers that are taken are the second and the top
pub two_taken : (stack : List ℤ) → 2 ≤ length stack → (doing : ℤ → ℤ → List ℤ → Next) →
    taking_two stack doing ≡ doing (get_or stack 1 (pos 0)) (get_or stack 0 (pos 0)) (drop 2 stack)
two_taken [] h doing = absurd (omega arith)
two_taken (b ∷ []) h doing = absurd (omega arith)
two_taken (b ∷ a ∷ below) h doing = refl

-- each number on the stack is one
pub number_at : (stack : List ℤ) (i : ℕ) → i < length stack → AllByRecursion IsNumber stack → IsNumber (get_or stack i (pos 0))
number_at [] i h ns = absurd (omega arith)
number_at (n ∷ stack) zero h ns = ns.0
number_at (n ∷ stack) (suc i) h ns = number_at stack i (omega (arith, h)) ns.1

-- there is room for a number where an instruction gives one
pub room_to_give : (code : Code) (instr : Instr) (s : RunState) (r : IsReady code instr s) (stack : List ℤ) →
    row code r.closed r.moment (machine s r.active r.effects) instr s.stack ≡ goes_on (machine s r.active r.effects) stack → length stack ≤ s.numbers_room
room_to_give code instr s r stack e = (r.fits _ e).numbers

-- ---- what a row leads to

-- a state that is another has its room
pub same_room : (before after there : RunState) → there.numbers_room ≡ before.numbers_room → there.calls_room ≡ before.calls_room → after ≡ there →
    HasSameRoom before after
same_room before after there n c e = record {
  numbers = ap (λ (s : RunState). s.numbers_room) e ∙ n;
  calls = ap (λ (s : RunState). s.calls_room) e ∙ c;
}

-- a row leads to a state in a code
pub does_in : (code : Code) (instr : Instr) (before : RunState) (end : Option Outcome) (after there : RunState) →
    there.numbers_room ≡ before.numbers_room → there.calls_room ≡ before.calls_room →
    ((closed : Bool) (moment : ℕ) (active : List Bool) (effects : List Effect) →
    row code closed moment (machine before active effects) instr before.stack ≡ answered end (machine there active effects)) →
    after ≡ there → DoesIn code instr before end after
does_in code instr before end after there numbers calls r e = record {
  room = same_room before after there numbers calls e;
  leads = λ closed moment active effects.
      r closed moment active effects ∙ ap (λ (s : RunState). answered end (machine s active effects)) (sym e);
}

-- a row leads to a state in any code
pub does : (instr : Instr) (before : RunState) (end : Option Outcome) (after there : RunState) →
    there.numbers_room ≡ before.numbers_room → there.calls_room ≡ before.calls_room →
    ((code : Code) (closed : Bool) (moment : ℕ) (active : List Bool) (effects : List Effect) →
    row code closed moment (machine before active effects) instr before.stack ≡ answered end (machine there active effects)) →
    after ≡ there → Does instr before end after
does instr before end after there numbers calls r e =
    record { in_code = λ code. does_in code instr before end after there numbers calls (r code) e }

-- ---- an instruction by two names

-- a state that is ready for an instruction is ready for it by another name
pub ready_as : {code : Code} {s : RunState} {i j : Instr} → i ≡ j → IsReady code i s → IsReady code j s
ready_as {code} {s} e r = subst (λ (k : Instr). IsReady code k s) e r

-- so it is for some code
pub ready_some : {code : Code} {s : RunState} {i j : Instr} → i ≡ j → IsReady code i s → (code : Code) × IsReady code j s
ready_some {code} e r = (code, ready_as e r)

-- what is done in a code by one name is done by another
pub does_in_as : {code : Code} {i j : Instr} {before : RunState} {end : Option Outcome} {after : RunState} → i ≡ j → DoesIn code j before end after →
    DoesIn code i before end after
does_in_as {code} {i} {j} {before} {end} {after} e d = subst (λ (k : Instr). DoesIn code k before end after) (sym e) d

-- the same where it is done in any code
pub does_as : (code : Code) {i j : Instr} {before : RunState} {end : Option Outcome} {after : RunState} → i ≡ j → Does j before end after →
    DoesIn code i before end after
does_as code e d = does_in_as e (d.in_code code)

-- what an instruction needs it needs by another name
pub needed_as : {i j : Instr} (s : RunState) (needs : Needs) → i ≡ j → IsNeededBy j s needs → IsNeededBy i s needs
needed_as {i} {j} s needs e is = subst (λ (k : Instr). IsNeededBy k s needs) (sym e) is

-- an instruction of a code that needs the index of Cases is a Case with another label than the top
pub case_needed : (code : Code) (place : ℕ) {instr : Instr} {needs : Needs} → slice_get code.instrs place ≡ Some instr → (s : RunState) →
    needs ≡ Cases → IsNeededBy instr s needs → IsOtherCase instr (top_of s)
case_needed code place {instr} {needs} there s e is = subst (λ (it : Needs). IsNeededBy instr s it) e is

-- where it stands in a code, the label there is another one
pub other_there : {code : Code} {place : ℕ} {instr : Instr} {n : ℤ} → slice_get code.instrs place ≡ Some instr → IsOtherCase instr n →
    HasOtherLabel code n place
other_there there is = record { label = is.label; target = is.target; is_case = there ∙ ap (λ (i : Instr). Some i) is.is_case; other = is.other }

module _ {S : Type 0} (host : HostMeaning S) where
  -- an instruction that asks nothing of the host does so on any host
  pub does_in_on : {code : Code} {i : Instr} {before : RunState} {end : Option Outcome} {after : RunState} (stands : S) →
      DoesIn code i before end after → DoesOn host code i before stands end after stands
  does_in_on {code} {i} {before} {end} {after} stands d = record {
    new = [];
    room = d.room;
    leads = λ effects. d.leads (host.is_closed stands) (host.moment stands) (host.active_timers stands) effects
        ∙ ap (λ (es : List Effect). answered end (machine after (host.active_timers stands) es)) (sym (append-nil effects));
    taken = refl;
  }

  -- one that asks something of the host is done by any name
  pub does_on_as : {code : Code} {i j : Instr} {before : RunState} {end : Option Outcome} {after : RunState} {stands stands_after : S} → i ≡ j →
      DoesOn host code j before stands end after stands_after → DoesOn host code i before stands end after stands_after
  does_on_as {code} {i} {j} {before} {end} {after} {stands} {stands_after} e d =
      subst (λ (k : Instr). DoesOn host code k before stands end after stands_after) (sym e) d

  -- and is refused by any name
  pub refuses_on_as : {code : Code} {i j : Instr} {s : RunState} {before after : S} → i ≡ j → RefusesOn host code j s before after →
      RefusesOn host code i s before after
  refuses_on_as {code} {i} {j} {s} {before} {after} e refused = subst (λ (k : Instr). RefusesOn host code k s before after) (sym e) refused

-- what is known of an instruction by another name
pub ruleset by_name = (ready_as, ready_some, does_on_as, refuses_on_as)
