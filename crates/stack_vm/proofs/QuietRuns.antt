-- A run of a quiet handler stays in quiet functions, so that it comes to no instruction that gives a line or a frame.
use Rattle.std.proofs.Common.{◌≡◌, ◌+◌, ℕ, zero, suc, Bool, [], length, slice_get, Option, Some, None, sym, ◌∙◌, subst}
use Rattle.std.specs.Prelude.{IsSomeAnd}
use Rattle.std.specs.List.{AllByRecursion}
use Rattle.bytecode.specs.declared.code.Code.{Code}
use Rattle.bytecode.specs.declared.code.Fun.{Fun}
use Rattle.bytecode.specs.declared.code.Handler.{Handler}
use Rattle.bytecode.specs.declared.instr.Instr.{Instr}
use Rattle.bytecode.specs.declared.instr.Instr.TheVariants.{Call, Send, Write}
use Rattle.bytecode.specs.Machine.{Machine, Goes}
use Rattle.bytecode.specs.Rule.{IsIn}
use Rattle.bytecode.specs.Runs.{IsStartOf, Reaches}
use Rattle.bytecode.specs.Step.{go, step}
use Rattle.bytecode.specs.Verified.{IsVerified}
use Rattle.bytecode.proofs.CoverLemmas.{Cover-once}
use Rattle.bytecode.proofs.MachineStates.{Stands}
use Rattle.bytecode.proofs.PlaceRules.{begins, rule_here}
use Rattle.bytecode.proofs.RunLemmas.{step_is_row}
use Rattle.bytecode.proofs.VerifiedRuns.{stands_after, stands_reached, start_stands}
use Rattle.vm_host.specs.Host.{HostMeaning}
use Rattle.stack_vm.specs.Inside.Runs.{IsRefused, machine_on}
use Rattle.stack_vm.specs.Inside.State.{RunState}
use Rattle.stack_vm.specs.Inside.Step.{GivesLineOrFrame}
use Rattle.stack_vm.specs.Quiet.{HasInstr, IsQuiet, IsQuietHandler, quiet}
use Rattle.stack_vm.specs.Memory.{MemoryState}
use Rattle.stack_vm.proofs.DepthLemmas.{continues}
use Rattle.stack_vm.proofs.HandlerRuns.{StartsIn}
use Rattle.stack_vm.proofs.RowMoves.{GoesOn, Steps, Steps-row, enters, leaves, moves}

-- ---- quiet functions

-- a quiet function has no instruction that gives a line or a frame
gives_none : {code : Code} {number : ℕ} → IsQuiet code number → (instr : Instr) → HasInstr code number instr → GivesLineOrFrame instr → ⊥
gives_none (quiet lines frames callees) (Write format) has gives = lines format has
gives_none (quiet lines frames callees) (Send at) has gives = frames at has
gives_none (quiet lines frames callees) instr has gives = gives

-- a function that a quiet one calls is quiet
quiet_callee : {code : Code} {number callee : ℕ} → IsQuiet code number → HasInstr code number (Call callee) → IsQuiet code callee
quiet_callee {callee} (quiet lines frames callees) has = callees callee has

-- the functions that have a place are quiet
abbrev pub IsInQuiet : Code → ℕ → Type 0
IsInQuiet code place = (number : ℕ) (function : Fun) → slice_get code.functions number ≡ Some function → IsIn function place → IsQuiet code number

-- so are those of the place of a state, and of where its open calls return to
pub record StaysQuiet (code : Code) (m : Machine) : Type 0 where
  pub here : IsInQuiet code m.place
  pub callers : AllByRecursion (IsInQuiet code) m.calls

module _ (code : Code) (verified : IsVerified code) where
  -- each place of a quiet function is in quiet functions alone
  quiet_place : (number : ℕ) (function : Fun) → slice_get code.functions number ≡ Some function → IsQuiet code number → (place : ℕ) → IsIn function place →
      IsInQuiet code place
  quiet_place number function there is place inside other g there' inside' =
      subst (IsQuiet code) (Cover-once 0 code.functions (length code.instrs) verified.laid_out.covered number other function g there there' place inside inside') is

  -- a quiet function begins at a place of quiet functions
  quiet_start : (number : ℕ) (function : Fun) → slice_get code.functions number ≡ Some function → IsQuiet code number → IsInQuiet code function.start
  quiet_start number function there is = quiet_place number function there is function.start (begins code verified number function there).inside

  module _ (m : Machine) (s : Stands code m) (stays : StaysQuiet code m) where
    here_quiet : IsQuiet code s.number
    here_quiet = stays.here s.number s.function s.at.is_there s.at.inside

    along : (after : Machine) → GoesOn code s.function s.depth m after → StaysQuiet code after
    along after (moves g) = record {
      here = subst (IsInQuiet code) (sym g.place) (quiet_place s.number s.function s.at.is_there here_quiet g.target.place g.reached.inside);
      callers = subst (AllByRecursion (IsInQuiet code)) (sym g.calls) stays.callers;
    }
    along after (enters g) =
        let calls : HasInstr code s.number (Call g.entered) =
        record { function = s.function; place = m.place; is_function = s.at.is_there; inside = s.at.inside; is_there = g.is_call } in
        record {
          here = subst (IsInQuiet code) (sym g.place) (quiet_start g.entered g.callee g.is_function (quiet_callee here_quiet calls));
          callers = subst (AllByRecursion (IsInQuiet code)) (sym g.calls)
              (quiet_place s.number s.function s.at.is_there here_quiet (m.place + 1) g.reached.inside, stays.callers);
        }
    along after (leaves e) =
        let all = subst (AllByRecursion (IsInQuiet code)) e stays.callers in
        record { here = all.0; callers = all.1 }

    -- after a step
    quiet_after : (closed : Bool) (moment : ℕ) (after : Machine) → step code closed moment m ≡ Goes after → StaysQuiet code after
    quiet_after closed moment after e =
        let rule = rule_here code verified m s in
        along after (subst (Steps code s.function s.depth m) (sym (step_is_row code closed moment m rule.instr rule.is_instr) ∙ e)
        (Steps-row code s.function s.depth m closed moment rule.instr m.stack rule.is_instr rule.keeps.takes_what_is_there rule.keeps.targets_agree))

  -- after so many steps
  quiet_go : (closed : Bool) (moment n : ℕ) (m : Machine) → Stands code m → StaysQuiet code m → (reached : Machine) →
      go code closed moment n m ≡ Goes reached → StaysQuiet code reached
  quiet_go closed moment zero m s h reached e = subst (StaysQuiet code) (let same : m ≡ reached = cc in same) h
  quiet_go closed moment (suc n) m s h reached e =
      continues (step code closed moment m) (λ after. go code closed moment n after) reached e
      (λ after goes rest. quiet_go closed moment n after (stands_after code verified closed moment m s after goes)
      (quiet_after m s h closed moment after goes) reached rest)

  function_quiet : (o : Option Handler) (handler : Handler) → o ≡ Some handler → IsSomeAnd o (λ procedure. IsQuiet code procedure.function) →
      IsQuiet code handler.function
  function_quiet None handler e is = absurd is
  function_quiet (Some other) handler e is = subst (λ (h : Handler). IsQuiet code h.function) (let same : other ≡ handler = cc in same) is

  module _ (number : ℕ) (start : Machine) (is : IsStartOf code number start) (is_quiet : IsQuietHandler code number) where
    -- where a quiet handler begins
    quiet_begin : StaysQuiet code start
    quiet_begin = record {
      here = subst (IsInQuiet code) (sym is.at_start) (quiet_start is.handler.function is.function is.is_function
          (function_quiet (slice_get code.handlers number) is.handler is.is_handler is_quiet));
      callers = subst (AllByRecursion (IsInQuiet code)) (sym is.no_calls) tt;
    }

    -- a run of a quiet handler comes to no instruction that gives a line or a frame
    pub comes_to_none : (closed : Bool) (moment : ℕ) (m : Machine) → Reaches code closed moment start m → (instr : Instr) →
        slice_get code.instrs m.place ≡ Some instr → GivesLineOrFrame instr → ⊥
    comes_to_none closed moment m reached instr there gives =
        let s = stands_reached code verified number start is closed moment reached.0 m reached.1 in
        let stays = quiet_go closed moment reached.0 start (start_stands code verified number start is) quiet_begin m reached.1 in
        gives_none (here_quiet m s stays) instr (record { function = s.function; place = m.place; is_function = s.at.is_there; inside = s.at.inside; is_there = there }) gives

-- a run of a quiet handler is not refused
pub quiet_goes_on : {S : Type 0} {host : HostMeaning S} {read code : Code} → read ≡ code → IsVerified read → {number turns : ℕ} {memory : MemoryState} {before after : S} {start : RunState} →
    StartsIn host code number turns memory before start → IsRefused host read start before after → IsQuietHandler code number → ⊥
quiet_goes_on {host} {read} {code} same verified {number} {before} {start} starts refused is =
    comes_to_none read verified number (machine_on host start before [])
    (subst (λ (z : Code). IsStartOf z number (machine_on host start before [])) (sym same) starts.begins.is_start)
    (subst (λ (z : Code). IsQuietHandler z number) (sym same) is)
    (host.is_closed before) (host.moment before) (machine_on host refused.at refused.between refused.comes.effects) refused.comes.reached
    refused.instr refused.is_there refused.gives
