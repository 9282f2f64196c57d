-- The steps of a run, one after another.
use Rattle.std.proofs.Common.{◌≡◌, ◌≤◌, ◌<◌, ◌+◌, ◌-◌, ◌^◌, ℕ, suc, List, [], ◌∷◌, ◌++◌, length, slice_get, Option, Some, None, Result, Ok, Err, OnErr, refl, sym, ap, ◌∙◌, subst, arith}
use Rattle.run_effects.specs.Effect.{Effect}
use Rattle.vm_host.specs.Host.{HostMeaning, HostStays}
use Rattle.run_effects.specs.declared.outcome.Outcome.{Outcome}
use Rattle.vm_host.proofs.HostLemmas.{HostStays-refl, HostStays-trans}
use Rattle.bytecode.specs.declared.code.Code.{Code}
use Rattle.bytecode.specs.declared.instr.Instr.{Instr}
use Rattle.bytecode.specs.Machine.{Machine, Goes}
use Rattle.bytecode.specs.Runs.{HoldKinds, IsStartOf, steps_left}
use Rattle.bytecode.specs.Step.{go, row, step}
use Rattle.bytecode.specs.Verified.{IsVerified}
use Rattle.bytecode.proofs.MachineStates.{IsSafeStep, Stands}
use Rattle.bytecode.proofs.PlaceRules.{place_in_code, rule_of}
use Rattle.bytecode.proofs.RunLemmas.{go-further, go_one_more, step_is_row}
use Rattle.bytecode.proofs.VerifiedRuns.{IsSafeStep-step, fewer_left, held_at_end, stands_reached}
use Rattle.stack_vm.specs.Inside.Runs.{ComesTo, EndsWith, HasRoomOn, IsRefused, machine_on}
use Rattle.stack_vm.specs.Inside.State.{HasSameRoom, RunState}
use Rattle.stack_vm.specs.Inside.Step.{DoesOn, IsReady, Passes, RefusesOn, answered}
use Rattle.stack_vm.specs.Memory.{HasRoomFor}
use Rattle.stack_vm.specs.Runs.{TakesAll}
use Rattle.stack_vm.proofs.CaseLemmas.{passes_to}

-- the run has come to where it begins
pub comes_at_first : {S : Type 0} (host : HostMeaning S) (code : Code) (start : RunState) (before : S) → ComesTo host code start before start before
comes_at_first host code start before = record {
  effects = [];
  reached = (0, refl);
  taken = refl;
  room = record { numbers = refl; calls = refl };
  stays = HostStays-refl host before;
}

-- a run that has come to a state has come to it by another name
pub comes_as : {S : Type 0} {host : HostMeaning S} {code : Code} {start : RunState} {before : S} {s t : RunState} {after : S} → t ≡ s →
    ComesTo host code start before s after → ComesTo host code start before t after
comes_as {S} {host} {code} {start} {before} {s} {t} {after} e comes = subst (λ (z : RunState). ComesTo host code start before z after) (sym e) comes

-- effects after effects
pub takes_further : {S : Type 0} (host : HostMeaning S) (first second : List Effect) (a b c : S) →
    TakesAll host a first b → TakesAll host b second c → TakesAll host a (first ++ second) c
takes_further host [] second a b c h k = subst (λ z. TakesAll host z second c) h k
takes_further host (e ∷ first) second a b c (between, t, h) k = (between, t, takes_further host first second between b c h k)

module _ {S : Type 0} {host : HostMeaning S} {code : Code} (verified : IsVerified code) {handler : ℕ} {start : RunState} {before : S}
    (begins : IsStartOf code handler (machine_on host start before [])) (room : HasRoomOn host code start before)
    {s : RunState} {h : S} (comes : ComesTo host code start before s h) where
  -- the machine stands in the code
  pub stands : Stands code (machine_on host s h comes.effects)
  stands = stands_reached code verified handler (machine_on host start before []) begins (host.is_closed before) (host.moment before)
      comes.reached.0 (machine_on host s h comes.effects) comes.reached.1

  -- its place is one of the code's
  pub place_there : s.place < length code.instrs
  place_there = place_in_code code verified (machine_on host s h comes.effects) stands

  -- the host has the timers of the code
  pub timers_there : length code.timers ≤ length (host.active_timers h)
  timers_there = stands.timers

  next_step : go code (host.is_closed before) (host.moment before) (suc comes.reached.0) (machine_on host start before [])
      ≡ step code (host.is_closed before) (host.moment before) (machine_on host s h comes.effects)
  next_step = go_one_more code (host.is_closed before) (host.moment before) comes.reached.0 (machine_on host start before [])
      (machine_on host s h comes.effects) comes.reached.1

  fits_next : (after : Machine) → step code (host.is_closed before) (host.moment before) (machine_on host s h comes.effects) ≡ Goes after →
      HasRoomFor s.numbers_room s.calls_room after
  fits_next after e =
      let f = room after (suc comes.reached.0, next_step ∙ e) in
      record { numbers = omega (arith, f.numbers, comes.room.numbers); calls = omega (arith, f.calls, comes.room.calls) }

  module _ {instr : Instr} (there : slice_get code.instrs s.place ≡ Some instr) where
    is_row : step code (host.is_closed before) (host.moment before) (machine_on host s h comes.effects)
        ≡ row code (host.is_closed before) (host.moment before) (machine_on host s h comes.effects) instr s.stack
    is_row = step_is_row code (host.is_closed before) (host.moment before) (machine_on host s h comes.effects) instr there

    -- what its instruction asks for is there
    pub ready : s.place + 1 < 2 ^ 64 → IsReady code instr s
    ready next =
        let keeps = rule_of code verified (machine_on host s h comes.effects) stands instr there in
        let safe = IsSafeStep-step code verified (host.is_closed before) (host.moment before) (machine_on host s h comes.effects) stands in
        record {
          numbers = stands.numbers;
          cells_held = stands.cells_held;
          taken = omega (arith, keeps.takes_what_is_there, stands.height);
          named = keeps.names_exist;
          next = next;
          closed = host.is_closed before;
          moment = host.moment before;
          active = host.active_timers h;
          effects = comes.effects;
          timers = stands.timers;
          runs = λ e. subst (IsSafeStep stands) (is_row ∙ e) safe;
          fits = λ after e. fits_next after (is_row ∙ e);
        }

    -- a refusal in the state that the run has come to
    pub refused_there : {X E : Type 0} (r : Result X E) {after : S} → RefusesOn host code instr s h after → OnErr r (IsRefused host code start before after)
    refused_there (Ok x) refuses = tt
    refused_there (Err e) refuses = record {
      at = s;
      between = h;
      effect = refuses.effect;
      next = refuses.next;
      instr = instr;
      is_there = there;
      gives = refuses.gives;
      comes = comes;
      goes_on = (
        suc comes.reached.0,
        next_step ∙ is_row ∙ (λ i. row code (sym comes.stays.closing i) (sym comes.stays.moment i) (machine_on host s h comes.effects) instr s.stack)
            ∙ refuses.leads comes.effects,
      );
      may_be = refuses.may_be;
      refusal = refuses.refusal;
    }

    module _ {end : Option Outcome} {after : RunState} {h_after : S} (does : DoesOn host code instr s h end after h_after) where
      step_leads : step code (host.is_closed before) (host.moment before) (machine_on host s h comes.effects)
          ≡ answered end (machine_on host after h_after (comes.effects ++ does.new))
      step_leads =
          is_row ∙ (λ i. row code (sym comes.stays.closing i) (sym comes.stays.moment i) (machine_on host s h comes.effects) instr s.stack)
          ∙ does.leads comes.effects

      all_taken : TakesAll host before (comes.effects ++ does.new) h_after
      all_taken = takes_further host comes.effects does.new before h h_after comes.taken does.taken

      -- the state has the room that there was at first
      pub room_then : HasSameRoom start after
      room_then = record { numbers = does.room.numbers ∙ comes.room.numbers; calls = does.room.calls ∙ comes.room.calls }

      -- where the machine goes on
      leads_on : end ≡ None →
          step code (host.is_closed before) (host.moment before) (machine_on host s h comes.effects) ≡ Goes (machine_on host after h_after (comes.effects ++ does.new))
      leads_on e = step_leads ∙ ap (λ (o : Option Outcome). answered o (machine_on host after h_after (comes.effects ++ does.new))) e

      -- the run comes to the next state
      pub goes_further : end ≡ None → HostStays host h h_after → ComesTo host code start before after h_after
      goes_further e kept = record {
        effects = comes.effects ++ does.new;
        reached = (suc comes.reached.0, next_step ∙ leads_on e);
        taken = all_taken;
        room = room_then;
        stays = HostStays-trans host before h h_after comes.stays kept;
      }

      -- with fewer steps left
      pub fewer_then : end ≡ None → steps_left code (machine_on host after h_after []) < steps_left code (machine_on host s h [])
      fewer_then e = fewer_left code verified (host.is_closed before) (host.moment before) (machine_on host s h comes.effects) stands
          (machine_on host after h_after (comes.effects ++ does.new)) (leads_on e)

      module _ {outcome : Outcome} (e : end ≡ Some outcome) where
        -- the run has ended
        pub ends_here : EndsWith host code start before outcome after h_after
        ends_here = record {
          effects = comes.effects ++ does.new;
          ended = (
            suc comes.reached.0,
            next_step ∙ step_leads ∙ ap (λ (o : Option Outcome). answered o (machine_on host after h_after (comes.effects ++ does.new))) e,
          );
          taken = all_taken;
        }

        -- with cells that hold numbers of their kinds
        pub cells_then : HoldKinds code.cells after.cells
        cells_then = held_at_end code verified (host.is_closed before) (host.moment before) (machine_on host s h comes.effects) stands outcome
            (machine_on host after h_after (comes.effects ++ does.new))
            (step_leads ∙ ap (λ (o : Option Outcome). answered o (machine_on host after h_after (comes.effects ++ does.new))) e)

  -- Cases that the machine passes over
  module _ {after : RunState} (passes : Passes code s after) where
    -- the run comes further
    pub comes_past : 1 ≤ length s.stack → ComesTo host code start before after h
    comes_past has =
        let end = passes.end in
        record {
          effects = comes.effects;
          reached = (
            comes.reached.0 + (end - s.place),
            go-further code (host.is_closed before) (host.moment before) comes.reached.0 (end - s.place) (comes.reached.0 + (end - s.place))
                (machine_on host start before []) (machine_on host s h comes.effects) refl comes.reached.1
                ∙ passes_to code (host.is_closed before) (host.moment before) (machine_on host s h comes.effects) end has passes.above passes.others
                ∙ ap (λ (z : RunState). Goes (machine_on host z h comes.effects)) (sym passes.leads),
          );
          taken = comes.taken;
          room = record {
            numbers = ap (λ (z : RunState). z.numbers_room) passes.leads ∙ comes.room.numbers;
            calls = ap (λ (z : RunState). z.calls_room) passes.leads ∙ comes.room.calls;
          };
          stays = comes.stays;
        }

    -- with fewer steps left
    pub fewer_past : steps_left code (machine_on host after h []) < steps_left code (machine_on host s h [])
    fewer_past = subst (λ (z : RunState). steps_left code (machine_on host z h []) < steps_left code (machine_on host s h [])) (sym passes.leads)
        (let above = passes.above in omega (arith, place_there, above))
