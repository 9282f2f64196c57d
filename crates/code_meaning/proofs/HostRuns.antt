-- A run of the machine in a memory and on a host leaves them as the typed tree says, or is refused on its way there.
use Rattle.std.proofs.Common.{◌≡◌, ℕ, List, [], ◌∷◌, ◌++◌, Some, slice_get, sym, ap, ◌∙◌, subst}
use Rattle.run_effects.specs.Effect.{Effect}
use Rattle.vm_host.specs.Host.{HostMeaning}
use Rattle.run_effects.specs.declared.outcome.Outcome.{Outcome}
use Rattle.bytecode.specs.declared.code.Code.{Code}
use Rattle.bytecode.specs.Laws.{BeginsWith}
use Rattle.bytecode.specs.Machine.{Machine}
use Rattle.bytecode.specs.Runs.{EndsIn}
use Rattle.stack_vm.specs.declared.meter.MeterRow.{MeterRow}
use Rattle.stack_vm.specs.Memory.{MemoryState}
use Rattle.stack_vm.specs.Meter.{AddsRun}
use Rattle.stack_vm.specs.Runs.{BeginsIn, IsRunRefused, Runs, TakesAll}
use Rattle.typed_tree.specs.declared.program.THandler.{THandler}
use Rattle.typed_tree.specs.declared.program.Typed.{Typed}
use Rattle.typed_tree.specs.Expression.{Setting}
use Rattle.typed_tree.specs.Program.{Ending, ending_of}
use Rattle.typed_tree.specs.Sound.{IsSound}
use Rattle.code_listing.specs.Program.{IsCodeOf}
use Rattle.code_meaning.specs.Ending.{ending_in}
use Rattle.code_meaning.specs.OnHost.{EndsOnHost, IsRefusedOnHost, meant_on}
use Rattle.code_meaning.proofs.ProgramRuns.{code_means}

module _ {S : Type 0} (host : HostMeaning S) (typed : Typed) (code : Code) (sound : IsSound typed) (is : IsCodeOf typed code) (number turns : ℕ)
    (handler : THandler) (there : slice_get typed.handlers number ≡ Some handler) (memory : MemoryState) (before : S) where
  -- the ending that is meant
  abbrev meant : Ending
  meant = meant_on host typed handler turns memory before

  -- from where the event procedure begins, each end of the run is the one that is meant
  ending_meant : (start : Machine) → BeginsIn host code number turns memory before start → (outcome : Outcome) (m : Machine) →
      EndsIn code (host.is_closed before) (host.moment before) start outcome m → ending_in turns outcome m ≡ meant
  ending_meant start begins outcome m ends =
      let s : Setting = record { typed = typed; closed = host.is_closed before; moment = host.moment before } in
      let given = begins.turns_given in
      let only = ((code_means typed code sound is).each number handler there).as_meant (host.is_closed before) (host.moment before) start
      begins.is_start begins.no_effects outcome m ends in
      ap (λ n. ending_in n outcome m) (sym given) ∙ only ∙
      ap (λ n. ending_of s handler n (record { cells = start.cells; active = start.active })) given ∙
      ap (λ cells. ending_of s handler turns (record { cells = cells; active = start.active })) begins.cells ∙
      ap (λ active. ending_of s handler turns (record { cells = memory.cells; active = active })) begins.timers

  -- a run in a memory and on a host has the ending that is meant there
  pub runs_on_host : (row : ℕ) (memory_after : MemoryState) (after : S) (meter meter_after : List MeterRow) (outcome : Outcome) →
      Runs host code number turns row memory before meter outcome memory_after after meter_after →
      EndsOnHost host meant row before meter outcome memory_after after meter_after
  runs_on_host row memory_after after meter meter_after outcome r =
      let same = ending_meant r.start r.begins outcome r.end r.ends in
      record {
        outcome_is = ap (λ (end : Ending). end.outcome) same;
        cells = r.cells ∙ ap (λ (end : Ending). end.memory.cells) same;
        timers = r.timers ∙ ap (λ (end : Ending). end.memory.active) same;
        taken = subst (λ (effects : List Effect). TakesAll host before effects after) (ap (λ (end : Ending). end.effects) same) r.taken;
        metered = subst (λ (n : ℕ). AddsRun row n meter meter_after) (ap (λ (end : Ending). end.turns_taken) same) r.metered;
      }

  -- a run that was refused was so on its way to the ending that is meant
  pub refused_on_host : (after : S) → IsRunRefused host code number turns memory before after → IsRefusedOnHost host meant before after
  refused_on_host after r =
      let ended = ((code_means typed code sound is).each number handler there).ends (host.is_closed before) (host.moment before) r.start r.begins.is_start in
      let same = ending_meant r.start r.begins ended.0 ended.1 ended.2 in
      record {
        first = r.at.effects;
        effect = r.effect;
        between = r.between;
        taken = r.taken;
        begins = subst (λ (effects : List Effect). BeginsWith effects (r.at.effects ++ r.effect ∷ [])) (ap (λ (end : Ending). end.effects) same)
            (r.next_effect ended.0 ended.1 ended.2);
        refusal = r.refusal;
      }
