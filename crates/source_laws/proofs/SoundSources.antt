-- A node with an accepted source does each of its tasks, and has the source and its timers still.
use Rattle.std.proofs.Common.{◌≡◌, ℕ, List, [], ◌∷◌, Option, None, Some, MatchOption, refl, ap, sym, subst, ◌∙◌}
use Rattle.run_effects.specs.Effect.{Effect, Line, Send, Stop, Set, Cancel}
use Rattle.timer_queue.specs.Timers.{IsTimers, Timers}
use Rattle.node_rounds.specs.declared.occurrence.Occurrence.{Occurrence}
use Rattle.node_rounds.specs.declared.occurrence.Trigger.{Trigger}
use Rattle.node_rounds.specs.Effects.{timers_after, timers_after_one}
use Rattle.node_rounds.specs.Follows.{IsFor}
use Rattle.node_rounds.specs.Reaction.{Done, DoesProcedure, NodeState, RunEnd, timers_at_begin, with_procedure, without_procedure}
use Rattle.node_rounds.proofs.MovingTimers.{count_at_begin, reaction_moves_timers}
use Rattle.source_laws.specs.Sound.{IsSoundSource}
use Rattle.source_laws.specs.Reaction.{SourceMemory, by_source, by_source_reaction}
use Rattle.source_laws.proofs.Tasks.{source_does}

-- ---- timers

effect_count : (now : ℕ) (timers : Timers) (effect : Effect) → (timers_after_one now timers effect).count ≡ timers.count
effect_count now timers (Line text) = refl
effect_count now timers (Send frame) = refl
effect_count now timers Stop = refl
effect_count now timers (Set timer micros cyclic) = refl
effect_count now timers (Cancel timer) = refl

-- the effects of a run leave as many timers
effects_count : (now : ℕ) (effects : List Effect) (timers : Timers) → (timers_after now timers effects).count ≡ timers.count
effects_count now [] timers = refl
effects_count now (effect ∷ effects) timers = effects_count now effects (timers_after_one now timers effect) ∙ effect_count now timers effect

-- ---- tasks

-- the source that a run leaves is the one that it began with
same_source : {s : NodeState SourceMemory} {procedure : ℕ} {occurrence : Occurrence} {now : ℕ} {done : Done (NodeState SourceMemory)} → (does : DoesProcedure by_source s procedure occurrence now done)
    → does.end.memory ≡ record s.memory { store = does.ends.0.memory }
same_source does = ap (λ (e : RunEnd SourceMemory). e.memory) does.ends.2

stays_by : (s : NodeState SourceMemory) → IsSoundSource s → (occurrence : Occurrence) (now : ℕ) (done : Done (NodeState SourceMemory)) (procedure : Option ℕ)
    → MatchOption procedure (done ≡ without_procedure s occurrence now) (λ p. DoesProcedure by_source s p occurrence now done) → IsTimers done.after.timers → IsSoundSource done.after
stays_by s sound occurrence now done None does valid =
    let after = (without_procedure s occurrence now).after in
    let own : IsSoundSource after = record {
      accepted = sound.accepted;
      has_timers = count_at_begin occurrence now s.timers ∙ sound.has_timers;
      timers = subst (λ (d : Done (NodeState SourceMemory)). IsTimers d.after.timers) does valid;
    } in
    subst (λ (d : Done (NodeState SourceMemory)). IsSoundSource d.after) (sym does) own
stays_by s sound occurrence now done (Some p) does valid =
    let after = (with_procedure s occurrence now does.end).after in
    let own : IsSoundSource (record after { memory = record s.memory { store = does.ends.0.memory } }) = record {
      accepted = sound.accepted;
      has_timers = effects_count now does.end.effects (timers_at_begin occurrence now s.timers) ∙ count_at_begin occurrence now s.timers ∙ sound.has_timers;
      timers = subst (λ (d : Done (NodeState SourceMemory)). IsTimers d.after.timers) does.is valid;
    } in
    subst (λ (d : Done (NodeState SourceMemory)). IsSoundSource d.after) (sym does.is)
    (subst (λ (m : SourceMemory). IsSoundSource (record after { memory = m })) (sym (same_source does)) own)

events_by : (s : NodeState SourceMemory) (occurrence : Occurrence) (now : ℕ) (done : Done (NodeState SourceMemory)) (procedure : Option ℕ)
    → MatchOption procedure (done ≡ without_procedure s occurrence now) (λ p. DoesProcedure by_source s p occurrence now done) → by_source.events done.after.memory ≡ by_source.events s.memory
events_by s occurrence now done None does = ap (λ (d : Done (NodeState SourceMemory)). by_source.events d.after.memory) does
events_by s occurrence now done (Some p) does =
    ap (λ (d : Done (NodeState SourceMemory)). by_source.events d.after.memory) does.is ∙ ap by_source.events (same_source does)

-- ---- sound nodes

-- a sound node does each of its tasks
pub sound_does : (s : NodeState SourceMemory) (trigger : Trigger) (now : ℕ) → IsSoundSource s → IsFor (by_source_reaction.procedures s) trigger
    → (done : Done (NodeState SourceMemory)) × by_source_reaction.does s trigger now done
sound_does s trigger now sound own = source_does s sound.accepted sound.has_timers trigger now own

-- a task leaves a sound node sound
pub sound_stays : (s : NodeState SourceMemory) (trigger : Trigger) (now : ℕ) (done : Done (NodeState SourceMemory)) → IsSoundSource s → by_source_reaction.does s trigger now done → IsSoundSource done.after
sound_stays s trigger now done sound does =
    stays_by s sound trigger.occurrence now done trigger.procedure does ((reaction_moves_timers by_source).stays_sound s trigger now done sound.timers does)

-- a task leaves the procedures of a node
pub events_stay : (s : NodeState SourceMemory) (trigger : Trigger) (now : ℕ) (done : Done (NodeState SourceMemory)) → IsSoundSource s → by_source_reaction.does s trigger now done
    → by_source.events done.after.memory ≡ by_source.events s.memory
events_stay s trigger now done sound does = events_by s trigger.occurrence now done trigger.procedure does
