-- A source does each task of a node, in one way.
use Rattle.std.proofs.Common.{◌≡◌, ℕ, Bool, List, [], Option, Some, None, All, Contains, IsSomeAnd, MatchOption, refl, ap, sym, subst, ◌∙◌, slice_get}
use Rattle.std.specs.Prelude.{⊤}
use Rattle.std.specs.Option.{option_map}
use Rattle.std.proofs.lemmas.Option.{slice_get-map}
use Rattle.run_effects.specs.declared.event.Event.{Event}
use Rattle.timer_queue.specs.Timers.{active_timers}
use Rattle.node_rounds.specs.declared.occurrence.Occurrence.{Occurrence}
use Rattle.node_rounds.specs.declared.occurrence.Trigger.{Trigger}
use Rattle.node_rounds.specs.Effects.{IsTimerEffect}
use Rattle.node_rounds.specs.Follows.{IsFor}
use Rattle.node_rounds.specs.Procedures.{procedures_for}
use Rattle.node_rounds.specs.Reaction.{Done, DoesProcedure, NodeState, RunEnd, is_closed, timers_at_begin, with_procedure, without_procedure}
use Rattle.capl_meaning.specs.Store.{Store}
use Rattle.capl_meaning.specs.Offences.{offences_of}
use Rattle.capl_meaning.specs.Statement.{Handler, handlers_in}
use Rattle.source_laws.specs.Reaction.{handler_end, this_of, HasItsTimers, SourceMemory, by_source, by_source_reaction, with_end}
use Rattle.typed_laws.proofs.Distinct.{distinct_without_offences}
use Rattle.typed_source.proofs.Units.{have_units}
use Rattle.source_laws.proofs.SeenEvents.{procedure_sees}
use Rattle.source_laws.proofs.TimerEffects.{ending_on_timers}

-- ---- one way

own_once : (o : Option Handler) (ends : Handler → RunEnd Store) (one other : RunEnd Store) → IsSomeAnd o (λ h. one ≡ ends h) → IsSomeAnd o (λ h. other ≡ ends h) → one ≡ other
own_once None ends one other a b = absurd a
own_once (Some h) ends one other a b = a ∙ sym b

ends_once : (m : SourceMemory) (procedure : ℕ) (occurrence : Occurrence) (now : ℕ) (active : List Bool) (d e : RunEnd SourceMemory)
    → by_source.ends m procedure occurrence now active d → by_source.ends m procedure occurrence now active e → d ≡ e
ends_once m procedure occurrence now active d e a b =
    a.2 ∙ ap (with_end m) (own_once (slice_get (handlers_in m.base m.program) procedure) (λ h. handler_end h m.turns m.store occurrence now active) a.0 b.0 a.1 b.1) ∙ sym b.2

once_by : (s : NodeState SourceMemory) (occurrence : Occurrence) (now : ℕ) (done other : Done (NodeState SourceMemory)) (procedure : Option ℕ)
    → MatchOption procedure (done ≡ without_procedure s occurrence now) (λ p. DoesProcedure by_source s p occurrence now done)
    → MatchOption procedure (other ≡ without_procedure s occurrence now) (λ p. DoesProcedure by_source s p occurrence now other) → done ≡ other
once_by s occurrence now done other None a b = a ∙ sym b
once_by s occurrence now done other (Some p) a b =
    a.is ∙ ap (λ (end : RunEnd SourceMemory). with_procedure s occurrence now end)
    (ends_once s.memory p occurrence now (active_timers (timers_at_begin occurrence now s.timers)) a.end b.end a.ends b.ends) ∙ sym b.is

-- a source does one thing by a trigger
pub source_once : (s : NodeState SourceMemory) (trigger : Trigger) (now : ℕ) (done other : Done (NodeState SourceMemory))
    → by_source_reaction.does s trigger now done → by_source_reaction.does s trigger now other → done ≡ other
source_once s trigger now done other a b = once_by s trigger.occurrence now done other trigger.procedure a b

-- ---- each task

-- a procedure for an occurrence is one of the source
handler_there : (m : SourceMemory) (occurrence : Occurrence) (procedure : ℕ) → Contains (procedures_for (by_source.events m) occurrence) procedure
    → (h : Handler) × (slice_get (handlers_in m.base m.program) procedure ≡ Some h)
handler_there m occurrence procedure among =
    let found = procedure_sees (by_source.events m) occurrence 0 (this_of occurrence 0) procedure among in
    go (slice_get (handlers_in m.base m.program) procedure) refl found.0 (sym (slice_get-map (λ (h : Handler). h.event) (handlers_in m.base m.program) procedure) ∙ found.1)
  where
    go : (o : Option Handler) → slice_get (handlers_in m.base m.program) procedure ≡ o → (e : Event) → option_map (λ (h : Handler). h.event) (slice_get (handlers_in m.base m.program) procedure) ≡ Some e
        → (h : Handler) × (slice_get (handlers_in m.base m.program) procedure ≡ Some h)
    go None is e found = absurd (let f : None ≡ Some e = ap (λ (o : Option Handler). option_map (λ (h : Handler). h.event) o) (sym is) ∙ found in cc)
    go (Some h) is e found = (h, is)

does_by : (s : NodeState SourceMemory) → offences_of s.memory.base s.memory.program ≡ [] → HasItsTimers s → (occurrence : Occurrence) (now : ℕ) (procedure : Option ℕ)
    → MatchOption procedure ⊤ (λ p. Contains (procedures_for (by_source.events s.memory) occurrence) p)
    → (done : Done (NodeState SourceMemory)) × MatchOption procedure (done ≡ without_procedure s occurrence now) (λ p. DoesProcedure by_source s p occurrence now done)
does_by s accepted timers occurrence now None own = (without_procedure s occurrence now, refl)
does_by s accepted timers occurrence now (Some p) own =
    let m = s.memory in
    let found = handler_there m occurrence p own in
    let active : List Bool = active_timers (timers_at_begin occurrence now s.timers) in
    let last : RunEnd Store = handler_end found.0 m.turns m.store occurrence now active in (
      with_procedure s occurrence now (with_end m last),
      record {
        end = with_end m last;
        ends = (last, subst (λ (o : Option Handler). IsSomeAnd o (λ h. last ≡ handler_end h m.turns m.store occurrence now active)) (sym found.1) refl, refl);
        timers = subst (λ n. All (IsTimerEffect n) last.effects) (sym timers)
            (ending_on_timers m.base m.program (distinct_without_offences m.base m.program accepted) (have_units m.base m.program) p found.0 found.1
            (this_of occurrence now) (is_closed occurrence) now m.turns (record { store = m.store; active = active }));
        is = refl;
      },
    )

-- a source does each task of a node
pub source_does : (s : NodeState SourceMemory) → offences_of s.memory.base s.memory.program ≡ [] → HasItsTimers s → (trigger : Trigger) (now : ℕ) → IsFor (by_source_reaction.procedures s) trigger
    → (done : Done (NodeState SourceMemory)) × by_source_reaction.does s trigger now done
source_does s accepted timers trigger now own = does_by s accepted timers trigger.occurrence now trigger.procedure own
