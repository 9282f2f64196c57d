-- What the tasks of a source ask for.
use Rattle.std.proofs.Common.{◌≡◌, ◌≢◌, ℕ, Bool, true, false, List, [], ◌∷◌, Option, Some, None, All, IsSomeAnd, MatchOption, refl, sym, ap, subst, ◌∙◌, slice_get}
use Rattle.std.specs.Prelude.{codes, find, if◌then◌else◌, ⊤}
use Rattle.std.specs.Option.{option_map_or}
use Rattle.std.specs.Str.{bytes_eq}
use Rattle.std.proofs.lemmas.List.Elements.{All-cons, All-from_recursion, All-head, All-nil, All-tail}
use Rattle.std.proofs.lemmas.Slice.Eq.{bytes_eq-Decides}
use Rattle.run_effects.specs.Effect.{Cancel, Effect, Line, Send, Set, Stop}
use Rattle.log_line.specs.Written.{IsLoggable}
use Rattle.timer_queue.specs.Timers.{active_timers}
use Rattle.node_rounds.specs.declared.occurrence.Occurrence.{Occurrence}
use Rattle.node_rounds.specs.declared.occurrence.Trigger.{Trigger}
use Rattle.node_rounds.specs.Effects.{requested_frames, stops_of}
use Rattle.node_rounds.specs.Reaction.{Done, DoesProcedure, NodeState, RunEnd, is_closed, timers_at_begin, without_procedure}
use Rattle.node_rounds.specs.Round.{task_of}
use Rattle.node_run.proofs.SentFrames.{IsFrame-frame_of}
use Rattle.capl_meaning.specs.declared.builtin.Builtin.{Builtin}
use Rattle.capl_meaning.specs.declared.builtin.Builtin.TheVariants as builtin
use Rattle.capl_meaning.specs.Names.{Function, Names, OfLanguage, builtin_named, names_of, OfProgram, Unknown}
use Rattle.capl_meaning.specs.Statement.{Handler, handlers_in}
use Rattle.capl_meaning.specs.Store.{MessageRecord, Store, message_cells, frame_sent}
use Rattle.capl_meaning.specs.Variable.{parts_of}
use Rattle.capl_meaning.specs.Inside.Procedure.{setting_of}
use Rattle.typed_laws.proofs.Declared.{handlers_named}
use Rattle.source_laws.specs.Reaction.{handler_end, this_of, SourceMemory, by_source, by_source_reaction}
use Rattle.source_laws.proofs.ProcedureEffects.{AllCalled, body_fine}
use Rattle.replay_laws.specs.Tasks.{AsksLoggable, AsksNothing}
use Rattle.source_logs.specs.Silent.{IsSilent, called_in}
use Rattle.source_logs.proofs.Programs.{at_place, functions_called, handlers_called}

-- ---- functions of the language

-- what is called as a function of the language has its name
by_builtin : (o : Option Builtin) (f : Option Function) (b : Builtin) → option_map_or OfLanguage o (option_map_or OfProgram f Unknown) ≡ OfLanguage b → o ≡ Some b
by_builtin (Some c) f b is = let same : c ≡ b = cc in ap Some same
by_builtin None None b is = absurd (cc)
by_builtin None (Some f) b is = absurd (cc)

-- one name more that is not this function's
other_name : (b : Bool) (one found : Builtin) (o : Option Builtin) → (one ≡ found → ⊥) → (o ≡ Some found → ⊥) → (if b then Some one else o) ≡ Some found → ⊥
other_name true one found o not rest is = let same : one ≡ found = cc in not same
other_name false one found o not rest is = rest is

-- the name itself
own_name : (name own : List ℕ) (found : Builtin) (o : Option Builtin) → (o ≡ Some found → ⊥) → (if bytes_eq name own then Some found else o) ≡ Some found → name ≡ own
own_name name own found o rest is = go (bytes_eq name own) refl is
  where
    go : (b : Bool) → bytes_eq name own ≡ b → (if b then Some found else o) ≡ Some found → name ≡ own
    go true same e = (bytes_eq-Decides name own).0 same
    go false same e = absurd (rest e)

-- a name that is passed over
passed_name : (b : Bool) (one found : Builtin) (o : Option Builtin) → (one ≡ found → ⊥) → (if b then Some one else o) ≡ Some found → o ≡ Some found
passed_name true one found o not is = absurd (let same : one ≡ found = cc in not same)
passed_name false one found o not is = is

output_named : (name : List ℕ) → builtin_named name ≡ Some builtin.Output → name ≡ codes "output"
output_named name is =
    own_name name (codes "output") builtin.Output _
    (other_name (bytes_eq name (codes "write")) builtin.Write builtin.Output _ (λ e. cc)
    (other_name (bytes_eq name (codes "setTimer")) builtin.SetTimer builtin.Output _ (λ e. cc)
    (other_name (bytes_eq name (codes "setTimerCyclic")) builtin.SetTimerCyclic builtin.Output _ (λ e. cc)
    (other_name (bytes_eq name (codes "cancelTimer")) builtin.CancelTimer builtin.Output _ (λ e. cc)
    (other_name (bytes_eq name (codes "stop")) builtin.Stop builtin.Output _ (λ e. cc)
    (other_name (bytes_eq name (codes "isTimerActive")) builtin.IsTimerActive builtin.Output _ (λ e. cc)
    (other_name (bytes_eq name (codes "timeNow")) builtin.TimeNow builtin.Output _ (λ e. cc)
    (other_name (bytes_eq name (codes "elCount")) builtin.ElCount builtin.Output None (λ e. cc) (λ e. cc))))))))) is

stop_named : (name : List ℕ) → builtin_named name ≡ Some builtin.Stop → name ≡ codes "stop"
stop_named name is =
    own_name name (codes "stop") builtin.Stop _
    (other_name (bytes_eq name (codes "isTimerActive")) builtin.IsTimerActive builtin.Stop _ (λ e. cc)
    (other_name (bytes_eq name (codes "timeNow")) builtin.TimeNow builtin.Stop _ (λ e. cc)
    (other_name (bytes_eq name (codes "elCount")) builtin.ElCount builtin.Stop None (λ e. cc) (λ e. cc))))
    (passed_name (bytes_eq name (codes "cancelTimer")) builtin.CancelTimer builtin.Stop _ (λ e. cc)
    (passed_name (bytes_eq name (codes "setTimerCyclic")) builtin.SetTimerCyclic builtin.Stop _ (λ e. cc)
    (passed_name (bytes_eq name (codes "setTimer")) builtin.SetTimer builtin.Stop _ (λ e. cc)
    (passed_name (bytes_eq name (codes "write")) builtin.Write builtin.Stop _ (λ e. cc)
    (passed_name (bytes_eq name (codes "output")) builtin.Output builtin.Stop _ (λ e. cc) is)))))

-- ---- the effects of a task

module _ (P : Effect → Type 0) (Q : List ℕ → Type 0) (lines : (text : List ℕ) → P (Line text))
    (sent : (name : List ℕ) → Q name → builtin_named name ≡ Some builtin.Output → (message : MessageRecord) → P (Send (frame_sent message)))
    (stopped : (name : List ℕ) → Q name → builtin_named name ≡ Some builtin.Stop → P Stop)
    (set : (timer micros : ℕ) (cyclic : Bool) → P (Set timer micros cyclic)) (cancelled : (timer : ℕ) → P (Cancel timer)) where
  -- of a procedure's run
  handler_fine : (m : SourceMemory) → All Q (called_in m.program) → (procedure : ℕ) (h : Handler) → slice_get (handlers_in m.base m.program) procedure ≡ Some h
      → (occurrence : Occurrence) (now : ℕ) (active : List Bool) → All P (handler_end h m.turns m.store occurrence now active).effects
  handler_fine m own procedure h is occurrence now active =
      let names = names_of m.base m.program in
      let parts = parts_of m.program in
      let same : h.scope.names ≡ names = at_place (λ (g : Handler). g.scope.names ≡ names) (handlers_in m.base m.program) procedure h (All-from_recursion (λ (g : Handler). g.scope.names ≡ names) (handlers_in m.base m.program) (handlers_named names parts)) is in
      let body : AllCalled Q h.body = at_place (λ (g : Handler). AllCalled Q g.body) (handlers_in m.base m.program) procedure h (handlers_called Q names parts own) is in
      let functions : All (λ (f : Function). AllCalled Q f.body) h.scope.names.functions =
      subst (λ (n : Names). All (λ (f : Function). AllCalled Q f.body) n.functions) (sym same) (functions_called Q parts own) in
      body_fine P Q (setting_of h (this_of occurrence now) (is_closed occurrence) now) lines
      (λ name called is message. sent name called (by_builtin (builtin_named name) (find (λ (f : Function). bytes_eq name f.name) h.scope.names.functions) builtin.Output is) message)
      (λ name called is. stopped name called (by_builtin (builtin_named name) (find (λ (f : Function). bytes_eq name f.name) h.scope.names.functions) builtin.Stop is))
      (λ scope names e v is cyclic n. set _ _ cyclic) (λ scope names e v is. cancelled _) functions m.turns h.body body (record { store = m.store; active = active })

  -- and of a task
  effects_fine : {s : NodeState SourceMemory} {procedure : ℕ} {occurrence : Occurrence} {now : ℕ} {done : Done (NodeState SourceMemory)} → All Q (called_in s.memory.program)
      → (does : DoesProcedure by_source s procedure occurrence now done) → All P does.end.effects
  effects_fine {s} {procedure} {occurrence} {now} {done} own does =
      let m = s.memory in
      let active = active_timers (timers_at_begin occurrence now s.timers) in
      let last : RunEnd Store = does.ends.0 in
      let same : does.end.effects ≡ last.effects = ap (λ (e : RunEnd SourceMemory). e.effects) does.ends.2 in
      subst (All P) (sym same) (go (slice_get (handlers_in m.base m.program) procedure) refl last does.ends.1)
    where
      go : (o : Option Handler) → slice_get (handlers_in s.memory.base s.memory.program) procedure ≡ o → (last : RunEnd Store)
          → IsSomeAnd o (λ h. last ≡ handler_end h s.memory.turns s.memory.store occurrence now (active_timers (timers_at_begin occurrence now s.timers))) → All P last.effects
      go None is last ends = absurd ends
      go (Some h) is last ends =
          subst (λ (e : RunEnd Store). All P e.effects) (sym ends) (handler_fine s.memory own procedure h is occurrence now (active_timers (timers_at_begin occurrence now s.timers)))

-- ---- what effects ask for

abbrev CanBeLogged : Effect → Type 0
CanBeLogged (Send frame) = IsLoggable frame
CanBeLogged (Line text) = ⊤
CanBeLogged Stop = ⊤
CanBeLogged (Set timer micros cyclic) = ⊤
CanBeLogged (Cancel timer) = ⊤

abbrev AsksNone : Effect → Type 0
AsksNone (Send frame) = ⊥
AsksNone (Line text) = ⊤
AsksNone Stop = ⊥
AsksNone (Set timer micros cyclic) = ⊤
AsksNone (Cancel timer) = ⊤

requests_logged : (effects : List Effect) → All CanBeLogged effects → All IsLoggable (requested_frames effects)
requests_logged [] all = All-nil _
requests_logged (Line text ∷ effects) all = requests_logged effects (All-tail CanBeLogged (Line text) effects all)
requests_logged (Send frame ∷ effects) all = All-cons IsLoggable frame (requested_frames effects) (All-head CanBeLogged (Send frame) effects all) (requests_logged effects (All-tail CanBeLogged (Send frame) effects all))
requests_logged (Stop ∷ effects) all = requests_logged effects (All-tail CanBeLogged Stop effects all)
requests_logged (Set timer micros cyclic ∷ effects) all = requests_logged effects (All-tail CanBeLogged (Set timer micros cyclic) effects all)
requests_logged (Cancel timer ∷ effects) all = requests_logged effects (All-tail CanBeLogged (Cancel timer) effects all)

nothing_asked : (effects : List Effect) → All AsksNone effects → (requested_frames effects ≡ []) × (stops_of effects ≡ false)
nothing_asked [] all = (refl, refl)
nothing_asked (Line text ∷ effects) all = nothing_asked effects (All-tail AsksNone (Line text) effects all)
nothing_asked (Send frame ∷ effects) all = absurd (All-head AsksNone (Send frame) effects all)
nothing_asked (Stop ∷ effects) all = absurd (All-head AsksNone Stop effects all)
nothing_asked (Set timer micros cyclic ∷ effects) all = nothing_asked effects (All-tail AsksNone (Set timer micros cyclic) effects all)
nothing_asked (Cancel timer ∷ effects) all = nothing_asked effects (All-tail AsksNone (Cancel timer) effects all)

-- ---- tasks

-- the frame of each message can be logged
sent_loggable : (message : MessageRecord) → IsLoggable (frame_sent message)
sent_loggable message = record { valid = IsFrame-frame_of (message_cells message) refl; channel = refl }

logged_by : (s : NodeState SourceMemory) (occurrence : Occurrence) (now : ℕ) (done : Done (NodeState SourceMemory)) (procedure : Option ℕ)
    → MatchOption procedure (done ≡ without_procedure s occurrence now) (λ p. DoesProcedure by_source s p occurrence now done) → All IsLoggable done.requests
logged_by s occurrence now done None does = subst (λ (d : Done (NodeState SourceMemory)). All IsLoggable d.requests) (sym does) (All-nil _)
logged_by s occurrence now done (Some p) does =
    subst (λ (d : Done (NodeState SourceMemory)). All IsLoggable d.requests) (sym does.is)
    (requests_logged does.end.effects
    (effects_fine CanBeLogged (λ name. ⊤) (λ text. tt) (λ name own is message. sent_loggable message) (λ name own is. tt) (λ timer micros cyclic. tt) (λ timer. tt) (λ k d within. tt) does))

-- a log line can carry each frame that a source's task asks for
pub task_logged : (s : NodeState SourceMemory) (trigger : Trigger) (now : ℕ) (done : Done (NodeState SourceMemory)) → by_source_reaction.does s trigger now done → AsksLoggable (task_of trigger done)
task_logged s trigger now done does = logged_by s trigger.occurrence now done trigger.procedure does

nothing_by : (s : NodeState SourceMemory) → IsSilent s.memory.program → (occurrence : Occurrence) (now : ℕ) (done : Done (NodeState SourceMemory)) (procedure : Option ℕ)
    → MatchOption procedure (done ≡ without_procedure s occurrence now) (λ p. DoesProcedure by_source s p occurrence now done) → (done.requests ≡ []) × (done.stops ≡ false)
nothing_by s silent occurrence now done None does = (ap (λ (d : Done (NodeState SourceMemory)). d.requests) does, ap (λ (d : Done (NodeState SourceMemory)). d.stops) does)
nothing_by s silent occurrence now done (Some p) does =
    let none = nothing_asked does.end.effects
    (effects_fine AsksNone (λ name. (name ≢ codes "output") × (name ≢ codes "stop")) (λ text. tt) (λ name own is message. absurd (own.0 (output_named name is)))
    (λ name own is. absurd (own.1 (stop_named name is))) (λ timer micros cyclic. tt) (λ timer. tt) silent does) in
    (ap (λ (d : Done (NodeState SourceMemory)). d.requests) does.is ∙ none.0, ap (λ (d : Done (NodeState SourceMemory)). d.stops) does.is ∙ none.1)

-- a silent source's task asks for nothing
pub task_nothing : (s : NodeState SourceMemory) (trigger : Trigger) (now : ℕ) (done : Done (NodeState SourceMemory)) → IsSilent s.memory.program → by_source_reaction.does s trigger now done
    → AsksNothing (task_of trigger done)
task_nothing s trigger now done silent does = nothing_by s silent trigger.occurrence now done trigger.procedure does

program_by : (s : NodeState SourceMemory) (occurrence : Occurrence) (now : ℕ) (done : Done (NodeState SourceMemory)) (procedure : Option ℕ)
    → MatchOption procedure (done ≡ without_procedure s occurrence now) (λ p. DoesProcedure by_source s p occurrence now done) → done.after.memory.program ≡ s.memory.program
program_by s occurrence now done None does = ap (λ (d : Done (NodeState SourceMemory)). d.after.memory.program) does
program_by s occurrence now done (Some p) does =
    ap (λ (d : Done (NodeState SourceMemory)). d.after.memory.program) does.is ∙ ap (λ (e : RunEnd SourceMemory). e.memory.program) does.ends.2

-- a task leaves the program of its node
pub program_stays : (s : NodeState SourceMemory) (trigger : Trigger) (now : ℕ) (done : Done (NodeState SourceMemory)) → by_source_reaction.does s trigger now done → done.after.memory.program ≡ s.memory.program
program_stays s trigger now done does = program_by s trigger.occurrence now done trigger.procedure does
