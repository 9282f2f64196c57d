-- A sound node does each task for one of its procedures, in one way, stays sound, and asks for classic CAN frames.
use Rattle.std.proofs.Common.{◌≡◌, ◌<◌, ◌≤◌, ◌-◌, arith, ℕ, Bool, List, [], ◌∷◌, length, Option, Some, None, All, Contains, IsSomeAnd, MatchOption, refl, ap, sym, subst, ◌∙◌, slice_get}
use Rattle.std.specs.Prelude.{ℤ, ⊤, false}
use Rattle.std.proofs.lemmas.List.Elements.{All-contains, All-nil}
use Rattle.std.proofs.lemmas.Option.{get_or_from_slice_get}
use Rattle.can_frame.specs.Frame.{IsFrame}
use Rattle.run_effects.specs.Effect.{Effect, Line, Send, Stop, Set, Cancel}
use Rattle.run_effects.specs.declared.outcome.Outcome.{Outcome}
use Rattle.timer_queue.specs.Timers.{IsTimers, Timers, active_timers}
use Rattle.bytecode.specs.declared.code.Code.{Code}
use Rattle.bytecode.specs.declared.code.Fun.{Fun}
use Rattle.bytecode.specs.declared.code.Handler.{Handler}
use Rattle.bytecode.specs.Machine.{Machine, Next, Goes, Ends, Stuck}
use Rattle.bytecode.specs.Runs.{EndsIn, HasEnded, HoldKinds, IsStartOf, steps_left}
use Rattle.bytecode.specs.Step.{go}
use Rattle.bytecode.specs.Tables.{GivesNothing}
use Rattle.bytecode.specs.Verified.{IsVerified}
use Rattle.bytecode.proofs.ListItems.{Item, item_below}
use Rattle.bytecode.proofs.RunLemmas.{one_end}
use Rattle.bytecode.proofs.VerifiedRuns.{runs_to_its_end}
use Rattle.stack_vm.specs.Frame.{message_of}
use Rattle.stack_vm.proofs.FrameLemmas.{HoldKinds-message}
use Rattle.stack_vm.proofs.MemoryLemmas.{HoldKinds-event, HoldKinds-key}
use Rattle.node_rounds.specs.declared.occurrence.Occurrence.{Occurrence}
use Rattle.node_rounds.specs.declared.occurrence.Occurrence.TheVariants as happens
use Rattle.node_rounds.specs.declared.occurrence.Trigger.{Trigger}
use Rattle.node_rounds.specs.Effects.{IsTimerEffect, timers_after, timers_after_one}
use Rattle.node_rounds.specs.Follows.{IsFor}
use Rattle.node_rounds.specs.Procedures.{procedures_for}
use Rattle.node_rounds.specs.Reaction.{Done, DoesProcedure, NodeState, RunEnd, is_closed, timers_at_begin, with_procedure, without_procedure}
use Rattle.node_rounds.proofs.MovingTimers.{count_at_begin, reaction_moves_timers}
use Rattle.node_run.specs.Code.{CodeMemory, EndsByCode, by_code, cells_with_this, code_reaction, events_of}
use Rattle.node_run.specs.Sound.{CanOccur, IsSound}
use Rattle.node_run.proofs.ActiveTimers.{length-active_timers}
use Rattle.node_run.proofs.CodeEffects.{ends_well}
use Rattle.node_run.proofs.SameMachine.{same_machine}
use Rattle.node_run.proofs.SentFrames.{SendsFrame, requests_are_frames}
use Rattle.node_run.proofs.Plans.{length-events, procedures_exist}

-- what a node does by an occurrence: it runs the procedure, if there is one
abbrev DoesBy : NodeState CodeMemory → Occurrence → ℕ → Option ℕ → Done (NodeState CodeMemory) → Type 0
DoesBy s occurrence now procedure done =
    MatchOption procedure (done ≡ without_procedure s occurrence now) (λ p. DoesProcedure by_code s p occurrence now done)

-- ---- one way

some_same : {X : Type 0} {a b : X} → Some a ≡ Some b → a ≡ b
some_same h = cc

same_start : (memory : CodeMemory) (procedure : ℕ) (occurrence : Occurrence) (now : ℕ) (timers : List Bool) (d e : RunEnd CodeMemory)
    → (a : EndsByCode memory procedure occurrence now timers d) → (b : EndsByCode memory procedure occurrence now timers e) → a.start ≡ b.start
same_start memory procedure occurrence now timers d e a b =
    let handler : a.is_start.handler ≡ b.is_start.handler = some_same (sym a.is_start.is_handler ∙ b.is_start.is_handler) in
    let function : a.is_start.function ≡ b.is_start.function =
    some_same (sym a.is_start.is_function ∙ ap (λ (h : Handler). slice_get memory.code.functions h.function) handler ∙ b.is_start.is_function) in
    same_machine a.start b.start (a.is_start.at_start ∙ ap (λ (f : Fun). f.start) function ∙ sym b.is_start.at_start) (a.is_start.no_numbers ∙ sym b.is_start.no_numbers)
    (a.is_start.no_calls ∙ sym b.is_start.no_calls) (a.cells ∙ sym b.cells) (a.turns_given ∙ sym b.turns_given) (a.active ∙ sym b.active) (a.no_effects ∙ sym b.no_effects)

same_run_end : (d e : RunEnd CodeMemory) → d.memory ≡ e.memory → d.effects ≡ e.effects → d.turns ≡ e.turns → d.outcome ≡ e.outcome → d ≡ e
same_run_end d e memory effects turns outcome =
    ap (λ (x : CodeMemory). record d { memory = x }) memory
    ∙ ap (λ (x : List Effect). record d { memory = e.memory; effects = x }) effects
    ∙ ap (λ (x : ℕ). record d { memory = e.memory; effects = e.effects; turns = x }) turns
    ∙ ap (λ (x : Outcome). record e { outcome = x }) outcome

one_run_end : (memory : CodeMemory) (procedure : ℕ) (occurrence : Occurrence) (now : ℕ) (timers : List Bool) (d e : RunEnd CodeMemory)
    → EndsByCode memory procedure occurrence now timers d → EndsByCode memory procedure occurrence now timers e → d ≡ e
one_run_end memory procedure occurrence now timers d e a b =
    let start = same_start memory procedure occurrence now timers d e a b in
    let once = one_end memory.code (is_closed occurrence) now b.start d.outcome e.outcome a.last b.last
    (subst (λ (m : Machine). EndsIn memory.code (is_closed occurrence) now m d.outcome a.last) start a.ends) b.ends in
    let last : a.last ≡ b.last = once.1 in
    same_run_end d e (a.memory_after ∙ ap (λ (m : Machine). record memory { cells = m.cells }) last ∙ sym b.memory_after) (a.effects ∙ ap (λ (m : Machine). m.effects) last ∙ sym b.effects)
    (a.turns ∙ ap (λ (m : Machine). memory.turns - m.turns) last ∙ sym b.turns) once.0

one_way_by : (s : NodeState CodeMemory) (occurrence : Occurrence) (now : ℕ) (done other : Done (NodeState CodeMemory)) (procedure : Option ℕ)
    → DoesBy s occurrence now procedure done → DoesBy s occurrence now procedure other → done ≡ other
one_way_by s occurrence now done other None a b = a ∙ sym b
one_way_by s occurrence now done other (Some p) a b =
    a.is ∙ ap (λ (end : RunEnd CodeMemory). with_procedure s occurrence now end)
    (one_run_end s.memory p occurrence now (active_timers (timers_at_begin occurrence now s.timers)) a.end b.end a.ends b.ends) ∙ sym b.is

-- any node does one thing by a trigger
pub code_one_way : (s : NodeState CodeMemory) (trigger : Trigger) (now : ℕ) (done other : Done (NodeState CodeMemory))
    → code_reaction.does s trigger now done → code_reaction.does s trigger now other → done ≡ other
code_one_way s trigger now done other a b = one_way_by s trigger.occurrence now done other trigger.procedure a b

-- ---- the same code

keeps_by : (s : NodeState CodeMemory) (occurrence : Occurrence) (now : ℕ) (done : Done (NodeState CodeMemory)) (procedure : Option ℕ)
    → DoesBy s occurrence now procedure done → done.after.memory.code ≡ s.memory.code
keeps_by s occurrence now done None does = ap (λ (d : Done (NodeState CodeMemory)). d.after.memory.code) does
keeps_by s occurrence now done (Some p) does =
    ap (λ (d : Done (NodeState CodeMemory)). d.after.memory.code) does.is ∙ ap (λ (m : CodeMemory). m.code) does.ends.memory_after

-- a task leaves any node its code
pub code_keeps_code : (s : NodeState CodeMemory) (trigger : Trigger) (now : ℕ) (done : Done (NodeState CodeMemory))
    → code_reaction.does s trigger now done → done.after.memory.code ≡ s.memory.code
code_keeps_code s trigger now done does = keeps_by s trigger.occurrence now done trigger.procedure does

-- ---- a node stays sound

count_after : (now : ℕ) (effects : List Effect) (timers : Timers) → (timers_after now timers effects).count ≡ timers.count
count_after now [] timers = refl
count_after now (Line text ∷ effects) timers = count_after now effects timers
count_after now (Send frame ∷ effects) timers = count_after now effects timers
count_after now (Stop ∷ effects) timers = count_after now effects timers
count_after now (Set timer micros cyclic ∷ effects) timers = count_after now effects (timers_after_one now timers (Set timer micros cyclic))
count_after now (Cancel timer ∷ effects) timers = count_after now effects (timers_after_one now timers (Cancel timer))

stays_by : (s : NodeState CodeMemory) → IsSound s → (occurrence : Occurrence) (now : ℕ) (done : Done (NodeState CodeMemory)) → IsTimers done.after.timers → (procedure : Option ℕ)
    → DoesBy s occurrence now procedure done → IsSound done.after
stays_by s sound occurrence now done valid None does =
    subst (λ (d : Done (NodeState CodeMemory)). IsTimers d.after.timers → IsSound d.after) (sym does) (λ valid. record {
      verified = sound.verified;
      cells_held = sound.cells_held;
      as_many = count_at_begin occurrence now s.timers ∙ sound.as_many;
      valid = valid;
    }) valid
stays_by s sound occurrence now done valid (Some p) does =
    let e = does.ends in
    let well = ends_well s.memory.code sound.verified p e.start e.is_start e.no_effects (is_closed occurrence) now does.end.outcome e.last e.ends in
    let begun : Timers = timers_at_begin occurrence now s.timers in
    let after : NodeState CodeMemory = (with_procedure s occurrence now does.end).after in
    subst (λ (d : Done (NodeState CodeMemory)). IsTimers d.after.timers → IsSound d.after) (sym does.is)
    (subst (λ (m : CodeMemory). IsTimers after.timers → IsSound (record after { memory = m })) (sym e.memory_after) (λ valid. record {
      verified = sound.verified;
      cells_held = well.cells_held;
      as_many = count_after now does.end.effects begun ∙ count_at_begin occurrence now s.timers ∙ sound.as_many;
      valid = valid;
    })) valid

-- a task leaves a sound node sound
pub code_stays_sound : (s : NodeState CodeMemory) (trigger : Trigger) (now : ℕ) (done : Done (NodeState CodeMemory)) → IsSound s
    → code_reaction.does s trigger now done → IsSound done.after
code_stays_sound s trigger now done sound does =
    stays_by s sound trigger.occurrence now done ((reaction_moves_timers by_code).stays_sound s trigger now done sound.valid does) trigger.procedure does

-- ---- the frames that it asks for

asks_by : (s : NodeState CodeMemory) → IsSound s → (occurrence : Occurrence) (now : ℕ) (done : Done (NodeState CodeMemory)) (procedure : Option ℕ)
    → DoesBy s occurrence now procedure done → All IsFrame done.requests
asks_by s sound occurrence now done None does = subst (λ (d : Done (NodeState CodeMemory)). All IsFrame d.requests) (sym does) (All-nil IsFrame)
asks_by s sound occurrence now done (Some p) does =
    let e = does.ends in
    let well = ends_well s.memory.code sound.verified p e.start e.is_start e.no_effects (is_closed occurrence) now does.end.outcome e.last e.ends in
    subst (λ (d : Done (NodeState CodeMemory)). All IsFrame d.requests) (sym does.is)
    (requests_are_frames does.end.effects (subst (All SendsFrame) (sym e.effects) well.sends))

-- the frames that a task of a sound node asks for are classic CAN frames
pub code_asks : (s : NodeState CodeMemory) (trigger : Trigger) (now : ℕ) (done : Done (NodeState CodeMemory)) → IsSound s
    → code_reaction.does s trigger now done → All IsFrame done.requests
code_asks s trigger now done sound does = asks_by s sound trigger.occurrence now done trigger.procedure does

-- ---- each task

-- with `this` of an occurrence that there can be the cells hold numbers of their kinds
held_with_this : (code : Code) → IsVerified code → (occurrence : Occurrence) (now : ℕ) (cells : List ℤ) → CanOccur occurrence → HoldKinds code.cells cells
    → HoldKinds code.cells (cells_with_this occurrence now cells)
held_with_this code verified happens.PreStart now cells can held = held
held_with_this code verified happens.Start now cells can held = held
held_with_this code verified happens.Stop now cells can held = held
held_with_this code verified (happens.Frame seen) now cells can held =
    HoldKinds-event code verified cells (message_of seen.frame seen.sent now) held (HoldKinds-message seen.frame seen.sent now can)
held_with_this code verified (happens.Timer timer) now cells can held = held
held_with_this code verified (happens.Key key) now cells can held = HoldKinds-key code verified cells key can held

-- where the function of a handler begins
function_of : (functions : List Fun) (number : ℕ) (o : Option Fun) → slice_get functions number ≡ o → IsSomeAnd o (λ function. function.gives ≡ false) → Item functions number
function_of functions number None is there = absurd there
function_of functions number (Some function) is there = record { item = function; is_there = is }

-- a state in which the machine begins a procedure in a memory, with these cells and these timers active
record Begins (memory : CodeMemory) (procedure : ℕ) (cells : List ℤ) (active : List Bool) : Type 0 where
  start : Machine
  is_start : IsStartOf memory.code procedure start
  has_cells : start.cells ≡ cells
  has_active : start.active ≡ active
  has_turns : start.turns ≡ memory.turns
  no_effects : start.effects ≡ []

begins : (memory : CodeMemory) → IsVerified memory.code → (procedure : ℕ) → procedure < length memory.code.handlers → (cells : List ℤ) → HoldKinds memory.code.cells cells
    → (active : List Bool) → length memory.code.timers ≤ length active → Begins memory procedure cells active
begins memory verified procedure there cells held active enough =
    let entry = item_below memory.code.handlers procedure there in
    let gives : GivesNothing memory.code.functions entry.item.function =
    subst (λ (h : Handler). GivesNothing memory.code.functions h.function) (get_or_from_slice_get memory.code.handlers procedure entry.item entry.item entry.is_there)
    (verified.tables.handlers.give_nothing procedure entry.item there) in
    let function = function_of memory.code.functions entry.item.function (slice_get memory.code.functions entry.item.function) refl gives in
    record {
      start = record { place = function.item.start; stack = []; calls = []; cells = cells; turns = memory.turns; active = active; effects = [] };
      is_start = record {
        handler = entry.item;
        function = function.item;
        is_handler = entry.is_there;
        is_function = function.is_there;
        at_start = refl;
        no_numbers = refl;
        no_calls = refl;
        cells_held = held;
        timers_exist = enough;
      };
      has_cells = refl;
      has_active = refl;
      has_turns = refl;
      no_effects = refl;
    }

-- how a run that has ended did so
ended : (next : Next) → HasEnded next → (outcome : Outcome) × (last : Machine) × (next ≡ Ends outcome last)
ended (Goes m) has = absurd has
ended (Ends outcome last) has = (outcome, last, refl)
ended Stuck has = absurd has

-- a procedure of verified code runs to its end, with effects on timers of the code
runs_by : (s : NodeState CodeMemory) → IsSound s → (occurrence : Occurrence) (now : ℕ) (procedure : ℕ)
    → Begins s.memory procedure (cells_with_this occurrence now s.memory.cells) (active_timers (timers_at_begin occurrence now s.timers))
    → (done : Done (NodeState CodeMemory)) × DoesProcedure by_code s procedure occurrence now done
runs_by s sound occurrence now procedure b =
    let code = s.memory.code in
    let closed : Bool = is_closed occurrence in
    let steps : ℕ = steps_left code b.start in
    let e = ended (go code closed now steps b.start) ((runs_to_its_end code procedure b.start sound.verified b.is_start).ends closed now steps (omega arith)) in
    let well = ends_well code sound.verified procedure b.start b.is_start b.no_effects closed now e.0 e.1 (steps, e.2) in
    let end : RunEnd CodeMemory = record { memory = record s.memory { cells = e.1.cells }; effects = e.1.effects; turns = s.memory.turns - e.1.turns; outcome = e.0 } in (
      with_procedure s occurrence now end,
      record {
        end = end;
        ends = record {
          start = b.start;
          last = e.1;
          is_start = b.is_start;
          cells = b.has_cells;
          active = b.has_active;
          turns_given = b.has_turns;
          no_effects = b.no_effects;
          ends = (steps, e.2);
          memory_after = refl;
          effects = refl;
          turns = refl;
        };
        timers = subst (λ n. All (IsTimerEffect n) e.1.effects) (sym sound.as_many) well.on_timers;
        is = refl;
      },
    )

does_by : (s : NodeState CodeMemory) → IsSound s → (occurrence : Occurrence) (now : ℕ) → CanOccur occurrence → (procedure : Option ℕ)
    → MatchOption procedure ⊤ (λ p. Contains (procedures_for (events_of s.memory.code.handlers) occurrence) p) → (done : Done (NodeState CodeMemory)) × DoesBy s occurrence now procedure done
does_by s sound occurrence now can None own = (without_procedure s occurrence now, refl)
does_by s sound occurrence now can (Some p) own =
    let events = events_of s.memory.code.handlers in
    let among : p < length events = All-contains (λ k. k < length events) (procedures_for events occurrence) p (procedures_exist events occurrence) own in
    let begun : Timers = timers_at_begin occurrence now s.timers in
    let count : begun.count ≡ s.timers.count = count_at_begin occurrence now s.timers in
    runs_by s sound occurrence now p
    (begins s.memory sound.verified p (omega (arith, among, length-events s.memory.code.handlers)) (cells_with_this occurrence now s.memory.cells)
    (held_with_this s.memory.code sound.verified occurrence now s.memory.cells can sound.cells_held)
    (active_timers begun) (omega (arith, length-active_timers begun, count, sound.as_many)))

-- a sound node does each task for one of its procedures by an occurrence that there can be
pub code_does : (s : NodeState CodeMemory) (trigger : Trigger) (now : ℕ) → IsSound s → CanOccur trigger.occurrence → IsFor (code_reaction.procedures s) trigger
    → (done : Done (NodeState CodeMemory)) × code_reaction.does s trigger now done
code_does s trigger now sound can own = does_by s sound trigger.occurrence now can trigger.procedure own
