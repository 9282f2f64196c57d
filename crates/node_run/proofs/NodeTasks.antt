-- The run of a handler by a node is its next task.
use Rattle.std.proofs.Common.{◌≡◌, ◌-◌, ◌≤◌, arith, ℕ, ◌+◌, Bool, true, false, List, [], ◌∷◌, ◌++◌, inl, inr, ◌⊎◌, Option, None, Some, append-nil, refl, ap, sym, subst, ◌∙◌, slice_get}
use Rattle.std.specs.Prelude.{◌==◌, length, ℤ, IsErrAnd, IsErrOf, IsSome, Result, Ok, Err}
use Rattle.texts.specs.Fault.{HasRisen}
use Rattle.vm_host.specs.declared.host.RecordFault.{RecordFault}
use Rattle.vm_host.specs.declared.host.RecordFault.TheVariants.{Sink, NoMemory}
use Rattle.node_run.specs.declared.node.TaskEnd.{TaskEnd}
use Rattle.node_run.specs.declared.node.TaskFault.{TaskFault}
use Rattle.node_run.specs.declared.node.TaskFault.TheVariants as faults
use Rattle.node_run.specs.Inside.Fault.{IsTaskFault}
use Rattle.std.specs.Option.{IfSome, MatchOption}
use Rattle.std.proofs.lemmas.List.{append_assoc}
use Rattle.can_frame.specs.Frame.{FrameFields}
use Rattle.run_effects.specs.Effect.{Effect, Line, Send, Stop, Set, Cancel}
use Rattle.run_effects.specs.declared.outcome.Outcome.{Outcome}
use Rattle.run_effects.specs.declared.outcome.Outcome.TheVariants.{Done as Ended, Trapped, Cut}
use Rattle.run_effects.specs.declared.outcome.TrapKind.TheVariants.{ZeroDivisor, Index}
use Rattle.run_records.specs.declared.record.Noted.{Noted}
use Rattle.run_records.specs.declared.record.Noted.TheVariants as entry
use Rattle.run_records.specs.Record.{RecordMeaning, RefusesEntry}
use Rattle.timer_queue.specs.Timers.{Timers, active_timers}
use Rattle.bytecode.specs.declared.code.Code.{Code}
use Rattle.bytecode.specs.declared.code.Fun.{Fun}
use Rattle.bytecode.specs.declared.code.Handler.{Handler}
use Rattle.bytecode.specs.Laws.{BeginsWith}
use Rattle.bytecode.specs.Machine.{Machine}
use Rattle.bytecode.specs.Runs.{EndsIn}
use Rattle.bytecode.proofs.RowEffects.{BeginsWith-self}
use Rattle.bytecode.proofs.RunLemmas.{one_end}
use Rattle.stack_vm.specs.declared.meter.MeterRow.{MeterRow}
use Rattle.stack_vm.specs.Memory.{MemoryState}
use Rattle.stack_vm.specs.Meter.{AddsRun}
use Rattle.stack_vm.specs.Quiet.{IsQuietHandler}
use Rattle.node_rounds.specs.declared.occurrence.Occurrence.{Occurrence}
use Rattle.node_rounds.specs.declared.occurrence.Trigger.{Trigger}
use Rattle.std.specs.List.{All}
use Rattle.node_rounds.specs.Effects.{IsTimerEffect, halt_lines, halts, written_lines, timers_after as effects_on, TakesEntries, line_entries}
use Rattle.node_rounds.specs.Reaction.{Done, DoesProcedure, NodeState, RunEnd, is_closed, timers_at_begin, with_procedure, without_procedure}
use Rattle.node_rounds.specs.Round.{Doing, DoesNext, Rest, Task, due_trigger, next_first, next_last, next_of, timer_or_last, next_trigger, task_of}
use Rattle.node_rounds.proofs.MovingTimers.{count_at_begin}
use Rattle.node_run.specs.Code.{CodeMemory, EndsByCode, by_code, cells_with_this, code_reaction}
use Rattle.node_run.specs.Inside.Agenda.{IsNextTaken, next_in}
use Rattle.node_run.specs.Inside.Handler.{BeginsHere, RefusesHandler, RunsHandler}
use Rattle.node_run.specs.Inside.Host.{Parts, PartsRefuse, parts}
use Rattle.node_run.proofs.SameMachine.{same_machine}
use Rattle.node_run.specs.Node.{BeginTask, DoesTask, HasQuietTask, IsMetered, IsTaskRefused, NodeInRound}

-- ---- lists

-- entries in order, and then further ones
takes_more : {R : Type 0} (meaning : RecordMeaning R) (a : R) (xs ys : List Noted) (b c : R) → TakesEntries meaning a xs b → TakesEntries meaning b ys c → TakesEntries meaning a (xs ++ ys) c
takes_more meaning a [] ys b c first second = subst (λ z. TakesEntries meaning z ys c) first second
takes_more meaning a (x ∷ xs) ys b c first second = (first.0, first.1, takes_more meaning first.0 xs ys b c first.2 second)

-- the entries of lines in two parts
entries_append : (now node : ℕ) (xs ys : List (List ℕ)) → line_entries now node (xs ++ ys) ≡ line_entries now node xs ++ line_entries now node ys
entries_append now node [] ys = refl
entries_append now node (x ∷ xs) ys = ap (λ (es : List Noted). entry.Line now node x ∷ es) (entries_append now node xs ys)

-- the lines of effects in two parts
lines_append : (xs ys : List Effect) → written_lines (xs ++ ys) ≡ written_lines xs ++ written_lines ys
lines_append [] ys = refl
lines_append (Line text ∷ xs) ys = ap (λ (ls : List (List ℕ)). text ∷ ls) (lines_append xs ys)
lines_append (Send frame ∷ xs) ys = lines_append xs ys
lines_append (Stop ∷ xs) ys = lines_append xs ys
lines_append (Set timer micros cyclic ∷ xs) ys = lines_append xs ys
lines_append (Cancel timer ∷ xs) ys = lines_append xs ys

-- the lines of a run begin with those of its first effects
lines_begin : (effects first : List Effect) (more : List (List ℕ)) → BeginsWith effects first → BeginsWith (written_lines effects ++ more) (written_lines first)
lines_begin effects first more begins =
    (written_lines begins.0 ++ more, ap (λ (ls : List (List ℕ)). ls ++ more) (ap written_lines begins.1 ∙ lines_append first begins.0) ∙ append_assoc (written_lines first) (written_lines begins.0) more)

-- ---- what is next

some_same : {X : Type 0} {a b : X} → Some a ≡ Some b → a ≡ b
some_same h = cc

-- ---- the machine's run

-- two states in which one handler begins are the same
same_start : {B R : Type 0} (code : Code) (handler turns : ℕ) (memory : MemoryState) (before : Parts B R) (start : Machine)
    (node : CodeMemory) (occurrence : Occurrence) (now : ℕ) (end : RunEnd CodeMemory)
    → BeginsHere code handler turns memory before start → (e : EndsByCode node handler occurrence now (active_timers before.timers) end)
    → node.code ≡ code → node.turns ≡ turns → memory.cells ≡ cells_with_this occurrence now node.cells → e.start ≡ start
same_start code handler turns memory before start node occurrence now end b e of_code with_turns cells =
    let one : Some e.is_start.handler ≡ Some b.is_start.handler =
    sym e.is_start.is_handler ∙ ap (λ (c : Code). slice_get c.handlers handler) of_code ∙ b.is_start.is_handler in
    let handler_same : e.is_start.handler ≡ b.is_start.handler = some_same one in
    let two : Some e.is_start.function ≡ Some b.is_start.function =
    sym e.is_start.is_function ∙ ap (λ (c : Code). slice_get c.functions e.is_start.handler.function) of_code
    ∙ ap (λ (h : Handler). slice_get code.functions h.function) handler_same ∙ b.is_start.is_function in
    same_machine e.start start
    (e.is_start.at_start ∙ ap (λ (f : Fun). f.start) (some_same two) ∙ sym b.is_start.at_start)
    (e.is_start.no_numbers ∙ sym b.is_start.no_numbers)
    (e.is_start.no_calls ∙ sym b.is_start.no_calls)
    (e.cells ∙ sym cells ∙ sym b.cells)
    (e.turns_given ∙ with_turns ∙ sym b.turns_given)
    (e.active ∙ sym b.active)
    (e.no_effects ∙ sym b.no_effects)

-- what the next trigger of a node is, and how its handler begins
pub record IsNextRun {B R : Type 0} (node : NodeInRound) (trigger : Trigger) (rest : Rest) (handler : ℕ) (memory : MemoryState) (before : Parts B R) (start : Machine) : Type 0 where
  pub next : next_of code_reaction node.moment node.doing ≡ Some (trigger, rest)
  pub runs : trigger.procedure ≡ Some handler
  pub begins : BeginsHere node.doing.node.memory.code handler node.doing.node.memory.turns memory before start
  pub this : memory.cells ≡ cells_with_this trigger.occurrence node.moment node.doing.node.memory.cells
  pub fires : before.timers ≡ timers_at_begin trigger.occurrence node.moment node.doing.node.timers

-- the ends of a run begin with these effects
abbrev pub AllBeginWith : Code → Bool → ℕ → Machine → List Effect → Type 0
AllBeginWith code closed moment start effects = (outcome : Outcome) (last : Machine) → EndsIn code closed moment start outcome last → BeginsWith last.effects effects

-- the procedure of the next trigger that a task did
procedure_of : (node : NodeInRound) (trigger : Trigger) (rest : Rest) (handler : ℕ) → next_of code_reaction node.moment node.doing ≡ Some (trigger, rest) → trigger.procedure ≡ Some handler
    → (task : Task) (after : Doing (NodeState CodeMemory)) → (n : DoesNext code_reaction node.moment node.doing task after)
    → DoesProcedure by_code node.doing.node handler trigger.occurrence node.moment n.done
procedure_of node trigger rest handler next runs task after n =
    let same : (n.trigger, after.rest) ≡ (trigger, rest) = some_same (sym n.is_next ∙ next) in
    let own : n.trigger ≡ trigger = ap (λ z. z.0) same in
    let does = subst (λ (t : Trigger). code_reaction.does node.doing.node t node.moment n.done) own n.does in
    subst (λ (p : Option ℕ). MatchOption p (n.done ≡ without_procedure node.doing.node trigger.occurrence node.moment)
    (λ h. DoesProcedure by_code node.doing.node h trigger.occurrence node.moment n.done)) runs does

-- the lines of the next task begin with those of effects with which each end of its run begins
pub lines_begin_task : {B R : Type 0} (node : NodeInRound) (trigger : Trigger) (rest : Rest) (handler : ℕ) (memory : MemoryState) (before : Parts B R) (start : Machine) (effects : List Effect)
    → IsNextRun node trigger rest handler memory before start → AllBeginWith node.doing.node.memory.code (is_closed trigger.occurrence) node.moment start effects
    → BeginTask node (written_lines effects)
lines_begin_task node trigger rest handler memory before start effects run first task after n =
    let p = procedure_of node trigger rest handler run.next run.runs task after n in
    let e = subst (λ (t : Timers). EndsByCode node.doing.node.memory handler trigger.occurrence node.moment (active_timers t) p.end) (sym run.fires) p.ends in
    let same : e.start ≡ start =
    same_start node.doing.node.memory.code handler node.doing.node.memory.turns memory before start node.doing.node.memory trigger.occurrence node.moment p.end
    run.begins e refl refl run.this in
    let begins : BeginsWith e.last.effects effects =
    first p.end.outcome e.last (subst (λ (m : Machine). EndsIn node.doing.node.memory.code (is_closed trigger.occurrence) node.moment m p.end.outcome e.last) same e.ends) in
    subst (λ ls. BeginsWith ls (written_lines effects)) (sym (ap (λ (t : Task). t.lines) n.is_task ∙ ap (λ (d : Done (NodeState CodeMemory)). d.lines) p.is))
    (lines_begin p.end.effects effects (halt_lines p.end.outcome) (subst (λ es. BeginsWith es effects) (sym e.effects) begins))

-- the lines of the next task are those of the end of its run, and then the line that tells a halt
pub lines_of_task : {B R : Type 0} (node : NodeInRound) (trigger : Trigger) (rest : Rest) (handler : ℕ) (memory : MemoryState) (before : Parts B R) (start : Machine) (outcome : Outcome) (last : Machine)
    → IsNextRun node trigger rest handler memory before start → EndsIn node.doing.node.memory.code (is_closed trigger.occurrence) node.moment start outcome last
    → BeginTask node (written_lines last.effects ++ halt_lines outcome)
lines_of_task node trigger rest handler memory before start outcome last run ends task after n =
    let p = procedure_of node trigger rest handler run.next run.runs task after n in
    let e = subst (λ (t : Timers). EndsByCode node.doing.node.memory handler trigger.occurrence node.moment (active_timers t) p.end) (sym run.fires) p.ends in
    let same : e.start ≡ start =
    same_start node.doing.node.memory.code handler node.doing.node.memory.turns memory before start node.doing.node.memory trigger.occurrence node.moment p.end
    run.begins e refl refl run.this in
    let once = one_end node.doing.node.memory.code (is_closed trigger.occurrence) node.moment start p.end.outcome outcome e.last last
    (subst (λ (m : Machine). EndsIn node.doing.node.memory.code (is_closed trigger.occurrence) node.moment m p.end.outcome e.last) same e.ends) ends in
    let effects : p.end.effects ≡ last.effects = e.effects ∙ ap (λ (m : Machine). m.effects) once.1 in (
      [],
      ap (λ (t : Task). t.lines) n.is_task ∙ ap (λ (d : Done (NodeState CodeMemory)). d.lines) p.is
          ∙ ap (λ (es : List Effect). written_lines es ++ halt_lines p.end.outcome) effects ∙ ap (λ (o : Outcome). written_lines last.effects ++ halt_lines o) once.0
          ∙ sym (append-nil (written_lines last.effects ++ halt_lines outcome)),
    )

-- the next task halts the node where the end of its run does
pub halted_by_task : {B R : Type 0} (node : NodeInRound) (trigger : Trigger) (rest : Rest) (handler : ℕ) (memory : MemoryState) (before : Parts B R) (start : Machine) (outcome : Outcome) (last : Machine)
    → IsNextRun node trigger rest handler memory before start → EndsIn node.doing.node.memory.code (is_closed trigger.occurrence) node.moment start outcome last
    → (task : Task) (after : Doing (NodeState CodeMemory)) → DoesNext code_reaction node.moment node.doing task after → after.node.is_halted ≡ halts outcome
halted_by_task node trigger rest handler memory before start outcome last run ends task after n =
    let p = procedure_of node trigger rest handler run.next run.runs task after n in
    let e = subst (λ (t : Timers). EndsByCode node.doing.node.memory handler trigger.occurrence node.moment (active_timers t) p.end) (sym run.fires) p.ends in
    let same : e.start ≡ start =
    same_start node.doing.node.memory.code handler node.doing.node.memory.turns memory before start node.doing.node.memory trigger.occurrence node.moment p.end
    run.begins e refl refl run.this in
    let once = one_end node.doing.node.memory.code (is_closed trigger.occurrence) node.moment start p.end.outcome outcome e.last last
    (subst (λ (m : Machine). EndsIn node.doing.node.memory.code (is_closed trigger.occurrence) node.moment m p.end.outcome e.last) same e.ends) ends in
    ap (λ (s : NodeState CodeMemory). s.is_halted) (n.stands ∙ ap (λ (d : Done (NodeState CodeMemory)). d.after) p.is) ∙ ap halts once.0

-- the lines of effects and then one line more are those of the effects and this line
line_next : (node : NodeInRound) (effects : List Effect) (text : List ℕ) → BeginTask node (written_lines (effects ++ Line text ∷ [])) → BeginTask node (written_lines effects ++ text ∷ [])
line_next node effects text begins = subst (λ (ls : List (List ℕ)). BeginTask node ls) (lines_append effects (Line text ∷ [])) begins

-- what begins with effects and one more begins with the effects
without_next : (whole effects : List Effect) (effect : Effect) → BeginsWith whole (effects ++ effect ∷ []) → BeginsWith whole effects
without_next whole effects effect begins = (effect ∷ begins.0, begins.1 ∙ append_assoc effects (effect ∷ []) begins.0)

-- ---- a task that only takes a timer

-- a node after a trigger without a procedure
pub does_without : {B R : Type 0} (after_request : B → ℕ → FrameFields → B) (meaning : RecordMeaning R) (number : ℕ) (node : NodeInRound) (bus : B) (into : R) (meter : List MeterRow)
    (trigger : Trigger) (rest : Rest) (timers : Timers) → next_of code_reaction node.moment node.doing ≡ Some (trigger, rest) → trigger.procedure ≡ None
    → timers ≡ timers_at_begin trigger.occurrence node.moment node.doing.node.timers
    → (after : NodeInRound) → after ≡ record node { doing = record { node = record node.doing.node { timers = timers }; rest = rest } }
    → DoesTask after_request meaning number node bus into meter false after bus into meter
does_without {B} {R} after_request meaning number node bus into meter trigger rest timers next none fires after stands =
    let done = without_procedure node.doing.node trigger.occurrence node.moment in
    subst (λ a. DoesTask after_request meaning number node bus into meter false a bus into meter) (sym stands)
    (record {
      task = task_of trigger done;
      next = record {
        trigger = trigger;
        done = done;
        is_next = next;
        does = subst (λ (p : Option ℕ). MatchOption p (done ≡ without_procedure node.doing.node trigger.occurrence node.moment)
            (λ h. DoesProcedure by_code node.doing.node h trigger.occurrence node.moment done)) (sym none) refl;
        is_task = refl;
        stands = ap (λ (t : Timers). record node.doing.node { timers = t }) fires;
      };
      same_moment = refl;
      same_row = refl;
      lines = refl;
      requests = refl;
      stops = refl;
      metered = subst (λ (p : Option ℕ). MatchOption p (meter ≡ meter) (λ h. AddsRun (node.first_row + h) 0 meter meter)) (sym none) refl;
    })

-- ---- a task that runs a procedure

-- how a run of the node ended, as its task has it
abbrev run_end : NodeInRound → MemoryState → Machine → Outcome → RunEnd CodeMemory
run_end node memory last outcome = record {
  memory = record node.doing.node.memory { cells = memory.cells };
  effects = last.effects;
  turns = node.doing.node.memory.turns - last.turns;
  outcome = outcome;
}

-- how a node stands after the run of a procedure
abbrev stands_after : NodeInRound → Rest → MemoryState → Timers → Bool → NodeInRound
stands_after node rest memory timers is_halted = record node {
  doing = record {
    node = record { memory = record node.doing.node.memory { cells = memory.cells }; timers = timers; is_halted = is_halted };
    rest = rest;
  };
}

-- the next trigger of a node was taken, and its timer fired
pub record Took (node : NodeInRound) (trigger : Trigger) (rest : Rest) (timers : Timers) : Type 0 where
  pub next : next_of code_reaction node.moment node.doing ≡ Some (trigger, rest)
  pub fires : timers ≡ timers_at_begin trigger.occurrence node.moment node.doing.node.timers

-- a handler of a trigger that was taken is to run in a memory that has `this`
pub record Runs (node : NodeInRound) (trigger : Trigger) (handler : ℕ) (closed : Bool) (memory : MemoryState) : Type 0 where
  pub runs : trigger.procedure ≡ Some handler
  pub this : memory.cells ≡ cells_with_this trigger.occurrence node.moment node.doing.node.memory.cells
  pub closing : closed ≡ is_closed trigger.occurrence

-- what the node has done
abbrev done_with : NodeInRound → Trigger → MemoryState → Machine → Outcome → Done (NodeState CodeMemory)
done_with node trigger memory last outcome = with_procedure node.doing.node trigger.occurrence node.moment (run_end node memory last outcome)

module _ {B R : Type 0} (after_request : B → ℕ → FrameFields → B) (meaning : RecordMeaning R) (number : ℕ) (node : NodeInRound) (bus : B) (into : R) (meter : List MeterRow)
    (trigger : Trigger) (rest : Rest) (timers : Timers) (handler : ℕ) (closed : Bool) (memory memory_after : MemoryState) (took : Took node trigger rest timers) (runs : Runs node trigger handler closed memory)
    (outcome : Outcome) (stop : Bool) (bus_after : B) (between : R) (timers_after : Timers) (meter_after : List MeterRow)
    (code : Code) (same_code : code ≡ node.doing.node.memory.code)
    (run_of_code : RunsHandler after_request meaning code closed handler node.doing.node.memory.turns (node.first_row + handler) memory
    (parts number node.moment false bus into timers) meter outcome memory_after (parts number node.moment stop bus_after between timers_after) meter_after)
  where
    run : RunsHandler after_request meaning node.doing.node.memory.code closed handler node.doing.node.memory.turns (node.first_row + handler) memory
        (parts number node.moment false bus into timers) meter outcome memory_after (parts number node.moment stop bus_after between timers_after) meter_after
    run =
        subst (λ (k : Code). RunsHandler after_request meaning k closed handler node.doing.node.memory.turns (node.first_row + handler) memory
        (parts number node.moment false bus into timers) meter outcome memory_after (parts number node.moment stop bus_after between timers_after) meter_after) same_code run_of_code

    by_procedure : DoesProcedure by_code node.doing.node handler trigger.occurrence node.moment (done_with node trigger memory_after run.last outcome)
    by_procedure = record {
      end = run_end node memory_after run.last outcome;
      ends = record {
        start = run.start;
        last = run.last;
        is_start = run.begins.is_start;
        cells = run.begins.cells ∙ runs.this;
        active = run.begins.active ∙ ap (λ (t : Timers). active_timers t) took.fires;
        turns_given = run.begins.turns_given;
        no_effects = run.begins.no_effects;
        ends = subst (λ b. EndsIn node.doing.node.memory.code b node.moment run.start outcome run.last) runs.closing run.ends;
        memory_after = ap (λ (cells : List ℤ). record node.doing.node.memory { cells = cells }) run.cells;
        effects = refl;
        turns = refl;
      };
      timers = subst (λ n. All (IsTimerEffect n) run.last.effects)
          (ap (λ (t : Timers). t.count) took.fires ∙ count_at_begin trigger.occurrence node.moment node.doing.node.timers) run.come_to.of_timers;
      is = refl;
    }

    left_timers : timers_after ≡ (done_with node trigger memory_after run.last outcome).after.timers
    left_timers = run.come_to.timers ∙ ap (λ (t : Timers). effects_on node.moment t run.last.effects) took.fires

    -- the run is the next task
    next_with : (halted : Bool) → halted ≡ halts outcome
        → DoesNext code_reaction node.moment node.doing (task_of trigger (done_with node trigger memory_after run.last outcome)) (stands_after node rest memory_after timers_after halted).doing
    next_with halted halt = record {
      trigger = trigger;
      done = done_with node trigger memory_after run.last outcome;
      is_next = took.next;
      does = subst (λ (p : Option ℕ). MatchOption p (done_with node trigger memory_after run.last outcome ≡ without_procedure node.doing.node trigger.occurrence node.moment)
          (λ h. DoesProcedure by_code node.doing.node h trigger.occurrence node.moment (done_with node trigger memory_after run.last outcome))) (sym runs.runs) by_procedure;
      is_task = refl;
      stands = ap (λ (b : Bool). record { memory = record node.doing.node.memory { cells = memory_after.cells }; timers = timers_after; is_halted = b }) halt
          ∙ ap (λ (t : Timers). record { memory = record node.doing.node.memory { cells = memory_after.cells }; timers = t; is_halted = halts outcome }) left_timers;
    }

    metered_with : IsMetered node.first_row (task_of trigger (done_with node trigger memory_after run.last outcome)) meter meter_after
    metered_with = subst (λ (p : Option ℕ). MatchOption p (meter_after ≡ meter) (λ h. AddsRun (node.first_row + h) (node.doing.node.memory.turns - run.last.turns) meter meter_after)) (sym runs.runs) run.metered

    -- the run of a procedure is the next task, with the line that tells a halt
    pub does_with : (into_after : R) (halted : Bool) → TakesEntries meaning between (line_entries node.moment number (halt_lines outcome)) into_after → halted ≡ halts outcome
        → DoesTask after_request meaning number node bus into meter stop (stands_after node rest memory_after timers_after halted) bus_after into_after meter_after
    does_with into_after halted lines halt = record {
      task = task_of trigger (done_with node trigger memory_after run.last outcome);
      next = next_with halted halt;
      same_moment = refl;
      same_row = refl;
      lines = subst (λ es. TakesEntries meaning into es into_after) (sym (entries_append node.moment number (written_lines run.last.effects) (halt_lines outcome)))
          (takes_more meaning into (line_entries node.moment number (written_lines run.last.effects)) (line_entries node.moment number (halt_lines outcome)) between into_after run.come_to.lines lines);
      requests = run.come_to.requests;
      stops = run.come_to.stops;
      metered = metered_with;
    }

    next_run : IsNextRun node trigger rest handler memory (parts number node.moment false bus into timers) run.start
    next_run = record { next = took.next; runs = runs.runs; begins = run.begins; this = runs.this; fires = took.fires }

    -- where the run halts the node, its task does
    pub halts_as_task : (task : Task) (after : Doing (NodeState CodeMemory)) → DoesNext code_reaction node.moment node.doing task after → after.node.is_halted ≡ halts outcome
    halts_as_task =
        halted_by_task node trigger rest handler memory (parts number node.moment false bus into timers) run.start outcome run.last next_run
        (subst (λ b. EndsIn node.doing.node.memory.code b node.moment run.start outcome run.last) runs.closing run.ends)

    -- a refused line that tells a halt is the last one of the task
    pub refused_halt : (into_after : R) (text : List ℕ) → halt_lines outcome ≡ text ∷ [] → RefusesEntry meaning between (entry.Line node.moment number text) into_after
        → IsTaskRefused meaning number node into into_after meter meter_after
    refused_halt into_after text told refused = record {
      lines = written_lines run.last.effects;
      between = between;
      first_lines = lines_begin_task node trigger rest handler memory (parts number node.moment false bus into timers) run.start run.last.effects next_run
          (λ other last ends.
          let once = one_end node.doing.node.memory.code (is_closed trigger.occurrence) node.moment run.start other outcome last run.last ends
          (subst (λ b. EndsIn node.doing.node.memory.code b node.moment run.start outcome run.last) runs.closing run.ends) in
          subst (λ (m : Machine). BeginsWith m.effects run.last.effects) (sym once.1) (BeginsWith-self run.last.effects));
      taken = run.come_to.lines;
      refusal = inr (
        text,
        refused,
        subst (λ (ls : List (List ℕ)). BeginTask node (written_lines run.last.effects ++ ls)) told
            (lines_of_task node trigger rest handler memory (parts number node.moment false bus into timers) run.start outcome run.last next_run
            (subst (λ b. EndsIn node.doing.node.memory.code b node.moment run.start outcome run.last) runs.closing run.ends)),
      );
      metered = inr (task_of trigger (done_with node trigger memory_after run.last outcome), (stands_after node rest memory_after timers_after (halts outcome)).doing, next_with (halts outcome) refl, metered_with);
    }

-- the procedure of a quiet task is quiet
pub quiet_procedure : {node : NodeInRound} {trigger : Trigger} {rest : Rest} {timers : Timers} {handler : ℕ} → Took node trigger rest timers → trigger.procedure ≡ Some handler
    → HasQuietTask node → IsQuietHandler node.doing.node.memory.code handler
quiet_procedure {node} {trigger} {rest} took runs q =
    let same : (q.next.trigger, q.after.rest) ≡ (trigger, rest) = some_same (sym q.next.is_next ∙ took.next) in
    let own : q.next.trigger ≡ trigger = ap (λ z. z.0) same in
    subst (λ (p : Option ℕ). IfSome p (IsQuietHandler node.doing.node.memory.code))
    (ap (λ (t : Task). t.trigger.procedure) q.next.is_task ∙ ap (λ (t : Trigger). t.procedure) own ∙ runs) q.quiet

-- ---- refusals

-- a record was not asked, or refused the line of the task after these
abbrev RefusesNext : {R : Type 0} → RecordMeaning R → ℕ → NodeInRound → List (List ℕ) → R → R → Type 0
RefusesNext {R} meaning number node lines between after =
    (after ≡ between) ⊎ ((text : List ℕ) × RefusesEntry meaning between (entry.Line node.moment number text) after × BeginTask node (lines ++ text ∷ []))

-- a refused run is refused at the first lines of the task
pub refused_run : {B R : Type 0} (after_request : B → ℕ → FrameFields → B) (meaning : RecordMeaning R) (number : ℕ) (node : NodeInRound) (bus : B) (into : R) (meter meter_after : List MeterRow)
    (trigger : Trigger) (rest : Rest) (timers : Timers) (handler : ℕ) (closed : Bool) (memory : MemoryState) (after : Parts B R) → Took node trigger rest timers → Runs node trigger handler closed memory
    → (code : Code) → code ≡ node.doing.node.memory.code
    → RefusesHandler after_request meaning code closed handler node.doing.node.memory.turns memory (parts number node.moment false bus into timers) after
    → meter_after ≡ meter → IsTaskRefused meaning number node into after.into meter meter_after
refused_run {B} {R} after_request meaning number node bus into meter meter_after trigger rest timers handler closed memory after took runs code same_code run_of_code same =
    refused_own took runs
    (subst (λ (k : Code). RefusesHandler after_request meaning k closed handler node.doing.node.memory.turns memory (parts number node.moment false bus into timers) after) same_code run_of_code) same
  where
    refused_own : Took node trigger rest timers → Runs node trigger handler closed memory
        → RefusesHandler after_request meaning node.doing.node.memory.code closed handler node.doing.node.memory.turns memory (parts number node.moment false bus into timers) after
        → meter_after ≡ meter → IsTaskRefused meaning number node into after.into meter meter_after
    refused_own took runs run same = record {
      lines = written_lines run.at.effects;
      between = run.between.into;
      first_lines = begins run.at.effects (λ outcome last ends. without_next last.effects run.at.effects run.effect (next outcome last ends));
      taken = run.come_to.lines;
      refusal = elim run.refusal as (λ _. RefusesNext meaning number node (written_lines run.at.effects) run.between.into after.into) [ inl same ↦ inl same | inr refused ↦ refused_next run.effect next refused ];
      metered = inl same;
    }
      where
        begins : (effects : List Effect) → AllBeginWith node.doing.node.memory.code (is_closed trigger.occurrence) node.moment run.start effects → BeginTask node (written_lines effects)
        begins effects =
            lines_begin_task node trigger rest handler memory (parts number node.moment false bus into timers) run.start effects
            (record { next = took.next; runs = runs.runs; begins = run.begins; this = runs.this; fires = took.fires })

        next : AllBeginWith node.doing.node.memory.code (is_closed trigger.occurrence) node.moment run.start (run.at.effects ++ run.effect ∷ [])
        next outcome last ends =
            run.next_effect outcome last (subst (λ b. EndsIn node.doing.node.memory.code b node.moment run.start outcome last) (sym runs.closing) ends)

        refused_next : (effect : Effect) → AllBeginWith node.doing.node.memory.code (is_closed trigger.occurrence) node.moment run.start (run.at.effects ++ effect ∷ [])
            → PartsRefuse meaning run.between effect after → RefusesNext meaning number node (written_lines run.at.effects) run.between.into after.into
        refused_next (Line text) next refused = inr (
          text,
          subst (λ m. RefusesEntry meaning run.between.into (entry.Line m number text) after.into) run.come_to.moment
              (subst (λ n. RefusesEntry meaning run.between.into (entry.Line run.between.moment n text) after.into) run.come_to.number refused.0),
          line_next node run.at.effects text (begins (run.at.effects ++ Line text ∷ []) next),
        )
        refused_next (Send frame) next refused = inl refused.0
        refused_next Stop next none = absurd none
        refused_next (Set timer micros cyclic) next none = absurd none
        refused_next (Cancel timer) next none = absurd none

-- ---- what was taken

some_next : (due : Option Trigger) (rest : Rest) (next : Option (Trigger × Rest)) (b : Bool) → next_first rest due rest.first ≡ next → IsSome (next_trigger b due rest)
    → next_trigger b due rest ≡ next
some_next due rest next false is some = is
some_next due rest next true is some = absurd (cc)

taken_of : (node : NodeInRound) (taken : Option Trigger) (trigger : Trigger) (rest : Rest) (timers : Timers)
    → IsSome (next_of code_reaction node.moment node.doing) → taken ≡ Some trigger
    → (next : Option (Trigger × Rest)) → next_in node.doing.node.memory.code.handlers node.doing.rest node.doing.node.timers node.moment ≡ next
    → MatchOption next (taken ≡ None) (λ n. (taken ≡ Some n.0) × (rest ≡ n.1) × (timers ≡ timers_at_begin n.0.occurrence node.moment node.doing.node.timers))
    → Took node trigger rest timers
taken_of node taken trigger rest timers some is None next none = absurd (let e = sym is ∙ none in cc)
taken_of node taken trigger rest timers some is (Some n) next facts =
    let own : n.0 ≡ trigger = some_same (sym facts.0 ∙ is) in
    record {
      next = some_next _ node.doing.rest (Some n) node.doing.node.is_halted next some
          ∙ ap (λ (t : Trigger). Some (t, n.1)) own ∙ ap (λ (r : Rest). Some (trigger, r)) (sym facts.1);
      fires = facts.2 ∙ ap (λ (t : Trigger). timers_at_begin t.occurrence node.moment node.doing.node.timers) own;
    }

-- what was taken of what was left is what the node does next
pub took : (node view : NodeInRound) (taken : Option Trigger) (trigger : Trigger) (rest : Rest) (timers : Timers)
    → view ≡ node → IsSome (next_of code_reaction node.moment node.doing) → taken ≡ Some trigger
    → IsNextTaken view.doing.node.memory.code.handlers view.doing.rest view.doing.node.timers view.moment taken rest timers → Took view trigger rest timers
took node view taken trigger rest timers is_view some is facts =
    taken_of view taken trigger rest timers (subst (λ n. IsSome (next_of code_reaction n.moment n.doing)) (sym is_view) some) is
    (next_in view.doing.node.memory.code.handlers view.doing.rest view.doing.node.timers view.moment) refl facts

-- whether the lines of a halt are there
pub halt_told : (outcome : Outcome) (text : List ℕ) → halt_lines outcome ≡ text ∷ [] → true ≡ halts outcome
halt_told Ended text is = absurd (cc)
halt_told (Trapped kind) text is = refl
halt_told Cut text is = refl

-- a run that tells no halt is done
pub no_halt_told : (outcome : Outcome) → halt_lines outcome ≡ [] → false ≡ halts outcome
no_halt_told Ended is = refl
no_halt_told (Trapped ZeroDivisor) is = absurd (cc)
no_halt_told (Trapped Index) is = absurd (cc)
no_halt_told Cut is = absurd (cc)

-- ---- a node by the view of its fields

-- a task of a view is one of the node
pub does_at : {B R : Type 0} {after_request : B → ℕ → FrameFields → B} {meaning : RecordMeaning R} {number : ℕ} {view node : NodeInRound} {bus : B} {into : R} {meter : List MeterRow}
    {stop : Bool} {after : NodeInRound} {bus_after : B} {into_after : R} {meter_after : List MeterRow} → view ≡ node
    → DoesTask after_request meaning number view bus into meter stop after bus_after into_after meter_after
    → DoesTask after_request meaning number node bus into meter stop after bus_after into_after meter_after
does_at {after_request} {meaning} {number} {bus} {into} {meter} {stop} {after} {bus_after} {into_after} {meter_after} same does =
    subst (λ (n : NodeInRound). DoesTask after_request meaning number n bus into meter stop after bus_after into_after meter_after) same does

-- a refused task of a view is one of the node
pub refused_at : {R : Type 0} {meaning : RecordMeaning R} {number : ℕ} {view node : NodeInRound} {into into_after : R} {meter meter_after : List MeterRow} → view ≡ node
    → IsTaskRefused meaning number view into into_after meter meter_after → IsTaskRefused meaning number node into into_after meter meter_after
refused_at {meaning} {number} {into} {into_after} {meter} {meter_after} same refused =
    subst (λ (n : NodeInRound). IsTaskRefused meaning number n into into_after meter meter_after) same refused

-- a node that has a task is not halted
pub not_halted : (node view : NodeInRound) → view ≡ node → IsSome (next_of code_reaction node.moment node.doing) → view.doing.node.is_halted ≡ false
not_halted node view is_view some =
    running _ view.doing.rest view.doing.node.is_halted (subst (λ n. IsSome (next_of code_reaction n.moment n.doing)) (sym is_view) some)
  where
    running : (due : Option Trigger) (rest : Rest) (b : Bool) → IsSome (next_trigger b due rest) → b ≡ false
    running due rest false some = refl
    running due rest true some = absurd (cc)

-- ---- what is left

left_last : (rest : Rest) (last : List Trigger) → (length last == 0) ≡ false → IsSome (next_last rest last)
left_last rest [] some = absurd (cc)
left_last rest (trigger ∷ triggers) some = refl

left_timer : (rest : Rest) (due : Option Trigger) → (length rest.last == 0) ≡ false → IsSome (timer_or_last rest due)
left_timer rest None some = left_last rest rest.last some
left_timer rest (Some trigger) some = refl

left_by : (rest : Rest) (due : Option Trigger) (first : List Trigger) (asks : Bool) → ((length first == 0) ≡ false) ⊎ ((length rest.last == 0) ≡ false)
    → IsSome (next_first (record rest { asks_timers = asks }) due first)
left_by rest due (trigger ∷ triggers) asks some = refl
left_by rest due [] true (inl some) = absurd (cc)
left_by rest due [] false (inl some) = absurd (cc)
left_by rest due [] true (inr some) = left_timer (record rest { asks_timers = true }) due some
left_by rest due [] false (inr some) = left_last (record rest { asks_timers = false }) rest.last some

-- a node that is not halted has a task where a trigger is left
pub is_left : (node view : NodeInRound) → view ≡ node → view.doing.node.is_halted ≡ false
    → ((length view.doing.rest.first == 0) ≡ false) ⊎ ((length view.doing.rest.last == 0) ≡ false) → IsSome (next_of code_reaction node.moment node.doing)
is_left node view is_view running some =
    subst (λ n. IsSome (next_of code_reaction n.moment n.doing)) is_view
    (subst (λ b. IsSome (next_trigger b (due_trigger code_reaction view.doing.node view.moment) view.doing.rest)) (sym running)
    (left_by view.doing.rest (due_trigger code_reaction view.doing.node view.moment) view.doing.rest.first view.doing.rest.asks_timers some))

-- ---- faults

-- a fault of the record is one of its sink
pub sink_failed : (result : Result TaskEnd TaskFault) (fault : RecordFault) → IsErrAnd result (IsTaskFault fault) → IsErrOf result faults.Record → fault ≡ Sink
sink_failed (Ok end) fault and of = absurd (cc)
sink_failed (Err e) Sink and of = refl
sink_failed (Err e) NoMemory and of = absurd (cc)

-- a count that rose after it did not fall, rose
pub rises_from : (a b c : ℕ) → a ≤ b → HasRisen b c → HasRisen a c
rises_from a b c stays rose = elim rose [ inl above ↦ inl (omega arith) | inr top ↦ inr top ]
