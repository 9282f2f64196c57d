-- The code of a source follows the source.
use Rattle.std.proofs.Common.{◌≡◌, ℕ, zero, suc, ◌-◌, Bool, List, [], ◌∷◌, ◌++◌, length, map, replicate, Option, Some, None, Contains, IsSomeAnd, refl, sym, ap, ◌∙◌, subst, subst₂, slice_get}
use Rattle.std.specs.Prelude.{ℤ, pos}
use Rattle.std.specs.List.{AllByRecursion, AllZip}
use Rattle.std.specs.Option.{option_map}
use Rattle.std.proofs.lemmas.Option.{slice_get-map}
use Rattle.dbc_reader.specs.declared.message.DbcMessage.{DbcMessage}
use Rattle.capl_tree.specs.declared.file.Program.{Program}
use Rattle.run_effects.specs.declared.event.Event.{Event}
use Rattle.timer_queue.specs.Timers.{inactive}
use Rattle.bytecode.specs.declared.code.Code.{Code}
use Rattle.bytecode.specs.declared.code.Handler.{Handler}
use Rattle.bytecode.specs.Runs.{HoldKinds}
use Rattle.node_rounds.specs.declared.occurrence.Occurrence.{Occurrence}
use Rattle.node_rounds.specs.Follows.{EndAlike, NodesAlike, RunsFollow}
use Rattle.node_rounds.specs.Procedures.{procedures_for}
use Rattle.node_rounds.specs.Reaction.{RunEnd, is_closed}
use Rattle.node_run.specs.Code.{CodeMemory, EndsByCode, by_code, cells_with_this, events_of}
use Rattle.node_run.specs.Node.{loaded}
use Rattle.capl_meaning.specs.Variable.{parts_of}
use Rattle.capl_meaning.specs.Names.{names_of}
use Rattle.capl_meaning.specs.Store.{Store, This, event_cells, event_kinds, laid_kinds, lay}
use Rattle.capl_meaning.specs.Expression.{Memory}
use Rattle.capl_meaning.specs.Statement as source
use Rattle.capl_meaning.specs.Statement.{Ending, ending_of, handlers_in}
use Rattle.source_laws.specs.Reaction.{handler_end, this_of, SourceMemory, by_source, first_source_node, with_end}
use Rattle.typed_laws.specs.Seen.{SameSeen}
use Rattle.typed_laws.proofs.EventCells.{some_event}
use Rattle.typed_laws.proofs.SeenStatements.{ending_seen}
use Rattle.source_laws.specs.Code.{HasSourceTables, IsEntryOf, IsSourceCode}
use Rattle.source_laws.specs.Ends.{HasEndedAs, IsBegun}
use Rattle.source_laws.specs.Stands.{StandsFor}
use Rattle.source_laws.proofs.SourceCode.{source_tables}
use Rattle.source_laws.proofs.SourceRuns.{ends_as_source, zip_left}
use Rattle.source_laws.proofs.SeenEvents.{IsFormOf, cells_seen, handlers_formed, procedure_sees, this_seen, whole_if_held}

-- ---- what the procedures react to

events_same : (lines : List (List ℕ)) (handlers : List source.Handler) (entries : List Handler) → AllZip (IsEntryOf lines) handlers entries → map (λ (h : source.Handler). h.event) handlers ≡ events_of entries
events_same lines [] [] all = refl
events_same lines [] (entry ∷ entries) all = elim all [ ]
events_same lines (handler ∷ handlers) [] all = elim all [ ]
events_same lines (handler ∷ handlers) (entry ∷ entries) all =
    ap (λ (e : Event). e ∷ map (λ (h : source.Handler). h.event) handlers) (sym all.0.event) ∙ ap (λ (es : List Event). entry.event ∷ es) (events_same lines handlers entries all.1)

-- what holds of each item holds of the one at a place
at_place : {A : Type 0} (P : A → Type 0) (xs : List A) (i : ℕ) (x : A) → AllByRecursion P xs → slice_get xs i ≡ Some x → P x
at_place P [] i x all e = absurd (let f : None ≡ Some x = e in cc)
at_place P (y ∷ xs) zero x all e = let f : Some y ≡ Some x = e in let same : y ≡ x = cc in subst P same all.0
at_place P (y ∷ xs) (suc i) x all e = at_place P xs i x all.1 e

-- ---- the end of a run

module _ (c : CodeMemory) (s : SourceMemory) (is : StandsFor c s) where
  tables : HasSourceTables s.base s.program is.lines c.code
  tables = source_tables s.base s.program is.lines c.code is.code_is

  -- the procedures of the code react to what those of the source do
  same_events : by_source.events s ≡ by_code.events c
  same_events = events_same is.lines (handlers_in s.base s.program) c.code.handlers tables.handlers

  -- the event that the cells hold
  held_event : (t : This) × (event_cells t ≡ is.event)
  held_event = some_event is.event is.event_has

  -- a procedure sees of the cells what its source says
  sees : (occurrence : Occurrence) (now procedure : ℕ) (handler : source.Handler) → Contains (procedures_for (by_code.events c) occurrence) procedure
      → slice_get (handlers_in s.base s.program) procedure ≡ Some handler → SameSeen handler.scope.this (this_seen occurrence now held_event.0) (this_of occurrence now)
  sees occurrence now procedure handler among e =
      let found = procedure_sees (by_code.events c) occurrence now held_event.0 procedure among in
      let own : slice_get (by_code.events c) procedure ≡ Some handler.event =
      ap (λ (es : List Event). slice_get es procedure) (sym same_events) ∙ slice_get-map (λ (h : source.Handler). h.event) (handlers_in s.base s.program) procedure
      ∙ ap (λ (o : Option source.Handler). option_map (λ (h : source.Handler). h.event) o) e in
      let both : Some found.0 ≡ Some handler.event = sym found.1 ∙ own in
      let same : found.0 ≡ handler.event = cc in
      let formed : IsFormOf handler.event handler.scope.this =
      at_place (λ (h : source.Handler). IsFormOf h.event h.scope.this) (handlers_in s.base s.program) procedure handler (handlers_formed (names_of s.base s.program) (parts_of s.program)) e in
      found.2 handler.scope.this (subst (λ (ev : Event). IsFormOf ev handler.scope.this) (sym same) formed)

  module _ (procedure : ℕ) (occurrence : Occurrence) (now : ℕ) (active : List Bool) (end : RunEnd CodeMemory) (ends : EndsByCode c procedure occurrence now active end) where
    -- the event procedure of the source
    own_handler : (h : source.Handler) × (slice_get (handlers_in s.base s.program) procedure ≡ Some h) × IsEntryOf is.lines h ends.is_start.handler
    own_handler = zip_left (IsEntryOf is.lines) (handlers_in s.base s.program) c.code.handlers procedure ends.is_start.handler tables.handlers ends.is_start.is_handler

    -- what `this` is in the cells
    own_this : This
    own_this = this_seen occurrence now held_event.0

    -- the memory of the source when the run begins
    abbrev own_memory : Memory
    own_memory = record { store = s.store; active = active }

    begun_cells : ends.start.cells ≡ cells_with_this occurrence now (event_cells held_event.0 ++ lay (names_of s.base s.program) s.store)
    begun_cells = ends.cells ∙ ap (cells_with_this occurrence now) (is.cells ∙ ap (λ (cells : List ℤ). cells ++ lay (names_of s.base s.program) s.store) (sym held_event.1))

    begun : IsBegun c.code (names_of s.base s.program) procedure s.turns (this_seen occurrence now held_event.0) own_memory ends.start
    begun =
        let held : HoldKinds (event_kinds ++ laid_kinds (names_of s.base s.program)) (cells_with_this occurrence now (event_cells held_event.0 ++ lay (names_of s.base s.program) s.store)) =
        subst₂ HoldKinds tables.cells begun_cells ends.is_start.cells_held in
        record {
          is_start = ends.is_start;
          cells = begun_cells ∙ cells_seen occurrence now held_event.0 (lay (names_of s.base s.program) s.store) (whole_if_held (names_of s.base s.program) s.store occurrence now held_event.0 held);
          active = ends.active;
          turns_given = ends.turns_given ∙ is.turns;
          no_effects = ends.no_effects;
        }

    -- how the source's run ends
    abbrev own_ending : This → Ending
    own_ending this = ending_of own_handler.0 this (is_closed occurrence) now s.turns own_memory

    -- the machine has ended as the source does
    ended : Contains (procedures_for (by_code.events c) occurrence) procedure
        → (this : This) × HasEndedAs (names_of s.base s.program) s.turns this (own_ending (this_of occurrence now)) end.outcome ends.last
    ended among =
        let this : This = this_seen occurrence now held_event.0 in
        let one = ends_as_source s.base s.program is.lines c.code is.code_is procedure own_handler.0 own_handler.1 this (is_closed occurrence) now s.turns own_memory ends.start begun end.outcome ends.last ends.ends in
        let same : own_ending this ≡ own_ending (this_of occurrence now) =
        ending_seen own_handler.0 this (this_of occurrence now) (sees occurrence now procedure own_handler.0 among own_handler.1) (is_closed occurrence) now s.turns own_memory in
        (this, subst (λ (e : Ending). HasEndedAs (names_of s.base s.program) s.turns this e end.outcome ends.last) same one)

    -- the source's run ends alike
    end_follows : Contains (procedures_for (by_code.events c) occurrence) procedure
        → (other : RunEnd SourceMemory) × by_source.ends s procedure occurrence now active other × EndAlike StandsFor end other
    end_follows among =
        let last = ended among in
        let own : RunEnd Store = handler_end own_handler.0 s.turns s.store occurrence now active in (
          with_end s own,
          (
            own,
            subst (λ (o : Option source.Handler). IsSomeAnd o (λ handler. own ≡ handler_end handler s.turns s.store occurrence now active)) (sym own_handler.1) refl,
            refl,
          ),
          record {
            memory = subst (λ (m : CodeMemory). StandsFor m (record s { store = own.memory })) (sym ends.memory_after) (record {
              lines = is.lines;
              code_is = is.code_is;
              event = event_cells last.0;
              event_has = refl;
              cells = last.1.cells;
              turns = is.turns;
            });
            effects = sym (ends.effects ∙ last.1.effects);
            turns = sym (ends.turns ∙ ap (λ n. n - ends.last.turns) is.turns ∙ last.1.taken);
            outcome = sym last.1.outcome_is;
          },
        )

-- the runs of code follow those of its source
pub runs_follow : RunsFollow StandsFor by_code by_source
runs_follow = record {
  events = λ c s is. same_events c s is;
  ends = λ c s is procedure occurrence now active end among ends. end_follows c s is procedure occurrence now active end ends among;
  stays = λ c s is procedure occurrence now active end ends. ap (λ (m : CodeMemory). events_of m.code.handlers) ends.memory_after;
}

-- ---- the beginning

-- a node that is loaded with the code of a source is alike to a node with the source
pub loaded_alike : (base : List DbcMessage) (program : Program) (lines : List (List ℕ)) (code : Code) → IsSourceCode base program lines code → (first_row turns : ℕ)
    → NodesAlike StandsFor (loaded code first_row turns).doing.node (first_source_node base program turns)
loaded_alike base program lines code is first_row turns =
    let tables = source_tables base program lines code is in
    record {
      memory = record {
        lines = lines;
        code_is = is;
        event = replicate 15 (pos 0);
        event_has = refl;
        cells = tables.starts;
        turns = refl;
      };
      timers = ap (λ (units : List ℕ). inactive (length units)) (sym tables.timers);
      is_halted = refl;
    }
