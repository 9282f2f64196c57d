-- How nodes react whose programs are sources (CAPL manual, event procedures, this).
use Rattle.std.specs.Prelude.{◌≡◌, ℕ, ◌/◌, Bool, false, List, length, map, slice_get, slice_index_or, IsSomeAnd, pos}
use Rattle.can_frame.specs.Frame.{FrameFields}
use Rattle.int_kinds.specs.declared.kinds.Kind.TheVariants.{Dword}
use Rattle.int_kinds.specs.Arithmetic.{truth}
use Rattle.int_kinds.specs.Kind.{wrap}
use Rattle.message_cells.specs.Message.{id_of}
use Rattle.timer_queue.specs.Timers.{inactive}
use Rattle.dbc_reader.specs.declared.message.DbcMessage.{DbcMessage}
use Rattle.capl_tree.specs.declared.file.Program.{Program}
use Rattle.node_rounds.specs.declared.occurrence.Occurrence.{Occurrence}
use Rattle.node_rounds.specs.Reaction.{NodeState, Reacts, RunEnd, Runner, is_closed, reaction_of}
use Rattle.capl_meaning.specs.Names.{names_of}
use Rattle.capl_meaning.specs.Store.{MessageRecord, Store, This, timer_units}
use Rattle.capl_meaning.specs.Initial.{first_store, plain_message}
use Rattle.capl_meaning.specs.Statement.{Ending, Handler, ending_of, handlers_in}
use Rattle.node_rounds.specs.declared.occurrence.Occurrence.TheVariants as happens

-- ---- How a node reacts whose program is a source (CAPL manual, event procedures, this).

-- the message that a frame is that ended on the bus at a moment, sent by the node itself or by another: the
-- direction is TX or RX, the time in units of ten microseconds
abbrev pub seen_message : FrameFields → Bool → ℕ → MessageRecord
seen_message f sent now = record {
  id = pos (id_of f.ident);
  dlc = pos f.dlc;
  rtr = truth f.remote;
  can = pos f.can;
  dir = truth sent;
  time = wrap Dword (pos (now / 10));
  byte = λ j. pos (slice_index_or f.payload j 0);
}

-- what `this` is when something happens at a moment: the frame, or the key
abbrev pub this_of : Occurrence → ℕ → This
this_of (happens.Frame seen) now =
    record { frame = seen_message seen.frame seen.sent now; key = pos 0 }
this_of (happens.Key key) now = record { frame = plain_message 0 0; key = pos key }
this_of _ now = record { frame = plain_message 0 0; key = pos 0 }

-- the end of a run, as a node sees it
abbrev pub run_end : Ending → RunEnd Store
run_end e =
    record { memory = e.memory.store; effects = e.effects; turns = e.turns_taken; outcome = e.outcome }

-- how an event procedure ends when something happens at a moment, from a store, with these timers active and
-- so many turns
abbrev pub handler_end : Handler → ℕ → Store → Occurrence → ℕ → List Bool → RunEnd Store
handler_end handler turns store occurrence now active =
    run_end (ending_of handler (this_of occurrence now) (is_closed occurrence) now turns
    (record { store = store; active = active }))

-- how the event procedures of a program run, each task with so many turns
abbrev pub source_runner : List DbcMessage → Program → ℕ → Runner Store
source_runner base program turns = record {
  events = λ store. map (λ handler. handler.event) (handlers_in base program);
  ends = λ store number occurrence now active end. IsSomeAnd (slice_get (handlers_in base program) number)
      (λ handler. end ≡ handler_end handler turns store occurrence now active);
}

-- how a node with this program reacts
abbrev pub source_reaction : List DbcMessage → Program → ℕ → Reacts (NodeState Store)
source_reaction base program turns = reaction_of (source_runner base program turns)

-- a node with this program before the measurement: its variables hold their first values, and no timer is
-- active
abbrev pub first_node : List DbcMessage → Program → NodeState Store
first_node base program = record {
  memory = first_store (names_of base program);
  timers = inactive (length (timer_units (names_of base program)));
  is_halted = false;
}

-- ---- Nodes of different sources: a memory that has its own program with it.

-- the memory of a node with a source: its program with the database, how many turns each task has, and what
-- its variables hold
pub record SourceMemory : Type 0 where
  pub base : List DbcMessage
  pub program : Program
  pub turns : ℕ
  pub store : Store

-- how the procedures of a memory's own program run
abbrev pub own_runner : SourceMemory → Runner Store
own_runner memory = source_runner memory.base memory.program memory.turns

-- a run of a memory's own program that ended so
abbrev pub with_end : SourceMemory → RunEnd Store → RunEnd SourceMemory
with_end memory end = record {
  memory = record memory { store = end.memory };
  effects = end.effects;
  turns = end.turns;
  outcome = end.outcome;
}

-- how procedures run by their sources
abbrev pub by_source : Runner SourceMemory
by_source = record {
  events = λ memory. (own_runner memory).events memory.store;
  ends = λ memory procedure occurrence now active end. (own : RunEnd Store) ×
      (own_runner memory).ends memory.store procedure occurrence now active own × (end ≡ with_end memory own);
}

-- a node has as many timers as its program
abbrev pub HasItsTimers : NodeState SourceMemory → Type 0
HasItsTimers node = node.timers.count ≡ length (timer_units (names_of node.memory.base node.memory.program))

-- how nodes react by their sources
abbrev pub by_source_reaction : Reacts (NodeState SourceMemory)
by_source_reaction = reaction_of by_source

-- a node with a source before the measurement
abbrev pub first_source_node : List DbcMessage → Program → ℕ → NodeState SourceMemory
first_source_node base program turns =
    let first : NodeState Store = first_node base program in
    record {
      memory = record { base = base; program = program; turns = turns; store = first.memory };
      timers = first.timers;
      is_halted = first.is_halted;
    }
