-- Which event procedures an occurrence is for (CAPL manual, event procedures). Procedures are numbered from
-- 0 in the order of the program.
use Rattle.std.specs.Prelude.{ℕ, ◌+◌, ◌==◌, nat_le, Bool, true, false, ◌&&◌, if◌then◌else◌, List, [], ◌∷◌, Option, None, Some, option_to_list}
use Rattle.std.specs.List.{list_any, position_from}
use Rattle.std.specs.Option.{option_or}
use Rattle.can_frame.specs.Frame.{selection_key}
use Rattle.run_effects.specs.declared.event.Event.{Event}
use Rattle.run_effects.specs.declared.event.Event.TheVariants as event
use Rattle.run_effects.specs.declared.event.Selector.{Selector}
use Rattle.run_effects.specs.Effect.{selectors_of}
use Rattle.node_rounds.specs.declared.occurrence.Occurrence.{Occurrence}
use Rattle.node_rounds.specs.declared.occurrence.Occurrence.TheVariants.{PreStart, Start, Stop, Frame, Timer, Key}

-- whether a procedure reacts to what happens: `on preStart`, `on start`, `on stopMeasurement`, `on timer` of
-- this timer, `on key` of this key; `on key *` and `on message` are told below
abbrev pub reacts_to : Occurrence → Event → Bool
reacts_to PreStart event.PreStart = true
reacts_to Start event.Start = true
reacts_to Stop event.Stop = true
reacts_to (Timer timer) (event.Timer own) = own == timer
reacts_to (Key key) (event.Key (Some own)) = own == key
reacts_to _ _ = false

-- `on key *`
abbrev pub is_any_key : Event → Bool
is_any_key (event.Key None) = true
is_any_key _ = false

-- a selector has this rank and holds this selection key
abbrev pub holds : ℕ → ℕ → Selector → Bool
holds rank key selector = (selector.rank == rank) && nat_le selector.low key && nat_le key selector.high

-- `on message` with a selector of this rank that holds this selection key
abbrev pub is_for_message : ℕ → ℕ → Event → Bool
is_for_message rank key event = list_any (holds rank key) (selectors_of event)

-- the numbers of all procedures of which a test holds, from a number on
abbrev pub numbers_where : (Event → Bool) → ℕ → List Event → List ℕ
numbers_where test number [] = []
numbers_where test number (event ∷ events) =
    if test event then number ∷ numbers_where test (number + 1) events
    else numbers_where test (number + 1) events

-- the number of the first procedure of which a test holds
abbrev pub first_where : (Event → Bool) → List Event → Option ℕ
first_where test events = position_from test 0 events

-- the message procedure for a selection key: that for the identifier or a database name, else one whose
-- range holds it, else the one for `*`
abbrev pub message_procedure : List Event → ℕ → Option ℕ
message_procedure events key =
    option_or (first_where (is_for_message 0 key) events)
    (option_or (first_where (is_for_message 1 key) events) (first_where (is_for_message 2 key) events))

-- the numbers of the procedures for an occurrence, in the order in which they run: for a key that for the
-- key, else the one for `*`
abbrev pub procedures_for : List Event → Occurrence → List ℕ
procedures_for events (Frame seen) =
    option_to_list (message_procedure events (selection_key seen.frame.ident))
procedures_for events (Timer timer) = option_to_list (first_where (reacts_to (Timer timer)) events)
procedures_for events (Key key) =
    option_to_list (option_or (first_where (reacts_to (Key key)) events) (first_where is_any_key events))
procedures_for events occurrence = numbers_where (reacts_to occurrence) 0 events
