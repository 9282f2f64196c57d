-- Tables of the procedures of code.
use Rattle.std.specs.Prelude.{◌≡◌, ℕ, ◌+◌, ◌<◌, ◌^◌, Bool, List, [], ◌∷◌, ◌++◌, Option, None, Some, IfSome, IfNone, length, map, slice_index_or}
use Rattle.run_effects.specs.declared.event.Event.{Event}
use Rattle.run_effects.specs.declared.event.Event.TheVariants as event
use Rattle.run_effects.specs.declared.event.Selector.{Selector}
use Rattle.run_effects.specs.Effect.{selectors_of}
use Rattle.bytecode.specs.Verified.{IsVerified}
use Rattle.msg_select.specs.declared.selector.MessageSelector.{MessageSelector}
use Rattle.msg_select.specs.Selection.{IsChosen, NoneHolds}
use Rattle.node_rounds.specs.declared.occurrence.Occurrence.TheVariants as happens
use Rattle.node_rounds.specs.Procedures.{first_where, is_any_key, message_procedure, reacts_to}
use Rattle.node_run.specs.declared.tables.Subject.{Subject}
use Rattle.node_run.specs.declared.tables.Subject.TheVariants.{Timers, Keys}
use Rattle.node_run.specs.declared.procedures.Procedures.TheInside.{Inside}
use Rattle.node_run.specs.Code.{events_of}

-- the place of an event in a table of timers, or of keys
abbrev pub place_of : Subject → Event → Option ℕ
place_of Timers (event.Timer timer) = Some timer
place_of Keys (event.Key (Some key)) = Some key
place_of subject event = None

-- whether a procedure reacts to the timer, or to the key, of a number
abbrev pub is_for : Subject → ℕ → Event → Bool
is_for Timers timer event = reacts_to (happens.Timer timer) event
is_for Keys key event = reacts_to (happens.Key key) event

-- a table of so many places has at each the first procedure for the timer, or for the key, of this number
pub record IsTable (subject : Subject) (events : List Event) (count : ℕ) (table : List (Option ℕ)) :
    Type 0 where
  pub as_many : length table ≡ count
  pub each : (number : ℕ) → number < count →
      slice_index_or table number None ≡ first_where (is_for subject number) events

-- a selector of the message procedure of a number
abbrev pub selector_for : ℕ → Selector → MessageSelector
selector_for handler selector = record {
  rank = selector.rank;
  low = selector.low;
  high = selector.high;
  handler = handler;
}

-- the selectors of all message procedures, which have numbers from one on
abbrev pub message_selectors : ℕ → List Event → List MessageSelector
message_selectors number [] = []
message_selectors number (event ∷ events) =
    map (selector_for number) (selectors_of event) ++ message_selectors (number + 1) events

-- what may be chosen among selectors for a key: the handler of one of the least rank, where one holds it
pub record IsChoice (selectors : List MessageSelector) (key : ℕ) (choice : Option ℕ) : Type 0 where
  pub some : IfSome choice (IsChosen selectors key)
  pub none : IfNone choice (NoneHolds selectors key)

-- Tables of the handlers of verified code: at each timer the first procedure for it, at each of the 256 keys
-- the first for it alone, the first for `*`, and selectors of which each choice is the message procedure.
pub record AreTables (p : Inside) : Type 0 where
  pub verified : IsVerified p.code
  pub numbered : length p.code.handlers < 2 ^ 32
  pub timers : (timer : ℕ) →
      slice_index_or p.timers.items timer None
      ≡ first_where (reacts_to (happens.Timer timer)) (events_of p.code.handlers)
  pub keys : IsTable Keys (events_of p.code.handlers) 256 p.keys.items
  pub any_key : p.any_key ≡ first_where is_any_key (events_of p.code.handlers)
  pub messages : (key : ℕ) (choice : Option ℕ) → IsChoice p.messages key choice →
      choice ≡ message_procedure (events_of p.code.handlers) key
