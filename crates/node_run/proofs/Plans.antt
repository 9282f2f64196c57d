-- What a node plans for a round runs handlers that are there.
use Rattle.std.proofs.Common.{◌≡◌, ℕ, suc, ◌+◌, ◌<◌, Bool, true, false, cond, List, [], ◌∷◌, ◌++◌, length, Option, None, Some, IfSome, arith, refl, ap, sym, subst, ◌∙◌, option_to_list}
use Rattle.std.specs.List.{All, position_from}
use Rattle.std.specs.Option.{option_or}
use Rattle.std.proofs.lemmas.List.Elements.{All-nil, All-cons, All-map, All-tail, All-append}
use Rattle.can_frame.specs.Frame.{selection_key}
use Rattle.run_effects.specs.declared.event.Event.{Event}
use Rattle.bytecode.specs.declared.code.Handler.{Handler}
use Rattle.node_rounds.specs.declared.occurrence.Occurrence.{Occurrence}
use Rattle.node_rounds.specs.declared.occurrence.Occurrence.TheVariants as happens
use Rattle.node_rounds.specs.declared.occurrence.Trigger.{Trigger}
use Rattle.node_rounds.specs.declared.round.Round.{Round}
use Rattle.node_rounds.specs.declared.round.Round.TheVariants.{PreStart, Start, Moment, Stop}
use Rattle.node_rounds.specs.declared.round.Seen.{Seen}
use Rattle.node_rounds.specs.Procedures.{first_where, is_any_key, is_for_message, numbers_where, procedures_for, reacts_to}
use Rattle.node_rounds.specs.Round.{Rest, at_begin, frame_triggers, key_triggers, rest_of, triggers}
use Rattle.node_run.specs.Code.{code_reaction, events_of}
use Rattle.node_run.specs.Node.{NodeInRound}
use Rattle.node_run.specs.Inside.Agenda.{IsNoTimer, IsPlan, IsPlanned, triggers_of}

-- ---- numbers of handlers

numbers_exist : (test : Event → Bool) (number count : ℕ) (events : List Event) → number + length events ≡ count → All (λ k. k < count) (numbers_where test number events)
numbers_exist test number count [] is = All-nil (λ k. k < count)
numbers_exist test number count (event ∷ events) is =
    let here : number < count = omega arith in
    let further : number + 1 + length events ≡ count = omega arith in
    by_test (test event) here (numbers_exist test (number + 1) count events further)
  where
    by_test : (b : Bool) → number < count → All (λ k. k < count) (numbers_where test (number + 1) events)
        → All (λ k. k < count) (cond b (number ∷ numbers_where test (number + 1) events) (numbers_where test (number + 1) events))
    by_test true here all = All-cons (λ k. k < count) number (numbers_where test (number + 1) events) here all
    by_test false here all = all

first_exists : (test : Event → Bool) (number count : ℕ) (events : List Event) → number + length events ≡ count → IfSome (position_from test number events) (λ k. k < count)
first_exists test number count [] is = tt
first_exists test number count (event ∷ events) is =
    let here : number < count = omega arith in
    let further : number + 1 + length events ≡ count = omega arith in
    by_test (test event) here (first_exists test (number + 1) count events further)
  where
    by_test : (b : Bool) → number < count → IfSome (position_from test (number + 1) events) (λ k. k < count)
        → IfSome (cond b (Some number) (position_from test (number + 1) events)) (λ k. k < count)
    by_test true here some = here
    by_test false here some = some

else_exists : (count : ℕ) (one other : Option ℕ) → IfSome one (λ k. k < count) → IfSome other (λ k. k < count) → IfSome (option_or one other) (λ k. k < count)
else_exists count None other h g = g
else_exists count (Some k) other h g = h

listed : (count : ℕ) (one : Option ℕ) → IfSome one (λ k. k < count) → All (λ k. k < count) (option_to_list one)
listed count None h = All-nil (λ k. k < count)
listed count (Some k) h = All-cons (λ k. k < count) k [] h (All-nil (λ k. k < count))

-- the first of these procedures is there
pub first_where_exists : (test : Event → Bool) (events : List Event) → IfSome (first_where test events) (λ k. k < length events)
first_where_exists test events = first_exists test 0 (length events) events (omega arith)

-- the procedures for an occurrence are there
pub procedures_exist : (events : List Event) (occurrence : Occurrence) → All (λ k. k < length events) (procedures_for events occurrence)
procedures_exist events happens.PreStart = numbers_exist (reacts_to happens.PreStart) 0 (length events) events (omega arith)
procedures_exist events happens.Start = numbers_exist (reacts_to happens.Start) 0 (length events) events (omega arith)
procedures_exist events happens.Stop = numbers_exist (reacts_to happens.Stop) 0 (length events) events (omega arith)
procedures_exist events (happens.Frame seen) =
    let key = selection_key seen.frame.ident in
    listed (length events) _ (else_exists (length events) _ _ (first_where_exists (is_for_message 0 key) events)
    (else_exists (length events) _ _ (first_where_exists (is_for_message 1 key) events) (first_where_exists (is_for_message 2 key) events)))
procedures_exist events (happens.Timer timer) = listed (length events) _ (first_where_exists (reacts_to (happens.Timer timer)) events)
procedures_exist events (happens.Key key) =
    listed (length events) _ (else_exists (length events) _ _ (first_where_exists (reacts_to (happens.Key key)) events) (first_where_exists is_any_key events))

-- ---- plans

planned : (count : ℕ) (occurrence : Occurrence) → IsNoTimer occurrence → (numbers : List ℕ) → All (λ k. k < count) numbers → All (IsPlanned count) (triggers_of occurrence numbers)
planned count occurrence none numbers all =
    All-map (IsPlanned count) (λ procedure. record { occurrence = occurrence; procedure = Some procedure }) numbers
    (λ k d within. record { no_timer = none; exists = all k d within })

planned_triggers : (events : List Event) (occurrence : Occurrence) → IsNoTimer occurrence → All (IsPlanned (length events)) (triggers (procedures_for events) occurrence)
planned_triggers events occurrence none = planned (length events) occurrence none (procedures_for events occurrence) (procedures_exist events occurrence)

planned_keys : (events : List Event) (keys : List ℕ) → All (IsPlanned (length events)) (key_triggers (procedures_for events) keys)
planned_keys events [] = All-nil (IsPlanned (length events))
planned_keys events (key ∷ keys) =
    All-append (IsPlanned (length events)) (triggers (procedures_for events) (happens.Key key)) (key_triggers (procedures_for events) keys)
    (planned_triggers events (happens.Key key) tt) (planned_keys events keys)

planned_frame : (events : List Event) (seen : Option Seen) → All (IsPlanned (length events)) (frame_triggers (procedures_for events) seen)
planned_frame events None = All-nil (IsPlanned (length events))
planned_frame events (Some frame) = planned_triggers events (happens.Frame frame) tt

planned_events : (events : List Event) (round : Round) (seen : Option Seen) (keys : List ℕ) → IsPlan (length events) (rest_of (procedures_for events) round seen keys)
planned_events events PreStart seen keys = record { first = planned_triggers events happens.PreStart tt; last = All-nil (IsPlanned (length events)) }
planned_events events Start seen keys = record { first = planned_triggers events happens.Start tt; last = planned_keys events keys }
planned_events events Moment seen keys = record { first = planned_frame events seen; last = planned_keys events keys }
planned_events events Stop seen keys = record { first = planned_triggers events happens.Stop tt; last = All-nil (IsPlanned (length events)) }

-- there are as many events as handlers
pub length-events : (handlers : List Handler) → length (events_of handlers) ≡ length handlers
length-events [] = refl
length-events (handler ∷ handlers) = ap suc (length-events handlers)

-- what is to do in a round runs handlers that are there
pub planned_round : (handlers : List Handler) (round : Round) (seen : Option Seen) (keys : List ℕ)
    → IsPlan (length handlers) (rest_of (procedures_for (events_of handlers)) round seen keys)
planned_round handlers round seen keys =
    subst (λ n. IsPlan n (rest_of (procedures_for (events_of handlers)) round seen keys)) (length-events handlers)
    (planned_events (events_of handlers) round seen keys)

-- the first procedure of a due timer is there
pub timer_procedure_exists : (handlers : List Handler) (test : Event → Bool) → IfSome (first_where test (events_of handlers)) (λ k. k < length handlers)
timer_procedure_exists handlers test =
    subst (λ n. IfSome (first_where test (events_of handlers)) (λ k. k < n)) (length-events handlers)
    (first_where_exists test (events_of handlers))

-- triggers of which the first was taken
without_first : (count : ℕ) (taken : Option Trigger) (before after : List Trigger) → before ≡ option_to_list taken ++ after → All (IsPlanned count) before → All (IsPlanned count) after
without_first count None before after is all = subst (All (IsPlanned count)) is all
without_first count (Some trigger) before after is all = All-tail (IsPlanned count) trigger after (subst (All (IsPlanned count)) is all)

-- what is left of a plan is one
pub still_planned : (count : ℕ) (before view after : Rest) (first last : Option Trigger) → view ≡ before → view.first ≡ option_to_list first ++ after.first
    → view.last ≡ option_to_list last ++ after.last → IsPlan count before → IsPlan count after
still_planned count before view after first last same of_first of_last plan =
    let seen : IsPlan count view = subst (IsPlan count) (sym same) plan in
    record { first = without_first count first view.first after.first of_first seen.first; last = without_first count last view.last after.last of_last seen.last }

-- a node that has begun a round
pub begun : (before view : NodeInRound) (moment : ℕ) (round : Round) (seen : Option Seen) (keys : List ℕ) (rest : Rest) → view ≡ before
    → rest ≡ rest_of (procedures_for (events_of view.doing.node.memory.code.handlers)) round seen keys
    → record { first_row = view.first_row; moment = moment; doing = record { node = view.doing.node; rest = rest } }
    ≡ record before { moment = moment; doing = at_begin code_reaction round seen keys before.doing.node }
begun before view moment round seen keys rest same is =
    let with_rest : Rest → NodeInRound = λ r. record { first_row = view.first_row; moment = moment; doing = record { node = view.doing.node; rest = r } } in
    let from : NodeInRound → NodeInRound = λ n. record n { moment = moment; doing = at_begin code_reaction round seen keys n.doing.node } in
    ap with_rest is ∙ ap from same
