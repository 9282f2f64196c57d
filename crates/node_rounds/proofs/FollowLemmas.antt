-- Where one reaction follows another, it has the same tasks in a round.
use Rattle.std.proofs.Common.{◌≡◌, ℕ, suc, Bool, true, false, List, [], ◌∷◌, ◌++◌, map, slice_get, Contains, Option, None, Some, refl, ap, sym, subst, ◌∙◌, arith}
use Rattle.std.specs.Prelude.{⊤, if◌then◌else◌}
use Rattle.std.specs.List.{AllByRecursion}
use Rattle.std.specs.Option.{option_map, MatchOption}
use Rattle.run_effects.specs.Effect.{Effect}
use Rattle.run_effects.specs.declared.event.Event.{Event}
use Rattle.run_effects.specs.declared.outcome.Outcome.{Outcome}
use Rattle.timer_queue.specs.Timers.{Timers, active_timers}
use Rattle.node_rounds.specs.declared.occurrence.Occurrence.{Occurrence}
use Rattle.node_rounds.specs.declared.occurrence.Occurrence.TheVariants as happens
use Rattle.node_rounds.specs.declared.occurrence.Trigger.{Trigger}
use Rattle.node_rounds.specs.declared.round.Round.{Round}
use Rattle.node_rounds.specs.declared.round.Round.TheVariants as round_of
use Rattle.node_rounds.specs.declared.round.Seen.{Seen}
use Rattle.std.specs.List.{All}
use Rattle.node_rounds.specs.Effects.{IsTimerEffect, halt_lines, halts, written_lines, requested_frames, stops_of, timers_after}
use Rattle.node_rounds.specs.Follows.{DoneAlike, DoingAlike, EndAlike, Follows, IsFor, NodesAlike, RunsFollow}
use Rattle.node_rounds.specs.Procedures.{procedures_for}
use Rattle.node_rounds.specs.Reaction.{Done, DoesProcedure, NodeState, Reacts, RunEnd, Runner, due_timer, reaction_of, timers_at_begin, with_procedure, without_procedure}
use Rattle.node_rounds.specs.Round.{Doing, DoesNext, IsDone, IsPart, PartOf, Rest, Task, at_begin, frame_triggers, key_triggers, next_first, next_last, next_of, timer_or_last, next_trigger, rest_of, task_of, timer_trigger, triggers}

-- ---- the triggers that are left in a round

-- each trigger that is left to do is one of a node with these procedures
abbrev pub AreLeftFor : (Occurrence → List ℕ) → Rest → Type 0
AreLeftFor procedures rest = AllByRecursion (IsFor procedures) rest.first × AllByRecursion (IsFor procedures) rest.last

-- a trigger is one of the node, and so is each that is left behind it
abbrev pub IsNextFor : (Occurrence → List ℕ) → Trigger → Rest → Type 0
IsNextFor procedures trigger rest = IsFor procedures trigger × AreLeftFor procedures rest

-- this is next, and that is left behind it
abbrev next_with : Trigger → Rest → Trigger × Rest
next_with trigger rest = (trigger, rest)

abbrev found : Trigger → Rest → Option (Trigger × Rest)
found trigger rest = Some (next_with trigger rest)

next_is : (procedures : Occurrence → List ℕ) (one trigger : Trigger) (few rest : Rest) → IsFor procedures one → AreLeftFor procedures few
    → found one few ≡ found trigger rest → IsNextFor procedures trigger rest
next_is procedures one trigger few rest is are e =
    let both : next_with one few ≡ next_with trigger rest = cc in
    let first : Trigger × Rest → Trigger = λ pair. pair.0 in let second : Trigger × Rest → Rest = λ pair. pair.1 in
    (subst (IsFor procedures) (ap first both) is, subst (AreLeftFor procedures) (ap second both) are)

last_is : (procedures : Occurrence → List ℕ) (few : Rest) (last : List Trigger) (trigger : Trigger) (rest : Rest) → AllByRecursion (IsFor procedures) few.first
    → AllByRecursion (IsFor procedures) last → next_last few last ≡ found trigger rest → IsNextFor procedures trigger rest
last_is procedures few [] trigger rest first are e = absurd (let f : None ≡ found trigger rest = e in cc)
last_is procedures few (one ∷ last) trigger rest first are e = next_is procedures one trigger (record few { last = last }) rest are.0 (first, are.1) e

-- the first of a list is in it
first_among : (xs : List ℕ) → MatchOption (slice_get xs 0) ⊤ (λ x. Contains xs x)
first_among [] = tt
first_among (x ∷ xs) = (0, omega arith, refl)

timer_is : (procedures : Occurrence → List ℕ) (due : Option ℕ) (few : Rest) (trigger : Trigger) (rest : Rest) → AreLeftFor procedures few
    → timer_or_last few (option_map (timer_trigger procedures) due) ≡ found trigger rest → IsNextFor procedures trigger rest
timer_is procedures None few trigger rest are e = last_is procedures few few.last trigger rest are.0 are.1 e
timer_is procedures (Some timer) few trigger rest are e =
    next_is procedures (timer_trigger procedures timer) trigger few rest (first_among (procedures (happens.Timer timer))) are e

behind_first : (procedures : Occurrence → List ℕ) (asks : Bool) (due : Option ℕ) (few : Rest) (trigger : Trigger) (rest : Rest) → AreLeftFor procedures few
    → (if asks then timer_or_last few (option_map (timer_trigger procedures) due) else next_last few few.last) ≡ found trigger rest → IsNextFor procedures trigger rest
behind_first procedures true due few trigger rest are e = timer_is procedures due few trigger rest are e
behind_first procedures false due few trigger rest are e = last_is procedures few few.last trigger rest are.0 are.1 e

first_is : (procedures : Occurrence → List ℕ) (due : Option ℕ) (few : Rest) (first : List Trigger) (trigger : Trigger) (rest : Rest) → AreLeftFor procedures few
    → AllByRecursion (IsFor procedures) first → next_first few (option_map (timer_trigger procedures) due) first ≡ found trigger rest → IsNextFor procedures trigger rest
first_is procedures due few [] trigger rest are none e = behind_first procedures few.asks_timers due few trigger rest are e
first_is procedures due few (one ∷ first) trigger rest are more e = next_is procedures one trigger (record few { first = first }) rest more.0 (more.1, are.1) e

-- the next trigger of a node is one of the node's, and so is each that is left behind it
pub trigger_is : (procedures : Occurrence → List ℕ) (is_halted : Bool) (due : Option ℕ) (few : Rest) (trigger : Trigger) (rest : Rest) → AreLeftFor procedures few
    → next_trigger is_halted (option_map (timer_trigger procedures) due) few ≡ found trigger rest → IsNextFor procedures trigger rest
trigger_is procedures true due few trigger rest are e = absurd (let f : None ≡ found trigger rest = e in cc)
trigger_is procedures false due few trigger rest are e = first_is procedures due few few.first trigger rest are are.0 e

-- one more in front
among_more : {A : Type 0} (x : A) (xs : List A) (y : A) → Contains xs y → Contains (x ∷ xs) y
among_more x xs y among = (suc among.0, omega (arith, among.1), among.2)

-- numbers that are all in a list, each with an occurrence
triggers_are : (procedures : Occurrence → List ℕ) (occurrence : Occurrence) (few : List ℕ) → AllByRecursion (Contains (procedures occurrence)) few
    → AllByRecursion (IsFor procedures) (map (λ procedure. record { occurrence = occurrence; procedure = Some procedure }) few)
triggers_are procedures occurrence [] are = tt
triggers_are procedures occurrence (one ∷ few) are = (are.0, triggers_are procedures occurrence few are.1)

-- what each of a list has, with a weaker one
all_weaker : {A : Type 0} (P Q : A → Type 0) → ((a : A) → P a → Q a) → (xs : List A) → AllByRecursion P xs → AllByRecursion Q xs
all_weaker P Q h [] all = tt
all_weaker P Q h (x ∷ xs) all = (h x all.0, all_weaker P Q h xs all.1)

each_among : {A : Type 0} (xs : List A) → AllByRecursion (Contains xs) xs
each_among [] = tt
each_among (x ∷ xs) = ((0, omega arith, refl), all_weaker (Contains xs) (Contains (x ∷ xs)) (among_more x xs) xs (each_among xs))

triggers_of : (procedures : Occurrence → List ℕ) (occurrence : Occurrence) → AllByRecursion (IsFor procedures) (triggers procedures occurrence)
triggers_of procedures occurrence = triggers_are procedures occurrence (procedures occurrence) (each_among (procedures occurrence))

all_joined : {A : Type 0} (P : A → Type 0) (xs ys : List A) → AllByRecursion P xs → AllByRecursion P ys → AllByRecursion P (xs ++ ys)
all_joined P [] ys one other = other
all_joined P (x ∷ xs) ys one other = (one.0, all_joined P xs ys one.1 other)

keys_are : (procedures : Occurrence → List ℕ) (keys : List ℕ) → AllByRecursion (IsFor procedures) (key_triggers procedures keys)
keys_are procedures [] = tt
keys_are procedures (key ∷ keys) =
    all_joined (IsFor procedures) (triggers procedures (happens.Key key)) (key_triggers procedures keys) (triggers_of procedures (happens.Key key)) (keys_are procedures keys)

frame_is : (procedures : Occurrence → List ℕ) (seen : Option Seen) → AllByRecursion (IsFor procedures) (frame_triggers procedures seen)
frame_is procedures None = tt
frame_is procedures (Some seen) = triggers_of procedures (happens.Frame seen)

-- what a node has to do in a round are triggers of its own
pub round_is : (procedures : Occurrence → List ℕ) (round : Round) (seen : Option Seen) (keys : List ℕ) → AreLeftFor procedures (rest_of procedures round seen keys)
round_is procedures round_of.PreStart seen keys = (triggers_of procedures happens.PreStart, tt)
round_is procedures round_of.Start seen keys = (triggers_of procedures happens.Start, keys_are procedures keys)
round_is procedures round_of.Moment seen keys = (frame_is procedures seen, keys_are procedures keys)
round_is procedures round_of.Stop seen keys = (triggers_of procedures happens.Stop, tt)

-- ---- parts of rounds

-- the same is next
next_alike : {S T : Type 0} {related : S → T → Type 0} {r : Reacts S} {q : Reacts T} → Follows related r q → (now : ℕ) (d : Doing S) (e : Doing T)
    → DoingAlike related d e → next_of q now e ≡ next_of r now d
next_alike {related} {r} {q} follows now d e alike =
    ap (λ b. next_trigger b (option_map (timer_trigger (q.procedures e.node)) (due_timer (q.timers e.node) now)) e.rest) (follows.is_halted d.node e.node alike.node)
    ∙ ap (λ (f : Occurrence → List ℕ). next_trigger (r.is_halted d.node) (option_map (timer_trigger f) (due_timer (q.timers e.node) now)) e.rest) (follows.procedures d.node e.node alike.node)
    ∙ ap (λ (t : Timers). next_trigger (r.is_halted d.node) (option_map (timer_trigger (r.procedures d.node)) (due_timer t now)) e.rest) (follows.timers d.node e.node alike.node)
    ∙ ap (λ (rest : Rest). next_trigger (r.is_halted d.node) (option_map (timer_trigger (r.procedures d.node)) (due_timer (r.timers d.node) now)) rest) alike.rest

-- the same done is the same task
task_alike : {S T : Type 0} (related : S → T → Type 0) (trigger : Trigger) (d : Done S) (e : Done T) → DoneAlike related d e → task_of trigger e ≡ task_of trigger d
task_alike related trigger d e alike = let a = alike.lines in let b = alike.requests in let c = alike.stops in let t = alike.turns in cc

-- nodes in a round are related, with the same left to do, all of it triggers of their own
abbrev WithOwn : {S T : Type 0} (related : S → T → Type 0) (r : Reacts S) (d : Doing S) (e : Doing T) → Type 0
WithOwn related r d e = DoingAlike related d e × AreLeftFor (r.procedures d.node) d.rest

-- the next task is the next task of the other
next_follows : {S T : Type 0} {related : S → T → Type 0} {r : Reacts S} {q : Reacts T} → Follows related r q → (now : ℕ) (d : Doing S) (e : Doing T) (task : Task) (between : Doing S)
    → WithOwn related r d e → DoesNext r now d task between → (to : Doing T) × DoesNext q now e task to × WithOwn related r between to
next_follows {related} {r} {q} follows now d e task between both next =
    let alike = both.0 in
    let own = trigger_is (r.procedures d.node) (r.is_halted d.node) (due_timer (r.timers d.node) now) d.rest next.trigger between.rest both.1 next.is_next in
    let kept : r.procedures between.node ≡ r.procedures d.node =
    ap r.procedures next.stands ∙ follows.stays d.node e.node alike.node next.trigger now next.done own.0 next.does in
    let other = follows.does d.node e.node alike.node next.trigger now next.done own.0 next.does in (
      record { node = other.0.after; rest = between.rest },
      record {
        trigger = next.trigger;
        done = other.0;
        is_next = next_alike follows now d e alike ∙ next.is_next;
        does = other.1;
        is_task = next.is_task ∙ sym (task_alike related next.trigger next.done other.0 other.2);
        stands = refl;
      },
      (
        record { node = subst (λ x. related x other.0.after) (sym next.stands) other.2.after; rest = refl },
        subst (λ (f : Occurrence → List ℕ). AreLeftFor f between.rest) (sym kept) own.1,
      ),
    )

part_follows : {X Y : Type 0} (related : X → Y → Type 0) (does : X → Task → X → Type 0) (is_done : X → Type 0) (does' : Y → Task → Y → Type 0) (is_done' : Y → Type 0)
    (each : (d : X) (e : Y) (task : Task) (between : X) → related d e → does d task between → (to : Y) × does' e task to × related between to)
    (ends : (d : X) (e : Y) → related d e → is_done d → is_done' e)
    (d : X) (e : Y) (tasks : List Task) (after : X) → related d e → PartOf does is_done d tasks after → (end : Y) × PartOf does' is_done' e tasks end × related after end
part_follows related does is_done does' is_done' each ends d e [] after alike part =
    (e, (ends d e alike part.0, refl), subst (λ x. related x e) (sym part.1) alike)
part_follows related does is_done does' is_done' each ends d e (task ∷ tasks) after alike part =
    let one = each d e task part.0 alike part.1 in
    let more = part_follows related does is_done does' is_done' each ends part.0 one.0 tasks after one.2 part.2 in
    (more.0, (one.0, one.1, more.1), more.2)

begins_alike : {S T : Type 0} {related : S → T → Type 0} {r : Reacts S} {q : Reacts T} → Follows related r q → (round : Round) (seen : Option Seen) (keys : List ℕ) (s : S) (t : T)
    → related s t → DoingAlike related (at_begin r round seen keys s) (at_begin q round seen keys t)
begins_alike follows round seen keys s t alike =
    record { node = alike; rest = ap (λ (f : Occurrence → List ℕ). rest_of f round seen keys) (follows.procedures s t alike) }

-- the part of a node in a round is that of the other
pub parts_follow : {S T : Type 0} {related : S → T → Type 0} {r : Reacts S} {q : Reacts T} → Follows related r q → (round : Round) (now : ℕ) (seen : Option Seen) (keys : List ℕ)
    (s : S) (t : T) (tasks : List Task) (after : S) → related s t → IsPart r round now seen keys s tasks after → (end : T) × IsPart q round now seen keys t tasks end × related after end
parts_follow {related} {r} {q} follows round now seen keys s t tasks after alike part =
    let other = part_follows (WithOwn related r) (DoesNext r now) (IsDone r now) (DoesNext q now) (IsDone q now)
    (λ d e task between k next. next_follows follows now d e task between k next)
    (λ d e k done. next_alike follows now d e k.0 ∙ done)
    (at_begin r round seen keys s) (at_begin q round seen keys t) tasks part.end
    (begins_alike follows round seen keys s t alike, round_is (r.procedures s) round seen keys) part.part in
    (other.0.node, record { end = other.0; part = other.1; stands = refl }, subst (λ x. related x other.0.node) (sym part.stands) other.2.0.node)

-- ---- reactions of runners

-- a task without a procedure is done alike
without_alike : {M N : Type 0} (related : M → N → Type 0) (s : NodeState M) (t : NodeState N) → NodesAlike related s t → (occurrence : Occurrence) (now : ℕ)
    → DoneAlike (NodesAlike related) (without_procedure s occurrence now) (without_procedure t occurrence now)
without_alike related s t alike occurrence now = record {
  lines = refl;
  requests = refl;
  stops = refl;
  turns = refl;
  after = record { memory = alike.memory; timers = ap (timers_at_begin occurrence now) alike.timers; is_halted = alike.is_halted };
}

-- the timers after the same effects
timers_alike : (now : ℕ) (occurrence : Occurrence) (a b : Timers) (xs ys : List Effect) → b ≡ a → ys ≡ xs
    → timers_after now (timers_at_begin occurrence now b) ys ≡ timers_after now (timers_at_begin occurrence now a) xs
timers_alike now occurrence a b xs ys same equal =
    ap (λ (t : Timers). timers_after now (timers_at_begin occurrence now t) ys) same ∙ ap (timers_after now (timers_at_begin occurrence now a)) equal

-- a task with a procedure is done alike
with_alike : {M N : Type 0} (related : M → N → Type 0) (s : NodeState M) (t : NodeState N) → NodesAlike related s t → (occurrence : Occurrence) (now : ℕ)
    (d : RunEnd M) (e : RunEnd N) → EndAlike related d e → DoneAlike (NodesAlike related) (with_procedure s occurrence now d) (with_procedure t occurrence now e)
with_alike related s t alike occurrence now d e end = record {
  lines = ap (λ (xs : List Effect). written_lines xs ++ halt_lines e.outcome) end.effects ∙ ap (λ (o : Outcome). written_lines d.effects ++ halt_lines o) end.outcome;
  requests = ap requested_frames end.effects;
  stops = ap stops_of end.effects;
  turns = end.turns;
  after = record {
    memory = end.memory;
    timers = timers_alike now occurrence s.timers t.timers d.effects e.effects alike.timers end.effects;
    is_halted = ap halts end.outcome;
  };
}

-- effects on as many timers
timer_effects_alike : (a b : Timers) (xs ys : List Effect) → b ≡ a → ys ≡ xs → All (IsTimerEffect a.count) xs → All (IsTimerEffect b.count) ys
timer_effects_alike a b xs ys same equal all =
    subst (λ (t : Timers). All (IsTimerEffect t.count) ys) (sym same) (subst (All (IsTimerEffect a.count)) (sym equal) all)

-- the end of a run is what it is for the same active timers
procedure_alike : {M N : Type 0} {related : M → N → Type 0} {first : Runner M} {second : Runner N} → RunsFollow related first second → (s : NodeState M) (t : NodeState N)
    → NodesAlike related s t → (procedure : ℕ) (occurrence : Occurrence) (now : ℕ) (done : Done (NodeState M))
    → Contains (procedures_for (first.events s.memory) occurrence) procedure → DoesProcedure first s procedure occurrence now done
    → (other : Done (NodeState N)) × DoesProcedure second t procedure occurrence now other × DoneAlike (NodesAlike related) done other
procedure_alike {related} {first} {second} follows s t alike procedure occurrence now done among does =
    let active : active_timers (timers_at_begin occurrence now t.timers) ≡ active_timers (timers_at_begin occurrence now s.timers) =
    ap (λ (x : Timers). active_timers (timers_at_begin occurrence now x)) alike.timers in
    let other = follows.ends s.memory t.memory alike.memory procedure occurrence now (active_timers (timers_at_begin occurrence now s.timers)) does.end among does.ends in (
      with_procedure t occurrence now other.0,
      record {
        end = other.0;
        ends = subst (λ x. second.ends t.memory procedure occurrence now x other.0) (sym active) other.1;
        timers = timer_effects_alike s.timers t.timers does.end.effects other.0.effects alike.timers other.2.effects does.timers;
        is = refl;
      },
      subst (λ x. DoneAlike (NodesAlike related) x (with_procedure t occurrence now other.0)) (sym does.is)
          (with_alike related s t alike occurrence now does.end other.0 other.2),
    )

trigger_alike : {M N : Type 0} {related : M → N → Type 0} {first : Runner M} {second : Runner N} → RunsFollow related first second → (s : NodeState M) (t : NodeState N)
    → NodesAlike related s t → (procedure : Option ℕ) (occurrence : Occurrence) (now : ℕ) (done : Done (NodeState M))
    → MatchOption procedure ⊤ (λ p. Contains (procedures_for (first.events s.memory) occurrence) p)
    → MatchOption procedure (done ≡ without_procedure s occurrence now) (λ p. DoesProcedure first s p occurrence now done)
    → (other : Done (NodeState N)) × MatchOption procedure (other ≡ without_procedure t occurrence now) (λ p. DoesProcedure second t p occurrence now other)
    × DoneAlike (NodesAlike related) done other
trigger_alike {related} follows s t alike None occurrence now done own does = (
  without_procedure t occurrence now,
  refl,
  subst (λ x. DoneAlike (NodesAlike related) x (without_procedure t occurrence now)) (sym does) (without_alike related s t alike occurrence now),
)
trigger_alike follows s t alike (Some procedure) occurrence now done own does = procedure_alike follows s t alike procedure occurrence now done own does

-- what the procedures of a memory react to stays through a trigger
trigger_keeps : {M N : Type 0} {related : M → N → Type 0} {first : Runner M} {second : Runner N} → RunsFollow related first second → (s : NodeState M) (t : NodeState N)
    → NodesAlike related s t → (procedure : Option ℕ) (occurrence : Occurrence) (now : ℕ) (done : Done (NodeState M))
    → MatchOption procedure (done ≡ without_procedure s occurrence now) (λ p. DoesProcedure first s p occurrence now done)
    → first.events done.after.memory ≡ first.events s.memory
trigger_keeps {first} follows s t alike None occurrence now done does = ap (λ (d : Done (NodeState _)). first.events d.after.memory) does
trigger_keeps {first} follows s t alike (Some procedure) occurrence now done does =
    ap (λ (d : Done (NodeState _)). first.events d.after.memory) does.is
    ∙ follows.stays s.memory t.memory alike.memory procedure occurrence now (active_timers (timers_at_begin occurrence now s.timers)) does.end does.ends

-- where runs follow, the reactions do
pub reactions_follow : {M N : Type 0} {related : M → N → Type 0} {first : Runner M} {second : Runner N} → RunsFollow related first second
    → Follows (NodesAlike related) (reaction_of first) (reaction_of second)
reactions_follow follows =
    let procedures : List Event → Occurrence → List ℕ = λ events occurrence. procedures_for events occurrence in
    record {
      is_halted = λ s t alike. alike.is_halted;
      procedures = λ s t alike. ap procedures (follows.events s.memory t.memory alike.memory);
      timers = λ s t alike. alike.timers;
      does = λ s t alike trigger now done own does. trigger_alike follows s t alike trigger.procedure trigger.occurrence now done own does;
      stays = λ s t alike trigger now done own does. ap procedures (trigger_keeps follows s t alike trigger.procedure trigger.occurrence now done does);
    }
