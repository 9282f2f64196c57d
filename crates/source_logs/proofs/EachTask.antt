-- What holds of each task that a node may do holds of each task of a run, over any bus.
use Rattle.std.proofs.Common.{ℕ, ◌+◌, List, [], ◌∷◌, ◌++◌, Option, None, Some, sym, subst}
use Rattle.std.specs.Prelude.{All}
use Rattle.std.specs.List.{AllByRecursion}
use Rattle.std.proofs.lemmas.List.Elements.{All-append, All-cons, All-nil}
use Rattle.can_bus.specs.declared.bus.Ended.{Ended}
use Rattle.can_bus.specs.Meaning.{BusMeaning}
use Rattle.node_rounds.specs.declared.occurrence.Trigger.{Trigger}
use Rattle.node_rounds.specs.declared.round.Round.{Round}
use Rattle.node_rounds.specs.declared.round.Round.TheVariants as round_of
use Rattle.node_rounds.specs.Reaction.{Done, Reacts}
use Rattle.node_rounds.specs.Round.{Doing, DoesNext, IsDone, IsPart, PartOf, Task, at_begin, task_of}
use Rattle.run_meaning.specs.Moments.{keys_at}
use Rattle.run_meaning.specs.Run.{AreInstants, AreParts, HasBegun, IsEnded, IsInstant, IsRound, IsRun, IsSecond, Passed, RunState, finished, quiet_round, seen_by}
use Rattle.replay_laws.specs.Tasks.{AllTasks}
use Rattle.replay_laws.proofs.Projection.{rounds_of}

module _ {S B : Type 0} (r : Reacts S) (bus : BusMeaning B) (sound : S → Type 0) (X : Task → Type 0)
    (each : (s : S) (trigger : Trigger) (now : ℕ) (done : Done S) → sound s → r.does s trigger now done → X (task_of trigger done))
    (stays : (s : S) (trigger : Trigger) (now : ℕ) (done : Done S) → sound s → r.does s trigger now done → sound done.after) where
  -- what is held of the tasks and of the nodes after them
  abbrev Held : List Task → S → Type 0
  Held tasks after = All X tasks × sound after

  abbrev AllHeld : List (List Task) → List S → Type 0
  AllHeld tasks afters = All (λ own. All X own) tasks × AllByRecursion sound afters

  part_each : (now : ℕ) (d : Doing S) (tasks : List Task) (after : Doing S) → sound d.node → PartOf (DoesNext r now) (IsDone r now) d tasks after → Held tasks after.node
  part_each now d [] after held part = (All-nil X, subst (λ (e : Doing S). sound e.node) (sym part.1) held)
  part_each now d (task ∷ tasks) after held part =
      let between = part.0 in
      let next = part.1 in
      let own : X task = subst X (sym next.is_task) (each d.node next.trigger now next.done held next.does) in
      let node : sound between.node = subst sound (sym next.stands) (stays d.node next.trigger now next.done held next.does) in
      let rest = part_each now between tasks after node part.2 in
      (All-cons X task tasks own rest.0, rest.1)

  own_each : (round : Round) (now : ℕ) (seen : _) (keys : List ℕ) (s : S) (tasks : List Task) (after : S) → sound s → IsPart r round now seen keys s tasks after → Held tasks after
  own_each round now seen keys s tasks after held is =
      let one = part_each now (at_begin r round seen keys s) tasks is.end held is.part in (one.0, subst sound (sym is.stands) one.1)

  parts_each : (round : Round) (now : ℕ) (ended : Option Ended) (keys : List ℕ) (number : ℕ) (ss : List S) (tasks : List (List Task)) (afters : List S)
      → AllByRecursion sound ss → AreParts r round now ended keys number ss tasks afters → AllHeld tasks afters
  parts_each round now ended keys number [] [] [] held parts = (All-nil _, tt)
  parts_each round now ended keys number (s ∷ ss) (own ∷ tasks) (after ∷ afters) held parts =
      let one = own_each round now (seen_by number ended) keys s own after held.0 parts.0 in
      let more = parts_each round now ended keys (number + 1) ss tasks afters held.1 parts.1 in
      (All-cons (λ o. All X o) own tasks one.0 more.0, (one.1, more.1))
  parts_each round now ended keys number [] [] (a ∷ afters) held parts = absurd parts
  parts_each round now ended keys number [] (own ∷ tasks) afters held parts = absurd parts
  parts_each round now ended keys number (s ∷ ss) [] afters held parts = absurd parts
  parts_each round now ended keys number (s ∷ ss) (own ∷ tasks) [] held parts = absurd parts

  round_each : (round : Round) (ended : Option Ended) (keys : List ℕ) (before : RunState S B) (tasks : List (List Task)) (after : RunState S B)
      → AllByRecursion sound before.nodes → IsRound r bus round ended keys before tasks after → AllHeld tasks after.nodes
  round_each round ended keys before tasks after held is =
      let one = parts_each round before.moment ended keys 0 before.nodes tasks is.nodes held is.parts in
      (one.0, subst (λ (s : RunState S B). AllByRecursion sound s.nodes) (sym is.stands) one.1)

  -- the same of rounds
  abbrev RoundsHeld : List Passed → List S → Type 0
  RoundsHeld rounds afters = AllTasks X rounds × AllByRecursion sound afters

  one_round : (passed : Passed) → All (λ own. All X own) passed.tasks → AllTasks X (passed ∷ [])
  one_round passed all = All-cons (λ (p : Passed). All (λ own. All X own) p.tasks) passed [] all (All-nil _)

  more_rounds : (passed : Passed) (rounds : List Passed) → All (λ own. All X own) passed.tasks → AllTasks X rounds → AllTasks X (passed ∷ rounds)
  more_rounds passed rounds one all = All-cons (λ (p : Passed). All (λ own. All X own) p.tasks) passed rounds one all

  both_rounds : (xs ys : List Passed) → AllTasks X xs → AllTasks X ys → AllTasks X (xs ++ ys)
  both_rounds xs ys = All-append (λ (p : Passed). All (λ own. All X own) p.tasks) xs ys

  second_each : (ended : Option Ended) (before : RunState S B) (rounds : List Passed) (after : RunState S B) → AllByRecursion sound before.nodes → IsSecond r bus ended before rounds after → RoundsHeld rounds after.nodes
  second_each None before rounds after held is = (subst (AllTasks X) (sym is.0) (All-nil _), subst (λ (s : RunState S B). AllByRecursion sound s.nodes) (sym is.1) held)
  second_each (Some ended) before rounds after held is =
      let one = round_each round_of.Moment (Some ended) [] before is.0 after held is.1 in
      (subst (AllTasks X) (sym is.2) (one_round (record { moment = before.moment; ended = Some ended; tasks = is.0 }) one.0), one.1)

  instant_each : (until : ℕ) (before : RunState S B) (rounds : List Passed) (after : RunState S B) → AllByRecursion sound before.nodes → IsInstant r bus until before rounds after → RoundsHeld rounds after.nodes
  instant_each until before rounds after held is =
      let now = is.moment in
      let of = is.are_rounds in
      let first = round_each round_of.Moment (bus.ended before.bus now) (keys_at now before.keys) (finished bus now before) of.tasks of.between held of.first in
      let more = second_each (bus.ended (of.between).bus now) (finished bus now of.between) of.more is.end first.1 of.second in (
        subst (AllTasks X) (sym of.are) (more_rounds (record { moment = now; ended = bus.ended before.bus now; tasks = of.tasks }) of.more first.0 more.0),
        subst (λ (s : RunState S B). AllByRecursion sound s.nodes) (sym is.stands) more.1,
      )

  instants_each : (until : ℕ) (before : RunState S B) (instants : List (List Passed)) (after : RunState S B) → AllByRecursion sound before.nodes → AreInstants r bus until before instants after
      → RoundsHeld (rounds_of instants) after.nodes
  instants_each until before [] after held is = (All-nil _, subst (λ (s : RunState S B). AllByRecursion sound s.nodes) (sym is) held)
  instants_each until before (rounds ∷ instants) after held is =
      let one = instant_each until before rounds is.0 held is.1 in
      let more = instants_each until is.0 instants after one.1 is.2 in
      (both_rounds rounds (rounds_of instants) one.0 more.0, more.1)

  begun_each : (before : RunState S B) (rounds : List Passed) (after : RunState S B) → AllByRecursion sound before.nodes → HasBegun r bus before rounds after → RoundsHeld rounds after.nodes
  begun_each before rounds after held is =
      let pre = round_each round_of.PreStart None [] before is.before_start is.between held is.pre_starts in
      let start = round_each round_of.Start None (keys_at 0 before.keys) is.between is.start is.end pre.1 is.starts in (
        subst (AllTasks X) (sym is.are) (more_rounds (quiet_round 0 is.before_start) (quiet_round 0 is.start ∷ []) pre.0 (one_round (quiet_round 0 is.start) start.0)),
        subst (λ (s : RunState S B). AllByRecursion sound s.nodes) (sym is.stands) start.1,
      )

  ended_each : (until : ℕ) (before : RunState S B) (rounds : List Passed) (after : RunState S B) → AllByRecursion sound before.nodes → IsEnded r bus until before rounds after → AllTasks X rounds
  ended_each until before rounds after held is =
      let one = parts_each round_of.Stop is.moment None [] 0 before.nodes is.tasks is.nodes held is.parts in subst (AllTasks X) (sym is.are) (one_round (quiet_round is.moment is.tasks) one.0)

  -- it holds of each task of a run
  pub run_each : (until : ℕ) (before : RunState S B) (rounds : List Passed) (after : RunState S B) → AllByRecursion sound before.nodes → IsRun r bus until before rounds after → AllTasks X rounds
  run_each until before rounds after held is =
      let first = begun_each before is.first is.begun held is.begins in
      let more = instants_each until is.begun is.instants is.last first.1 is.goes in
      let last = ended_each until is.last is.stop after more.1 is.ending in
      subst (AllTasks X) (sym is.are) (both_rounds is.first (rounds_of is.instants ++ is.stop) first.0 (both_rounds (rounds_of is.instants) is.stop more.0 last))
