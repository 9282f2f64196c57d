-- How the run of a world stands when all tasks of its round are done, and what follows then.
use Rattle.std.proofs.Common.{◌≡◌, ℕ, zero, suc, ◌+◌, ◌<◌, Bool, true, false, List, [], ◌∷◌, ◌++◌, length, Option, None, Some, arith, refl, ap, sym, ◌∙◌}
use Rattle.std.specs.Prelude.{◌||◌, if◌then◌else◌, IsSome, IsSomeAnd, is_some, slice_get}
use Rattle.std.specs.List.{AllByRecursion}
use Rattle.std.proofs.lemmas.List.{append_assoc}
use Rattle.can_bus.specs.declared.bus.Ended.{Ended}
use Rattle.can_bus.specs.Laws.{RequestsCommute}
use Rattle.can_bus.specs.Meaning.{BusMeaning}
use Rattle.node_rounds.specs.declared.round.Round.TheVariants as round
use Rattle.node_rounds.specs.Effects.{after_requests}
use Rattle.node_rounds.specs.Reaction.{Reacts}
use Rattle.node_rounds.specs.Round.{Doing, IsDone, Task, next_of}
use Rattle.run_meaning.specs.Run.{after_all_tasks, IsRound, IsSecond, Passed, RunState, after_round, ask_stop, finished, quiet_round, settled}
use Rattle.run_meaning.specs.Moments.{keys_at}
use Rattle.run_meaning.specs.Steps.{picks_after, task_count, Step, ended_steps, steps, task_steps}
use Rattle.run_meaning.specs.Rest.{RunsOn}
use Rattle.run_meaning.proofs.OrderLemmas.{bus_put, put_task, stop_put}
use Rattle.task_orders.specs.World.{Stage, at_round, in_first, in_pre_start, in_second, in_start, in_stop, is_last, round_of, run_in}
use Rattle.task_orders.proofs.Lefts.{begun_states, none_bus, none_stop}

-- ---- the end of a round

-- how a run stands at the end of a round with these tasks, the last round or another, which leave the nodes so
abbrev pub round_ends : {S B : Type 0} → BusMeaning B → Bool → RunState S B → List (List Task) → List S → RunState S B
round_ends {S} {B} bus true s tasks nodes = record s { nodes = nodes }
round_ends {S} {B} bus false s tasks nodes = after_round bus s tasks nodes

-- how it stands after one task, which leaves the nodes so
abbrev pub task_ends : {S B : Type 0} → BusMeaning B → Bool → RunState S B → ℕ → Task → List S → RunState S B
task_ends {S} {B} bus last s number task nodes = record s {
  nodes = nodes;
  bus = if last then s.bus else after_requests bus.after_request s.bus number task.requests;
  stops = if last then s.stops else s.stops || task.stops;
}

or_assoc : (a b c : Bool) → (a || (b || c)) ≡ ((a || b) || c)
or_assoc true b c = refl
or_assoc false b c = refl

or_false : (b : Bool) → (b || false) ≡ b
or_false true = refl
or_false false = refl

module _ {S B : Type 0} (bus : BusMeaning B) where
  -- a run, with another bus and another wish to stop
  abbrev pub standing : RunState S B → List S → B → Bool → RunState S B
  standing s nodes b stops = record s { nodes = nodes; bus = b; stops = stops }

  -- the task that comes first may be done before the others
  pub ends_put : RequestsCommute bus → (last : Bool) (s : RunState S B) (number : ℕ) (task : Task) (nodes : List S) (tasks : List (List Task)) (afters : List S) → number < length tasks
      → round_ends bus last s (put_task number task tasks) afters ≡ round_ends bus last (task_ends bus last s number task nodes) tasks afters
  ends_put commute true s number task nodes tasks afters within = refl
  ends_put commute false s number task nodes tasks afters within =
      let on_bus = bus_put bus commute 0 number task tasks s.bus within
      ∙ ap (λ n. after_all_tasks bus.after_request (after_requests bus.after_request s.bus n task.requests) 0 tasks) (let e : 0 + number ≡ number = omega arith in e) in
      let wish = ap (λ b. s.stops || b) (stop_put number task tasks within) ∙ or_assoc s.stops task.stops (ask_stop tasks) in
      ap (λ (b : B). standing s afters b (s.stops || ask_stop (put_task number task tasks))) on_bus
      ∙ ap (standing s afters (after_all_tasks bus.after_request (after_requests bus.after_request s.bus number task.requests) 0 tasks)) wish

  -- without tasks a run stands as before
  pub ends_none : (last : Bool) (s : RunState S B) (tasks : List (List Task)) (nodes : List S) → task_count tasks ≡ 0 → nodes ≡ s.nodes → round_ends bus last s tasks nodes ≡ s
  ends_none true s tasks nodes none same = ap (λ (ns : List S). standing s ns s.bus s.stops) same
  ends_none false s tasks nodes none same =
      ap (λ (ns : List S). standing s ns (after_all_tasks bus.after_request s.bus 0 tasks) (s.stops || ask_stop tasks)) same
      ∙ ap (λ (b : B). standing s s.nodes b (s.stops || ask_stop tasks)) (none_bus bus.after_request 0 tasks s.bus none)
      ∙ ap (standing s s.nodes s.bus) (ap (λ b. s.stops || b) (none_stop tasks none) ∙ or_false s.stops)

  -- the world at the beginning of a round stands as the run
  pub run_at_round : (r : Reacts S) (stage : Stage) (ended : Option Ended) (keys : List ℕ) (s : RunState S B) (happened : List Step) → run_in (at_round r stage ended keys s happened) ≡ s
  run_at_round r stage ended keys s happened = ap (λ (ns : List S). standing s ns s.bus s.stops) (begun_states r (round_of stage) ended keys 0 s.nodes)

-- what happened up to the end of a round, and after it
pub happened_on : (happened : List Step) (passed : Passed) (rounds : List Passed) (picks : List ℕ)
    → (happened ++ ended_steps passed.moment passed.ended) ++ (task_steps passed.moment passed.tasks picks ++ steps rounds (picks_after passed.tasks picks)) ≡ happened ++ steps (passed ∷ rounds) picks
happened_on happened passed rounds picks =
    let ended : List Step = ended_steps passed.moment passed.ended in
    let done : List Step = task_steps passed.moment passed.tasks picks in
    let more : List Step = steps rounds (picks_after passed.tasks picks) in
    append_assoc happened ended (done ++ more) ∙ ap (λ (l : List Step). happened ++ l) (sym (append_assoc ended done more))

-- ---- what follows a round

-- what follows the round before the start: that of the start, and what comes after it
pub record FromPreStart {S B : Type 0} (r : Reacts S) (bus : BusMeaning B) (until : ℕ) (s : RunState S B) (rounds : List Passed) (end : RunState S B) : Type 0 where
  pub tasks : List (List Task)
  pub between : RunState S B
  pub more : List Passed
  pub is_round : IsRound r bus round.Start None (keys_at s.moment s.keys) s tasks between
  pub goes_on : RunsOn r bus until (settled bus between) more end
  pub are : rounds ≡ quiet_round s.moment tasks ∷ more

-- what follows the first round of an instant: the second, where there is one, and what comes after it
pub record FromFirst {S B : Type 0} (r : Reacts S) (bus : BusMeaning B) (until : ℕ) (s : RunState S B) (rounds : List Passed) (end : RunState S B) : Type 0 where
  pub more : List Passed
  pub between : RunState S B
  pub others : List Passed
  pub second : IsSecond r bus (bus.ended s.bus s.moment) (finished bus s.moment s) more between
  pub goes_on : RunsOn r bus until (settled bus between) others end
  pub are : rounds ≡ more ++ others

-- what follows each round at whose end the run stands so
abbrev pub From : {S B : Type 0} → Reacts S → BusMeaning B → ℕ → Stage → RunState S B → List Passed → RunState S B → Type 0
From {S} {B} r bus until in_pre_start s rounds end = FromPreStart r bus until s rounds end
From {S} {B} r bus until in_start s rounds end = RunsOn r bus until (settled bus s) rounds end
From {S} {B} r bus until in_first s rounds end = FromFirst r bus until s rounds end
From {S} {B} r bus until in_second s rounds end = RunsOn r bus until (settled bus s) rounds end
From {S} {B} r bus until in_stop s rounds end = (rounds ≡ []) × (end ≡ s)

-- ---- where no move is possible

none_is : {X : Type 0} (o : Option X) → (IsSome o → ⊥) → o ≡ None
none_is None none = refl
none_is (Some x) none = absurd (none refl)

-- where no node has a task, all are done
pub all_done : {S : Type 0} (r : Reacts S) (now : ℕ) (ds : List (Doing S)) → ((number : ℕ) → IsSomeAnd (slice_get ds number) (λ d. IsSome (next_of r now d)) → ⊥) → AllByRecursion (IsDone r now) ds
all_done r now [] none = tt
all_done r now (d ∷ ds) none = (none_is (next_of r now d) (none 0), all_done r now ds (λ number. none (suc number)))

none_some : {X : Type 0} (o : Option X) → o ≡ None → IsSome o → ⊥
none_some o is some = let f : false ≡ true = sym (ap is_some is) ∙ some in cc

-- and the other way
pub none_at : {S : Type 0} (r : Reacts S) (now : ℕ) (ds : List (Doing S)) (number : ℕ) → AllByRecursion (IsDone r now) ds → IsSomeAnd (slice_get ds number) (λ d. IsSome (next_of r now d)) → ⊥
none_at r now [] number done can = elim can [ ]
none_at r now (d ∷ ds) zero done can = none_some (next_of r now d) done.0 can
none_at r now (d ∷ ds) (suc number) done can = none_at r now ds number done.1 can

-- where no round can be closed, it is the last
pub last_of : (stage : Stage) → (is_last stage ≡ false → ⊥) → stage ≡ in_stop
last_of in_pre_start none = absurd (none refl)
last_of in_start none = absurd (none refl)
last_of in_first none = absurd (none refl)
last_of in_second none = absurd (none refl)
last_of in_stop none = refl
