-- The tasks of a round, one after another, in the order of the picks.
use Rattle.std.proofs.Common.{◌≡◌, ℕ, zero, suc, ◌+◌, ◌<◌, ◌≤◌, inl, inr, Bool, true, false, List, [], ◌∷◌, ◌++◌, length, Option, Some, None, arith, refl, ap, sym, subst, ◌∙◌}
use Rattle.std.specs.Prelude.{◌||◌, ◌%◌, IfSome, IsSome, drop, map, slice_get, slice_set}
use Rattle.std.specs.List.{AllByRecursion, sum_by}
use Rattle.std.proofs.lemmas.List.{append-nil, append_assoc}
use Rattle.std.proofs.lemmas.List.Sums.{sum_by-cons}
use Rattle.texts.specs.Fault.{HasRisen}
use Rattle.can_frame.specs.Frame.{FrameFields}
use Rattle.can_bus.specs.Laws.{NodesStay, RequestsCommute}
use Rattle.can_bus.specs.Meaning.{BusMeaning}
use Rattle.run_records.specs.Record.{RecordMeaning}
use Rattle.stack_vm.specs.declared.meter.MeterRow.{MeterRow}
use Rattle.node_rounds.specs.Effects.{after_requests}
use Rattle.node_rounds.specs.Reaction.{NodeState}
use Rattle.node_rounds.specs.Round.{DoesNext, Task, next_of}
use Rattle.node_run.specs.Code.{CodeMemory, code_reaction}
use Rattle.node_run.specs.Node.{NodeInRound}
use Rattle.run_meaning.specs.Run.{after_all_tasks, ask_stop}
use Rattle.run_meaning.specs.Done.{AreCut, AreDone}
use Rattle.run_meaning.specs.Steps.{first_tasks, next_pick, nodes_with_tasks, picked, picks_after, task_count, Step, task_done, task_steps}
use Rattle.run_meaning.proofs.DoneLemmas.{cut_more, done_more, done_none}
use Rattle.run_meaning.proofs.EachPart.{to_do}
use Rattle.run_meaning.proofs.Once.{some_same}
use Rattle.run_meaning.proofs.OrderLemmas.{bus_put, picks_put, put_task, steps_put, stop_put}
use Rattle.sim_core.specs.Core.{KeepsNodes, rows_of, states_of}
use Rattle.sim_core.specs.Inside.Kept.{IsIdle}
use Rattle.sim_core.specs.Inside.Tasks.{AreLeft, AreTasksCut, DoTasks, DoesOne, IsOneCut, IsOpen, IsOwn, doings_of, has_next, open_nodes}
use Rattle.sim_core.proofs.CodeLives.{code_left, code_less, code_next}
use Rattle.sim_core.proofs.Lefts.{AreAt, closed_by, in_front, is_none, left_put, no_tasks, none_left, open_at, open_left, picked_is}
use Rattle.sim_core.proofs.TaskSteps.{cut_task, done_task}

-- ---- nodes in a list

-- nodes of their own stand at the moment
pub are_at : (now : ℕ) (nodes : List NodeInRound) → AllByRecursion (IsOwn now) nodes → AreAt now nodes
are_at now [] own = tt
are_at now (node ∷ nodes) own = (own.0.at, are_at now nodes own.1)

-- what holds of all nodes holds of the one at a place
pub all_at : (P : NodeInRound → Type 0) (nodes : List NodeInRound) (number : ℕ) (node : NodeInRound) → AllByRecursion P nodes → slice_get nodes number ≡ Some node → P node
all_at P [] number node all at = absurd (let f : None ≡ Some node = at in cc)
all_at P (one ∷ nodes) zero node all at = subst P (some_same at) all.0
all_at P (one ∷ nodes) (suc number) node all at = all_at P nodes number node all.1 at

-- and of all, with another in its place of which it holds
pub all_set : (P : NodeInRound → Type 0) (nodes : List NodeInRound) (number : ℕ) (after : NodeInRound) → AllByRecursion P nodes → P after → AllByRecursion P (slice_set nodes number after)
all_set P [] number after all here = tt
all_set P (one ∷ nodes) zero after all here = (here, all.1)
all_set P (one ∷ nodes) (suc number) after all here = (all.0, all_set P nodes number after all.1 here)

-- a place of a node is within the list
pub at_within : (nodes : List NodeInRound) (number : ℕ) (node : NodeInRound) → slice_get nodes number ≡ Some node → number < length nodes
at_within [] number node at = absurd (let f : None ≡ Some node = at in cc)
at_within (one ∷ nodes) zero node at = omega arith
at_within (one ∷ nodes) (suc number) node at = let more = at_within nodes number node at in omega (arith, more)

-- the row of a node among those of all
pub row_at : (nodes : List NodeInRound) (number : ℕ) (node : NodeInRound) → slice_get nodes number ≡ Some node → slice_get (rows_of nodes) number ≡ Some node.first_row
row_at [] number node at = absurd (let f : None ≡ Some node = at in cc)
row_at (one ∷ nodes) zero node at = ap (λ (n : NodeInRound). Some n.first_row) (some_same at)
row_at (one ∷ nodes) (suc number) node at = row_at nodes number node at

work_cons : (now : ℕ) (node : NodeInRound) (nodes : List NodeInRound) → sum_by (λ (n : NodeInRound). to_do now n.doing) (node ∷ nodes) ≡ to_do now node.doing + sum_by (λ (n : NodeInRound). to_do now n.doing) nodes
work_cons now node nodes = sum_by-cons (λ (n : NodeInRound). to_do now n.doing) node nodes

-- how much all nodes have left to do
abbrev pub work : ℕ → List NodeInRound → ℕ
work now nodes = sum_by (λ (n : NodeInRound). to_do now n.doing) nodes

work_set : (now : ℕ) (nodes : List NodeInRound) (number : ℕ) (node after : NodeInRound) → slice_get nodes number ≡ Some node → to_do now after.doing < to_do now node.doing
    → work now (slice_set nodes number after) < work now nodes
work_set now [] number node after at less = absurd (let f : None ≡ Some node = at in cc)
work_set now (one ∷ nodes) zero node after at less =
    let a = work_cons now after nodes in let b = work_cons now one nodes in
    let less : to_do now after.doing < to_do now one.doing = subst (λ (n : NodeInRound). to_do now after.doing < to_do now n.doing) (sym (some_same at)) less in omega (arith, a, b, less)
work_set now (one ∷ nodes) (suc number) node after at less =
    let a = work_cons now one (slice_set nodes number after) in let b = work_cons now one nodes in
    let more = work_set now nodes number node after at less in omega (arith, a, b, more)

-- ---- nothing is left

none_count : (nodes : List NodeInRound) → task_count (no_tasks nodes) ≡ 0
none_count [] = refl
none_count (node ∷ nodes) = let here = sum_by-cons length [] (no_tasks nodes) in let more = none_count nodes in omega (arith, here, more)

no_bus : {B : Type 0} (after_request : B → ℕ → FrameFields → B) (number : ℕ) (nodes : List NodeInRound) (b : B) → after_all_tasks after_request b number (no_tasks nodes) ≡ b
no_bus after_request number [] b = refl
no_bus after_request number (node ∷ nodes) b = no_bus after_request (number + 1) nodes b

no_stop : (nodes : List NodeInRound) → ask_stop (no_tasks nodes) ≡ false
no_stop [] = refl
no_stop (node ∷ nodes) = no_stop nodes

or_false : (b : Bool) → (b || false) ≡ b
or_false true = refl
or_false false = refl

-- ---- the tasks that each node has left

-- tasks that are left, and where they lead
abbrev LeftThere : ℕ → List NodeInRound → Type 0
LeftThere now nodes = (tasks : List (List Task)) × (afters : List (NodeState CodeMemory)) × AreLeft now (doings_of nodes) tasks afters

all_left : (now : ℕ) (nodes : List NodeInRound) → AllByRecursion (IsOwn now) nodes → LeftThere now nodes
all_left now [] own = ([], [], tt)
all_left now (node ∷ nodes) own =
    let one = code_left now node own.0 in let more = all_left now nodes own.1 in (one.0 ∷ more.0, one.1 ∷ more.1, (one.2, more.2))

-- ---- how far the tasks of a round are done

-- the tasks that are left complete those of the round
record Completes {B : Type 0} (after_request : B → ℕ → FrameFields → B) (now : ℕ) (nodes₀ : List NodeInRound) (bus₀ : B) (picks₀ : List ℕ) (steps : List Step) (stops : Bool)
    (bus : B) (picks : List ℕ) (tasks : List (List Task)) (afters : List (NodeState CodeMemory)) : Type 0 where
  all : List (List Task)
  left : AreLeft now (doings_of nodes₀) all afters
  bus_is : after_all_tasks after_request bus₀ 0 all ≡ after_all_tasks after_request bus 0 tasks
  steps_are : task_steps now all picks₀ ≡ steps ++ task_steps now tasks picks
  picks_are : picks_after all picks₀ ≡ picks_after tasks picks
  stops_are : ask_stop all ≡ (stops || ask_stop tasks)

-- The first tasks of a round are done: these are their steps, and what the nodes have left completes the round.
pub record HasGone {B R : Type 0} (bus_is : BusMeaning B) (meaning : RecordMeaning R) (now : ℕ) (nodes₀ : List NodeInRound) (bus₀ : B) (picks₀ : List ℕ) (into₀ : R) (meter₀ : List MeterRow)
    (stops : Bool) (nodes : List NodeInRound) (bus : B) (picks : List ℕ) (into : R) (meter : List MeterRow) : Type 0 where
  pub steps : List Step
  pub done : AreDone meaning (rows_of nodes₀) steps into₀ into meter₀ meter
  completes : (tasks : List (List Task)) (afters : List (NodeState CodeMemory)) → AreLeft now (doings_of nodes) tasks afters
      → Completes bus_is.after_request now nodes₀ bus₀ picks₀ steps stops bus picks tasks afters
  pub own : AllByRecursion (IsOwn now) nodes
  pub keeps : KeepsNodes nodes₀ nodes
  pub long : length nodes ≡ length nodes₀
  pub rows_long : length meter ≡ length meter₀
  pub serves : bus_is.nodes bus ≡ bus_is.nodes bus₀
  pub faults_stay : meaning.faults into₀ ≤ meaning.faults into

module _ {B R : Type 0} (bus_is : BusMeaning B) (commute : RequestsCommute bus_is) (stay : NodesStay bus_is) (meaning : RecordMeaning R) (now : ℕ) (nodes₀ : List NodeInRound) (bus₀ : B)
    (picks₀ : List ℕ) (into₀ : R) (meter₀ : List MeterRow) where
  -- at the beginning none is done
  pub gone_none : AllByRecursion (IsOwn now) nodes₀ → HasGone bus_is meaning now nodes₀ bus₀ picks₀ into₀ meter₀ false nodes₀ bus₀ picks₀ into₀ meter₀
  gone_none own = record {
    steps = [];
    done = done_none;
    completes = λ tasks afters left. record { all = tasks; left = left; bus_is = refl; steps_are = refl; picks_are = refl; stops_are = refl };
    own = own;
    keeps = record { rows = refl; codes = refl };
    long = refl;
    rows_long = refl;
    serves = refl;
    faults_stay = omega arith;
  }

  nodes_requests : (b : B) (node : ℕ) (frames : List FrameFields) → bus_is.nodes (after_requests bus_is.after_request b node frames) ≡ bus_is.nodes b
  nodes_requests b node [] = refl
  nodes_requests b node (frame ∷ frames) = nodes_requests (bus_is.after_request b node frame) node frames ∙ stay.request b node frame

  or_assoc : (a b c : Bool) → ((a || b) || c) ≡ (a || (b || c))
  or_assoc true b c = refl
  or_assoc false b c = refl

  -- one more task is done
  pub gone_more : (stops : Bool) (nodes : List NodeInRound) (bus : B) (picks : List ℕ) (into : R) (meter : List MeterRow) (number : ℕ) (stop : Bool) (nodes_after : List NodeInRound) (bus_after : B)
      (into_after : R) (meter_after : List MeterRow) → HasGone bus_is meaning now nodes₀ bus₀ picks₀ into₀ meter₀ stops nodes bus picks into meter
      → slice_get (open_nodes 0 nodes) (next_pick picks % length (open_nodes 0 nodes)) ≡ Some number
      → DoesOne bus_is.after_request meaning number nodes bus into meter stop nodes_after bus_after into_after meter_after → KeepsNodes nodes nodes_after → length nodes_after ≡ length nodes
      → length meter_after ≡ length meter → meaning.faults into ≤ meaning.faults into_after
      → HasGone bus_is meaning now nodes₀ bus₀ picks₀ into₀ meter₀ (stops || stop) nodes_after bus_after (drop 1 picks) into_after meter_after
  gone_more stops nodes bus picks into meter number stop nodes_after bus_after into_after meter_after gone chosen one keeps long rows_long rise =
      let task : Task = one.does.task in
      let own : IsOwn now one.node = all_at (IsOwn now) nodes number one.node gone.own one.at in
      let next : DoesNext code_reaction now one.node.doing task one.after.doing = subst (λ m. DoesNext code_reaction m one.node.doing task one.after.doing) own.at one.does.next in
      let own_after : IsOwn now one.after = code_next now one.node one.after task own next one.does.same_moment in
      let step : AreDone meaning (rows_of nodes₀) (task_done now number task ∷ []) into into_after meter meter_after =
      subst (λ m. AreDone meaning (rows_of nodes₀) (task_done m number task ∷ []) into into_after meter meter_after) own.at
      (done_task (ap (λ (rows : List ℕ). slice_get rows number) (sym gone.keeps.rows) ∙ row_at nodes number one.node one.at) one.does) in
      record {
        steps = gone.steps ++ task_done now number task ∷ [];
        done = done_more gone.done step;
        completes = λ tasks afters left.
            let put = left_put now task number nodes one.node one.after one.at next tasks afters (subst (λ (ns : List NodeInRound). AreLeft now (doings_of ns) tasks afters) one.nodes_are left) in
            let whole = gone.completes (put_task number task tasks) afters put.0 in
            let named : picked (nodes_with_tasks 0 (put_task number task tasks)) (next_pick picks) ≡ number =
            ap (λ (l : List ℕ). picked l (next_pick picks)) (open_left now 0 nodes (put_task number task tasks) afters (are_at now nodes gone.own) put.0)
            ∙ picked_is (open_nodes 0 nodes) (next_pick picks) number chosen in
            record {
              all = whole.all;
              left = whole.left;
              bus_is = whole.bus_is ∙ bus_put bus_is commute 0 number task tasks bus put.1
                  ∙ ap (λ n. after_all_tasks bus_is.after_request (after_requests bus_is.after_request bus n task.requests) 0 tasks) (let e : 0 + number ≡ number = omega arith in e)
                  ∙ ap (λ b. after_all_tasks bus_is.after_request b 0 tasks) (sym one.does.requests);
              steps_are = whole.steps_are ∙ ap (λ (l : List Step). gone.steps ++ l) (steps_put now number task tasks picks put.1 named)
                  ∙ sym (append_assoc gone.steps (task_done now number task ∷ []) (task_steps now tasks (drop 1 picks)));
              picks_are = whole.picks_are ∙ picks_put number task tasks picks put.1;
              stops_are = whole.stops_are ∙ ap (λ b. stops || b) (stop_put number task tasks put.1)
                  ∙ ap (λ b. stops || (b || ask_stop tasks)) (sym one.does.stops) ∙ sym (or_assoc stops stop (ask_stop tasks));
            };
        own = subst (λ (ns : List NodeInRound). AllByRecursion (IsOwn now) ns) (sym one.nodes_are) (all_set (IsOwn now) nodes number one.after gone.own own_after);
        keeps = record { rows = keeps.rows ∙ gone.keeps.rows; codes = keeps.codes ∙ gone.keeps.codes };
        long = long ∙ gone.long;
        rows_long = rows_long ∙ gone.rows_long;
        serves = ap bus_is.nodes one.does.requests ∙ nodes_requests bus number task.requests ∙ gone.serves;
        faults_stay = let before = gone.faults_stay in omega (arith, before, rise);
      }

  -- each task leaves less to do
  pub gone_less : (stops : Bool) (nodes : List NodeInRound) (bus : B) (picks : List ℕ) (into : R) (meter : List MeterRow) (number : ℕ) (stop : Bool) (nodes_after : List NodeInRound) (bus_after : B)
      (into_after : R) (meter_after : List MeterRow) → HasGone bus_is meaning now nodes₀ bus₀ picks₀ into₀ meter₀ stops nodes bus picks into meter
      → DoesOne bus_is.after_request meaning number nodes bus into meter stop nodes_after bus_after into_after meter_after → work now nodes_after < work now nodes
  gone_less stops nodes bus picks into meter number stop nodes_after bus_after into_after meter_after gone one =
      let own : IsOwn now one.node = all_at (IsOwn now) nodes number one.node gone.own one.at in
      let next : DoesNext code_reaction now one.node.doing one.does.task one.after.doing = subst (λ m. DoesNext code_reaction m one.node.doing one.does.task one.after.doing) own.at one.does.next in
      subst (λ (ns : List NodeInRound). work now ns < work now nodes) (sym one.nodes_are) (work_set now nodes number one.node one.after one.at (code_less now one.node one.after one.does.task own next))

  no_steps : (nodes : List NodeInRound) (picks : List ℕ) → task_steps now (no_tasks nodes) picks ≡ []
  no_steps nodes picks = ap (λ n. map (λ (one : ℕ × Task). task_done now one.0 one.1) (first_tasks n (no_tasks nodes) picks)) (none_count nodes)

  -- at the end all are done
  pub gone_all : (stops : Bool) (nodes : List NodeInRound) (bus : B) (picks : List ℕ) (into : R) (meter : List MeterRow)
      → HasGone bus_is meaning now nodes₀ bus₀ picks₀ into₀ meter₀ stops nodes bus picks into meter
      → open_nodes 0 nodes ≡ [] → DoTasks bus_is.after_request meaning now nodes₀ bus₀ picks₀ into₀ meter₀ stops nodes bus picks into meter
  gone_all stops nodes bus picks into meter gone none =
      let left = none_left now 0 nodes (are_at now nodes gone.own) none in
      let whole = gone.completes (no_tasks nodes) (states_of nodes) left in
      record {
        tasks = whole.all;
        left = whole.left;
        bus_is = sym (whole.bus_is ∙ no_bus bus_is.after_request 0 nodes bus);
        picks_are = sym (whole.picks_are ∙ ap (λ n. drop n picks) (none_count nodes));
        stops_are = sym (whole.stops_are ∙ ap (λ b. stops || b) (no_stop nodes) ∙ or_false stops);
        done = subst (λ (l : List Step). AreDone meaning (rows_of nodes₀) l into₀ into meter₀ meter)
            (sym (whole.steps_are ∙ ap (λ (l : List Step). gone.steps ++ l) (no_steps nodes picks) ∙ append-nil gone.steps)) gone.done;
      }

  -- the next one was cut
  pub gone_cut : (stops : Bool) (nodes : List NodeInRound) (bus : B) (picks : List ℕ) (into : R) (meter : List MeterRow) (number : ℕ) (into_after : R) (meter_after : List MeterRow)
      → HasGone bus_is meaning now nodes₀ bus₀ picks₀ into₀ meter₀ stops nodes bus picks into meter
      → slice_get (open_nodes 0 nodes) (next_pick picks % length (open_nodes 0 nodes)) ≡ Some number
      → IsOneCut meaning number nodes into into_after meter meter_after → AreTasksCut meaning now nodes₀ picks₀ into₀ into_after meter₀ meter_after
  gone_cut stops nodes bus picks into meter number into_after meter_after gone chosen cut =
      let all = all_left now nodes gone.own in
      let own : IsOwn now cut.node = all_at (IsOwn now) nodes number cut.node gone.own cut.at in
      let open_ = open_at 0 (next_pick picks % length (open_nodes 0 nodes)) number nodes chosen in
      let place : open_.place ≡ number = let e = open_.is in omega (arith, e) in
      let same : open_.node ≡ cut.node = some_same (sym open_.at ∙ ap (λ k. slice_get nodes k) place ∙ cut.at) in
      let some : IsSome (next_of code_reaction now cut.node.doing) =
      subst (λ m. IsSome (next_of code_reaction m cut.node.doing)) own.at (subst (λ (n : NodeInRound). IsSome (next_of code_reaction n.moment n.doing)) same open_.next) in
      let front = in_front now number nodes cut.node cut.at some all.0 all.1 all.2 in
      let whole = gone.completes all.0 all.1 all.2 in
      let named : picked (nodes_with_tasks 0 (put_task number front.task front.rest)) (next_pick picks) ≡ number =
      ap (λ (ts : List (List Task)). picked (nodes_with_tasks 0 ts) (next_pick picks)) (sym front.are)
      ∙ ap (λ (l : List ℕ). picked l (next_pick picks)) (open_left now 0 nodes all.0 all.1 (are_at now nodes gone.own) all.2)
      ∙ picked_is (open_nodes 0 nodes) (next_pick picks) number chosen in
      let step : AreCut meaning (rows_of nodes₀) (task_done now number front.task ∷ task_steps now front.rest (drop 1 picks)) into into_after meter meter_after =
      subst (λ m. AreCut meaning (rows_of nodes₀) (task_done m number front.task ∷ task_steps now front.rest (drop 1 picks)) into into_after meter meter_after) own.at
      (cut_task (ap (λ (rows : List ℕ). slice_get rows number) (sym gone.keeps.rows) ∙ row_at nodes number cut.node cut.at)
      (subst (λ m. DoesNext code_reaction m cut.node.doing front.task front.after) (sym own.at) front.next) cut.refused (task_steps now front.rest (drop 1 picks))) in
      record {
        tasks = whole.all;
        afters = all.1;
        left = whole.left;
        cut = subst (λ (l : List Step). AreCut meaning (rows_of nodes₀) l into₀ into_after meter₀ meter_after)
            (sym (whole.steps_are ∙ ap (λ (l : List Step). gone.steps ++ l)
            (ap (λ (ts : List (List Task)). task_steps now ts picks) front.are ∙ steps_put now number front.task front.rest picks front.within named)))
            (cut_more gone.done step);
      }

-- ---- what the choice of the next node tells

if_some : {X : Type 0} (P : X → Type 0) (o : Option X) (x : X) → o ≡ Some x → P x → IfSome o P
if_some P o x is p = subst (λ o. IfSome o P) (sym is) p

-- the chosen node stands in the list and has a further task
pub is_open : (nodes : List NodeInRound) (picks : List ℕ) (number : ℕ) → slice_get (open_nodes 0 nodes) (next_pick picks % length (open_nodes 0 nodes)) ≡ Some number
    → (number < length nodes) × IsOpen nodes number
is_open nodes picks number chosen =
    let open_ = open_at 0 (next_pick picks % length (open_nodes 0 nodes)) number nodes chosen in
    let place : open_.place ≡ number = let e = open_.is in omega (arith, e) in
    let at : slice_get nodes number ≡ Some open_.node = ap (λ k. slice_get nodes k) (sym place) ∙ open_.at in
    (at_within nodes number open_.node at, if_some (λ node. IsSome (next_of code_reaction node.moment node.doing)) (slice_get nodes number) open_.node at open_.next)

-- without an open node all are idle
pub all_idle : (number : ℕ) (nodes : List NodeInRound) → open_nodes number nodes ≡ [] → AllByRecursion IsIdle nodes
all_idle number [] is = tt
all_idle number (node ∷ nodes) is =
    let both = closed_by (has_next node) number (open_nodes (number + 1) nodes) is in
    (is_none (next_of code_reaction node.moment node.doing) both.0, all_idle (number + 1) nodes both.1)

-- a count that rose after it did not fall, rose
pub rises_from : (a b c : ℕ) → a ≤ b → HasRisen b c → HasRisen a c
rises_from a b c stays rose = elim rose [ inl above ↦ inl (omega arith) | inr top ↦ inr top ]
