-- The step of a task that a node did, or that a fault ended.
use Rattle.std.proofs.Common.{◌≡◌, ◌⊎◌, inl, inr, ℕ, ◌+◌, Bool, List, [], ◌∷◌, ◌++◌, MatchOption, Some, slice_get, subst}
use Rattle.can_frame.specs.Frame.{FrameFields}
use Rattle.run_records.specs.declared.record.Noted.TheVariants as entry
use Rattle.run_records.specs.Record.{RecordMeaning, RefusesEntry}
use Rattle.bytecode.specs.Laws.{BeginsWith}
use Rattle.stack_vm.specs.declared.meter.MeterRow.{MeterRow}
use Rattle.stack_vm.specs.Meter.{AddsRun}
use Rattle.node_rounds.specs.Reaction.{NodeState}
use Rattle.node_rounds.specs.Round.{Doing, DoesNext, Task}
use Rattle.node_run.specs.Code.{CodeMemory, code_reaction}
use Rattle.node_run.specs.Node.{DoesTask, IsTaskRefused, NodeInRound}
use Rattle.node_run.proofs.EachTask.{code_one_way}
use Rattle.run_meaning.specs.Done.{AreCut, AreDone}
use Rattle.run_meaning.specs.Steps.{Step, task_done}
use Rattle.run_meaning.proofs.DoneLemmas.{cut_in_task, done_task as done_by}
use Rattle.run_meaning.proofs.Once.{next_once}

-- the task that a node did is one step
pub done_task : {B R : Type 0} {after_request : B → ℕ → FrameFields → B} {meaning : RecordMeaning R} {rows : List ℕ} {number : ℕ} {node after : NodeInRound} {bus bus_after : B}
    {into into_after : R} {meter meter_after : List MeterRow} {stop : Bool} → slice_get rows number ≡ Some node.first_row
    → (done : DoesTask after_request meaning number node bus into meter stop after bus_after into_after meter_after)
    → AreDone meaning rows (task_done node.moment number done.task ∷ []) into into_after meter meter_after
done_task {node} is_first done = done_by is_first node.moment done.task done.lines done.metered

-- the next task of a node, which a fault ended, and whatever comes behind it
pub cut_task : {R : Type 0} {meaning : RecordMeaning R} {rows : List ℕ} {number : ℕ} {node : NodeInRound} {into into_after : R} {meter meter_after : List MeterRow} {task : Task}
    {after : Doing (NodeState CodeMemory)} → slice_get rows number ≡ Some node.first_row → DoesNext code_reaction node.moment node.doing task after
    → IsTaskRefused meaning number node into into_after meter meter_after → (rest : List Step) → AreCut meaning rows (task_done node.moment number task ∷ rest) into into_after meter meter_after
cut_task {meaning} {number} {node} {into} {into_after} {meter} {meter_after} {task} {after} is_first next refused rest =
    cut_in_task is_first node.moment task refused.lines (refused.first_lines task after next) refused.taken
    (elim refused.refusal as (λ _. (into_after ≡ refused.between)
    ⊎ ((text : List ℕ) × RefusesEntry meaning refused.between (entry.Line node.moment number text) into_after × BeginsWith task.lines (refused.lines ++ text ∷ []))) [
      | inl same ↦ inl same
      | inr more ↦ inr (more.0, more.1, more.2 task after next)
    ])
    (elim refused.metered as (λ _. (meter_after ≡ meter) ⊎ MatchOption task.trigger.procedure (meter_after ≡ meter) (λ handler. AddsRun (node.first_row + handler) task.turns meter meter_after)) [
      | inl same ↦ inl same
      | inr own ↦ inr (subst (λ (t : Task). MatchOption t.trigger.procedure (meter_after ≡ meter) (λ handler. AddsRun (node.first_row + handler) t.turns meter meter_after))
          (next_once code_reaction code_one_way node.moment node.doing own.0 task own.1 after own.2 next).0 own.3)
    ])
    rest
