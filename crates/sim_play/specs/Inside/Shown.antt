-- What was written of a run, between what is shown before it and what is shown behind it.
use Rattle.std.specs.Prelude.{◌≡◌, ℕ, List, ◌++◌, Option, take}
use Rattle.sim_outside.specs.Sink.{GrowsBy, GrowsByPrefix}
use Rattle.can_bus.specs.Meaning.{BusMeaning}
use Rattle.stack_vm.specs.declared.meter.MeterRow.{MeterRow}
use Rattle.node_rounds.specs.Reaction.{NodeState}
use Rattle.node_run.specs.Code.{CodeMemory, code_reaction}
use Rattle.run_meaning.specs.Counts.{AddsSteps}
use Rattle.run_meaning.specs.Done.{AddsAtMost}
use Rattle.run_meaning.specs.Run.{IsRun, Passed, RunState}
use Rattle.run_meaning.specs.Steps.{Step, entries, steps}
use Rattle.sim_core.specs.Core.{CoreState, rows_of, run_of, states_of}
use Rattle.sim_play.specs.Show.{shown}
use Rattle.sim_play.specs.declared.labels.Labels.{Labels}
use Rattle.sim_play.specs.declared.labels.Show.{Show}

-- a simulation was run, and what was written has grown by what is shown of its steps
pub record HasShown {B : Type 0} (bus : BusMeaning B) (show : Show) (labels : Labels)
    (before after : CoreState B) (written written_after : Option (List ℕ))
    (meter meter_after : List MeterRow) :
    Type 0 where
  pub rounds : List Passed
  pub end : RunState (NodeState CodeMemory) B
  pub is_run : IsRun code_reaction bus before.until (run_of before) rounds end
  pub nodes : states_of after.nodes ≡ end.nodes
  pub grows : GrowsBy written written_after (shown show labels (entries (steps rounds before.picks)))
  pub metered : AddsSteps (rows_of before.nodes) (steps rounds before.picks) meter meter_after

-- The run of a simulation was cut by a fault: what was written has grown by a beginning of what is shown of
-- its steps, all of the first of them among it.
pub record IsShownInPart {B : Type 0} (bus : BusMeaning B) (show : Show) (labels : Labels)
    (before : CoreState B) (written written_after : Option (List ℕ)) (meter meter_after : List MeterRow) :
    Type 0 where
  pub rounds : List Passed
  pub end : RunState (NodeState CodeMemory) B
  pub is_run : IsRun code_reaction bus before.until (run_of before) rounds end
  pub begins : GrowsByPrefix written written_after (shown show labels (entries (steps rounds before.picks)))
  pub front : List Step
  pub rest : List Step
  pub are : steps rounds before.picks ≡ front ++ rest
  pub more : List ℕ
  pub whole : GrowsBy written written_after (shown show labels (entries front) ++ more)
  pub metered : AddsAtMost (rows_of before.nodes) (front ++ take 1 rest) meter meter_after
