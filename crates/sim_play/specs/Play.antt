-- What it is to play a simulation: to run it whole and show what a command asks for.
use Rattle.std.specs.Prelude.{◌≡◌, ◌⊎◌, ℕ, ◌+◌, ◌<◌, ◌^◌, List, [], ◌∷◌, ◌++◌, length, map, Option, Some, slice_get, take, replicate, All, ⊤}
use Rattle.std.specs.List.{range_with_len, sum_by}
use Rattle.sim_outside.specs.Sink.{GrowsBy, GrowsByPrefix}
use Rattle.can_bus.specs.Meaning.{BusMeaning}
use Rattle.stack_vm.specs.declared.meter.MeterRow.{MeterRow}
use Rattle.node_rounds.specs.Reaction.{NodeState}
use Rattle.node_run.specs.Code.{CodeMemory, code_reaction}
use Rattle.node_run.specs.Node.{NodeInRound}
use Rattle.run_meaning.specs.Counts.{row_then}
use Rattle.run_meaning.specs.Done.{AddsAtMost}
use Rattle.run_meaning.specs.Run.{IsRun, Passed, RunState}
use Rattle.run_meaning.specs.Steps.{Step, entries, steps}
use Rattle.sim_core.specs.Core.{CoreState, rows_of, run_of}
use Rattle.sim_play.specs.Profile.{profile_of}
use Rattle.sim_play.specs.Show.{shown, shown_first, summary_of}
use Rattle.sim_play.specs.declared.labels.Labels.{Labels}
use Rattle.sim_play.specs.declared.labels.Show.{Show}
use Rattle.sim_play.specs.declared.labels.Show.TheVariants.{Profile, Summary}

-- ---- conditions

-- the files of a node name the file of each of its handlers: there is one alone, or handlers number them
abbrev pub HasFiles : List (List ℕ) → NodeInRound → Type 0
HasFiles files node =
    (length files ≡ 1) ⊎ All (λ handler. handler.file < length files) node.doing.node.memory.code.handlers

-- there is one list of files for each node
abbrev pub HaveFiles : List (List (List ℕ)) → List NodeInRound → Type 0
HaveFiles [] [] = ⊤
HaveFiles (files ∷ others) (node ∷ nodes) = HasFiles files node × HaveFiles others nodes
HaveFiles _ _ = ⊥

-- labels are those of nodes: one name and one list of files for each
pub record AreLabelsOf (labels : Labels) (nodes : List NodeInRound) : Type 0 where
  pub names : length labels.names ≡ length nodes
  pub files : HaveFiles labels.files nodes
  pub in_range : labels.epoch < 2 ^ 32

-- the rows of nodes stand one behind the other, from a number on, and so many are behind them all
abbrev pub StandInOrder : ℕ → List NodeInRound → ℕ → Type 0
StandInOrder number [] end = end ≡ number
StandInOrder number (node ∷ nodes) end =
    (node.first_row ≡ number)
    × StandInOrder (number + length node.doing.node.memory.code.handlers) nodes end

-- a meter has the rows of nodes in order, all of zeros, and no other
pub record AreNewRows (nodes : List NodeInRound) (meter : List MeterRow) : Type 0 where
  pub in_order : StandInOrder 0 nodes (length meter)
  pub zeros : meter ≡ replicate (length meter) (record { runs = 0; turns = 0 })

-- ---- what is played

-- how many event procedures nodes have
abbrev pub procedures_of : List NodeInRound → ℕ
procedures_of nodes = sum_by (λ node. length node.doing.node.memory.code.handlers) nodes

-- the rows of nodes after steps, in order
abbrev pub rows_then : List NodeInRound → List Step → List MeterRow
rows_then nodes list = map (row_then (rows_of nodes) list) (range_with_len 0 (procedures_of nodes))

-- what is shown at the end of steps: the profile or the summary, where it is asked for
abbrev pub shown_last : Show → Labels → List NodeInRound → List Step → List ℕ
shown_last Profile labels nodes list =
    profile_of labels.names labels.files (row_then (rows_of nodes) list) nodes
shown_last Summary labels nodes list = summary_of labels (length nodes) (entries list) (rows_then nodes list)
shown_last _ labels nodes list = []

-- all that is shown of a run with these steps
abbrev pub shown_run : Show → Labels → List NodeInRound → List Step → List ℕ
shown_run show labels nodes list =
    shown_first show labels ++ shown show labels (entries list)
    ++ shown_last show labels nodes list

-- A simulation was played: there is a run of it, what was written has grown by all that is shown of its
-- steps, and each row of the meter is that of the steps.
pub record HasPlayed {B : Type 0} (bus : BusMeaning B) (show : Show) (labels : Labels) (core : CoreState B)
    (written written_after : Option (List ℕ)) (meter_after : List MeterRow) : Type 0 where
  pub rounds : List Passed
  pub end : RunState (NodeState CodeMemory) B
  pub is_run : IsRun code_reaction bus core.until (run_of core) rounds end
  pub grows : GrowsBy written written_after (shown_run show labels core.nodes (steps rounds core.picks))
  pub counts : (number : ℕ) → number < length meter_after →
      slice_get meter_after number ≡ Some (row_then (rows_of core.nodes) (steps rounds core.picks) number)

-- A fault ended it: there is a run, and what was written has grown by a beginning of all that is shown of it.
-- The first of its steps were shown whole, and no row has more runs than after these and the step behind
-- them.
pub record IsPlayedInPart {B : Type 0} (bus : BusMeaning B) (show : Show) (labels : Labels)
    (core : CoreState B)
    (written written_after : Option (List ℕ)) (meter meter_after : List MeterRow) : Type 0 where
  pub rounds : List Passed
  pub end : RunState (NodeState CodeMemory) B
  pub is_run : IsRun code_reaction bus core.until (run_of core) rounds end
  pub begins : GrowsByPrefix written written_after (shown_run show labels core.nodes
      (steps rounds core.picks))
  pub front : List Step
  pub rest : List Step
  pub are : steps rounds core.picks ≡ front ++ rest
  pub whole : (front ≡ []) ⊎ ((more : List ℕ) × GrowsBy written written_after
      (shown_first show labels ++ (shown show labels (entries front) ++ more)))
  pub metered : AddsAtMost (rows_of core.nodes) (front ++ take 1 rest) meter meter_after
