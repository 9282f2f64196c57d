-- A simulation as contracts see it, and what its calls make of it.
use Rattle.std.specs.Prelude.{◌≡◌, ◌⊎◌, ℕ, ◌<◌, Bool, true, false, List, map, All, IfSome}
use Rattle.can_bus.specs.Meaning.{BusMeaning}
use Rattle.run_records.specs.Record.{RecordMeaning}
use Rattle.stack_vm.specs.declared.meter.MeterRow.{MeterRow}
use Rattle.scenario.specs.declared.scenario.KeyItem.{KeyItem}
use Rattle.replay_node.specs.declared.replay.Request.{Request}
use Rattle.node_rounds.specs.Reaction.{NodeState}
use Rattle.node_run.specs.Code.{CodeMemory, code_reaction}
use Rattle.node_run.specs.Node.{HasRows, NodeInRound, loaded}
use Rattle.node_run.specs.Sound.{IsSound}
use Rattle.run_meaning.specs.Done.{AreCut, AreDone}
use Rattle.run_meaning.specs.Run.{HasBegun, IsInstant, IsRun, Passed, RunState, next_instant}
use Rattle.run_meaning.specs.Steps.{picks_left, steps}
use Rattle.sim_core.specs.declared.simulation.Phase.{Phase}
use Rattle.sim_core.specs.declared.simulation.Phase.TheVariants.{New, Going}

-- a simulation: its nodes, its bus, the keys, the requests of a replay and the picks that are still to come,
-- the end moment, the present moment, whether a node asked to stop, and how far it has come
pub record CoreState (B : Type 0) : Type 0 where
  pub nodes : List NodeInRound
  pub bus : B
  pub keys : List KeyItem
  pub requests : List Request
  pub picks : List ℕ
  pub until : ℕ
  pub moment : ℕ
  pub stops : Bool
  pub phase : Phase

-- how nodes stand, without what they have left to do in a round
abbrev pub states_of : List NodeInRound → List (NodeState CodeMemory)
states_of nodes = map (λ node. node.doing.node) nodes

-- the first row of each node in a meter
abbrev pub rows_of : List NodeInRound → List ℕ
rows_of nodes = map (λ node. node.first_row) nodes

-- how the run of a simulation stands
abbrev pub run_of : {B : Type 0} → CoreState B → RunState (NodeState CodeMemory) B
run_of {B} core = record {
  nodes = states_of core.nodes;
  bus = core.bus;
  keys = core.keys;
  requests = core.requests;
  moment = core.moment;
  stops = core.stops;
}

-- a node as it was loaded
pub record IsLoaded (node : NodeInRound) : Type 0 where
  pub is_new : node ≡ loaded node.doing.node.memory.code node.first_row node.doing.node.memory.turns
  pub is_sound : IsSound node.doing.node

-- a simulation of which nothing has happened yet
abbrev pub new_core : {B : Type 0} → List NodeInRound → B → List KeyItem → List Request → List ℕ → ℕ
    → CoreState B
new_core {B} nodes bus keys requests picks until = record {
  nodes = nodes;
  bus = bus;
  keys = keys;
  requests = requests;
  picks = picks;
  until = until;
  moment = 0;
  stops = false;
  phase = New;
}

-- a meter has the rows of all nodes
abbrev pub HaveRows : List MeterRow → List NodeInRound → Type 0
HaveRows meter nodes = All (HasRows meter) nodes

-- rounds of the next instant of a simulation: that of moment 0, where it is new, and else a further one
abbrev pub IsNextInstant : {B : Type 0} → BusMeaning B → CoreState B → List Passed
    → RunState (NodeState CodeMemory) B → Type 0
IsNextInstant {B} bus core rounds after =
    ((core.phase ≡ New) × HasBegun code_reaction bus (run_of core) rounds after)
    ⊎ ((core.phase ≡ Going) × IsInstant code_reaction bus core.until (run_of core) rounds after)

-- there is no further instant: a node asked to stop, or nothing is due up to the end moment
pub record HasNoInstant {B : Type 0} (bus : BusMeaning B) (core : CoreState B) : Type 0 where
  pub has_begun : core.phase ≡ Going
  pub is_over : (core.stops ≡ true)
      ⊎ IfSome (next_instant code_reaction bus (run_of core)) (λ moment. core.until < moment)

-- nodes have their code and their rows still
pub record KeepsNodes (before after : List NodeInRound) : Type 0 where
  pub rows : rows_of after ≡ rows_of before
  pub codes : map (λ node. node.doing.node.memory.code) after
      ≡ map (λ node. node.doing.node.memory.code) before

-- the nodes of a simulation have their code and their rows still, and its end moment stays
pub record KeepsCore {B : Type 0} (before after : CoreState B) : Type 0 where
  pub nodes : KeepsNodes before.nodes after.nodes
  pub until : after.until ≡ before.until

-- The next instant of a simulation was done: these are its rounds, their steps in the order of the picks went
-- to the record and to the meter, and so the run stands, with the picks that are left.
pub record DoesInstant {B R : Type 0} (bus : BusMeaning B) (meaning : RecordMeaning R)
    (before : CoreState B) (into : R) (meter : List MeterRow) (after : CoreState B) (into_after : R)
    (meter_after : List MeterRow) : Type 0 where
  pub rounds : List Passed
  pub is_next : IsNextInstant bus before rounds (run_of after)
  pub done : AreDone meaning (rows_of before.nodes) (steps rounds before.picks)
      into into_after meter meter_after
  pub picks : after.picks ≡ picks_left rounds before.picks
  pub goes : after.phase ≡ Going
  pub keeps : KeepsCore before after

-- the next instant of a simulation was cut by a fault
pub record IsInstantCut {B R : Type 0} (bus : BusMeaning B) (meaning : RecordMeaning R)
    (before : CoreState B) (into into_after : R) (meter meter_after : List MeterRow) : Type 0 where
  pub rounds : List Passed
  pub after : RunState (NodeState CodeMemory) B
  pub is_next : IsNextInstant bus before rounds after
  pub cut : AreCut meaning (rows_of before.nodes) (steps rounds before.picks)
      into into_after meter meter_after

-- there is a run of a simulation
pub record HasARun {B : Type 0} (bus : BusMeaning B) (core : CoreState B) : Type 0 where
  pub rounds : List Passed
  pub end : RunState (NodeState CodeMemory) B
  pub is_run : IsRun code_reaction bus core.until (run_of core) rounds end

-- A simulation was run: there is a run of its nodes, its steps in the order of the picks went to the record
-- and to the meter, and so its nodes stand at the end.
pub record HasRun {B R : Type 0} (bus : BusMeaning B) (meaning : RecordMeaning R) (before : CoreState B)
    (into : R) (meter : List MeterRow) (after : CoreState B) (into_after : R) (meter_after : List MeterRow) :
    Type 0 where
  pub rounds : List Passed
  pub end : RunState (NodeState CodeMemory) B
  pub is_run : IsRun code_reaction bus before.until (run_of before) rounds end
  pub nodes : states_of after.nodes ≡ end.nodes
  pub done : AreDone meaning (rows_of before.nodes) (steps rounds before.picks)
      into into_after meter meter_after

-- the run of a simulation was cut by a fault
pub record IsRunCut {B R : Type 0} (bus : BusMeaning B) (meaning : RecordMeaning R) (before : CoreState B)
    (into into_after : R) (meter meter_after : List MeterRow) : Type 0 where
  pub rounds : List Passed
  pub end : RunState (NodeState CodeMemory) B
  pub is_run : IsRun code_reaction bus before.until (run_of before) rounds end
  pub cut : AreCut meaning (rows_of before.nodes) (steps rounds before.picks)
      into into_after meter meter_after
