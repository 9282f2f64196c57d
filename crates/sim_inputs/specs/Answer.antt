-- What reading the inputs of a name may answer, over what the files hold.
use Rattle.std.specs.Prelude.{◌≡◌, ◌<◌, ◌≤◌, ◌^◌, ℕ, List, All, length, map, Result, Ok, Err, ⊤}
use Rattle.std.specs.List.{AllZip}
use Rattle.bytecode.specs.declared.code.Code.{Code}
use Rattle.log_line.specs.Written.{IsLoggable}
use Rattle.replay_node.specs.declared.replay.Replay.{Replay}
use Rattle.scenario.specs.Scenario.{IsScenario}
use Rattle.scenario.specs.declared.scenario.Scenario.{Scenario}
use Rattle.dbc_reader.specs.declared.message.DbcMessage.{DbcMessage}
use Rattle.capl_include.specs.Expansion.{Contents}
use Rattle.sim_inputs.specs.Accepted.{AreAccepted, IsFirstBlame, NodeSource, file_names}
use Rattle.source_compiler.specs.Code.{IsCodeFor}
use Rattle.source_compiler.specs.Source.{AreTreesOf}
use Rattle.sim_inputs.specs.declared.inputs.Inputs.{Inputs}
use Rattle.input_refusals.specs.declared.refusal.InputRefusal.{InputRefusal}
use Rattle.input_refusals.specs.declared.refusal.InputRefusal.TheVariants.{Blamed, Failed, NoMemory}

-- these are codes of the programs of sources: one for each source, in order
abbrev pub AreCodesFor : List DbcMessage → List NodeSource → List Code → Type 0
AreCodesFor base sources codes =
    AllZip (λ source code. IsCodeFor base source.files source.program code) sources codes

-- the inputs are accepted, and have the scenario, the codes for the programs, the names of their files, and
-- the replay
pub record AreInputsOf (contents : Contents) (name : List ℕ) (inputs : Inputs) : Type 0 where
  pub base : List DbcMessage
  pub sources : List NodeSource
  pub accepted : AreAccepted contents name inputs.scenario base sources inputs.replay
  pub codes : AreCodesFor base sources inputs.codes.items
  pub files : inputs.files ≡ map file_names sources

-- the answer is what the files come to: accepted inputs, or their first blame
abbrev pub IsAnswer : Contents → List ℕ → Result Inputs InputRefusal → Type 0
IsAnswer contents name (Ok inputs) = AreInputsOf contents name inputs
IsAnswer contents name (Err (Blamed blame)) = IsFirstBlame contents name blame
IsAnswer contents name (Err Failed) = ⊤
IsAnswer contents name (Err NoMemory) = ⊤

-- Inputs have codes for the programs of some sources, which are the trees of their files, and the names of
-- these files.
pub record AreCoded (inputs : Inputs) : Type 0 where
  pub base : List DbcMessage
  pub sources : List NodeSource
  pub codes : AreCodesFor base sources inputs.codes.items
  pub trees : All (λ source. AreTreesOf source.files source.program) sources
  pub files : inputs.files ≡ map file_names sources

-- a scenario is that of some text, and has 1 to 64 nodes
pub record IsTaken (scenario : Scenario) : Type 0 where
  pub text : List ℕ
  pub is : IsScenario text scenario
  pub some_node : 1 ≤ length scenario.nodes.items
  pub few_nodes : length scenario.nodes.items ≤ 64

-- the requests of a replay are frames of the first channel that can be sent, and its epoch is a number of 32
-- bits
pub record IsPlayable (replay : Replay) : Type 0 where
  pub frames : All (λ request. IsLoggable request.frame) replay.list
  pub epoch : replay.epoch < 2 ^ 32

-- inputs have one code for each node
abbrev pub HaveCodeForEach : Inputs → Type 0
HaveCodeForEach inputs = length inputs.codes.items ≡ length inputs.scenario.nodes.items
