-- Nodes that are loaded with the code of sources.
use Rattle.std.specs.Prelude.{◌≡◌, ℕ, List, map}
use Rattle.std.specs.List.{AllZip}
use Rattle.dbc_reader.specs.declared.message.DbcMessage.{DbcMessage}
use Rattle.capl_tree.specs.declared.file.Program.{Program}
use Rattle.bytecode.specs.declared.code.Code.{Code}
use Rattle.node_rounds.specs.Reaction.{NodeState}
use Rattle.node_run.specs.Code.{CodeMemory}
use Rattle.node_run.specs.Node.{NodeInRound, loaded}
use Rattle.source_laws.specs.Code.{IsSourceCode}

-- a node is loaded with the code of a program with a database, and each of its tasks has so many turns
pub record IsLoadedFor (base : List DbcMessage) (turns : ℕ) (program : Program) (node : NodeInRound) : Type 0
  where
    pub lines : List (List ℕ)
    pub code : Code
    pub first_row : ℕ
    pub code_is : IsSourceCode base program lines code
    pub is_loaded : node ≡ loaded code first_row turns

-- nodes as they stand
abbrev pub states_of : List NodeInRound → List (NodeState CodeMemory)
states_of nodes = map (λ node. node.doing.node) nodes

-- each node is loaded with the code of one of the programs, in order
abbrev pub AreLoadedFor : List DbcMessage → ℕ → List Program → List NodeInRound → Type 0
AreLoadedFor base turns programs nodes = AllZip (IsLoadedFor base turns) programs nodes
