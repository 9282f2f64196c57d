-- Nodes that are loaded with the code of sources are alike to nodes with the sources.
use Rattle.std.proofs.Common.{ℕ, List, [], ◌∷◌, sym, subst}
use Rattle.std.specs.List.{AllZip}
use Rattle.dbc_reader.specs.declared.message.DbcMessage.{DbcMessage}
use Rattle.capl_tree.specs.declared.file.Program.{Program}
use Rattle.node_rounds.specs.Follows.{NodesAlike}
use Rattle.node_run.specs.Node.{NodeInRound}
use Rattle.source_laws.specs.Reaction.{first_source_node}
use Rattle.source_laws.specs.Stands.{StandsFor}
use Rattle.source_laws.proofs.Following.{loaded_alike}
use Rattle.run_laws.specs.Nodes.{AreLoadedFor, IsLoadedFor, states_of}
use Rattle.run_laws.specs.Sources.{first_source_nodes}

one_alike : (base : List DbcMessage) (turns : ℕ) (program : Program) (node : NodeInRound) → IsLoadedFor base turns program node →
    NodesAlike StandsFor node.doing.node (first_source_node base program turns)
one_alike base turns program node is =
    subst (λ (n : NodeInRound). NodesAlike StandsFor n.doing.node (first_source_node base program turns)) (sym is.is_loaded)
    (loaded_alike base program is.lines is.code is.code_is is.first_row turns)

-- nodes that are loaded are alike to nodes with the sources, one by one
pub all_alike : (base : List DbcMessage) (turns : ℕ) (programs : List Program) (nodes : List NodeInRound) → AreLoadedFor base turns programs nodes →
    AllZip (NodesAlike StandsFor) (states_of nodes) (first_source_nodes base turns programs)
all_alike base turns [] [] all = tt
all_alike base turns [] (node ∷ nodes) all = elim all [ ]
all_alike base turns (program ∷ programs) [] all = elim all [ ]
all_alike base turns (program ∷ programs) (node ∷ nodes) all = (one_alike base turns program node all.0, all_alike base turns programs nodes all.1)
