-- The nodes of sources are those of their programs.
use Rattle.std.proofs.Common.{◌≡◌, ℕ, List, [], ◌∷◌, map, refl, ap}
use Rattle.dbc_reader.specs.declared.message.DbcMessage.{DbcMessage}
use Rattle.node_rounds.specs.Reaction.{NodeState}
use Rattle.run_laws.specs.Sources.{first_source_nodes}
use Rattle.sim_inputs.specs.Accepted.{NodeSource}
use Rattle.source_laws.specs.Reaction.{SourceMemory, first_source_node}
use Rattle.sim_run.specs.Inside.Sources.{first_nodes}

-- the nodes of sources are those of their programs
pub nodes_of_programs : (base : List DbcMessage) (turns : ℕ) (sources : List NodeSource) → first_source_nodes base turns (map (λ source. source.program) sources) ≡ first_nodes base turns sources
nodes_of_programs base turns [] = refl
nodes_of_programs base turns (source ∷ sources) =
    ap (λ (nodes : List (NodeState SourceMemory)). first_source_node base source.program turns ∷ nodes) (nodes_of_programs base turns sources)
