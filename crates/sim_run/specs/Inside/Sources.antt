-- The nodes of sources before the measurement.
use Rattle.std.specs.Prelude.{ℕ, List, map}
use Rattle.dbc_reader.specs.declared.message.DbcMessage.{DbcMessage}
use Rattle.node_rounds.specs.Reaction.{NodeState}
use Rattle.source_laws.specs.Reaction.{SourceMemory, first_source_node}
use Rattle.sim_inputs.specs.Accepted.{NodeSource}

-- nodes with sources before the measurement, each of whose tasks has so many turns
abbrev pub first_nodes : List DbcMessage → ℕ → List NodeSource → List (NodeState SourceMemory)
first_nodes base turns sources = map (λ source. first_source_node base source.program turns) sources
