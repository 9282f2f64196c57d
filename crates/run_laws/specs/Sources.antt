-- Nodes with sources.
use Rattle.std.specs.Prelude.{ℕ, List, map}
use Rattle.dbc_reader.specs.declared.message.DbcMessage.{DbcMessage}
use Rattle.capl_tree.specs.declared.file.Program.{Program}
use Rattle.node_rounds.specs.Reaction.{NodeState}
use Rattle.source_laws.specs.Reaction.{SourceMemory, first_source_node}

-- nodes with sources before the measurement
abbrev pub first_source_nodes : List DbcMessage → ℕ → List Program → List (NodeState SourceMemory)
first_source_nodes base turns programs = map (λ program. first_source_node base program turns) programs
