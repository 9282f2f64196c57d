-- The codes of the nodes of a scenario, and the names of their files.
use Rattle.std.specs.Prelude.{◌≡◌, ℕ, List, All, map}
use Rattle.std.specs.List.{AllZip, sum_by}
use Rattle.bytecode.specs.declared.code.Code.{Code}
use Rattle.capl_include.specs.Expansion.{Contents}
use Rattle.dbc_reader.specs.declared.message.DbcMessage.{DbcMessage}
use Rattle.scenario.specs.declared.scenario.NodeItem.{NodeItem}
use Rattle.source_compiler.specs.Source.{AreTreesOf}
use Rattle.sim_inputs.specs.Answer.{AreCodesFor}
use Rattle.sim_inputs.specs.Accepted.{AreWithin, IsNodeSource, NodeSource, cells_in, file_names, weight_in}

-- the sources of nodes are accepted, each by itself: one for each node, in order
abbrev pub AreSources : Contents → List ℕ → List DbcMessage → List NodeItem → List NodeSource → Type 0
AreSources contents name base nodes sources = AllZip (IsNodeSource contents name base) nodes sources

-- the sources of nodes are accepted, are not too large together, and these are the codes of their programs
-- and the names of their files
pub record AreNodeCodes (contents : Contents) (name : List ℕ) (base : List DbcMessage)
    (nodes : List NodeItem) (codes : List Code) (files : List (List (List ℕ))) : Type 0 where
  pub sources : List NodeSource
  pub sources_at : AreSources contents name base nodes sources
  pub fit : AreWithin (sum_by (cells_in base) sources) (sum_by weight_in sources)
  pub codes_are : AreCodesFor base sources codes
  pub files_are : files ≡ map file_names sources

-- these are the codes of the programs of some sources, which are the trees of their files, and the names of
-- these files
pub record AreOfSources (base : List DbcMessage) (codes : List Code)
    (files : List (List (List ℕ))) : Type 0 where
  pub sources : List NodeSource
  pub codes_are : AreCodesFor base sources codes
  pub trees : All (λ source. AreTreesOf source.files source.program) sources
  pub files_are : files ≡ map file_names sources
