-- What was made of a source: code, the sizes of the program that it is of, and the names of its files.
use Rattle.std.specs.Prelude.{◌≡◌, ◌≤◌, ℕ, List, All, map}
use Rattle.dbc_reader.specs.declared.message.DbcMessage.{DbcMessage}
use Rattle.capl_tree.specs.Weight.{weight}
use Rattle.capl_tree.specs.declared.file.Program.{Program}
use Rattle.capl_include.specs.Expansion.{Contents}
use Rattle.capl_include.specs.declared.expanded.SourceFile.{SourceFile}
use Rattle.capl_meaning.specs.Store.{cells_of_program}
use Rattle.source_compiler.specs.Source.{IsSource, AreTreesOf, IsScreened, most}
use Rattle.source_compiler.specs.Code.{IsCodeFor}
use Rattle.source_compiler.specs.declared.compiled.Compiled.{Compiled}

-- the code is that of a program, the cells and the weight are those of the same program, and the names are
-- those of its files, in program order
pub record IsMadeOf (base : List DbcMessage) (files : List SourceFile) (program : Program)
    (compiled : Compiled) : Type 0 where
  pub code_is : IsCodeFor base files program compiled.code
  pub cells_are : compiled.cells ≡ cells_of_program base program
  pub weight_is : compiled.weight ≡ weight program
  pub files_are : compiled.files ≡ map (λ file. file.name) files

-- it was made of an accepted source
pub record IsCompiledSource (contents : Contents) (name : List ℕ) (base : List DbcMessage)
    (compiled : Compiled) : Type 0 where
  pub files : List SourceFile
  pub program : Program
  pub source : IsSource contents name base files program
  pub made : IsMadeOf base files program compiled

-- it was made of the program of files, which is right and not too large
pub record IsCompiled (base : List DbcMessage) (files : List SourceFile) (compiled : Compiled) : Type 0 where
  pub screened : All IsScreened files
  pub program : Program
  pub trees : AreTreesOf files program
  pub light : weight program ≤ most
  pub made : IsMadeOf base files program compiled

-- it was made of a program that is the trees of its files
pub record IsCoded (base : List DbcMessage) (compiled : Compiled) : Type 0 where
  pub files : List SourceFile
  pub program : Program
  pub trees : AreTreesOf files program
  pub made : IsMadeOf base files program compiled
