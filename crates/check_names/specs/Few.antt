-- How much a program may declare, so that its parts and variables have numbers of 32 bits.
use Rattle.std.specs.Prelude.{◌<◌, ◌^◌, List, length}
use Rattle.dbc_reader.specs.declared.message.DbcMessage.{DbcMessage}
use Rattle.capl_tree.specs.declared.file.Program.{Program}
use Rattle.capl_meaning.specs.Variable.{parts_of, variables_of}

-- a program has fewer than 2^32 files, parts and variables
pub record IsFew (program : Program) : Type 0 where
  pub files : length program.files < 2 ^ 32
  pub parts : length (parts_of program) < 2 ^ 32
  pub variables : (base : List DbcMessage) → length (variables_of base program) < 2 ^ 32
