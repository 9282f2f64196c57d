-- The code of a source.
use Rattle.std.specs.Prelude.{List}
use Rattle.bytecode.specs.declared.code.Code.{Code}
use Rattle.dbc_reader.specs.declared.message.DbcMessage.{DbcMessage}
use Rattle.capl_tree.specs.declared.file.Program.{Program}
use Rattle.capl_include.specs.declared.expanded.SourceFile.{SourceFile}
use Rattle.typed_tree.specs.declared.program.Typed.{Typed}
use Rattle.code_listing.specs.Program.{IsCodeOf}
use Rattle.check_types.specs.Accepted.{IsAccepted}
use Rattle.source_compiler.specs.Source.{lines_of}

-- code is that of a typed program of such a source
abbrev pub IsCodeFor : List DbcMessage → List SourceFile → Program → Code → Type 0
IsCodeFor base files program code =
    (typed : Typed) × IsAccepted base program (lines_of files) typed × IsCodeOf typed code
