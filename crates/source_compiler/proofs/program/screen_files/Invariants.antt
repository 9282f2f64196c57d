-- What stands between two files.
use Rattle.std.proofs.Common.{All, take}
use Rattle.source_compiler.specs.Source.{IsScreened}
use Rattle.source_compiler.proofs.program.screen_files.Given as goal

-- the files that were passed have only tokens that a program may have
abbrev pub invariant-loop-file : goal.invariant-loop-file
invariant-loop-file l = All IsScreened (take l.file-index l.files)
