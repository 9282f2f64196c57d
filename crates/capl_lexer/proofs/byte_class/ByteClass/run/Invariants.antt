-- The bytes so far are of the class.
use Rattle.std.proofs.Common.{take, All}
use Rattle.capl_lexer.specs.Inside.ByteClass.{IsInClass}
use Rattle.capl_lexer.proofs.byte_class.ByteClass.run.Given as goal

abbrev pub invariant-loop-place : goal.invariant-loop-place
invariant-loop-place l = All (IsInClass l.self) (take l.place l.text)
