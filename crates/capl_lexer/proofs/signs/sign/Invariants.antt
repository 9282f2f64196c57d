-- The bytes so far spell the sign.
use Rattle.std.proofs.Common.{◌≡◌, ◌+◌, take}
use Rattle.capl_lexer.specs.Spelling.{sign_spelling}
use Rattle.capl_lexer.proofs.signs.sign.Given as goal

abbrev pub invariant-loop-place : goal.invariant-loop-place
invariant-loop-place l = take (l.place + 1) l.fn.text ≡ sign_spelling l.sign
