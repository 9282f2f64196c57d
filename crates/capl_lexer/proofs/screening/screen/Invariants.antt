-- No token so far breaks a rule.
use Rattle.std.proofs.Common.{◌<◌, ℕ}
use Rattle.texts.specs.declared.blame.Rule.{Rule}
use Rattle.capl_lexer.specs.Screening.{Breaks}
use Rattle.capl_lexer.proofs.screening.screen.Given as goal

abbrev pub invariant-loop-place : goal.invariant-loop-place
invariant-loop-place l = (earlier : ℕ) (rule : Rule) → earlier < l.place → Breaks l.tokens earlier rule → ⊥
