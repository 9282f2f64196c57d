-- The tokens so far are those of the pieces up to the position, as far as they are kept.
use Rattle.std.proofs.Common.{length, ◌-◌}
use Rattle.capl_lexer.specs.Inside.Position.{IsPositionIn}
use Rattle.capl_lexer.specs.Reading.{token_limit}
use Rattle.capl_lexer.proofs.PartialReadingLemmas.{HasKept}
use Rattle.capl_lexer.proofs.reading.lex.Given as goal

abbrev pub invariant-loop-position : goal.invariant-loop-position
invariant-loop-position l = record {
  at : IsPositionIn l.bytes l.position;
  read : HasKept token_limit l.bytes l.position.place l.tokens.items;
}

abbrev pub decreases-loop-position : goal.decreases-loop-position
decreases-loop-position l = length l.bytes - l.position.place
