-- A token breaks no rule where both tests fail.
use Rattle.std.proofs.Common.{sym, ◌∙◌}
use Rattle.capl_lexer.specs.Screening.{kinds_of}
use Rattle.capl_lexer.proofs.ScreeningLemmas.{breaks_none}
use Rattle.capl_lexer.proofs.screening.broken_rule.Goals as goal

pub returns-else-is_outside : goal.returns-else-is_outside
returns-else-is_outside c = λ rule breaks.
    breaks_none (kinds_of c.args.before.now) c.place_behind-place.result c.place_behind-place.ensures c.args.tok.now
    (sym c.is_floating_point.ensures ∙ c.if-is_floating_point.false) (sym c.is_outside.ensures ∙ c.if-is_outside.false) rule breaks
