-- What is still to be read.
use Rattle.std.proofs.Common.{◌≡◌, ◌-◌}
use Rattle.expr_parser.specs.Reading.{begins}
use Rattle.capl_lexer.specs.declared.token.Sign.TheVariants as sign
use Rattle.parser_laws.specs.File as read
use Rattle.parser_laws.specs.Statement.{parts_of, until}
use Rattle.capl_parser.proofs.file.declarations.Given as goal

abbrev pub invariant-loop-turn : goal.invariant-loop-turn
invariant-loop-turn l =
    read.declarations (parts_of l.total) l.fn.cursor
    ≡ until (begins sign.CloseBrace) (parts_of l.total).declared (l._turn-end - l._turn) l.found.items l.cursor
