-- What is still to be read.
use Rattle.std.proofs.Common.{◌≡◌, ◌-◌}
use Rattle.expr_parser.specs.Reading.{items, items_from}
use Rattle.parser_laws.specs.File as read
use Rattle.capl_parser.proofs.head.some_parameters.Given as goal

abbrev pub invariant-loop-turn : goal.invariant-loop-turn
invariant-loop-turn l =
    items (read.parameter l.total) l.fn.cursor
    ≡ items_from (read.parameter l.total) (l._turn-end - l._turn) l.found.items l.cursor
