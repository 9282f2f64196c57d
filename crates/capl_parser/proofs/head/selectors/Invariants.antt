-- What is still to be read.
use Rattle.std.proofs.Common.{◌≡◌, ◌-◌}
use Rattle.expr_parser.specs.Reading.{items, items_from}
use Rattle.parser_laws.specs.File as read
use Rattle.capl_parser.proofs.head.selectors.Given as goal

abbrev pub invariant-loop-turn : goal.invariant-loop-turn
invariant-loop-turn l =
    items (read.selector l.total) l.fn.cursor
    ≡ items_from (read.selector l.total) (l._turn-end - l._turn) l.found.items l.cursor
