-- What is still to be read.
use Rattle.std.proofs.Common.{◌≡◌, ◌-◌}
use Rattle.expr_parser.specs.Reading.{items, items_from}
use Rattle.decl_parser.specs.Declaration as read
use Rattle.decl_parser.proofs.reading.declarators.Given as goal

abbrev pub invariant-loop-turn : goal.invariant-loop-turn
invariant-loop-turn l =
    items (read.declarator l.total l.depth) l.fn.cursor
    ≡ items_from (read.declarator l.total l.depth) (l._turn-end - l._turn) l.found.items l.cursor
