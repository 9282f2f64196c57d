-- The depth falls at each expression in an expression; the loops keep what is still to be read.
use Rattle.std.proofs.Common.{◌≡◌, ◌+◌, ◌-◌, ◌*◌}
use Rattle.expr_parser.specs.Reading.{items, items_from}
use Rattle.expr_parser.specs.Expression as read
use Rattle.expr_parser.proofs.reading.+reading.Given as goal

abbrev pub decreases-read_expression : goal.decreases-read_expression
decreases-read_expression l = l.depth * 7

abbrev pub decreases-nested : goal.decreases-nested
decreases-nested l = l.depth * 7 + 1

abbrev pub decreases-operand : goal.decreases-operand
decreases-operand l = l.depth * 7 + 6

abbrev pub decreases-named : goal.decreases-named
decreases-named l = l.depth * 7 + 5

abbrev pub decreases-arguments : goal.decreases-arguments
decreases-arguments l = l.depth * 7 + 3

abbrev pub decreases-listed : goal.decreases-listed
decreases-listed l = l.depth * 7 + 2

abbrev pub decreases-enclosed : goal.decreases-enclosed
decreases-enclosed l = l.depth * 7 + 5

abbrev pub decreases-unary : goal.decreases-unary
decreases-unary l = l.depth * 7 + 5

abbrev pub decreases-climb : goal.decreases-climb
decreases-climb l = l.depth * 7 + 6

abbrev pub decreases-operated : goal.decreases-operated
decreases-operated l = l.depth * 7 + 5

abbrev pub decreases-assign : goal.decreases-assign
decreases-assign l = l.depth * 7 + 4

abbrev pub decreases-choice : goal.decreases-choice
decreases-choice l = l.depth * 7 + 4

abbrev pub decreases-binary : goal.decreases-binary
decreases-binary l = l.depth * 7 + 4

abbrev pub decreases-index : goal.decreases-index
decreases-index l = l.depth * 7 + 4

abbrev pub decreases-member : goal.decreases-member
decreases-member l = l.depth * 7 + 4

abbrev pub decreases-read_field : goal.decreases-read_field
decreases-read_field l = l.depth * 7 + 3

abbrev pub decreases-bytes : goal.decreases-bytes
decreases-bytes l = l.depth * 7 + 2

abbrev pub invariant-listed-loop-turn : goal.invariant-listed-loop-turn
invariant-listed-loop-turn l =
    items (read.expression l.total l.depth 1) l.fn.cursor
    ≡ items_from (read.expression l.total l.depth 1) (l._turn-end - l._turn) l.found.items l.cursor

abbrev pub invariant-climb-loop-turn : goal.invariant-climb-loop-turn
invariant-climb-loop-turn l =
    read.climbs l.total (read.expression l.total l.depth) l.least l.fn.first l.fn.cursor
    ≡ read.climb l.total (read.expression l.total l.depth) l.least (l._turn-end - l._turn) l.left l.cursor
