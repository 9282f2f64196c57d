-- The depth falls at each statement in a statement; the loops keep what is still to be read.
use Rattle.std.proofs.Common.{◌≡◌, ◌+◌, ◌-◌, ◌*◌}
use Rattle.expr_parser.specs.Reading.{begins}
use Rattle.capl_lexer.specs.declared.token.Sign.TheVariants as sign
use Rattle.parser_laws.specs.Statement as read
use Rattle.parser_laws.specs.Statement.{parts_of, until}
use Rattle.stmt_parser.proofs.statement.+reading.Given as goal

abbrev pub decreases-read_statement : goal.decreases-read_statement
decreases-read_statement l = l.depth * 7

abbrev pub decreases-nested : goal.decreases-nested
decreases-nested l = l.depth * 7 + 2

abbrev pub decreases-body_part : goal.decreases-body_part
decreases-body_part l = l.depth * 7 + 1

abbrev pub decreases-arm : goal.decreases-arm
decreases-arm l = l.depth * 7 + 1

abbrev pub decreases-body : goal.decreases-body
decreases-body l = l.depth * 7 + 2

abbrev pub decreases-choice : goal.decreases-choice
decreases-choice l = l.depth * 7 + 3

abbrev pub decreases-while_loop : goal.decreases-while_loop
decreases-while_loop l = l.depth * 7 + 3

abbrev pub decreases-do_loop : goal.decreases-do_loop
decreases-do_loop l = l.depth * 7 + 3

abbrev pub decreases-for_loop : goal.decreases-for_loop
decreases-for_loop l = l.depth * 7 + 3

abbrev pub decreases-read_block : goal.decreases-read_block
decreases-read_block l = l.depth * 7 + 3

abbrev pub decreases-group : goal.decreases-group
decreases-group l = l.depth * 7 + 3

abbrev pub decreases-repeat : goal.decreases-repeat
decreases-repeat l = l.depth * 7 + 4

abbrev pub decreases-groups : goal.decreases-groups
decreases-groups l = l.depth * 7 + 4

abbrev pub decreases-switch : goal.decreases-switch
decreases-switch l = l.depth * 7 + 5

abbrev pub decreases-statement_by : goal.decreases-statement_by
decreases-statement_by l = l.depth * 7 + 6

abbrev pub invariant-body-loop-turn : goal.invariant-body-loop-turn
invariant-body-loop-turn l =
    let parts = parts_of l.total in
    let inner = read.statement parts l.depth in
    read.body parts inner l.fn.cursor
    ≡ until read.ends_body (read.body_part parts inner) (l._turn-end - l._turn) l.found.items l.cursor

abbrev pub invariant-groups-loop-turn : goal.invariant-groups-loop-turn
invariant-groups-loop-turn l =
    let parts = parts_of l.total in
    let inner = read.statement parts l.depth in
    read.groups parts inner l.fn.cursor
    ≡ until (begins sign.CloseBrace) (read.group parts inner) (l._turn-end - l._turn) l.found.items l.cursor

abbrev pub invariant-choice-loop-turn : goal.invariant-choice-loop-turn
invariant-choice-loop-turn l =
    let parts = parts_of l.total in
    let inner = read.statement parts l.depth in
    read.choice parts inner l.fn.cursor
    ≡ read.arms_from parts inner (l._turn-end - l._turn) l.arms.items l.cursor
