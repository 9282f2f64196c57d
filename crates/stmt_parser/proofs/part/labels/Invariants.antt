-- What is still to be read.
use Rattle.std.proofs.Common.{◌≡◌, ◌-◌, not}
use Rattle.parser_laws.specs.Statement as read
use Rattle.parser_laws.specs.Statement.{parts_of, until}
use Rattle.stmt_parser.proofs.part.labels.Given as goal

abbrev pub invariant-loop-turn : goal.invariant-loop-turn
invariant-loop-turn l =
    read.labels (parts_of l.total) l.fn.cursor
    ≡ until (λ ts. not (read.begins_label ts)) (read.label (parts_of l.total)) (l.most - l._turn)
    l.found.items l.cursor
