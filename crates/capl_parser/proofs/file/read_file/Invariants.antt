-- What is still to be read.
use Rattle.std.proofs.Common.{◌≡◌, ◌-◌}
use Rattle.parser_laws.specs.File as read
use Rattle.parser_laws.specs.Statement.{parts_of, until}
use Rattle.capl_parser.proofs.file.read_file.Given as goal

abbrev pub invariant-loop-turn : goal.invariant-loop-turn
invariant-loop-turn l =
    read.file (parts_of l.total) l.fn.cursor
    ≡ until read.is_end (read.top_item (parts_of l.total)) (l._turn-end - l._turn) l.found.items l.cursor
