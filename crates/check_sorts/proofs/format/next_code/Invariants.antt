-- What is left has the same codes.
use Rattle.std.proofs.Common.{◌≡◌, ◌≤◌, length}
use Rattle.capl_meaning.specs.Format.{format_codes}
use Rattle.check_sorts.proofs.format.next_code.Given as goal

abbrev pub invariant-loop-piece : goal.invariant-loop-piece
invariant-loop-piece l = (format_codes l.rest ≡ format_codes l.text) × (length l.rest ≤ length l.text)

abbrev pub decreases-loop-piece : goal.decreases-loop-piece
decreases-loop-piece l = length l.rest
