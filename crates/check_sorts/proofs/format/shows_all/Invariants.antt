-- What is left decides.
use Rattle.std.proofs.Common.{◌≡◌, length}
use Rattle.capl_meaning.specs.Format.{format_codes}
use Rattle.check_sorts.specs.Format.{shown}
use Rattle.check_sorts.proofs.format.shows_all.Given as goal

abbrev pub invariant-loop-code : goal.invariant-loop-code
invariant-loop-code l = shown (format_codes l.rest) l.left ≡ shown (format_codes l.text) l.sorts

abbrev pub decreases-loop-code : goal.decreases-loop-code
decreases-loop-code l = length l.rest
