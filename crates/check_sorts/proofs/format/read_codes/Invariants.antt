-- The codes so far, before those of what is left.
use Rattle.std.proofs.Common.{◌≡◌, ◌++◌, length}
use Rattle.std.specs.Option.{option_map}
use Rattle.capl_meaning.specs.Format.{format_codes}
use Rattle.check_sorts.proofs.format.read_codes.Given as goal

abbrev pub invariant-loop-code : goal.invariant-loop-code
invariant-loop-code l =
    option_map (λ rest. l.codes.items ++ rest) (format_codes l.left) ≡ format_codes l.text

abbrev pub decreases-loop-code : goal.decreases-loop-code
decreases-loop-code l = length l.left
