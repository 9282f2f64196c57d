-- The exit of a test: where it goes for one of the two truths, while it goes on to its end for the other.
use Rattle.std.specs.Prelude.{ℕ, Bool, true, false, not, [], ◌∷◌}
use Rattle.bytecode.specs.declared.instr.Instr.{Instr}
use Rattle.bytecode.specs.declared.instr.Instr.TheVariants.{Back, Not, Zero}
use Rattle.code_listing.specs.Listing.{Listing}

-- forward to a place, by an instruction that goes there where a number is 0; or back to a place, by one that
-- takes a turn and goes there where a number is not 0
pub data Exit : Type 0 where
  Forward : ℕ → Exit
  Backward : ℕ → Exit

-- the truth for which the exit's own instruction goes there
abbrev pub own_truth : Exit → Bool
own_truth (Forward target) = false
own_truth (Backward target) = true

-- the instruction of an exit
abbrev pub exit_instr : Exit → Instr
exit_instr (Forward target) = Zero target
exit_instr (Backward target) = Back target

-- two truths are the same
abbrev pub same_truth : Bool → Bool → Bool
same_truth true b = b
same_truth false b = not b

-- The exit for a truth, behind the number that decides, which is on top at this depth. Where its own
-- instruction goes there for the other truth, `Not` is before it.
abbrev pub exit_code : Bool → Exit → ℕ → Listing
exit_code true (Backward target) depth = (Back target, depth) ∷ []
exit_code true (Forward target) depth = (Not, depth) ∷ (Zero target, depth) ∷ []
exit_code false (Backward target) depth = (Not, depth) ∷ (Back target, depth) ∷ []
exit_code false (Forward target) depth = (Zero target, depth) ∷ []
