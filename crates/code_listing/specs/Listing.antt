-- Listings, of which the code of each part of a program is one: its instructions in order, each with the
-- number of values of its function that are on the stack when it is reached.
use Rattle.std.specs.Prelude.{ℕ, ◌+◌, Bool, not, if◌then◌else◌, ◌==◌, List, [], ◌∷◌}
use Rattle.bytecode.specs.declared.instr.Instr.{Instr}
use Rattle.bytecode.specs.declared.instr.Instr.TheVariants.{Jump}

-- instructions, each with the depth of its place
abbrev pub Listing : Type 0
Listing = List (Instr × ℕ)

-- one instruction where it is needed, and none otherwise
abbrev pub instr_if : Bool → Instr × ℕ → Listing
instr_if needed x = if needed then x ∷ [] else []

-- a jump over so many instructions, at a place with nothing on the stack; there is none where there is
-- nothing to jump over
abbrev pub jump_code : ℕ → ℕ → Listing
jump_code over place = instr_if (not (over == 0)) (Jump (place + 1 + over), 0)
