-- The register of the CRC.
use Rattle.std.specs.Prelude.{◌≡◌, ℕ, ◌≤◌, Bool, List, ◌++◌, length}
use Rattle.can_frame.specs.Frame.{field_bits}
use Rattle.frame_bits.specs.Length.{bit_sum, division_steps}

-- the register holds what the division of the bits so far adds to the bits that follow
abbrev pub IsRegister : ℕ → List Bool → Type 0
IsRegister register bits =
    (more : List Bool) → 15 ≤ length more
    → division_steps (length bits) (bits ++ more) ≡ bit_sum (field_bits 15 register) more
