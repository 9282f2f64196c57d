-- The targets of instructions. They are of this project's own machine.
use Rattle.std.specs.Prelude.{ℕ, ⊤}
use Rattle.bytecode.specs.declared.instr.Instr.{Instr}
use Rattle.bytecode.specs.declared.instr.Instr.TheVariants.{Jump, Zero, Case, Back}

-- an instruction with a target
abbrev pub HasTarget : Instr → Type 0
HasTarget (Jump target) = ⊤
HasTarget (Zero target) = ⊤
HasTarget (Case target label) = ⊤
HasTarget (Back target) = ⊤
HasTarget _ = ⊥

-- the instruction with this target, if it has one
abbrev pub aimed : ℕ → Instr → Instr
aimed target (Jump old) = Jump target
aimed target (Zero old) = Zero target
aimed target (Case old label) = Case target label
aimed target (Back old) = Back target
aimed target other = other
