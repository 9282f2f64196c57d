-- Quiet functions and event procedures, whose runs give a host neither a line nor a frame.
use Rattle.std.specs.Prelude.{◌≡◌, ℕ, Some, slice_get, IsSomeAnd}
use Rattle.bytecode.specs.declared.code.Code.{Code}
use Rattle.bytecode.specs.declared.code.Fun.{Fun}
use Rattle.bytecode.specs.declared.instr.Instr.{Instr}
use Rattle.bytecode.specs.declared.instr.Instr.TheVariants.{Call, Send, Write}
use Rattle.bytecode.specs.Rule.{IsIn}

-- the function of a number has an instruction at one of its places
pub record HasInstr (code : Code) (number : ℕ) (instr : Instr) : Type 0 where
  pub function : Fun
  pub place : ℕ
  pub is_function : slice_get code.functions number ≡ Some function
  pub inside : IsIn function place
  pub is_there : slice_get code.instrs place ≡ Some instr

-- a function is quiet where it has neither Write nor Send, and each function that it calls is quiet
pub data IsQuiet (code : Code) : ℕ → Type 0 where
  quiet : {number : ℕ} → ((format : ℕ) → ¬ (HasInstr code number (Write format))) →
      ((at : ℕ) → ¬ (HasInstr code number (Send at))) →
      ((callee : ℕ) → HasInstr code number (Call callee) → IsQuiet code callee) → IsQuiet code number

-- an event procedure is quiet where its function is
abbrev pub IsQuietHandler : Code → ℕ → Type 0
IsQuietHandler code handler =
    IsSomeAnd (slice_get code.handlers handler) (λ procedure. IsQuiet code procedure.function)
