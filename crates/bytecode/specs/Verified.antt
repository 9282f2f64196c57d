-- Verified code.
use Rattle.std.specs.Prelude.{◌≡◌, ℕ, ◌<◌, ◌^◌, List, [], ◌∷◌, length, All, slice_get, Some}
use Rattle.write_format.specs.Line.{IsShort}
use Rattle.bytecode.specs.declared.code.Code.{Code}
use Rattle.bytecode.specs.declared.code.Fun.{Fun}
use Rattle.bytecode.specs.declared.instr.Instr.{Instr}
use Rattle.bytecode.specs.Rule.{IsIn, KeepsRule}
use Rattle.run_effects.specs.Effect.{selectors_of}
use Rattle.bytecode.specs.Tables.{KeepsTables}

-- functions that cover the places from one up to an end, in order and without a gap, and none of them empty
abbrev pub Cover : ℕ → List Fun → ℕ → Type 0
Cover from [] end = from ≡ end
Cover from (function ∷ rest) end =
    (function.start ≡ from) × (from < function.end) × Cover function.end rest end

-- the functions cover the instructions, and there are as many depths
pub record IsLaidOut (code : Code) : Type 0 where
  pub covered : Cover 0 code.functions (length code.instrs)
  pub depths : length code.depths ≡ length code.instrs

-- the rule of a place holds, in the function that has it
abbrev pub KeepsRuleAt : Code → ℕ → Type 0
KeepsRuleAt code place = (number : ℕ) (function : Fun) (instr : Instr) (depth : ℕ) →
    slice_get code.functions number ≡ Some function → IsIn function place →
    slice_get code.instrs place ≡ Some instr → slice_get code.depths place ≡ Some depth →
    KeepsRule code number function place instr depth

-- the rule of each place holds
abbrev pub KeepsAllRules : Code → Type 0
KeepsAllRules code = (place : ℕ) → place < length code.instrs → KeepsRuleAt code place

-- code that keeps every rule of the verifier
pub record IsVerified (code : Code) : Type 0 where
  pub laid_out : IsLaidOut code
  pub places : KeepsAllRules code
  pub tables : KeepsTables code

-- no list of the code, at any depth, has 2^32 items or more
pub record IsShortCode (code : Code) : Type 0 where
  pub instrs : length code.instrs < 2 ^ 32
  pub depths : length code.depths < 2 ^ 32
  pub functions : length code.functions < 2 ^ 32
  pub handlers : length code.handlers < 2 ^ 32
  pub selectors : All (λ handler. length (selectors_of handler.event) < 2 ^ 32) code.handlers
  pub cells : length code.cells < 2 ^ 32
  pub starts : length code.starts < 2 ^ 32
  pub timers : length code.timers < 2 ^ 32
  pub formats : length code.formats < 2 ^ 32
  pub texts : All IsShort code.formats
