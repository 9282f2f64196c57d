-- How far code keeps the rules of the verifier.
use Rattle.std.specs.Prelude.{◌≡◌, ℕ, ◌<◌, length, slice_get, Some}
use Rattle.bytecode.specs.declared.code.Code.{Code}
use Rattle.bytecode.specs.declared.code.Fun.{Fun}
use Rattle.bytecode.specs.declared.instr.Instr.{Instr}
use Rattle.bytecode.specs.Rule.{IsIn, KeepsRule}
use Rattle.bytecode.specs.Verified.{KeepsRuleAt}

-- a place keeps its rule in the function of this number
abbrev pub KeepsRuleIn : Code → ℕ → Fun → ℕ → Type 0
KeepsRuleIn code number function place = (instr : Instr) (depth : ℕ) →
    slice_get code.instrs place ≡ Some instr → slice_get code.depths place ≡ Some depth →
    KeepsRule code number function place instr depth

-- all places of a function keep their rules
abbrev pub KeepsRulesOf : Code → ℕ → Fun → Type 0
KeepsRulesOf code number function = (place : ℕ) → IsIn function place → KeepsRuleIn code number function place

-- the first place of a function that breaks its rule
pub record FailsFirstIn (code : Code) (number : ℕ) (function : Fun) (place : ℕ) : Type 0 where
  pub inside : IsIn function place
  pub breaks : ¬ (KeepsRuleIn code number function place)
  pub earlier_keep : (earlier : ℕ) → IsIn function earlier → earlier < place →
      KeepsRuleIn code number function earlier

-- the first place of all that breaks its rule
pub record FailsFirstOfAll (code : Code) (place : ℕ) : Type 0 where
  pub inside : place < length code.instrs
  pub breaks : ¬ (KeepsRuleAt code place)
  pub earlier_keep : (earlier : ℕ) → earlier < place → KeepsRuleAt code earlier
