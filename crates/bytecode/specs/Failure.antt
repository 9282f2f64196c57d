-- The first place of code whose rule fails.
use Rattle.std.specs.Prelude.{◌≡◌, ℕ, ◌<◌, length}
use Rattle.bytecode.specs.declared.code.Code.{Code}
use Rattle.bytecode.specs.Tables.{KeepsTables}
use Rattle.bytecode.specs.Verified.{IsLaidOut, KeepsAllRules, KeepsRuleAt}

-- The first place whose rule fails. Where the functions do not cover the instructions, or the depths are
-- not as many, it is the place after the last instruction, and no other rule is asked. A rule of the
-- tables has this place too.
pub data FailsFirstAt (code : Code) (place : ℕ) : Type 0 where
  layout : ¬ (IsLaidOut code) → place ≡ length code.instrs → FailsFirstAt code place
  rule : IsLaidOut code → place < length code.instrs → ¬ (KeepsRuleAt code place) →
      ((earlier : ℕ) → earlier < place → KeepsRuleAt code earlier) → FailsFirstAt code place
  tables : IsLaidOut code → KeepsAllRules code → ¬ (KeepsTables code) → place ≡ length code.instrs →
      FailsFirstAt code place
