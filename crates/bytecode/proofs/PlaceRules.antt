-- The rules of the places of verified code.
use Rattle.std.proofs.Common.{◌≡◌, ◌<◌, ℕ, length, slice_get, Some, refl, sym, ◌∙◌, subst, arith}
use Rattle.bytecode.specs.declared.code.Code.{Code}
use Rattle.bytecode.specs.declared.code.Fun.{Fun}
use Rattle.bytecode.specs.declared.instr.Instr.{Instr}
use Rattle.bytecode.specs.Machine.{Machine}
use Rattle.bytecode.specs.Rule.{IsIn, KeepsRule}
use Rattle.bytecode.specs.Verified.{IsLaidOut, IsVerified}
use Rattle.bytecode.proofs.CoverLemmas.{Cover-between, LiesBetween}
use Rattle.bytecode.proofs.ListItems.{item_below}
use Rattle.bytecode.proofs.MachineStates.{IsAt, Stands}

-- a function of laid out code lies among its instructions
pub lies_in_code : (code : Code) (number : ℕ) (function : Fun) → IsLaidOut code →
    slice_get code.functions number ≡ Some function → LiesBetween 0 (length code.instrs) function
lies_in_code code number function laid there =
    Cover-between 0 code.functions (length code.instrs) laid.covered number function there

-- what verified code says of a place of a function
pub record Rule (code : Code) (number : ℕ) (function : Fun) (place : ℕ) : Type 0 where
  pub instr : Instr
  pub depth : ℕ
  pub is_instr : slice_get code.instrs place ≡ Some instr
  pub at : IsAt code number function place depth
  pub keeps : KeepsRule code number function place instr depth

-- each place of a function has an instruction and a depth that keep its rule
pub rule_at : (code : Code) → IsVerified code → (number : ℕ) (function : Fun) (place : ℕ) →
    slice_get code.functions number ≡ Some function → IsIn function place → Rule code number function place
rule_at code verified number function place there inside =
    let lies = lies_in_code code number function verified.laid_out there in
    let below : place < length code.instrs = omega (arith, lies.ends, inside.below) in
    let i = item_below code.instrs place below in
    let d = item_below code.depths place (omega (arith, below, verified.laid_out.depths)) in
    record {
      instr = i.item;
      depth = d.item;
      is_instr = i.is_there;
      at = record { is_there = there; inside = inside; has_depth = d.is_there };
      keeps = verified.places place below number function i.item d.item there inside i.is_there d.is_there;
    }

-- a function begins with depth 0
pub begins : (code : Code) → IsVerified code → (number : ℕ) (function : Fun) → slice_get code.functions number ≡ Some function →
    IsAt code number function function.start 0
begins code verified number function there =
    let lies = lies_in_code code number function verified.laid_out there in
    let inside : IsIn function function.start = record { from = omega arith; below = lies.nonempty } in
    let rule = rule_at code verified number function function.start there inside in
    subst (IsAt code number function function.start) (rule.keeps.begins_empty refl) rule.at

-- the rule of the place at which the machine stands
pub record RuleHere {code : Code} {m : Machine} (s : Stands code m) : Type 0 where
  pub instr : Instr
  pub is_instr : slice_get code.instrs m.place ≡ Some instr
  pub keeps : KeepsRule code s.number s.function m.place instr s.depth

-- where the machine stands, its place keeps its rule
pub rule_here : (code : Code) → IsVerified code → (m : Machine) (s : Stands code m) → RuleHere s
rule_here code verified m s =
    let rule = rule_at code verified s.number s.function m.place s.at.is_there s.at.inside in
    let same : rule.depth ≡ s.depth = (let e : Some rule.depth ≡ Some s.depth = sym rule.at.has_depth ∙ s.at.has_depth in cc) in
    record {
      instr = rule.instr;
      is_instr = rule.is_instr;
      keeps = subst (KeepsRule code s.number s.function m.place rule.instr) same rule.keeps;
    }

-- the rule of an instruction at which the machine stands
pub rule_of : (code : Code) → IsVerified code → (m : Machine) (s : Stands code m) (instr : Instr) →
    slice_get code.instrs m.place ≡ Some instr → KeepsRule code s.number s.function m.place instr s.depth
rule_of code verified m s instr there =
    let here = rule_here code verified m s in
    let same : here.instr ≡ instr = (let e : Some here.instr ≡ Some instr = sym here.is_instr ∙ there in cc) in
    subst (λ (i : Instr). KeepsRule code s.number s.function m.place i s.depth) same here.keeps

-- the place at which the machine stands is one of the code's
pub place_in_code : (code : Code) → IsVerified code → (m : Machine) (s : Stands code m) → m.place < length code.instrs
place_in_code code verified m s =
    let lies = lies_in_code code s.number s.function verified.laid_out s.at.is_there in
    omega (arith, lies.ends, s.at.inside.below)
