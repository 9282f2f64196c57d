-- The instruction and the depth at a place of the function are those of its rule.
use Rattle.std.proofs.Common.{arith, ◌≡◌, ◌≤◌, ℕ, true, false, length, slice_get, Some, ap, sym, ◌∙◌, subst}
use borrow.Author.Count.{below_more}
use Rattle.bytecode.specs.declared.code.Code.{Code}
use Rattle.bytecode.specs.declared.code.Fun.{Fun}
use Rattle.bytecode.specs.declared.instr.Instr.{Instr}
use Rattle.bytecode.specs.Rule.{KeepsRule}
use Rattle.bytecode.specs.Verified.{IsLaidOut}
use Rattle.bytecode.specs.Inside.Failure.{KeepsRuleIn}
use Rattle.bytecode.proofs.CoverLemmas.{Cover-between, LiesBetween}
use Rattle.bytecode.proofs.ListItems.{read_there}
use Rattle.bytecode.proofs.failure.first_broken_of.Goals as goal

-- a function of laid out code lies among its instructions
lies : (code : Code) (number : ℕ) (function : Fun) → IsLaidOut code → slice_get code.functions number ≡ Some function →
    LiesBetween 0 (length code.instrs) function
lies code number function laid there = Cover-between 0 code.functions (length code.instrs) laid.covered number function there

pub bounds-instrs-place : goal.bounds-instrs-place
bounds-instrs-place c =
    let l = lies c.args.code.now c.args.number c.args.function c.requires.laid_out c.requires.is_there in
    omega (arith, l.ends, ap length c.as_slice-instrs.ensures)

pub bounds-depths-place : goal.bounds-depths-place
bounds-depths-place c =
    let l = lies c.args.code.now c.args.number c.args.function c.requires.laid_out c.requires.is_there in
    omega (arith, l.ends, ap length c.as_slice-depths.ensures)

-- the instruction and the depth that were read at a place are those of its rule
read : (code : Code) (number : ℕ) (function : Fun) (place : ℕ) (instr : Instr) (depth : ℕ) →
    slice_get code.instrs place ≡ Some instr → slice_get code.depths place ≡ Some depth →
    KeepsRule code number function place instr depth → KeepsRuleIn code number function place
read code number function place instr depth ei ed keeps instr' depth' ei' ed' =
    let i : instr ≡ instr' = cc in
    let d : depth ≡ depth' = cc in
    subst (λ (n : ℕ). KeepsRule code number function place instr' n) d
    (subst (λ (x : Instr). KeepsRule code number function place x depth) i keeps)

pub returns-then-not-keeps_rule : goal.returns-then-not-keeps_rule
returns-then-not-keeps_rule c =
    let l = lies c.args.code.now c.args.number c.args.function c.requires.laid_out c.requires.is_there in
    let ei = read_there c.as_slice-instrs.result.now c.args.code.now.instrs c.as_slice-instrs.ensures c.loop-place.place _ (omega (arith, l.ends)) in
    let ed = read_there c.as_slice-depths.result.now c.args.code.now.depths c.as_slice-depths.ensures c.loop-place.place _ (omega (arith, l.ends, c.requires.laid_out.depths)) in
    record {
      inside = record { from = c.loop-place.auto.place; below = c.loop-place-test.true };
      breaks = λ keeps. (let t : true ≡ false = sym (c.keeps_rule.ensures.1 (keeps _ _ ei ed)) ∙ c.if-not-keeps_rule.true in cc);
      earlier_keep = λ earlier inside below. c.loop-place.invariant earlier inside.from below;
    }

pub loop-place-preserved : goal.loop-place-preserved
loop-place-preserved c =
    let l = lies c.args.code.now c.args.number c.args.function c.requires.laid_out c.requires.is_there in
    let ei = read_there c.as_slice-instrs.result.now c.args.code.now.instrs c.as_slice-instrs.ensures c.loop-place.place _ (omega (arith, l.ends)) in
    let ed = read_there c.as_slice-depths.result.now c.args.code.now.depths c.as_slice-depths.ensures c.loop-place.place _ (omega (arith, l.ends, c.requires.laid_out.depths)) in
    let keeps = read c.args.code.now c.args.number c.args.function c.loop-place.place _ _ ei ed (c.keeps_rule.ensures.0 c.if-not-keeps_rule.false) in
    λ earlier low high. below_more (λ p. c.args.function.start ≤ p → KeepsRuleIn c.args.code.now c.args.number c.args.function p) c.loop-place.place
    (λ p b from. c.loop-place.invariant p from b) (λ _. keeps) earlier high low

pub returns : goal.returns
returns c = λ place inside. c.loop-place.invariant place inside.from (omega (arith, inside.below))
