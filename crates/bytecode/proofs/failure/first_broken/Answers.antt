-- The first place of a function that breaks its rule is the first of all.
use Rattle.std.proofs.Common.{arith, ◌≡◌, ◌<◌, ℕ, List, length, slice_get, get_or, Some, ap}
use Rattle.bytecode.specs.declared.code.Fun.{Fun}
use Rattle.bytecode.proofs.FailureLemmas.{all_keep, first_of_all, one_more}
use Rattle.bytecode.proofs.ListItems.{read_there}
use Rattle.bytecode.proofs.failure.first_broken.Goals as goal

-- the function that the loop is at
there : (xs functions : List Fun) → xs ≡ functions → (number : ℕ) (d : Fun) → number < length xs → slice_get functions number ≡ Some (get_or xs number d)
there xs functions same number d below = read_there xs functions same number d (let e = ap length same in omega (arith, below, e))

pub returns-in-Some : goal.returns-in-Some
returns-in-Some c =
    first_of_all c.args.code.now c.requires c.loop-number.number _
    (there c.as_slice-function-items.result.now c.args.code.now.functions c.as_slice-function-items.ensures c.loop-number.number _ c.loop-number-test.true)
    c.loop-number.invariant c.in-Some.place c.in-Some.ensures

pub loop-number-preserved : goal.loop-number-preserved
loop-number-preserved c =
    one_more c.args.code.now c.loop-number.number _
    (there c.as_slice-function-items.result.now c.args.code.now.functions c.as_slice-function-items.ensures c.loop-number.number _ c.loop-number-test.true)
    c.loop-number.invariant c.in_default.ensures

pub returns : goal.returns
returns c =
    let same : length c.as_slice-function-items.result.now ≡ length c.args.code.now.functions = ap length c.as_slice-function-items.ensures in
    all_keep c.args.code.now c.loop-number.number (omega (arith, same, c.loop-number-test.false)) c.loop-number.invariant
