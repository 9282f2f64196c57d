-- One more function is sound.
use Rattle.std.proofs.Common.{◌≡◌, ◌≤◌, List, length, get_or, refl, subst, arith}
use Rattle.std.specs.Prelude.{IsTrue, ◌↔◌}
use Rattle.typed_tree.specs.declared.program.TFun.{TFun}
use Rattle.typed_tree.specs.Sound.{IsSoundFunction}
use Rattle.sound_check.proofs.Loops.{found_within, one_more_numbered}
use Rattle.sound_check.proofs.program.are_sound_functions.Goals as goal

pub loop-number-preserved : goal.loop-number-preserved
loop-number-preserved c =
    let all : List TFun = c.args.typed.now.functions in
    let item : TFun = c.function-item.result in
    let i = c.loop-number.number in
    let Reads : List TFun → Type 0 = λ l. item ≡ get_or l i item in
    let is : Reads all = subst Reads c.as_slice-function-items.ensures c.function-item.is in
    let sound : IsTrue c.in_ok-is_sound_function.field-0 ↔ IsSoundFunction c.args.typed.now i item = c.in_ok-is_sound_function.ensures in
    one_more_numbered (IsSoundFunction c.args.typed.now) all i item is c.loop-number.invariant (sound.0 c.if-not-branch.false)

pub returns : goal.returns
returns c =
    let all : List TFun = c.args.typed.now.functions in
    let i = c.loop-number.number in
    let Ends : List TFun → Type 0 = λ l. length l ≤ i in
    let end : Ends all = subst Ends c.as_slice-function-items.ensures c.loop-number-test.false in (
      λ _ n function e.
          let within = found_within all n function e in
          c.loop-number.invariant n function (omega (arith, within, end)) e,
      λ _. refl,
    )
