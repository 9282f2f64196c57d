-- One more event procedure is sound.
use Rattle.std.proofs.Common.{◌≡◌, ◌<◌, ◌≤◌, List, length, get_or, refl, subst}
use Rattle.std.specs.Prelude.{IsTrue, ◌↔◌}
use Rattle.typed_tree.specs.declared.program.THandler.{THandler}
use Rattle.typed_tree.specs.Sound.{IsSoundHandler}
use Rattle.sound_check.proofs.Loops.{in_the_end, one_more}
use Rattle.sound_check.proofs.program.are_sound_handlers.Goals as goal

pub loop-handler-preserved : goal.loop-handler-preserved
loop-handler-preserved c =
    let all : List THandler = c.args.typed.now.handlers in
    let item : THandler = c.handler-item.result in
    let i = c.loop-handler.handler-index in
    let Within : List THandler → Type 0 = λ l. i < length l in
    let Reads : List THandler → Type 0 = λ l. item ≡ get_or l i item in
    let within : Within all = subst Within c.as_slice-handler-items.ensures c.loop-handler-test.true in
    let is : Reads all = subst Reads c.as_slice-handler-items.ensures c.handler-item.is in
    let sound : IsTrue c.in_ok-is_sound_handler.field-0 ↔ IsSoundHandler c.args.typed.now item = c.in_ok-is_sound_handler.ensures in
    one_more (IsSoundHandler c.args.typed.now) all i item within is c.loop-handler.invariant (sound.0 c.if-not-branch.false)

pub returns : goal.returns
returns c =
    let all : List THandler = c.args.typed.now.handlers in
    let i = c.loop-handler.handler-index in
    let Ends : List THandler → Type 0 = λ l. length l ≤ i in
    let end : Ends all = subst Ends c.as_slice-handler-items.ensures c.loop-handler-test.false in
    (λ _. in_the_end (IsSoundHandler c.args.typed.now) all i end c.loop-handler.invariant, λ _. refl)
