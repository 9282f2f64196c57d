-- The first cell of the message is low.
use Rattle.std.proofs.Common.{arith}
use Rattle.type_expressions.proofs.StepLemmas.{message_low}
use Rattle.type_expressions.proofs.place.member.Goals as goal

pub place_of_member-place-requires : goal.place_of_member-place-requires
place_of_member-place-requires c =
    let is = c.requires in
    omega (arith, message_low is.0 is.1 is.2.few, c.message_slot.ensures is.0 is.1 is.2 is.3)
