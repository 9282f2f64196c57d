-- The lowest place of a usable layout, and the room above it.
use Rattle.std.proofs.Common.{arith}
use Rattle.signal_codec.proofs.Places.{start-lt, room_of_big, room_of_little}
use Rattle.signal_codec.proofs.layout.lowest_place.Goals as goal

pub place-requires : goal.place-requires
place-requires c = start-lt c.args.l.now c.requires

pub overflow_sub-result : goal.overflow_sub-result
overflow_sub-result c = omega (arith, room_of_big c.args.l.now c.requires c.if-l.true)

pub returns-else-l-clause-room : goal.returns-else-l-clause-room
returns-else-l-clause-room c = room_of_little c.args.l.now c.requires c.if-l.false
