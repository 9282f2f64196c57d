-- A signal that is the member can be used.
use Rattle.std.proofs.Common.{ap}
use Rattle.check_sorts.specs.Message.{member_in}
use Rattle.type_starts.proofs.message.with_member.Goals as goal

pub with_signal-requires-clause-usable : goal.with_signal-requires-clause-usable
with_signal-requires-clause-usable c = c.requires.usable c.in-Signal.layout (ap member_in c.in-Signal.is)
