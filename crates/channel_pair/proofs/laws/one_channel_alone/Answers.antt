-- The law of proofs/OneChannel.
use Rattle.channel_pair.proofs.OneChannel.{acts_as_one_channel}
use Rattle.channel_pair.proofs.laws.one_channel_alone.Goals as goal

pub returns-clause-calls : goal.returns-clause-calls
returns-clause-calls c = acts_as_one_channel
