-- The law of proofs/Unplanned.
use Rattle.channel_errors.proofs.Unplanned.{acts_as_plain}
use Rattle.channel_errors.proofs.laws.without_plan_plain.Goals as goal

pub returns-clause-calls : goal.returns-clause-calls
returns-clause-calls c = acts_as_plain
