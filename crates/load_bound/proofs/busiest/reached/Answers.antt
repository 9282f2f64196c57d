-- The rest with the time of so many periods.
use Rattle.load_bound.proofs.BusiestLemmas.{periods_low}
use Rattle.load_bound.proofs.busiest.reached.Goals as goal

pub returns : goal.returns
returns c = periods_low c.args.rest c.args.period c.args.time c.if-period-time.false c.if-rest-period.false
