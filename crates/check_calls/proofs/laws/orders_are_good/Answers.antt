-- The order of the calls of a program is good.
use Rattle.check_calls.proofs.GoodOrderLemmas.{order_good}
use Rattle.check_calls.proofs.laws.orders_are_good.Goals as goal

pub returns : goal.returns
returns c = order_good
