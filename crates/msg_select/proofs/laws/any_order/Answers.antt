-- The order of the selectors does not matter.
use Rattle.msg_select.proofs.ChoiceLemmas.{chosen_in_order, none_in_order}
use Rattle.msg_select.proofs.laws.any_order.Goals as goal

pub returns-clause-chosen : goal.returns-clause-chosen
returns-clause-chosen c = chosen_in_order

pub returns-clause-none : goal.returns-clause-none
returns-clause-none c = none_in_order
