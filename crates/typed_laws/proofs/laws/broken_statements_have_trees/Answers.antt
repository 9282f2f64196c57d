-- What stands alone and breaks a rule has a tree.
use Rattle.typed_laws.proofs.Effects.{no_cancel_as, no_send_as, no_set_as, no_write_as}
use Rattle.typed_laws.proofs.laws.broken_statements_have_trees.Goals as goal

pub returns-clause-no_message : goal.returns-clause-no_message
returns-clause-no_message c = λ scope order formats name message at is none. no_send_as scope order formats name message at is none

pub returns-clause-no_format : goal.returns-clause-no_format
returns-clause-no_format c = λ scope order formats name format arguments at is none. no_write_as scope order formats name format arguments at is none

pub returns-clause-no_timer : goal.returns-clause-no_timer
returns-clause-no_timer c = λ scope order formats name timer duration at is none. no_set_as scope order formats name timer duration at is none

pub returns-clause-no_timer_to_cancel : goal.returns-clause-no_timer_to_cancel
returns-clause-no_timer_to_cancel c = λ scope order formats name timer at is none. no_cancel_as scope order formats name timer at is none
