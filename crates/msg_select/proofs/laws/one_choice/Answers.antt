-- Two choices are the same.
use Rattle.msg_select.proofs.ChoiceLemmas.{only_choice}
use Rattle.msg_select.proofs.laws.one_choice.Goals as goal

pub returns : goal.returns
returns c = only_choice
