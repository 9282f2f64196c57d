-- The code of the text is the verified one, which breaks no rule.
use Rattle.object_file.proofs.ObjectLemmas.{no_rule_fails}
use Rattle.object_file.proofs.laws.no_rule_fails.Goals as goal

pub returns : goal.returns
returns c = no_rule_fails c.complete.ensures.lists c.complete.ensures.number
