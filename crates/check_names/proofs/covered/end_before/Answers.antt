-- The last ends before it, and each other before the last begins.
use Rattle.check_names.proofs.CoveredLemmas.{all_end}
use Rattle.check_names.proofs.covered.end_before.Goals as goal

pub returns-in-Some : goal.returns-in-Some
returns-in-Some c = λ rising. all_end c.args.rising.now c.args.low c.in-Some.last.now rising c.in-Some.ensures.value
