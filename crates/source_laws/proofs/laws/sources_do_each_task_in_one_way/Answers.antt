-- A source does each task of a node, in one way.
use Rattle.source_laws.proofs.Tasks.{source_does, source_once}
use Rattle.source_laws.proofs.laws.sources_do_each_task_in_one_way.Goals as goal

pub returns-clause-does : goal.returns-clause-does
returns-clause-does c = λ node accepted timers trigger now own. source_does node accepted timers trigger now own

pub returns-clause-in_one_way : goal.returns-clause-in_one_way
returns-clause-in_one_way c = λ node trigger now done other one also. source_once node trigger now done other one also
