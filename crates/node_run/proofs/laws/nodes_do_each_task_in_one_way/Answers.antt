-- A sound node does each task, in one way, stays sound, and asks for classic CAN frames.
use Rattle.node_run.proofs.EachTask.{code_asks, code_does, code_keeps_code, code_one_way, code_stays_sound}
use Rattle.node_run.proofs.laws.nodes_do_each_task_in_one_way.Goals as goal

pub returns-clause-does : goal.returns-clause-does
returns-clause-does c = code_does

pub returns-clause-stays : goal.returns-clause-stays
returns-clause-stays c = code_stays_sound

pub returns-clause-same_code : goal.returns-clause-same_code
returns-clause-same_code c node trigger now done sound does = code_keeps_code node trigger now done does

pub returns-clause-in_one_way : goal.returns-clause-in_one_way
returns-clause-in_one_way c = code_one_way

pub returns-clause-asks : goal.returns-clause-asks
returns-clause-asks c = code_asks
