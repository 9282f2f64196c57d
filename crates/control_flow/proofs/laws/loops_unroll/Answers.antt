-- Loops and what they are once they are unrolled.
use Rattle.control_flow.specs.Control.{nothing}
use Rattle.control_flow.proofs.Fuel.{loop_unrolled, round_then_loop}
use Rattle.control_flow.proofs.Turns.{nothing_adds_none}
use Rattle.control_flow.proofs.laws.loops_unroll.Goals as goal

pub returns-clause-tests_first : goal.returns-clause-tests_first
returns-clause-tests_first g c = λ test body t b n w le. loop_unrolled n test body nothing t b nothing_adds_none w le

pub returns-clause-tests_last : goal.returns-clause-tests_last
returns-clause-tests_last g c = λ test body t b n w le. round_then_loop n test body nothing t b nothing_adds_none w le

pub returns-clause-steps : goal.returns-clause-steps
returns-clause-steps g c = λ test step body t s b n w le. loop_unrolled n test body step t b s w le
