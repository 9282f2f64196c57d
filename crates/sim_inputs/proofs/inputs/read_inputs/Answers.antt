-- Accepted inputs have no blame, so that there are inputs.
use Rattle.std.proofs.Common.{subst}
use Rattle.std.specs.Prelude.{IfSome}
use Rattle.texts.specs.Fault.{HasRisen}
use Rattle.sim_inputs.specs.Answer.{IsAnswer}
use Rattle.sim_inputs.proofs.InputsLemmas.{complete_answer}
use Rattle.sim_inputs.proofs.inputs.read_inputs.Goals as goal

pub returns-clause-complete : goal.returns-clause-complete
returns-clause-complete g c = λ contents told scenario base sources replay accepted none.
    complete_answer contents c.args.name.now c.read_in_order.result scenario base sources replay (HasRisen (g.F.Files.faults c.args.files.now) (g.F.Files.faults c.read_in_order.new.files))
    c.one_replay.ensures.not_both
    (subst (λ held. IfSome held (λ known. IsAnswer known c.args.name.now c.read_in_order.result)) told c.read_in_order.ensures.told) accepted c.read_in_order.ensures.failed none
