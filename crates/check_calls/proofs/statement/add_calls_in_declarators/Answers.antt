-- One more of the declarators.
use Rattle.capl_meaning.specs.Calls.{calls_in_declarator}
use Rattle.check_calls.proofs.CalleeLemmas.{added_more, added_none}
use Rattle.check_calls.proofs.statement.add_calls_in_declarators.Goals as goal

pub loop-declarator-init : goal.loop-declarator-init
loop-declarator-init c = added_none _ _

pub loop-declarator-preserved : goal.loop-declarator-preserved
loop-declarator-preserved c =
    added_more c.args.names.now calls_in_declarator c.args.declarators.now c.loop-declarator.declarator-index c.declarator-item.result _ _ _
    c.loop-declarator-test.true c.declarator-item.is c.loop-declarator.invariant c.in_ok-add_calls_in_declarator.ensures
