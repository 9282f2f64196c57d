-- One more of the labels.
use Rattle.capl_meaning.specs.Calls.{calls_in_part}
use Rattle.check_calls.proofs.CalleeLemmas.{added_more, added_none}
use Rattle.check_calls.proofs.statement.add_calls_in_labels.Goals as goal

pub loop-label-init : goal.loop-label-init
loop-label-init c = added_none _ _

pub loop-label-preserved : goal.loop-label-preserved
loop-label-preserved c =
    added_more c.args.names.now (λ label. calls_in_part label.value) c.args.labels.now c.loop-label.label-index c.label-item.result _ _ _
    c.loop-label-test.true c.label-item.is c.loop-label.invariant c.in_ok-add_calls_in_part.ensures
