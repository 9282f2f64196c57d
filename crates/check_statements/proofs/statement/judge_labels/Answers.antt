-- One more.
use Rattle.std.proofs.Common.{◌∙◌}
use Rattle.capl_meaning.specs.StatementRules.{label_offences}
use Rattle.check_statements.specs.Site.{place_of}
use Rattle.check_statements.proofs.TurnLemmas.{noted_step}
use Rattle.check_statements.proofs.statement.judge_labels.Goals as goal

pub loop-label-preserved : goal.loop-label-preserved
loop-label-preserved c =
    noted_step (label_offences (place_of c.args.site.now)) c.args.labels.now c.loop-label.label-index c.label-item.result c.loop-label.first c.judge_label.new.first
    c.loop-label-test.true c.label-item.is c.in_ok-judge_label.ensures
    ∙ c.loop-label.invariant
