-- One more.
use Rattle.std.proofs.Common.{◌∙◌}
use Rattle.capl_meaning.specs.DeclarationRules.{item_offences}
use Rattle.check_statements.specs.Site.{place_of}
use Rattle.check_statements.proofs.TurnLemmas.{noted_step}
use Rattle.check_statements.proofs.initialiser.judge_items.Goals as goal

pub loop-item-preserved : goal.loop-item-preserved
loop-item-preserved c =
    noted_step (item_offences (place_of c.args.site.now)) c.args.items.now c.loop-item.item-index c.item-item.result c.loop-item.first c.judge_item.new.first
    c.loop-item-test.true c.item-item.is c.in_ok-judge_item.ensures
    ∙ c.loop-item.invariant
