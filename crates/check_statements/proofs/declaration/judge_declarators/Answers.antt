-- One more.
use Rattle.std.proofs.Common.{◌∙◌}
use Rattle.capl_meaning.specs.DeclarationRules.{declarator_offences}
use Rattle.check_statements.specs.Site.{place_of}
use Rattle.check_statements.proofs.TurnLemmas.{noted_step}
use Rattle.check_statements.proofs.declaration.judge_declarators.Goals as goal

pub loop-item-preserved : goal.loop-item-preserved
loop-item-preserved c =
    noted_step (declarator_offences (place_of c.args.site.now) c.args.what.now) c.args.items.now c.loop-item.item-index c.item-item.result c.loop-item.first c.judge_declarator.new.first
    c.loop-item-test.true c.item-item.is c.in_ok-judge_declarator.ensures
    ∙ c.loop-item.invariant
