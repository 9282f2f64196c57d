-- One more.
use Rattle.std.proofs.Common.{◌∙◌}
use Rattle.capl_meaning.specs.DeclarationRules.{declaration_offences}
use Rattle.check_statements.specs.Site.{place_of}
use Rattle.check_statements.proofs.TurnLemmas.{noted_step}
use Rattle.check_statements.proofs.declaration.judge_declarations.Goals as goal

pub loop-decl-preserved : goal.loop-decl-preserved
loop-decl-preserved c =
    noted_step (declaration_offences (place_of c.args.site.now)) c.args.declarations.now c.loop-decl.decl-index c.decl-item.result c.loop-decl.first c.judge_declaration.new.first
    c.loop-decl-test.true c.decl-item.is c.in_ok-judge_declaration.ensures
    ∙ c.loop-decl.invariant
