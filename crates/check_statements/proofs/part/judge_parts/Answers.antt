-- One more part.
use Rattle.std.proofs.Common.{◌∙◌}
use Rattle.check_names.specs.Part.{part_in}
use Rattle.check_names.proofs.LoopLemmas.{noted_turn}
use Rattle.check_statements.specs.Part.{body_offences}
use Rattle.check_statements.proofs.part.judge_parts.Goals as goal

pub loop-part-preserved : goal.loop-part-preserved
loop-part-preserved c =
    noted_turn part_in (body_offences c.args.names.now) c.args.parts.now c.loop-part.part-index c.part-item.result
    c.loop-part.first c.judge_part.new.first c.loop-part-test.true c.part-item.is c.in_ok-judge_part.ensures
    ∙ c.loop-part.invariant
