-- The law is a lemma.
use Rattle.whole_readings.proofs.Scenarios.{scenario_or_refusal}
use Rattle.whole_readings.proofs.laws.each_text_is_a_scenario_or_breaks_a_rule.Goals as goal

pub returns : goal.returns
returns c = scenario_or_refusal
