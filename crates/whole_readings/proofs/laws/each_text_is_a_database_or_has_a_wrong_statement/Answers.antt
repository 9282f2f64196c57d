-- The law is a lemma.
use Rattle.whole_readings.proofs.Databases.{database_or_refusal}
use Rattle.whole_readings.proofs.laws.each_text_is_a_database_or_has_a_wrong_statement.Goals as goal

pub returns : goal.returns
returns c = database_or_refusal
