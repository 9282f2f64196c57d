-- The laws of one reading.
use Rattle.dbc_reader.proofs.OneReading.{one_database, no_refusal, one_refusal}
use Rattle.dbc_reader.proofs.laws.one_reading.Goals as goal

pub returns-clause-database : goal.returns-clause-database
returns-clause-database c = one_database

pub returns-clause-not_both : goal.returns-clause-not_both
returns-clause-not_both c = no_refusal

pub returns-clause-refusal : goal.returns-clause-refusal
returns-clause-refusal c = one_refusal
