-- The code of a source has its tables, and its event procedures run as the source means them.
use Rattle.source_laws.proofs.SourceCode.{source_tables}
use Rattle.source_laws.proofs.SourceRuns.{runs_as_source}
use Rattle.source_laws.proofs.laws.compiled_procedures_end_as_in_the_source.Goals as goal

pub returns-clause-tables : goal.returns-clause-tables
returns-clause-tables c = λ base program lines code is. source_tables base program lines code is

pub returns-clause-runs : goal.returns-clause-runs
returns-clause-runs c = λ base program lines code is number handler e this closed moment turns memory held.
    runs_as_source base program lines code is number handler e this closed moment turns memory held
