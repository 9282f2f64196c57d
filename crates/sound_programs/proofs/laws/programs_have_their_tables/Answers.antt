-- By the rules of declarations.
use Rattle.sound_programs.proofs.Declarations.{have_forms}
use Rattle.sound_programs.proofs.Procedures.{tables_there}
use Rattle.sound_programs.proofs.Programs.{units_fine}
use Rattle.sound_programs.proofs.laws.programs_have_their_tables.Goals as goal

pub returns-clause-forms : goal.returns-clause-forms
returns-clause-forms c = λ base program none. have_forms base program none

pub returns-clause-tables : goal.returns-clause-tables
returns-clause-tables c = λ base program order line readable none. tables_there base program order line readable none

pub returns-clause-units : goal.returns-clause-units
returns-clause-units c = λ base program order line readable none. units_fine base program order line readable none
