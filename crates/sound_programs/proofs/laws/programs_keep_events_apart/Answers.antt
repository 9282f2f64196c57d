-- By what the heads of procedures tell.
use Rattle.sound_programs.proofs.EventLists.{keys_kept, selectors_kept, timers_kept}
use Rattle.sound_programs.proofs.Procedures.{tables_there}
use Rattle.sound_programs.proofs.laws.programs_keep_events_apart.Goals as goal

pub returns-clause-selectors : goal.returns-clause-selectors
returns-clause-selectors c = λ base program order line none. selectors_kept base program order line none

pub returns-clause-timers : goal.returns-clause-timers
returns-clause-timers c = λ base program order line readable none. timers_kept base program order line none (tables_there base program order line readable none)

pub returns-clause-keys : goal.returns-clause-keys
returns-clause-keys c = λ base program order line none. keys_kept base program order line none
