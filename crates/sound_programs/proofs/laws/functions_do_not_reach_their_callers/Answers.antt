-- By the rule that each call keeps.
use Rattle.sound_programs.proofs.Recursion.{none_back}
use Rattle.sound_programs.proofs.laws.functions_do_not_reach_their_callers.Goals as goal

pub returns : goal.returns
returns c = λ base program readable none number. none_back base program readable none number
