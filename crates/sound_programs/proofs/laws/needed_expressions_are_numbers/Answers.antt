-- By the rules of each form.
use Rattle.sound_programs.proofs.Fine.{number}
use Rattle.sound_programs.proofs.laws.needed_expressions_are_numbers.Goals as goal

pub returns : goal.returns
returns c = λ scope e forms none. number scope forms e none
