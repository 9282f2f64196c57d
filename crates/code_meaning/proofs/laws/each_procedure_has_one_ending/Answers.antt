-- A typed event procedure has one ending, since its meaning is a function.
use Rattle.std.proofs.Common.{refl}
use Rattle.typed_tree.specs.Program.{ending_of}
use Rattle.code_meaning.proofs.laws.each_procedure_has_one_ending.Goals as goal

pub returns : goal.returns
returns c = λ s handler turns memory. (ending_of s handler turns memory, refl, λ other e. e)
