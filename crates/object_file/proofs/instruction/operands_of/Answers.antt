-- No other number is one of an instruction.
use Rattle.std.proofs.Common.{arith, sym}
use Rattle.std.proofs.lemmas.Option.{slice_get_past}
use Rattle.object_file.specs.Inside.Instructions.{all_operands}
use Rattle.object_file.proofs.instruction.operands_of.Goals as goal

pub returns-in_default : goal.returns-in_default
returns-in_default c = let other = c.in_default in sym (slice_get_past all_operands c.args.n (omega (arith, other)))
