-- Each of them is read.
use Rattle.object_file.proofs.InstructionLemmas.{instruction_complete}
use Rattle.object_file.proofs.instruction.InstrStored.complete.Goals as goal

pub returns : goal.returns
returns c =
    instruction_complete c.complete.ensures c.complete-2.ensures c.complete-3.ensures c.complete-4.ensures c.complete-5.ensures
    c.complete-6.ensures c.complete-7.ensures c.complete-8.ensures c.complete-9.ensures c.complete-10.ensures
