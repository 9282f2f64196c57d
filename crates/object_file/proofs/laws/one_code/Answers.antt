-- A text has one code.
use Rattle.object_file.proofs.ObjectLemmas.{one_code}
use Rattle.object_file.proofs.laws.one_code.Goals as goal

pub returns : goal.returns
returns c = one_code c.complete.ensures.lists c.complete.ensures.number
