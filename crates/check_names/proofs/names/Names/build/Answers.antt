-- What is found first is that of the program's own names.
use Rattle.std.proofs.Common.{◌∙◌, ap}
use Rattle.check_names.specs.Names.{messages_of}
use Rattle.check_names.specs.Part.{parts_in}
use Rattle.check_names.proofs.names.Names.build.Goals as goal

pub returns-clause-first : goal.returns-clause-first
returns-clause-first c =
    c.in_ok-first.ensures (messages_of c.args.base) c.args.program.now
    (c.in_ok-names.ensures c.args.program.now (ap parts_in c.as_slice.ensures.value ∙ c.in_ok-parts.ensures)) (ap parts_in c.as_slice-2.ensures.value ∙ c.in_ok-parts.ensures)
