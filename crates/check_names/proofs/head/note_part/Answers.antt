-- A procedure breaks the same outside of it and in it.
use Rattle.std.proofs.Common.{◌≡◌, ◌∙◌, List, ap, subst, sym}
use Rattle.std.specs.Prelude.{OnOk}
use Rattle.capl_meaning.specs.declared.offence.Offence.{Offence}
use Rattle.check_names.specs.declared.part.ProgramPart.{ProgramPart}
use Rattle.check_names.specs.First.{noted}
use Rattle.check_names.specs.Named.{head_and_types}
use Rattle.check_names.specs.Part.{part_in}
use Rattle.check_names.proofs.HeadLemmas.{procedure_same}
use Rattle.check_names.proofs.head.note_part.Goals as goal

pub returns-in-Procedure : goal.returns-in-Procedure
returns-in-Procedure c =
    let names = c.args.names.now in
    subst (λ (l : List Offence). OnOk c.note_procedure.result (c.note_procedure.new.first ≡ noted c.args.first.now l))
    (procedure_same names c.in-Procedure.number c.in-Procedure.file c.in-Procedure.procedure.now
    ∙ ap (λ (p : ProgramPart). head_and_types names (part_in p)) (sym c.in-Procedure.is))
    c.note_procedure.ensures
