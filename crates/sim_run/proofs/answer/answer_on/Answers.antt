-- What was written of the answer over the inputs of a name.
use Rattle.std.proofs.Common.{◌∙◌, sym, subst}
use Rattle.sim_inputs.specs.Accepted.{IsFirstBlame}
use Rattle.sim_text.specs.Lines.{blame_line}
use Rattle.sim_run.proofs.WrittenLemmas.{answer_of_blame, blame_partly, blame_whole, inputs_as_it_happens, inputs_partly, inputs_whole}
use Rattle.sim_run.proofs.answer.answer_on.Goals as goal

-- what was written is the answer over the inputs
pub returns-in-Ok-read_inputs-clause-whole : goal.returns-in-Ok-read_inputs-clause-whole
returns-in-Ok-read_inputs-clause-whole g c = λ held told.
    let are = rw (told, c.in-Ok.ensures) at c.in-Ok-read_inputs.ensures.told in
    rw c.status_after.ensures
    (inputs_whole c.args.what held c.args.name.now c.in-Ok-read_inputs.inputs c.answer_inputs-written.result _ _ c.answer_inputs-written.new.meter are c.answer_inputs-written.ensures.answers)

-- or a beginning of it
pub returns-in-Ok-read_inputs-clause-prefix : goal.returns-in-Ok-read_inputs-clause-prefix
returns-in-Ok-read_inputs-clause-prefix g c = λ held told.
    let are = rw (told, c.in-Ok.ensures) at c.in-Ok-read_inputs.ensures.told in
    rw c.status_after.ensures
    (inputs_partly c.args.what held c.args.name.now c.in-Ok-read_inputs.inputs c.answer_inputs-written.result _ _ c.answer_inputs-written.new.meter are c.answer_inputs-written.ensures.answers)

-- each line was written before later tasks ran
pub returns-in-Ok-read_inputs-clause-as_it_happens : goal.returns-in-Ok-read_inputs-clause-as_it_happens
returns-in-Ok-read_inputs-clause-as_it_happens g c = λ held told show shows scenario base sources replay accepted failed.
    let are = rw (told, c.in-Ok.ensures) at c.in-Ok-read_inputs.ensures.told in
    inputs_as_it_happens c.args.what held c.args.name.now c.in-Ok-read_inputs.inputs c.answer_inputs-written.result _ _ c.answer_inputs-written.new.meter show are
    c.answer_inputs-written.ensures.answers shows (sym c.status_after.ensures ∙ failed)

-- or the line of a blame
pub returns-in-Err-Blamed-clause-whole : goal.returns-in-Err-Blamed-clause-whole
returns-in-Err-Blamed-clause-whole g c = λ held told.
    let blame = c.in-Err-Blamed.blame in
    let first = rw (told, c.in-Err-Blamed.field-0-is, c.in-Ok.ensures) at c.in-Err-Blamed.ensures.told in
    let answer = answer_of_blame c.args.what held c.args.name.now blame c.args.meter.now first c.requires.no_rows in
    let grows = rw c.in-Err-Blamed.blame-is at c.write_blame.ensures.grows in
    rw c.status_after-in-Err-Blamed.ensures (blame_whole c.args.what held c.args.name.now c.write_blame.result _ _ (blame_line blame) c.args.meter.now answer grows)

-- or a beginning of it
pub returns-in-Err-Blamed-clause-prefix : goal.returns-in-Err-Blamed-clause-prefix
returns-in-Err-Blamed-clause-prefix g c = λ held told.
    let blame = c.in-Err-Blamed.blame in
    let first = rw (told, c.in-Err-Blamed.field-0-is, c.in-Ok.ensures) at c.in-Err-Blamed.ensures.told in
    let answer = answer_of_blame c.args.what held c.args.name.now blame c.args.meter.now first c.requires.no_rows in
    let grows = rw c.in-Err-Blamed.blame-is at c.write_blame.ensures.grows in
    rw c.status_after-in-Err-Blamed.ensures (blame_partly c.args.what held c.args.name.now c.write_blame.result _ _ (blame_line blame) c.args.meter.now answer grows)

-- accepted inputs have no blame
pub returns-in-Err-Blamed-clause-complete : goal.returns-in-Err-Blamed-clause-complete
returns-in-Err-Blamed-clause-complete g c = λ held told bytes rows done none_read none_written.
    let blame = c.in-Err-Blamed.blame in
    let first = rw (told, c.in-Err-Blamed.field-0-is, c.in-Ok.ensures) at c.in-Err-Blamed.ensures.told in
    absurd (c.one_reading.ensures.not_both held c.args.name.now done.scenario done.base done.sources done.replay blame done.accepted first)

pub returns-in-Err-Blamed-clause-as_it_happens : goal.returns-in-Err-Blamed-clause-as_it_happens
returns-in-Err-Blamed-clause-as_it_happens g c = λ held told show shows scenario base sources replay accepted failed.
    let blame = c.in-Err-Blamed.blame in
    let first = rw (told, c.in-Err-Blamed.field-0-is, c.in-Ok.ensures) at c.in-Err-Blamed.ensures.told in
    absurd (c.one_reading.ensures.not_both held c.args.name.now scenario base sources replay blame accepted first)
