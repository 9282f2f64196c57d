-- What the database that the scenario names decides.
use Rattle.std.proofs.Common.{◌≡◌, Err, ◌∙◌}
use Rattle.sim_outside.specs.Files.{beside}
use Rattle.sim_inputs.specs.Accepted.{BaseAt, DatabaseAt, IsBaseBlame, IsDatabaseBlame}
use Rattle.input_refusals.specs.Agreement.{Agrees}
use Rattle.sim_inputs.specs.Inside.Messages.{messages_in}
use Rattle.sim_inputs.proofs.BaseLemmas.{base_found, base_refused}
use Rattle.input_refusals.proofs.Passing.{told_from}
use Rattle.sim_inputs.proofs.database.read_base.Goals as goal

pub returns-in_err-base-clause-told : goal.returns-in_err-base-clause-told
returns-in_err-base-clause-told g c =
    let name = c.args.name.now in
    let file = c.in-Some.file in
    let joined = c.in_ok-file.file in
    let joins : joined ≡ beside name file = c.in_ok-file.ensures ∙ (λ i. beside (c.bytes.ensures i) (c.bytes-2.ensures i)) in
    told_from (g.F.Files.held c.args.files.now) (λ contents. Agrees (DatabaseAt contents joined) (IsDatabaseBlame contents joined) (Err c.in_err-base.field-0.0))
    (λ contents. Agrees (λ base. BaseAt contents name c.args.database.now (messages_in base)) (IsBaseBlame contents name c.args.database.now) c.from_residual-in_err-base.result)
    (λ contents agrees. base_refused contents name joined file c.args.database.now c.in_err-base.field-0.0 c.from_residual-in_err-base.result c.in-Some.is joins c.from_residual-in_err-base.ensures.1 agrees)
    c.in_err-base.ensures.told

pub returns-clause-told : goal.returns-clause-told
returns-clause-told g c =
    let name = c.args.name.now in
    let file = c.in-Some.file in
    let joined = c.in_ok-file.file in
    let joins : joined ≡ beside name file = c.in_ok-file.ensures ∙ (λ i. beside (c.bytes.ensures i) (c.bytes-2.ensures i)) in
    told_from (g.F.Files.held c.args.files.now) (λ contents. DatabaseAt contents joined c.in_ok-base.base)
    (λ contents. BaseAt contents name c.args.database.now c.in_ok-base.base)
    (λ contents at. base_found contents name joined file c.args.database.now c.in_ok-base.base c.in-Some.is joins at) c.in_ok-base.ensures.told
