-- What the text of a database decides.
use Rattle.std.proofs.Common.{inr, subst}
use Rattle.dbc_reader.specs.Database.{IsDatabase}
use Rattle.sim_inputs.specs.Accepted.{Holds, DatabaseAt, IsDatabaseBlame, IsStatementBlame, database_limit}
use Rattle.input_refusals.specs.Agreement.{Agrees}
use Rattle.input_refusals.proofs.Passing.{judged_told, told_from}
use Rattle.sim_inputs.proofs.database.read_database.Goals as goal

-- a statement of the text is to blame
pub returns-in_err-base-clause-told : goal.returns-in_err-base-clause-told
returns-in_err-base-clause-told g c =
    let name = c.args.name.now in
    let text = c.deref.result.now in
    told_from (g.F.Files.held c.args.files.now) (λ contents. Holds contents database_limit name c.in_ok-text.text.items)
    (λ contents. Agrees (DatabaseAt contents name) (IsDatabaseBlame contents name) c.from_residual-in_err-base.result)
    (λ contents holds. judged_told (IsDatabase text) (IsStatementBlame text name) (DatabaseAt contents name) (IsDatabaseBlame contents name)
    c.in_err-base.field-0.0 c.from_residual-in_err-base.result c.from_residual-in_err-base.ensures.1
    (λ blame wrong. inr (c.in_ok-text.text.items, holds, subst (λ t. IsStatementBlame t name blame) c.deref.ensures.value wrong)) c.in_err-base.ensures)
    c.in_ok-text.ensures.told
