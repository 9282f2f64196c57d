-- The code of a sound statement does what the statement means.
use Rattle.code_meaning.proofs.StatementRuns.{stmt_runs}
use Rattle.code_meaning.proofs.laws.statements_do_what_they_mean.Goals as goal

pub returns : goal.returns
returns c = λ code s call most around statement sound set is. λ exits place stack calls w fit stands.
    stmt_runs code s sound call most around.number set around.gives stack calls statement around.breakable around.continuable exits place w is fit stands
