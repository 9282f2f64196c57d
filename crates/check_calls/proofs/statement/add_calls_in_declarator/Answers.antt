-- A length and an initialiser.
use Rattle.check_calls.proofs.CalleeLemmas.{added_two}
use Rattle.check_calls.proofs.statement.add_calls_in_declarator.Goals as goal

pub returns : goal.returns
returns c =
    added_two c.args.names.now _ _ _ _ _ c.in_ok-add_calls_in_boxed.ensures c.in_ok-add_calls_in_start.ensures
