-- Nothing is called where there is no expression.
use Rattle.std.proofs.Common.{sym, subst}
use Rattle.std.specs.Prelude.{Option}
use Rattle.capl_tree.specs.declared.expr.Expr.{Expr}
use Rattle.capl_meaning.specs.Calls.{calls_in_part}
use Rattle.check_calls.proofs.CalleeLemmas.{added_none}
use Rattle.check_calls.proofs.expression.add_calls_in_boxed.Goals as goal
use Rattle.check_calls.specs.Inside.Added.{AreAdded}

pub returns-in-None : goal.returns-in-None
returns-in-None c =
    subst (λ (o : Option Expr). AreAdded c.args.names.now c.args.into.now.items c.args.into.now.items (calls_in_part o))
    (sym c.in-None.is) (added_none _ _)
