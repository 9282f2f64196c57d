-- The law of expressions, at the place of the code.
use Rattle.gen_expr.proofs.Meaning.{means_value}
use Rattle.gen_expr.proofs.expression.emit.Goals as goal

pub returns-clause-means : goal.returns-clause-means
returns-clause-means c =
    means_value c.args.typed.now c.args.e.now c.args.into.now _ c.args.depth c.in_ok-emit_value.ensures.code c.in_ok-emit_value.ensures.grows c.expressions_do_what_they_mean.ensures.values
