-- What `this` is.
use Rattle.std.proofs.Common.{◌∙◌, Some, sym, ap}
use Rattle.std.specs.Option.{option_map}
use Rattle.capl_tree.specs.declared.expr.Expr.{Expr}
use Rattle.check_sorts.specs.Scope.{scope_in}
use Rattle.capl_meaning.specs.Message.{message_in}
use Rattle.check_sorts.proofs.scope.Scope.+message_in.Goals as goal

pub returns-in-This : goal.returns-in-This
returns-in-This t c =
    c.held_this.ensures c.args.self.now.names.now ∙ sym (ap (λ (e : Expr). option_map Some (message_in (scope_in c.args.self.now) e)) c.in-This.is)
