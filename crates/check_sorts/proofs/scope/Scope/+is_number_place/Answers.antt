-- A member of a message variable.
use Rattle.std.proofs.Common.{◌∙◌, sym, ap, false}
use Rattle.std.specs.Option.{option_map_or}
use Rattle.capl_tree.specs.declared.expr.Expr.{Expr}
use Rattle.capl_meaning.specs.Message.{is_open_part, message_in}
use Rattle.check_sorts.specs.Scope.{scope_in}
use Rattle.check_sorts.proofs.PlaceLemmas.{member_place}
use Rattle.check_sorts.proofs.scope.Scope.+is_number_place.Goals as goal

pub returns-in-Member : goal.returns-in-Member
returns-in-Member t c =
    let s = scope_in c.args.self.now in
    c.is_open_part.ensures c.args.self.now.names.now _ c.message_in.ensures
    ∙ ap (λ (e : Expr). option_map_or (is_open_part c.in-Member.field) (message_in s e) false) c.get-in-Member.ensures
    ∙ sym (member_place s c.args.e.now c.in-Member.base c.in-Member.field _ c.in-Member.is)
