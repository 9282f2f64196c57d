-- A name adds its function, if it has one.
use Rattle.std.proofs.Common.{◌∙◌, ◌∷◌, [], subst, sym, ℕ, List}
use Rattle.check_calls.proofs.CalleeLemmas.{added_builtin, added_function, added_unknown}
use Rattle.check_calls.proofs.expression.add_callee.Goals as goal
use Rattle.check_calls.specs.Inside.Added.{AreAdded}

pub returns-then-is_builtin : goal.returns-then-is_builtin
returns-then-is_builtin c = added_builtin _ _ _ (sym c.is_builtin.ensures ∙ c.if-is_builtin.true)

pub returns-in_ok-push : goal.returns-in_ok-push
returns-in_ok-push c =
    subst (λ (l : List ℕ). AreAdded c.args.names.now l c.args.into.now.items (c.args.name.now ∷ []))
    (sym c.in_ok-push.ensures.items)
    (added_function c.args.names.now c.args.into.now.items c.in-Some.function c.args.name.now
    (sym c.is_builtin.ensures ∙ c.if-is_builtin.false) (sym c.in-Some.ensures))

pub returns-in_default : goal.returns-in_default
returns-in_default c =
    added_unknown _ _ _ (sym c.is_builtin.ensures ∙ c.if-is_builtin.false) (sym c.function.ensures ∙ c.in_default.is)
