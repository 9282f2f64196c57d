-- Each form.
use Rattle.std.proofs.Common.{◌∙◌, Option, ap, sym, subst}
use Rattle.check_sorts.specs.Constant.{HasNumber, binary_by, cast_by, choice_by, evaluated, known_at, prefix_by}
use Rattle.check_sorts.specs.Scope.{scope_in}
use Rattle.check_sorts.specs.declared.evaluation.Evaluated.{Evaluated}
use Rattle.check_sorts.proofs.EvaluationLemmas.{binary_evaluated, binary_number, cast_evaluated, choice_number, cond_evaluated, paren_evaluated, prefix_number, unary_evaluated}
use Rattle.check_sorts.proofs.values.Known.+evaluate.Goals as goal

pub returns-in-Paren-clause-same : goal.returns-in-Paren-clause-same
returns-in-Paren-clause-same t c =
    let values = known_at c.args.self.now in
    let s = scope_in c.args.scope.now in
    c.evaluate.ensures.same ∙ ap (evaluated values s) c.get.ensures
    ∙ sym (paren_evaluated values s c.args.e.now c.in-Paren.inner _ c.in-Paren.is)

pub returns-in-Cast-clause-same : goal.returns-in-Cast-clause-same
returns-in-Cast-clause-same t c =
    let values = known_at c.args.self.now in
    let s = scope_in c.args.scope.now in
    let inner = c.evaluate-in-Cast.ensures.same ∙ ap (evaluated values s) c.get-in-Cast.ensures in
    c.of_cast.ensures ∙ ap (cast_by c.in-Cast.kind) inner
    ∙ sym (cast_evaluated values s c.args.e.now c.in-Cast.kind c.in-Cast.inner _ c.in-Cast.is)

pub returns-in-Unary-clause-same : goal.returns-in-Unary-clause-same
returns-in-Unary-clause-same t c =
    let values = known_at c.args.self.now in
    let s = scope_in c.args.scope.now in
    let inner = c.evaluate-in-Unary.ensures.same ∙ ap (evaluated values s) c.get-in-Unary.ensures in
    c.of_prefix.ensures ∙ ap (prefix_by c.in-Unary.op) inner
    ∙ sym (unary_evaluated values s c.args.e.now c.in-Unary.op c.in-Unary.inner _ c.in-Unary.is)

pub returns-in-Binary-clause-same : goal.returns-in-Binary-clause-same
returns-in-Binary-clause-same t c =
    let values = known_at c.args.self.now in
    let s = scope_in c.args.scope.now in
    let o = c.in-Binary.op in
    let left = c.evaluate-left.ensures.same ∙ ap (evaluated values s) c.get-in-Binary.ensures in
    let right = c.evaluate-right.ensures.same ∙ ap (evaluated values s) c.get-in-Binary-2.ensures in
    c.of_binary.ensures ∙ ap (λ (l : Option Evaluated). binary_by o l c.evaluate-right.result) left
    ∙ ap (binary_by o (evaluated values s c.in-Binary.left)) right
    ∙ sym (binary_evaluated values s c.args.e.now o c.in-Binary.left c.in-Binary.right _ c.in-Binary.is)

pub returns-in-Cond-clause-same : goal.returns-in-Cond-clause-same
returns-in-Cond-clause-same t c =
    let values = known_at c.args.self.now in
    let s = scope_in c.args.scope.now in
    let test = c.evaluate-test.ensures.same ∙ ap (evaluated values s) c.get-in-Cond.ensures in
    let one = c.evaluate-yes.ensures.same ∙ ap (evaluated values s) c.get-in-Cond-2.ensures in
    let other = c.evaluate-no.ensures.same ∙ ap (evaluated values s) c.get-in-Cond-3.ensures in
    c.of_choice.ensures
    ∙ ap (λ (t : Option Evaluated). choice_by t c.evaluate-yes.result c.evaluate-no.result) test
    ∙ ap (λ (t : Option Evaluated). choice_by (evaluated values s c.in-Cond.test) t c.evaluate-no.result) one
    ∙ ap (choice_by (evaluated values s c.in-Cond.test) (evaluated values s c.in-Cond.yes)) other
    ∙ sym (cond_evaluated values s c.args.e.now c.in-Cond.test c.in-Cond.yes c.in-Cond.no _ c.in-Cond.is)

pub returns-in-Unary-clause-number : goal.returns-in-Unary-clause-number
returns-in-Unary-clause-number t c =
    subst HasNumber (sym c.of_prefix.ensures) (prefix_number c.in-Unary.op _ c.evaluate-in-Unary.ensures.number)

pub returns-in-Binary-clause-number : goal.returns-in-Binary-clause-number
returns-in-Binary-clause-number t c = subst HasNumber (sym c.of_binary.ensures) (binary_number c.in-Binary.op _ _)

pub returns-in-Cond-clause-number : goal.returns-in-Cond-clause-number
returns-in-Cond-clause-number t c = subst HasNumber (sym c.of_choice.ensures) (choice_number c.evaluate-test.result c.evaluate-yes.result c.evaluate-no.result)
