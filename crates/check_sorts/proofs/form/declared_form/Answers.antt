-- A declaration with a size.
use Rattle.std.proofs.Common.{◌∙◌, Option, Some, ap, sym}
use Rattle.capl_tree.specs.declared.expr.Expr.{Expr}
use Rattle.capl_meaning.specs.Variable.{form_of}
use Rattle.check_names.specs.Variable.{variable_by}
use Rattle.check_names.specs.declared.variable.Source.{Source}
use Rattle.check_sorts.proofs.form.declared_form.Goals as goal

pub returns-in-Some : goal.returns-in-Some
returns-in-Some c =
    let base = c.args.names.now.base in
    c.sized_form.ensures base
    ∙ ap (λ (size : Expr). form_of base c.in-Item.what.now (Some size)) c.get.ensures
    ∙ sym (ap (λ (s : Source). (variable_by base c.args.declared.now.place s).form) c.in-Item.is
    ∙ ap (λ (size : Option Expr). form_of base c.in-Item.what.now size) c.in-Some.is)
