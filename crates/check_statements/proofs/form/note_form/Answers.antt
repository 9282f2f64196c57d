-- With a size or without.
use Rattle.std.proofs.Common.{◌≡◌, ◌∙◌, ℕ, Bool, true, false, List, Option, Some, None, ap, refl, sym}
use Rattle.std.specs.Prelude.{is_some}
use Rattle.dbc_reader.specs.declared.message.DbcMessage.{DbcMessage}
use Rattle.capl_tree.specs.declared.declaration.DeclType.{DeclType}
use Rattle.capl_tree.specs.declared.expr.Expr.{Expr}
use Rattle.capl_meaning.specs.DeclarationRules.{form_rule}
use Rattle.capl_meaning.specs.ExpressionRules.{broken_where}
use Rattle.capl_meaning.specs.Names.{Scope}
use Rattle.capl_meaning.specs.Variable.{form_of}
use Rattle.check_names.specs.First.{noted}
use Rattle.check_statements.specs.Site.{place_of}
use Rattle.check_statements.proofs.form.note_form.Goals as goal

-- what the rule says of a size that may be missing
by_size : (s : Scope) (base : List DbcMessage) (at : ℕ) (what : DeclType) (size : Option Expr) (has wrong : Bool) → has ≡ is_some size
    → ((e : Expr) → has ≡ true → form_rule s at (form_of base what (Some e)) ≡ broken_where wrong s at 12)
    → (has ≡ false → form_rule s at (form_of base what None) ≡ broken_where wrong s at 12)
    → broken_where wrong s at 12 ≡ form_rule s at (form_of base what size)
by_size s base at what None has wrong is sized plain = sym (plain is)
by_size s base at what (Some e) has wrong is sized plain = sym (sized e is)

pub returns : goal.returns
returns c =
    let s = place_of c.args.site.now in
    let base = c.args.site.now.scope.names.now.base in
    c.note_broken.ensures
    ∙ ap (noted c.args.first.now)
    (by_size s base c.args.at c.args.what.now c.args.size.now c.is_some.result c.is_wrong-wrong.result c.is_some.ensures
    (λ e has. c.is_wrong-wrong.ensures.sized s base c.args.at e has)
    (λ has. c.is_wrong-wrong.ensures.plain s base c.args.at has refl))
