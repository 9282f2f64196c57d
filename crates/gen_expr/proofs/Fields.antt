-- The cells of message fields in a call.
use mathlib.Core.Former.{Count}
use Rattle.std.specs.Prelude.{◌≡◌, ℕ, List, All}
use Rattle.std.proofs.Common.{subst}
use Rattle.std.proofs.lemmas.List.Elements.{All-cons, All-nil}
use Rattle.typed_tree.specs.declared.expression.TExpr.{TExpr, Row_of-TExpr, end_of-TExpr, more_of-TExpr, items-the_row-TExpr, items_hidden-the_row-TExpr-1}
use Rattle.typed_tree.specs.declared.expression.TExpr.TheVariants.{Call}
use Rattle.code_size.proofs.Rows.{row_of}
use Rattle.gen_expr.specs.Fields.{ArgumentsHaveFieldCells, HasFieldCells}

-- where those in a row have their cells, those in its list have
row_fields : (n : Count) (row : Row_of-TExpr n) → ArgumentsHaveFieldCells row → All HasFieldCells (items-the_row-TExpr n row)
row_fields n end_of-TExpr h = All-nil HasFieldCells
row_fields n (more_of-TExpr e rest) h = All-cons HasFieldCells e (items-the_row-TExpr _ rest) h.0 (row_fields _ rest h.1)

-- where those in a call have their cells, those in its arguments have
pub call_fields : (e : TExpr) (f : ℕ) (args : List TExpr) → e ≡ Call f args → HasFieldCells e → All HasFieldCells args
call_fields e f args is h =
    let row = row_of (Call f args) in
    subst (All HasFieldCells) (items_hidden-the_row-TExpr-1 args) (row_fields row.0 row.1 (subst HasFieldCells is h))
