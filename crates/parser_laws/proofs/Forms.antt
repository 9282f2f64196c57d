-- Each statement with a list or a box in it, as it is made of its parts.
use Rattle.std.proofs.Common.{◌≡◌, List, Option, Some, None, refl, ap, sym, ◌∙◌}
use Rattle.capl_tree.specs.declared.statement.Stmt.{Stmt, roll-Stmt, roll-out-Stmt}
use Rattle.capl_tree.specs.declared.statement.Stmt.TheBlock.{Held-Stmt-If-1, items-the_row-Stmt, items-the_row-Arm, items-the_row-Group, items_shown-the_row-Stmt-0, items_shown-the_row-Arm-1, items_shown-the_row-Group-3, shown-the_row-Stmt-0, shown-the_row-Arm-1, shown-the_row-Group-3}
use Rattle.capl_tree.specs.declared.statement.Stmt.TheVariants as stmt
use Rattle.capl_tree.specs.declared.statement.Arm.{Arm}
use Rattle.capl_tree.specs.declared.statement.Group.{Group}
use Rattle.capl_tree.specs.Forms as form
use Rattle.capl_tree.proofs.FormLemmas.{while_form, do_form, for_form}

-- what stands behind a last `else`
abbrev pub held : Held-Stmt-If-1 → Option Stmt
held form.NoElse = None
held (form.Else body) = Some body

-- the statement, as it is made
abbrev pub made : Stmt → Stmt
made (stmt.Block' shape body) = stmt.Block (items-the_row-Stmt _ body)
made (stmt.If' shape arms other) = stmt.If (items-the_row-Arm _ arms) (held other)
made (form.While test body) = stmt.While test body
made (form.Do body test) = stmt.Do body test
made (form.For init test step body) = stmt.For init test step body
made (stmt.Switch' on shape groups) = stmt.Switch on (items-the_row-Group _ groups)
made s = s

-- it is the same
pub made_is : (s : Stmt) → made s ≡ s
unfolding Rattle.capl_tree.specs.declared.statement.Stmt.TheBlock.hidden-the_row-Stmt-0 Rattle.capl_tree.specs.declared.statement.Stmt.TheBlock.hidden-the_row-Stmt-2 Rattle.capl_tree.specs.declared.statement.Stmt.TheBlock.shown-the_row-Stmt-2 denote.Hole.Carrier.hidden denote.Hole.Carrier.shown
made_is (stmt.Block' shape body) =
    ap (λ (all : List Stmt). stmt.Block all) (sym (items_shown-the_row-Stmt-0 shape body))
    ∙ sym (stmt.rolls-Block (shown-the_row-Stmt-0 shape body)) ∙ ap roll-Stmt (sym (stmt.outs-Block' shape body))
    ∙ roll-out-Stmt (stmt.Block' shape body)
made_is (stmt.If' shape arms form.NoElse) =
    ap (λ (all : List Arm). stmt.If all None) (sym (items_shown-the_row-Arm-1 shape arms))
    ∙ sym (stmt.rolls-If (shown-the_row-Arm-1 shape arms) None) ∙ ap roll-Stmt (sym (stmt.outs-If' shape arms form.NoElse))
    ∙ roll-out-Stmt (stmt.If' shape arms form.NoElse)
made_is (stmt.If' shape arms (form.Else body)) =
    ap (λ (all : List Arm). stmt.If all (Some body)) (sym (items_shown-the_row-Arm-1 shape arms))
    ∙ sym (stmt.rolls-If (shown-the_row-Arm-1 shape arms) (Some body)) ∙ ap roll-Stmt (sym (stmt.outs-If' shape arms (form.Else body)))
    ∙ roll-out-Stmt (stmt.If' shape arms (form.Else body))
made_is (form.While test body) = while_form test body
made_is (form.Do body test) = do_form body test
made_is (form.For init test step body) = for_form init test step body
made_is (stmt.Switch' on shape groups) =
    ap (λ (all : List Group). stmt.Switch on all) (sym (items_shown-the_row-Group-3 shape groups))
    ∙ sym (stmt.rolls-Switch on (shown-the_row-Group-3 shape groups)) ∙ ap roll-Stmt (sym (stmt.outs-Switch' on shape groups))
    ∙ roll-out-Stmt (stmt.Switch' on shape groups)
made_is stmt.Empty = refl
made_is (stmt.Decl declared) = refl
made_is (stmt.Expr value) = refl
made_is (stmt.Break at) = refl
made_is (stmt.Continue at) = refl
made_is (stmt.Return value at) = refl
