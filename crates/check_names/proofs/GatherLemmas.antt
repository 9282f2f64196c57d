-- Gathering declarations one part after another.
use Rattle.std.proofs.Common.{◌≡◌, ◌++◌, ◌∙◌, List, Option, Result, ap, append_assoc, subst, sym}
use Rattle.std.specs.Prelude.{OnOk}
use Rattle.capl_tree.specs.declared.declaration.Decl.{Decl}
use Rattle.capl_tree.specs.declared.statement.Arm.{Arm}
use Rattle.capl_tree.specs.declared.statement.Stmt.{Stmt}
use Rattle.capl_tree.specs.declared.statement.Stmt.TheVariants as stmt
use Rattle.capl_meaning.specs.Variable.{declarations_in}
use Rattle.check_names.specs.Variable.{in_arms, in_else}
use Rattle.check_names.proofs.DeclarationLemmas.{if_declares}

-- the arms of an `if`, and then what stands behind a last `else`
pub if_gathered : {T E : Type 0} (s : Stmt) (arms : List Arm) (other : Option Stmt) (old middle after : List Decl) (r : Result T E)
    → s ≡ stmt.If arms other → middle ≡ old ++ in_arms arms → OnOk r (after ≡ middle ++ in_else other)
    → OnOk r (after ≡ old ++ declarations_in s)
if_gathered s arms other old middle after r is first =
    subst (λ (l : List Decl). OnOk r (after ≡ l)) (ap (λ l. l ++ in_else other) first ∙ append_assoc old (in_arms arms) (in_else other)
    ∙ ap (λ ds. old ++ ds) (sym (if_declares s arms other is)))
