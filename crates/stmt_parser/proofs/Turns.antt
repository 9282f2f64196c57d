-- A turn of a loop, beside the recursion of its reader.
use Rattle.std.proofs.Common.{◌≡◌, ℕ, suc, Bool, true, false, List, [], ◌∷◌, ◌++◌, Some, refl, ◌∙◌}
use Rattle.capl_lexer.specs.declared.token.Tok.{Tok}
use Rattle.capl_lexer.specs.declared.token.Word.TheVariants as word
use Rattle.capl_tree.specs.declared.statement.Stmt.{Stmt}
use Rattle.capl_tree.specs.declared.statement.Stmt.TheVariants as stmt
use Rattle.capl_tree.specs.declared.statement.Arm.{Arm}
use Rattle.expr_parser.specs.Reading.{Read, begins_word, behind}
use Rattle.parser_laws.specs.Statement.{Parts, until, arm, arms_from}

-- an item, where they do not end
pub one_part : {A : Type 0} (whole : Read (List A)) (ends : List Tok → Bool) (one : List Tok → Read A) (n : ℕ) (found longer : List A) (item : A) (old new : List Tok)
    → whole ≡ until ends one (suc n) found old → ends old ≡ false → one old ≡ Some (item, new)
    → longer ≡ found ++ item ∷ [] → whole ≡ until ends one n longer new
unfolding until
one_part whole ends one n found longer item old new e goes read pushed = e ∙ rw (goes, read, pushed) refl

-- an arm with `else if` behind it
pub one_arm : (whole : Read Stmt) (parts : Parts) (inner : List Tok → Read Stmt) (n : ℕ) (found longer : List Arm) (item : Arm) (old between tail new : List Tok)
    → whole ≡ arms_from parts inner (suc n) found old → arm parts inner old ≡ Some (item, between)
    → longer ≡ found ++ item ∷ [] → begins_word word.Else between ≡ true → tail ≡ behind between
    → begins_word word.If tail ≡ true → new ≡ behind tail → whole ≡ arms_from parts inner n longer new
unfolding arms_from
one_arm whole parts inner n found longer item old between tail new e read pushed other passed again left =
    let next : begins_word word.If (behind between) ≡ true = rw (← passed) again in
    e ∙ rw (read, pushed, other, next, left, passed) refl

-- an arm with `else` and a statement behind it
pub last_arm : (whole : Read Stmt) (parts : Parts) (inner : List Tok → Read Stmt) (n : ℕ) (found longer : List Arm) (item : Arm) (other : Stmt) (old between tail new : List Tok)
    → whole ≡ arms_from parts inner (suc n) found old → arm parts inner old ≡ Some (item, between)
    → longer ≡ found ++ item ∷ [] → begins_word word.Else between ≡ true → tail ≡ behind between
    → begins_word word.If tail ≡ false → inner tail ≡ Some (other, new) → whole ≡ Some (stmt.If longer (Some other), new)
unfolding arms_from
last_arm whole parts inner n found longer item other old between tail new e read pushed is passed ends inside =
    let last : begins_word word.If (behind between) ≡ false = rw (← passed) ends in
    let body : inner (behind between) ≡ Some (other, new) = rw (← passed) inside in
    e ∙ rw (read, pushed, is, last, body) refl
