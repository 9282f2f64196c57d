-- Calls, by the list of their arguments.
use mathlib.Core.Former.{Count}
use Rattle.std.proofs.Common.{◌≡◌, ℕ, List, [], ◌∷◌, Option, Some, None, refl, sym, ap, ◌∙◌}
use Rattle.std.specs.Prelude.{map, pos}
use Rattle.std.specs.Option.{option_map_or}
use Rattle.capl_tree.specs.declared.expr.Expr.{Expr, Row_of-Expr, end_of-Expr, more_of-Expr, items-the_row-Expr, items_hidden-the_row-Expr-1}
use Rattle.capl_tree.specs.declared.expr.Expr.TheVariants as expr
use Rattle.typed_tree.specs.declared.expression.TExpr.{TExpr, end_of-TExpr, more_of-TExpr, items-the_row-TExpr}
use Rattle.typed_tree.specs.declared.expression.TExpr.TheVariants.{Call, Call', Const}
use Rattle.capl_meaning.specs.Format.{first_text}
use Rattle.capl_meaning.specs.Names.{Callee, OfLanguage, OfProgram, Unknown, Scope, callee}
use Rattle.capl_meaning.specs.Sort.{sort_of, sort_of_call, sorts_of}
use Rattle.typed_source.specs.Expression.{expression_of, of_call, place_in, place_of, row_of}
use Rattle.type_expressions.specs.Made.{text_of_first}

-- a call with one argument more
abbrev grown : TExpr → TExpr → TExpr
grown first (Call' f shape row) = Call' f (tt ∷ shape) (more_of-TExpr first row)
grown first t = t

-- a call is made of the list of its row
pub call_form : (f : ℕ) (shape : _) (row : _) → Call f (items-the_row-TExpr _ row) ≡ Call' f shape row
unfolding Rattle.typed_tree.specs.declared.expression.Place.TheBlock.hidden-the_row-TExpr-1 denote.Hole.Carrier.hidden
call_form f [] end_of-TExpr = refl
call_form f (one ∷ shape) (more_of-TExpr first row) = ap (grown first) (call_form f shape row)

-- the trees of a row are those of its list
row_map : (s : Scope) (order : List ℕ) (m : _) (row : Row_of-Expr m) →
    items-the_row-TExpr _ (row_of s order row) ≡ map (expression_of s order) (items-the_row-Expr m row)
row_map s order m end_of-Expr = refl
row_map s order m (more_of-Expr first rest) = ap (λ l. expression_of s order first ∷ l) (row_map s order _ rest)

-- and so are its sorts
sorts_map : (s : Scope) (m : _) (row : Row_of-Expr m) → sorts_of s row ≡ map (sort_of s) (items-the_row-Expr m row)
sorts_map s m end_of-Expr = refl
sorts_map s m (more_of-Expr first rest) = ap (λ l. sort_of s first ∷ l) (sorts_map s _ rest)

-- and its first text
first_map : (m : _) (row : Row_of-Expr m) → first_text row ≡ text_of_first (items-the_row-Expr m row)
first_map m end_of-Expr = refl
first_map m (more_of-Expr first rest) = refl

-- a call that is made in the same way
of_call_same : (s : Scope) (order : List ℕ) (c : Callee) (args : List Expr) (one other : ℕ → TExpr) → ((f : ℕ) → one f ≡ other f) →
    of_call s order c args one ≡ of_call s order c args other
of_call_same s order (OfLanguage b) args one other same = refl
of_call_same s order (OfProgram f) args one other same = by (place_in order f.number)
  where
    by : (at : Option ℕ) → option_map_or one at (Const (pos 0)) ≡ option_map_or other at (Const (pos 0))
    by None = refl
    by (Some at) = same at
of_call_same s order Unknown args one other same = refl

-- the row of a call
abbrev call_row : Expr → (n : Count) × Row_of-Expr n
call_row (expr.Call' name shape row at) = (_, row)
call_row _ = (_, end_of-Expr)

-- the tree of a call
pub call_value : (s : Scope) (order : List ℕ) (e : Expr) (name : List ℕ) (args : List Expr) (at : ℕ) → e ≡ expr.Call name args at →
    expression_of s order e ≡ of_call s order (callee s.names name) args (λ f. Call f (map (expression_of s order) args))
call_value s order e name args at is =
    let row = call_row (expr.Call name args at) in
    let c = callee s.names name in
    ap (expression_of s order) is
    ∙ of_call_same s order c (items-the_row-Expr _ row.1) _ (λ f. Call f (map (expression_of s order) (items-the_row-Expr _ row.1)))
    (λ f. sym (call_form f _ (row_of s order row.1)) ∙ ap (Call f) (row_map s order _ row.1))
    ∙ ap (λ l. of_call s order c l (λ f. Call f (map (expression_of s order) l))) (items_hidden-the_row-Expr-1 args)

-- a call is no place
pub call_place : (s : Scope) (order : List ℕ) (e : Expr) (name : List ℕ) (args : List Expr) (at : ℕ) → e ≡ expr.Call name args at →
    place_of s order e ≡ None
call_place s order e name args at is = ap (place_of s order) is

-- the sort of a call
pub call_sort : (s : Scope) (e : Expr) (name : List ℕ) (args : List Expr) (at : ℕ) → e ≡ expr.Call name args at →
    sort_of s e ≡ sort_of_call s (callee s.names name) (text_of_first args) (map (sort_of s) args)
call_sort s e name args at is =
    let row = call_row (expr.Call name args at) in
    let c = callee s.names name in
    ap (sort_of s) is
    ∙ ap (λ t. sort_of_call s c t (sorts_of s row.1)) (first_map _ row.1)
    ∙ ap (λ l. sort_of_call s c (text_of_first (items-the_row-Expr _ row.1)) l) (sorts_map s _ row.1)
    ∙ ap (λ l. sort_of_call s c (text_of_first l) (map (sort_of s) l)) (items_hidden-the_row-Expr-1 args)
