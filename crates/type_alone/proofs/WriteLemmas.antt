-- What is made of the arguments of a `write`, one by one.
use Rattle.std.proofs.Common.{◌≡◌, ◌∙◌, ℕ, Bool, true, false, List, [], ◌∷◌, ◌++◌, ◌+◌, ◌<◌, ◌≤◌, ap, append_assoc, drop, get_or, length, map, refl, sym}
use Rattle.std.specs.Prelude.{if◌then◌else◌, filter}
use Rattle.std.proofs.lemmas.List.{append-nil, drop_all}
use Rattle.capl_tree.specs.declared.expr.Expr.{Expr}
use Rattle.typed_tree.specs.declared.expression.TExpr.{TExpr}
use Rattle.capl_meaning.specs.Names.{Scope}
use Rattle.capl_meaning.specs.Sort.{is_number, sort_of}
use Rattle.check_names.proofs.LoopLemmas.{drop_next}
use Rattle.typed_source.specs.Expression.{expression_of}
use Rattle.typed_source.specs.Statement.{numbers_of}

-- the trees of an argument and of the others, where it is a number or not
by_number : (f : Expr → TExpr) (b : Bool) (e : Expr) (rest : List Expr) →
    map f (if b then e ∷ rest else rest) ≡ map f (if b then e ∷ [] else []) ++ map f rest
by_number f true e rest = refl
by_number f false e rest = refl

-- the numbers of an argument stand before those of the others
pub numbers_step : (s : Scope) (order : List ℕ) (e : Expr) (rest : List Expr) →
    numbers_of s order (e ∷ rest) ≡ numbers_of s order (e ∷ []) ++ numbers_of s order rest
numbers_step s order e rest =
    by_number (expression_of s order) (is_number (sort_of s e)) e (filter (λ e. is_number (sort_of s e)) rest)

-- what is made of a list is made of each of its elements, where one more is made of the next
pub one_more : {B : Type 0} (f : List Expr → List B) → ((e : Expr) (rest : List Expr) → f (e ∷ rest) ≡ f (e ∷ []) ++ f rest) →
    (all : List Expr) (i : ℕ) (e : Expr) (old new : List B) → i < length all → e ≡ get_or all i e →
    old ++ f (drop i all) ≡ f all → new ≡ old ++ f (e ∷ []) → new ++ f (drop (i + 1) all) ≡ f all
one_more f apart all i e old new inside is before pushed =
    let rest = drop (i + 1) all in
    ap (λ l. l ++ f rest) pushed ∙ append_assoc old (f (e ∷ [])) (f rest)
    ∙ ap (λ l. old ++ l) (sym (apart e rest)) ∙ sym (ap (λ l. old ++ f l) (drop_next all i e inside is)) ∙ before

-- nothing is left behind the last
pub no_more : {B : Type 0} (f : List Expr → List B) → f [] ≡ [] → (all : List Expr) (i : ℕ) (made : List B) → length all ≤ i →
    made ++ f (drop i all) ≡ f all → made ≡ f all
no_more f none all i made past all_made =
    sym (ap (λ l. made ++ f l) (drop_all i all past) ∙ ap (λ l. made ++ l) none ∙ append-nil made) ∙ all_made
