-- Each number, assignment and call in an expression that breaks no rule can be made.
use mathlib.Core.Former.{Count}
use Rattle.std.proofs.Common.{◌≡◌, ℕ, ◌<◌, ◌^◌, Bool, true, false, List, [], ◌∷◌, ◌++◌, Option, Some, None, refl, arith}
use Rattle.std.specs.Prelude.{IfSome, if◌then◌else◌, nat_le}
use Rattle.std.specs.List.{AllByRecursion}
use Rattle.std.specs.Option.{ForSome}
use Rattle.std.proofs.lemmas.Bool.{leb-true}
use Rattle.int_kinds.specs.declared.kinds.Kind.TheVariants as kind
use Rattle.int_kinds.specs.declared.operators.BinOp.{BinOp}
use Rattle.int_kinds.specs.declared.operators.BinOp.TheVariants as op
use Rattle.capl_tree.specs.declared.expr.Expr.{Expr, Row_of-Expr, end_of-Expr, more_of-Expr}
use Rattle.capl_tree.specs.declared.expr.Expr.TheVariants as expr
use Rattle.capl_tree.specs.declared.expr.Field.{Field}
use Rattle.capl_tree.specs.declared.expr.Field.TheVariants.{Named}
use Rattle.capl_tree.specs.Forms as tree
use Rattle.capl_tree.specs.Grammar.{AreExpressions, IsCompound, IsExpression, IsField}
use Rattle.typed_tree.specs.declared.program.Typed.{Typed}
use Rattle.typed_tree.specs.SoundExpression.{IsOperation}
use Rattle.capl_meaning.specs.declared.sort.Sort.{Sort}
use Rattle.capl_meaning.specs.declared.sort.Sort.TheVariants as sort
use Rattle.capl_meaning.specs.Names.{Scope, callee}
use Rattle.capl_meaning.specs.Calls.{calls_in, calls_in_field, calls_in_row}
use Rattle.capl_meaning.specs.Sort.{is_bad, sort_of_number}
use Rattle.capl_meaning.specs.ExpressionRules.{number_rule, offences, offences_of_field, offences_of_row}
use Rattle.typed_source.specs.Sound.{CanBeMade, CanFieldBeMade, CanRowBeMade, IsCompoundOrPlain, IsSmall}
use Rattle.sound_programs.specs.Given.{AreCallable}
use Rattle.sound_programs.specs.Small.{AreSmallExprs, IsSmallExpr, IsSmallField}
use Rattle.sound_programs.proofs.Empty.{back, front, unbroken}

-- what holds of each of two lists in a row holds of each of the first
pub all_front : {A : Type 0} (P : A → Type 0) (xs ys : List A) → AllByRecursion P (xs ++ ys) → AllByRecursion P xs
all_front P [] ys h = tt
all_front P (x ∷ xs) ys h = (h.0, all_front P xs ys h.1)

-- and of each of the second
pub all_back : {A : Type 0} (P : A → Type 0) (xs ys : List A) → AllByRecursion P (xs ++ ys) → AllByRecursion P ys
all_back P [] ys h = h
all_back P (x ∷ xs) ys h = all_back P xs ys h.1

-- an operator that has a sign with `=` works on two numbers
compound : (operator : Option BinOp) → ForSome operator IsCompound → IsCompoundOrPlain operator
compound None h = tt
compound (Some operator) h = go operator (h operator refl)
  where
    go : (operator : BinOp) → IsCompound operator → IsOperation operator
    go op.OrElse h = h
    go op.AndAlso h = h
    go operator h = tt

-- a number that breaks no rule
small : (s : Scope) (at : ℕ) (value : Option ℕ) (extended : Bool) → IfSome value (λ n. n < 2 ^ 64) → number_rule s at value extended ≡ [] → IsSmall value extended
small s at None extended h none = tt
small s at (Some n) false h none = h
small s at (Some n) true h none = go (nat_le n 0x1FFFFFFF) refl (unbroken (is_bad (sort_of_number (Some n) true)) s at 18 none)
  where
    go : (b : Bool) → nat_le n 0x1FFFFFFF ≡ b → is_bad (if b then sort.Number kind.Dword else sort.Bad) ≡ false → n < 2 ^ 32
    go true is e = omega (arith, leb-true n 0x1FFFFFFF is)
    go false is e = absurd (let f : true ≡ false = e in cc)

module _ (typed : Typed) (number : ℕ) (s : Scope) (order : List ℕ) where
  abbrev Callable : List (List ℕ) → Type 0
  Callable called = AreCallable s.names order typed number called

  callable_front : (xs ys : List (List ℕ)) → Callable (xs ++ ys) → Callable xs
  callable_front xs ys h = all_front _ xs ys h

  callable_back : (xs ys : List (List ℕ)) → Callable (xs ++ ys) → Callable ys
  callable_back xs ys h = all_back _ xs ys h

  mutual
    -- an expression
    pub made : (e : Expr) → IsExpression e → IsSmallExpr e → offences s e ≡ [] → AreCallable s.names order typed number (calls_in e) → CanBeMade s order typed number e
    made (expr.Num value extended at) formed few none called = small s at value extended few none
    made (expr.Char value at) formed few none called = few
    made (expr.Str text at) formed few none called = tt
    made (expr.This at) formed few none called = tt
    made (expr.Name name at) formed few none called = tt
    made (tree.Paren inner at) formed few none called = made inner formed few none called
    made (expr.Call' name shape args at) formed few none called = (called.0, made_row args formed few.1 (front (offences_of_row s args) _ none) called.1)
    made (tree.Index base index at) formed few none called =
        made index formed.2 few.1 (front (offences s index) _ (back (offences s base) _ none)) (callable_back (calls_in base) (calls_in index) called)
    made (tree.Member base field at) formed few none called =
        made_field field formed.2 few.1 (front (offences_of_field s field) _ (back (offences s base) _ none)) (callable_back (calls_in base) (calls_in_field field) called)
    made (tree.Cast k inner at) formed few none called = made inner formed.0 few (front (offences s inner) _ none) called
    made (tree.Unary operator inner at) formed few none called = made inner formed.0 few (front (offences s inner) _ none) called
    made (tree.Post up inner at) formed few none called = made inner formed.0 few (front (offences s inner) _ none) called
    made (tree.Binary operator left right at) formed few none called = (
      made left formed.0 few.0 (front (offences s left) _ none) (callable_front (calls_in left) (calls_in right) called),
      made right formed.2 few.1 (front (offences s right) _ (back (offences s left) _ none)) (callable_back (calls_in left) (calls_in right) called),
    )
    made (tree.Cond test one other at) formed few none called =
        let rest = back (offences s test) _ none in
        let last = callable_back (calls_in test) (calls_in one ++ calls_in other) called in (
          made test formed.0 few.0 (front (offences s test) _ none) (callable_front (calls_in test) (calls_in one ++ calls_in other) called),
          made one formed.2 few.1 (front (offences s one) _ rest) (callable_front (calls_in one) (calls_in other) last),
          made other formed.3 few.2 (front (offences s other) _ (back (offences s one) _ rest)) (callable_back (calls_in one) (calls_in other) last),
        )
    made (tree.Assign operator left right at) formed few none called = (
      compound operator formed.0,
      made left formed.1 few.0 (front (offences s left) _ none) (callable_front (calls_in left) (calls_in right) called),
      made right formed.3 few.1 (front (offences s right) _ (back (offences s left) _ none)) (callable_back (calls_in left) (calls_in right) called),
    )

    made_field : (field : Field) → IsField field → IsSmallField field → offences_of_field s field ≡ [] → AreCallable s.names order typed number (calls_in_field field) → CanFieldBeMade s order typed number field
    made_field (Named name at) formed few none called = tt
    made_field (tree.Bytes k index at) formed few none called = made index formed few none called

    -- expressions in a row
    pub made_row : {m : Count} (row : Row_of-Expr m) → AreExpressions row → AreSmallExprs row → offences_of_row s row ≡ [] → AreCallable s.names order typed number (calls_in_row row) → CanRowBeMade s order typed number row
    made_row end_of-Expr formed few none called = tt
    made_row (more_of-Expr first rest) formed few none called = (
      made first formed.0 few.0 (front (offences s first) _ none) (callable_front (calls_in first) (calls_in_row rest) called),
      made_row rest formed.1 few.1 (back (offences s first) _ none) (callable_back (calls_in first) (calls_in_row rest) called),
    )
