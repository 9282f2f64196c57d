-- A recursion on a count of turns, beside a loop that counts up.
use Rattle.std.proofs.Common.{◌≡◌, ℕ, suc, ◌+◌, ◌-◌, ◌≤◌, ◌<◌, true, List, [], ◌∷◌, ◌++◌, Option, Some, None, Err, refl, ap, ◌∙◌, arith}
use borrow.Author.Tests.{le-ltb}
use Rattle.capl_lexer.specs.declared.token.Tok.{Tok}
use Rattle.capl_lexer.specs.declared.token.Sign.TheVariants as sign
use Rattle.capl_tree.specs.declared.expr.Expr.{Expr}
use Rattle.expr_parser.specs.declared.refusal.Refusal.{Refusal}
use Rattle.expr_parser.specs.declared.refusal.Refusal.TheVariants as refusal
use Rattle.expr_parser.specs.declared.operator.Operator.{Operator}
use Rattle.expr_parser.specs.Operators.{operator_at, binding, binding_of}
use Rattle.expr_parser.specs.Reading.{Read, begins, behind, items_from, Gives}
use Rattle.expr_parser.specs.Expression as read
use Rattle.expr_parser.specs.Expression.{Reader}

-- a turn of a loop takes one off the count
pub one_more : {A : Type 0} {all : A} (f : ℕ → A) (n at : ℕ) → at < n → all ≡ f (n - at) → all ≡ f (suc (n - (at + 1)))
one_more f n at below e = let turn : n - at ≡ suc (n - (at + 1)) = omega arith in e ∙ ap f turn

-- a depth above 0 is one more than another
pub deeper : {A : Type 0} (f : ℕ → A) (n : ℕ) → 0 < n → f n ≡ f (suc (n - 1))
deeper f n some = let e : n ≡ suc (n - 1) = omega arith in ap f e

-- an item with a comma behind it
pub one_item : {A : Type 0} (whole : Read (List A)) (one : List Tok → Read A) (n : ℕ) (found longer : List A) (item : A) (old between new : List Tok)
    → whole ≡ items_from one (suc n) found old → one old ≡ Some (item, between) → begins sign.Comma between ≡ true
    → longer ≡ found ++ item ∷ [] → new ≡ behind between → whole ≡ items_from one n longer new
unfolding items_from
one_item whole one n found longer item old between new e read comma pushed left = e ∙ rw (read, comma, pushed, left) refl

-- an operator that goes on with what was read
pub one_operator : (whole : Read Expr) (total : ℕ) (inner : Reader) (least n bound : ℕ) (left made : Expr) (of : Option Operator) (old tail new : List Tok)
    → whole ≡ read.climb total inner least (suc n) left old → of ≡ operator_at old → bound ≡ binding_of of → least ≤ bound → tail ≡ behind old
    → read.operated total inner left of tail ≡ Some (made, new) → whole ≡ read.climb total inner least n made new
unfolding read.climb
one_operator whole total inner least n bound left made of old tail new e is bounded above passed operated =
    let low : least ≤ binding old = rw (← is, ← bounded) above in
    let same : read.operated total inner left (operator_at old) (behind old) ≡ Some (made, new) = rw (← is, ← passed) operated in
    e ∙ rw (le-ltb (binding old) least low, same) refl

-- an operator that goes on with it, and is refused
pub operator_refused : (whole : Read Expr) (total : ℕ) (inner : Reader) (least n bound : ℕ) (left : Expr) (of : Option Operator) (why : Refusal) (old tail new other : List Tok)
    → whole ≡ read.climb total inner least (suc n) left old → of ≡ operator_at old → bound ≡ binding_of of → least ≤ bound → tail ≡ behind old
    → Gives (read.operated total inner left of tail) (Err why) new → Gives whole (Err why) other
unfolding read.climb
operator_refused whole total inner least n bound left of refusal.NotSpelled old tail new other e is bounded above passed none =
    let low : least ≤ binding old = rw (← is, ← bounded) above in
    let same : read.operated total inner left (operator_at old) (behind old) ≡ None = rw (← is, ← passed) none in
    e ∙ rw (le-ltb (binding old) least low, same) refl
operator_refused whole total inner least n bound left of refusal.NoMemory old tail new other e is bounded above passed none = tt
