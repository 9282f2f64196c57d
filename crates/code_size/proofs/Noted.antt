-- What is noted behind one more item, and what the notes of a form are.
use Rattle.std.specs.Prelude.{◌≡◌, ℕ, ◌+◌, ◌-◌, ◌^◌, ◌<◌, ◌≤◌, min, Bool, true, if◌then◌else◌, ◌==◌, List, [], ◌∷◌, ◌++◌, length, sum_by, drop, take, Option}
use Rattle.std.proofs.Common.{refl, ap, sym, ◌∙◌, arith, append_assoc, get_or}
use Rattle.std.proofs.lemmas.List.{get_or-take, length-take-le}
use Rattle.std.proofs.lemmas.List.Sums.{sum_by-cons}
use Rattle.std.proofs.Math.Seq.{take-length}
use Rattle.typed_tree.specs.declared.expression.TExpr.{TExpr}
use Rattle.typed_tree.specs.declared.program.Typed.{Typed}
use Rattle.typed_tree.specs.declared.statement.TArm.{TArm}
use Rattle.typed_tree.specs.declared.statement.TStmt.{TStmt}
use Rattle.typed_tree.specs.declared.statement.TStmt.TheVariants as stmt
use Rattle.typed_tree.specs.Shape.{body_goes_on, goes_on}
use Rattle.typed_tree.specs.Size.{stmt_size}
use Rattle.code_size.specs.declared.extent.Extent.{Extent}
use Rattle.code_size.specs.Notes.{all_notes, arms_notes_of, going_on, inside_notes, notes_of, part_notes_of}
use Rattle.code_size.specs.Rows.{is_nil, part_size_of}
use Rattle.code_size.proofs.Notes.{for_notes, if_notes}
use Rattle.code_size.proofs.Steps.{drop_next, is_nil-drop}

-- all of a list
pub all_taken : {A : Type 0} (xs ys : List A) → xs ≡ ys → take (length xs) xs ≡ ys
all_taken xs ys same = take-length xs ∙ same

-- the last of statements decides whether they go on
goes_any : (s : TStmt) (rest : List TStmt) → (if is_nil rest then goes_on s else body_goes_on true rest) ≡ body_goes_on true (s ∷ rest)
goes_any s [] = refl
goes_any s (y ∷ rest) = refl

module _ (all : List TStmt) (count i k : ℕ) (s : TStmt) (within : count ≤ length all) (before : i < count)
    (is : s ≡ get_or all i s) (next : k ≡ i + 1) where
  -- the statements from one on, among the first ones
  first_here : drop i (take count all) ≡ s ∷ drop k (take count all)
  first_here =
      let long = length-take-le count all within in
      rw next (drop_next (take count all) i s (omega (arith, before, long)) (is ∙ sym (get_or-take count all i s before)))

  -- whether they go on
  pub first_goes : (first behind : Bool) → first ≡ goes_on s → behind ≡ body_goes_on true (drop k (take count all)) →
      (if i + 1 == count then first else behind) ≡ body_goes_on true (drop i (take count all))
  first_goes first behind own rest =
      let long = length-take-le count all within in
      let last : is_nil (drop k (take count all)) ≡ (i + 1 == count) =
      is_nil-drop (take count all) k (omega (arith, before, long, next)) ∙ rw (long, next) refl in
      rw (own, rest, ← last) (goes_any s (drop k (take count all)) ∙ ap (body_goes_on true) (sym first_here))

  -- their size
  pub first_size : (typed : Typed) →
      sum_by (stmt_size typed) (drop i (take count all)) ≡ stmt_size typed s + sum_by (stmt_size typed) (drop k (take count all))
  first_size typed = ap (sum_by (stmt_size typed)) first_here ∙ sum_by-cons (stmt_size typed) s (drop k (take count all))

  -- their notes
  pub first_notes : (typed : Typed) (n0 n1 n2 : List Extent) → n1 ≡ n0 ++ all_notes typed (drop k (take count all)) →
      n2 ≡ n1 ++ notes_of typed s → n2 ≡ n0 ++ all_notes typed (drop i (take count all))
  first_notes typed n0 n1 n2 e1 e2 = rw (e2, e1, first_here) (simp append_assoc)

-- what is noted of an `if`
pub if_noted : (typed : Typed) (s : TStmt) (arms slice : List TArm) (other : Option TStmt) (n0 n1 n2 : List Extent) →
    s ≡ stmt.If arms other → slice ≡ arms → n1 ≡ n0 ++ part_notes_of typed other → n2 ≡ n1 ++ arms_notes_of typed slice →
    n2 ≡ n0 ++ inside_notes typed s
if_noted typed s arms slice other n0 n1 n2 is same e1 e2 =
    rw (if_notes typed s arms other is, e2, e1, same) (simp append_assoc)

-- a size that is counted up to the limit twice
going_saturated : (size : ℕ) → going_on (min size (2 ^ 64 - 1)) ≡ going_on size
going_saturated size =
    let e : min (min size (2 ^ 64 - 1)) (2 ^ 64 - 1) ≡ min size (2 ^ 64 - 1) = omega arith in
    ap (λ (k : ℕ). record { size = k; goes_on = true }) e

-- what is noted of a `for`
pub for_noted : (typed : Typed) (s : TStmt) (init : Option TStmt) (test : Option TExpr) (step : Option TStmt) (body : TStmt)
    (size : ℕ) (n0 n1 n2 n3 n4 : List Extent) → s ≡ stmt.For init test step body →
    size ≡ min (part_size_of typed step) (2 ^ 64 - 1) → n1 ≡ n0 ++ part_notes_of typed step → n2 ≡ n1 ++ notes_of typed body →
    n3 ≡ n2 ++ part_notes_of typed init → n4 ≡ n3 ++ going_on size ∷ [] → n4 ≡ n0 ++ inside_notes typed s
for_noted typed s init test step body size n0 n1 n2 n3 n4 is counted e1 e2 e3 e4 =
    let own : going_on size ≡ going_on (part_size_of typed step) = ap going_on counted ∙ going_saturated (part_size_of typed step) in
    rw (for_notes typed s init test step body is, e4, e3, e2, e1, own) (simp append_assoc)
