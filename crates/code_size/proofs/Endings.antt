-- The last of statements.
use Rattle.std.specs.Prelude.{◌≡◌, ℕ, zero, suc, ◌-◌, Bool, true, false, ◌&&◌, if◌then◌else◌, List, [], ◌∷◌, length, take, slice_get, Some}
use Rattle.std.proofs.Common.{refl, ap, sym, ◌∙◌, arith}
use Rattle.typed_tree.specs.declared.statement.TStmt.{TStmt}
use Rattle.typed_tree.specs.Shape.{is_break}
use Rattle.code_size.specs.Rows.{kept}

-- what stands before others is kept
not_last : {A : Type 0} (b : Bool) (x y : A) → (if b && false then x else y) ≡ y
not_last true x y = refl
not_last false x y = refl

-- the last one is kept or not
at_last : {A : Type 0} (b c : Bool) (x y : A) → c ≡ b → (if c && true then x else y) ≡ (if b then x else y)
at_last true c x y e = rw e refl
at_last false c x y e = rw e refl

-- a `break` at the end is left out
pub kept_break : (all : List TStmt) (i : ℕ) (s : TStmt) → suc i ≡ length all →
    Some s ≡ slice_get all i → is_break s ≡ true → take i all ≡ kept all
kept_break [] i s long last is = absurd (omega (arith, long))
kept_break (x ∷ []) zero s long last is =
    let e : s ≡ x = cc in sym (at_last true (is_break x) [] (x ∷ []) (ap is_break (sym e) ∙ is))
kept_break (x ∷ []) (suc i) s long last is = absurd (omega (arith, long))
kept_break (x ∷ y ∷ rest) zero s long last is = absurd (omega (arith, long))
kept_break (x ∷ y ∷ rest) (suc i) s long last is =
    ap (λ l. x ∷ l) (kept_break (y ∷ rest) i s (omega (arith, long)) last is) ∙
    sym (not_last (is_break x) [] (x ∷ kept (y ∷ rest)))

-- another statement at the end is kept
pub kept_other : (all : List TStmt) (i : ℕ) (s : TStmt) → suc i ≡ length all →
    Some s ≡ slice_get all i → is_break s ≡ false → all ≡ kept all
kept_other [] i s long last is = absurd (omega (arith, long))
kept_other (x ∷ []) zero s long last is =
    let e : s ≡ x = cc in sym (at_last false (is_break x) [] (x ∷ []) (ap is_break (sym e) ∙ is))
kept_other (x ∷ []) (suc i) s long last is = absurd (omega (arith, long))
kept_other (x ∷ y ∷ rest) zero s long last is = absurd (omega (arith, long))
kept_other (x ∷ y ∷ rest) (suc i) s long last is =
    ap (λ l. x ∷ l) (kept_other (y ∷ rest) i s (omega (arith, long)) last is) ∙
    sym (not_last (is_break x) [] (x ∷ kept (y ∷ rest)))

-- an item is there only in a list that has some
pub last_place : (all : List TStmt) (s : TStmt) → Some s ≡ slice_get all (length all - 1) →
    suc (length all - 1) ≡ length all
last_place [] s last = cc
last_place (x ∷ rest) s last = omega arith
