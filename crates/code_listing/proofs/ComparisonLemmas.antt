-- Comparisons of whole numbers, and their opposites.
use Rattle.std.proofs.Common.{◌≡◌, ℕ, suc, Bool, true, false, refl, sym, ap, ◌∙◌, arith, inl, inr}
use Rattle.std.proofs.lemmas.Bool.Decides.{leb_tells}
use Rattle.std.specs.Prelude.{ℤ, pos, negsuc, not, int_le, int_lt, nat_le, nat_lt, Some}
use Rattle.std.specs.Ordering.{int_eq}
use Rattle.int_kinds.specs.declared.kinds.Kind.{Kind}
use Rattle.int_kinds.specs.declared.operators.BinOp.{BinOp}
use Rattle.int_kinds.specs.declared.operators.BinOp.TheVariants.{OrElse, AndAlso, Or, Xor, And, Equal, NotEqual, Less, LessEqual, Greater, GreaterEqual, Shl, Shr, Add, Sub, Mul, Div, Rem}
use Rattle.int_kinds.specs.Arithmetic.{truth, value}
use Rattle.int_kinds.specs.Kind.{wrap}
use Rattle.typed_tree.specs.Shape.{is_comparison}
use Rattle.code_listing.specs.Expression.{opposite_op}

nat_opposite : (m n : ℕ) → nat_le n m ≡ not (nat_lt m n)
nat_opposite m n = elim (leb_tells n m) [
  | inl below ↦ elim (leb_tells (suc m) n) [
    | inl above ↦ absurd (omega (arith, below.1, above.1))
    | inr other ↦ below.0 ∙ ap not (sym other.0)
  ]
  | inr above ↦ elim (leb_tells (suc m) n) [
    | inl other ↦ above.0 ∙ ap not (sym other.0)
    | inr below ↦ absurd (omega (arith, below.1, above.1))
  ]
]

-- one is at most the other exactly where the other is not below it
pub int_opposite : (x y : ℤ) → int_le y x ≡ not (int_lt x y)
int_opposite (pos m) (pos n) = nat_opposite m n
int_opposite (pos m) (negsuc n) = refl
int_opposite (negsuc m) (pos n) = refl
int_opposite (negsuc m) (negsuc n) = nat_opposite n m

-- `!` twice
pub not_twice : (b : Bool) → not (not b) ≡ b
not_twice true = refl
not_twice false = refl

-- the value of a comparison is a truth, and that of its opposite is the other one
pub record IsDecided (op : BinOp) (k : Kind) (x y : ℤ) : Type 0 where
  pub holds : Bool
  pub value_is : value op k x y ≡ Some (truth holds)
  pub opposite_is : value (opposite_op op) k x y ≡ Some (truth (not holds))

-- each comparison is decided
pub comparison_decides : (op : BinOp) (k : Kind) (x y : ℤ) → is_comparison op ≡ true → IsDecided op k x y
comparison_decides Equal k x y e =
    record { holds = int_eq (wrap k x) (wrap k y); value_is = refl; opposite_is = refl }
comparison_decides NotEqual k x y e = record {
  holds = not (int_eq (wrap k x) (wrap k y));
  value_is = refl;
  opposite_is = ap (λ b. Some (truth b)) (sym (not_twice (int_eq (wrap k x) (wrap k y))));
}
comparison_decides Less k x y e = record {
  holds = int_lt (wrap k x) (wrap k y);
  value_is = refl;
  opposite_is = ap (λ b. Some (truth b)) (int_opposite (wrap k x) (wrap k y));
}
comparison_decides LessEqual k x y e = record {
  holds = int_le (wrap k x) (wrap k y);
  value_is = refl;
  opposite_is = ap (λ b. Some (truth b))
      (sym (not_twice (int_lt (wrap k y) (wrap k x))) ∙ ap not (sym (int_opposite (wrap k y) (wrap k x))));
}
comparison_decides Greater k x y e = record {
  holds = int_lt (wrap k y) (wrap k x);
  value_is = refl;
  opposite_is = ap (λ b. Some (truth b)) (int_opposite (wrap k y) (wrap k x));
}
comparison_decides GreaterEqual k x y e = record {
  holds = int_le (wrap k y) (wrap k x);
  value_is = refl;
  opposite_is = ap (λ b. Some (truth b))
      (sym (not_twice (int_lt (wrap k x) (wrap k y))) ∙ ap not (sym (int_opposite (wrap k x) (wrap k y))));
}
comparison_decides OrElse k x y e = absurd (let f : false ≡ true = e in cc)
comparison_decides AndAlso k x y e = absurd (let f : false ≡ true = e in cc)
comparison_decides Or k x y e = absurd (let f : false ≡ true = e in cc)
comparison_decides Xor k x y e = absurd (let f : false ≡ true = e in cc)
comparison_decides And k x y e = absurd (let f : false ≡ true = e in cc)
comparison_decides Shl k x y e = absurd (let f : false ≡ true = e in cc)
comparison_decides Shr k x y e = absurd (let f : false ≡ true = e in cc)
comparison_decides Add k x y e = absurd (let f : false ≡ true = e in cc)
comparison_decides Sub k x y e = absurd (let f : false ≡ true = e in cc)
comparison_decides Mul k x y e = absurd (let f : false ≡ true = e in cc)
comparison_decides Div k x y e = absurd (let f : false ≡ true = e in cc)
comparison_decides Rem k x y e = absurd (let f : false ≡ true = e in cc)
