-- Comparing lists of kinds.
use Rattle.std.proofs.Common.{rules, ◌≡◌, Bool, true, List, refl, subst}
use Rattle.std.specs.Bool.{Decides}
use Rattle.std.specs.Cmp.Lexicographic.{pointwise}
use Rattle.std.proofs.lemmas.Slice.Eq.{slice_eq-Decides}
use denote.Enum.Bare.{same_true, sameb}
use Rattle.int_kinds.specs.contracts.kinds.Kind.{the_type}
use Rattle.int_kinds.specs.declared.kinds.Kind.{Kind}
use Rattle.int_kinds.specs.declared.kinds.Kind.TheVariants.{Byte, Word, Dword, Qword, Int, Long, Int64, Char}

-- a kind is the same as itself
same_self : (a : Kind) → sameb the_type a a ≡ true
same_self Byte = refl
same_self Word = refl
same_self Dword = refl
same_self Qword = refl
same_self Int = refl
same_self Long = refl
same_self Int64 = refl
same_self Char = refl

-- the test of kinds decides whether they are equal
kind_decides : (a b : Kind) → Decides (sameb the_type a b) (a ≡ b)
kind_decides a b = (
  λ e. same_true the_type (search rules) a b e,
  λ e. let P : Kind → Type 0 = λ k. sameb the_type a k ≡ true in subst P e (same_self a),
)

-- the test of lists of kinds decides whether they are equal
pub kinds_decide : (xs ys : List Kind) (r : Bool) → r ≡ pointwise (sameb the_type) xs ys → Decides r (xs ≡ ys)
kinds_decide xs ys r e = slice_eq-Decides kind_decides xs ys r e
