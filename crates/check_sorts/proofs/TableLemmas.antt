-- Look-ups in a table that grows.
use Rattle.std.proofs.Common.{◌≡◌, ◌∙◌, ◌==◌, ◌&&◌, ℕ, Bool, true, false, cond, Option, None, Some, refl, ap, sym, is_some, arith}
use Rattle.std.specs.Prelude.{ℤ, if◌then◌else◌}
use Rattle.std.specs.Option.{option_or}
use Rattle.std.specs.Ordering.{is_eq, nat_cmp, ordering_then}
use Rattle.std.proofs.lemmas.Bool.Decides.{nat_tests}
use Rattle.check_sorts.specs.Constant.{place_cmp}

-- what is not there is None
pub is_none : {X : Type 0} (o : Option X) → is_some o ≡ false → o ≡ None
is_none None absent = refl
is_none (Some x) absent = cc

-- the order finds a place where its file and its token are those
same_place : (file token f t : ℕ) → is_eq (ordering_then (nat_cmp file f) (nat_cmp token t)) ≡ (f == file && t == token)
same_place file token f t = grind (arith, nat_tests)

-- where both tests pass, the places are one
same_both : (file token f t : ℕ) → (f == file && t == token) ≡ true → (f ≡ file) × (t ≡ token)
same_both file token f t is = grind (arith, nat_tests, is)

-- nothing more
none_more : (o : Option ℤ) → o ≡ option_or o None
none_more None = refl
none_more (Some z) = refl

-- one more place, at which there was no value
pub noted_at : (values : ℕ → ℕ → Option ℤ) (file token f t : ℕ) (z : ℤ) → values file token ≡ None
    → cond (is_eq (place_cmp (file, token) (f, t))) (Some z) (values f t)
    ≡ option_or (values f t) (if f == file && t == token then Some z else None)
noted_at values file token f t z absent =
    ap (λ (b : Bool). cond b (Some z) (values f t)) (same_place file token f t) ∙ by (f == file && t == token) refl
  where
    by : (b : Bool) → (f == file && t == token) ≡ b
        → cond b (Some z) (values f t) ≡ option_or (values f t) (if b then Some z else None)
    by true is =
        let same = same_both file token f t is in
        let none : values f t ≡ None = ap (λ (n : ℕ). values n t) same.0 ∙ ap (values file) same.1 ∙ absent in
        sym (ap (λ (o : Option ℤ). option_or o (Some z)) none)
    by false is = none_more (values f t)
