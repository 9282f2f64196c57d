-- What is left behind one more item of a list.
use Rattle.std.specs.Prelude.{◌≡◌, ℕ, zero, suc, ◌+◌, ◌-◌, ◌^◌, ◌<◌, ◌≤◌, min, true, false, if◌then◌else◌, ◌==◌, List, [], ◌∷◌, length, sum_by, drop}
use Rattle.std.proofs.Common.{◌≢◌, ◌⊎◌, inl, inr, eqb, refl, ap, sym, ◌∙◌, arith, get_or, drop-cons, add-one}
use Rattle.std.proofs.lemmas.Bool.{cases_lt}
use Rattle.std.proofs.lemmas.Bool.Decides.{eqb_tells, nat_tests}
use Rattle.typed_tree.specs.declared.program.Typed.{Typed}
use Rattle.typed_tree.specs.declared.statement.TArm.{TArm}
use Rattle.typed_tree.specs.declared.statement.TGroup.{TGroup}
use Rattle.typed_tree.specs.Shape.{goes_on}
use Rattle.typed_tree.specs.Size.{jump_size, stmt_size, test_size}
use Rattle.code_size.specs.Rows.{arms_size_of, group_sizes_of, is_nil, kept_if}

-- the items from one on are it and those behind it
pub drop_next : {A : Type 0} (xs : List A) (i : ℕ) (x : A) → i < length xs → x ≡ get_or xs i x →
    drop i xs ≡ x ∷ drop (i + 1) xs
drop_next xs i x within is = rw add-one (drop-cons xs i x within ∙ ap (λ y. y ∷ drop (suc i) xs) (sym is))

-- what stands behind the arms is no larger than all
pub arms_other : (typed : Typed) (arms : List TArm) (other : ℕ) → other ≤ arms_size_of typed arms other
arms_other typed [] other = omega arith
arms_other typed (arm ∷ rest) other = omega (arith, arms_other typed rest other)

-- the arms from one on
pub arms_here : (typed : Typed) (arms : List TArm) (other i k : ℕ) (arm : TArm) → i < length arms →
    arm ≡ get_or arms i arm → k ≡ i + 1 → arms_size_of typed (drop i arms) other ≡
    test_size typed false false arm.test + (stmt_size typed arm.body +
    ((if goes_on arm.body then jump_size (arms_size_of typed (drop k arms) other) else 0) +
    arms_size_of typed (drop k arms) other))
arms_here typed arms other i k arm within is next =
    rw next (ap (λ l. arms_size_of typed l other) (drop_next arms i arm within is))

-- the items from one on are none exactly where it is behind the last
pub is_nil-drop : {A : Type 0} (xs : List A) (k : ℕ) → k ≤ length xs → is_nil (drop k xs) ≡ (k == length xs)
is_nil-drop [] zero within = refl
is_nil-drop [] (suc k) within = absurd (omega (arith, within))
is_nil-drop (x ∷ xs) zero within = sym (by_no (eqb_tells 0 (suc (length xs))))
  where
    by_no : ((eqb 0 (suc (length xs)) ≡ true) × (0 ≡ suc (length xs))) ⊎
        ((eqb 0 (suc (length xs)) ≡ false) × (0 ≢ suc (length xs))) → eqb 0 (suc (length xs)) ≡ false
    by_no (inl h) = absurd (omega (arith, h.1))
    by_no (inr h) = h.0
is_nil-drop (x ∷ xs) (suc k) within =
    is_nil-drop xs k (omega (arith, within)) ∙ same_tests (eqb_tells k (length xs)) (eqb_tells (suc k) (suc (length xs)))
  where
    same_tests : ((eqb k (length xs) ≡ true) × (k ≡ length xs)) ⊎ ((eqb k (length xs) ≡ false) × (k ≢ length xs)) →
        ((eqb (suc k) (suc (length xs)) ≡ true) × (suc k ≡ suc (length xs))) ⊎
        ((eqb (suc k) (suc (length xs)) ≡ false) × (suc k ≢ suc (length xs))) →
        eqb k (length xs) ≡ eqb (suc k) (suc (length xs))
    same_tests (inl g) (inl h) = g.0 ∙ sym h.0
    same_tests (inl g) (inr h) = absurd (omega (arith, g.1, h.1))
    same_tests (inr g) (inl h) = absurd (omega (arith, g.1, h.1))
    same_tests (inr g) (inr h) = g.0 ∙ sym h.0

-- the sizes of the groups from one on
pub sizes_here : (typed : Typed) (groups : List TGroup) (i : ℕ) (group : TGroup) → i < length groups →
    group ≡ get_or groups i group → group_sizes_of typed (drop i groups) ≡
    sum_by (stmt_size typed) (kept_if (i + 1 == length groups) group.body) ∷ group_sizes_of typed (drop (i + 1) groups)
sizes_here typed groups i group within is =
    ap (group_sizes_of typed) (drop_next groups i group within is) ∙
    ap (λ b. sum_by (stmt_size typed) (kept_if b group.body) ∷ group_sizes_of typed (drop (i + 1) groups))
    (is_nil-drop groups (i + 1) (omega (arith, within)))

-- a jump over a size that is counted up to a limit
pub jump_saturated : (size : ℕ) → jump_size (min size (2 ^ 64 - 1)) ≡ jump_size size
jump_saturated size = grind (arith, nat_tests)

-- the arms of an `if` with what stands behind them, counted up to a limit
pub arms_saturated : (typed : Typed) (arms : List TArm) (other : ℕ) →
    min (arms_size_of typed arms (min other (2 ^ 64 - 1))) (2 ^ 64 - 1) ≡ min (arms_size_of typed arms other) (2 ^ 64 - 1)
arms_saturated typed arms other = by_size (cases_lt other (2 ^ 64))
  where
    by_size : (other < 2 ^ 64) ⊎ (2 ^ 64 ≤ other) →
        min (arms_size_of typed arms (min other (2 ^ 64 - 1))) (2 ^ 64 - 1) ≡ min (arms_size_of typed arms other) (2 ^ 64 - 1)
    by_size (inl below) = let same : min other (2 ^ 64 - 1) ≡ other = omega (arith, below) in ap (λ k. min (arms_size_of typed arms k) (2 ^ 64 - 1)) same
    by_size (inr above) = omega (arith, above, arms_other typed arms other, arms_other typed arms (min other (2 ^ 64 - 1)))

-- a jump over two sizes that are counted up to a limit
two_saturated : (a b : ℕ) → jump_size (min a (2 ^ 64 - 1) + min b (2 ^ 64 - 1)) ≡ jump_size (a + b)
two_saturated a b = grind (arith, nat_tests)

sum_saturated : (init test step body jump : ℕ) →
    min (min init (2 ^ 64 - 1) + (jump + (min body (2 ^ 64 - 1) + min step (2 ^ 64 - 1) + min test (2 ^ 64 - 1)))) (2 ^ 64 - 1)
    ≡ min (init + (jump + (body + step + test))) (2 ^ 64 - 1)
sum_saturated init test step body jump = omega arith

-- the parts of a `for`, counted up to a limit
pub for_saturated : (init test step body : ℕ) →
    min (min init (2 ^ 64 - 1) + (jump_size (min body (2 ^ 64 - 1) + min step (2 ^ 64 - 1)) +
    (min body (2 ^ 64 - 1) + min step (2 ^ 64 - 1) + min test (2 ^ 64 - 1)))) (2 ^ 64 - 1)
    ≡ min (init + (jump_size (body + step) + (body + step + test))) (2 ^ 64 - 1)
for_saturated init test step body =
    ap (λ j. min (min init (2 ^ 64 - 1) + (j + (min body (2 ^ 64 - 1) + min step (2 ^ 64 - 1) + min test (2 ^ 64 - 1)))) (2 ^ 64 - 1)) (two_saturated body step)
    ∙ sum_saturated init test step body (jump_size (body + step))
