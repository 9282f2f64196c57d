-- A weight that is told against the limit of a program.
use Rattle.std.proofs.Common.{◌≡◌, ◌≤◌, ◌<◌, ℕ, inl, inr, sym, subst, arith}
use Rattle.std.specs.Prelude.{◌⊎◌, ◌↔◌}
use Rattle.std.proofs.lemmas.Bool.Decides.{nat_tests}
use Rattle.capl_tree.specs.Weight.{saturated}

-- a weight that is told to be within the limit is the weight
told_within : (told number : ℕ) → told ≡ saturated number → told ≤ 1000000 → told ≡ number
told_within told number is small = grind (arith, nat_tests)

-- what a weight bounds, one within the limit that is told does too
pub bounded_told : (size told number : ℕ) → told ≡ saturated number → size ≤ number → told ≤ 1000000 → size ≤ told
bounded_told size told number is bound small = subst (λ n. size ≤ n) (sym (told_within told number is small)) bound

-- a weight is above the limit where the one that is told is
above_told : (told number : ℕ) → told ≡ saturated number → 1000000 < told → 1000000 < number
above_told told number is above = grind (arith, nat_tests)

-- and only there
told_above : (told number : ℕ) → told ≡ saturated number → 1000000 < number → 1000000 < told
told_above told number is above = grind (arith, nat_tests)

-- what is too large by the weight that is told is so by the weight
large_told : (Large : Type 0) (told number : ℕ) → told ≡ saturated number → Large ⊎ (1000000 < told) → Large ⊎ (1000000 < number)
large_told Large told number is (inl large) = inl large
large_told Large told number is (inr above) = inr (above_told told number is above)

-- and only that
told_large : (Large : Type 0) (told number : ℕ) → told ≡ saturated number → Large ⊎ (1000000 < number) → Large ⊎ (1000000 < told)
told_large Large told number is (inl large) = inl large
told_large Large told number is (inr above) = inr (told_above told number is above)

-- so the one is refused where the other is
pub refused_told : (Refused Large : Type 0) (told number : ℕ) → told ≡ saturated number
    → (Refused ↔ (Large ⊎ (1000000 < told))) → Refused ↔ (Large ⊎ (1000000 < number))
refused_told Refused Large told number is ways =
    ((λ refused. large_told Large told number is (ways.0 refused)), (λ large. ways.1 (told_large Large told number is large)))
