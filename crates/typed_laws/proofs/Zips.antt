-- Lists that go with each other, one more of each at a time.
use Rattle.std.proofs.Common.{◌≡◌, ℕ, zero, suc, ◌+◌, ◌<◌, List, [], ◌∷◌, ◌++◌, length, sym, subst, arith, get_or}
use Rattle.std.specs.Prelude.{take}
use Rattle.std.specs.List.{AllZip}

-- what goes with the first items, and then what goes with the next one, in a loop over them
pub zip_turn : {A B : Type 0} (R : A → B → Type 0) (all : List A) (i : ℕ) (x : A) (found new : List B) (y : B) → i < length all → x ≡ get_or all i x → new ≡ found ++ y ∷ [] →
    AllZip R (take i all) found → R x y → AllZip R (take (i + 1) all) new
zip_turn R all i x found new y less at is h r =
    let e : i + 1 ≡ suc i = omega arith in
    subst (λ n. AllZip R (take n all) new) (sym e) (subst (λ l. AllZip R (take (suc i) all) l) (sym is) (go all i found less at h))
  where
    go : (all : List _) (i : ℕ) (found : List _) → i < length all → x ≡ get_or all i x → AllZip R (take i all) found → AllZip R (take (suc i) all) (found ++ y ∷ [])
    go [] i found less at h = absurd (omega (arith, less))
    go (a ∷ all) zero [] less at h = (subst (λ z. R z y) at r, tt)
    go (a ∷ all) zero (b ∷ found) less at h = elim h [ ]
    go (a ∷ all) (suc i) [] less at h = elim h [ ]
    go (a ∷ all) (suc i) (b ∷ found) less at h = (h.0, go all i found (omega (arith, less)) at h.1)
