-- The folder of a name, from the place of its last `/`.
use Rattle.std.proofs.Common.{◌≡◌, ◌+◌, ◌-◌, ◌<◌, ◌≤◌, ◌==◌, ℕ, Bool, true, false, not, List, length, take, get_or, refl, ap, arith}
use Rattle.std.proofs.lemmas.List.Sums.{suffix_len_is}
use Rattle.std.specs.List.{suffix_len}
use Rattle.sim_outside.specs.Files.{folder_of}

fails : (b : Bool) → ¬ (b ≡ true) → not b ≡ true
fails true h = absurd (h refl)
fails false h = refl

-- the first bytes of a name are its folder where no `/` stands behind them and the last of them, if any, is one
pub is_folder : (name : List ℕ) (n : ℕ) → n ≤ length name → ((k : ℕ) → n ≤ k → k < length name → ¬ ((get_or name k 0 == 47) ≡ true)) →
    ((k : ℕ) → k + 1 ≡ n → (get_or name k 0 == 47) ≡ true) → take n name ≡ folder_of name
is_folder name n h none last =
    let e = suffix_len_is (λ byte. not (byte == 47)) name n 0 h (λ k low high. fails (get_or name k 0 == 47) (none k low high)) (λ some. ap not (last (n - 1) (omega (arith, some)))) in
    ap (λ (count : ℕ). take count name) (let same : n ≡ length name - suffix_len (λ byte. not (byte == 47)) name = omega (arith, e, h) in same)
