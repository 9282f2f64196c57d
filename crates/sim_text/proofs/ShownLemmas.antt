-- Texts that are shown as they are, and digits behind zeros.
use Rattle.std.proofs.Common.{◌≡◌, ℕ, zero, suc, ◌+◌, ◌-◌, ◌≤◌, false, List, [], ◌∷◌, ◌++◌, length, take, replicate, refl, ap, ◌∙◌, arith}
use Rattle.std.specs.Prelude.{All, codes, ◌==◌, ◌≢◌}
use Rattle.std.proofs.lemmas.Bool.Decides.{nat_tests}
use Rattle.std.proofs.lemmas.List.{take-replicate}
use Rattle.std.proofs.lemmas.List.Elements.{All-head, All-tail}
use Rattle.text_parts.specs.Number.{zero_filled}
use Rattle.sim_text.specs.Lines.{shown_text}

-- a byte that is shown as it is
abbrev pub IsPlain : ℕ → Type 0
IsPlain byte = (byte ≢ 10) × (byte ≢ 13)

-- such bytes are shown as they are
pub plain_is_shown : (text : List ℕ) → All IsPlain text → shown_text text ≡ text
plain_is_shown [] all = refl
plain_is_shown (byte ∷ text) all =
    let plain = All-head IsPlain byte text all in
    let no_feed : (byte == 10) ≡ false = grind (arith, nat_tests, plain) in
    let no_return : (byte == 13) ≡ false = grind (arith, nat_tests, plain) in
    rw (no_feed, no_return) (ap (λ l. byte ∷ l) (plain_is_shown text (All-tail IsPlain byte text all)))

-- a numeral over the last of six zeros
pub over_zeros : (place : ℕ) (numeral : List ℕ) → place + length numeral ≡ 7 → length numeral ≤ 6
    → take place (codes ".000000") ++ numeral ≡ codes "." ++ zero_filled 6 numeral
over_zeros zero numeral whole low = absurd (omega (arith, whole, low))
over_zeros (suc place) numeral whole low =
    let within : place ≤ 6 = omega (arith, whole) in
    let count : place ≡ 6 - length numeral = omega (arith, whole) in
    let zeros : take place (replicate 6 48) ≡ replicate place 48 = take-replicate place 6 48 within in
    ap (λ l. 46 ∷ (l ++ numeral)) (zeros ∙ ap (λ n. replicate n 48) count)
