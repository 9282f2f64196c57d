-- What stands behind the `#` of a frame.
use Rattle.std.proofs.Common.{◌≡◌, ◌≢◌, ℕ, ◌<◌, ◌⊎◌, inl, inr, true, false, List, [], ◌∷◌, ◌++◌, length, refl, sym, subst, ◌∙◌, arith}
use Rattle.std.specs.Prelude.{All, codes}
use Rattle.std.proofs.lemmas.List.Elements.{All-nil, All-cons, All-append}
use Rattle.text_parts.specs.Number.{IsHexDigit}
use Rattle.log_line.specs.Reading.{IsBetween, SpellsBytes, SpellsCode}
use Rattle.log_line.specs.Inside.FrameField.{SpellsNoData}
use Rattle.log_line.proofs.BytesLemmas.{other_in_front}

-- `R` is no digit
pub r_in_front : (code bytes : List ℕ) → SpellsBytes (82 ∷ code) bytes → ⊥
r_in_front code bytes spells = other_in_front 82 code bytes (λ is. grind (arith, is)) spells

-- no length code behind `R`
pub no_code : (text code : List ℕ) → text ≡ codes "R" ++ code → ((dlc : ℕ) → SpellsCode code dlc → ⊥) → SpellsNoData text
no_code text code remote none false dlc payload spells = r_in_front code spells.0 (subst (λ t. SpellsBytes t spells.0) remote spells.1)
no_code text code remote none true dlc payload spells =
    let both = sym remote ∙ spells.1 in
    let same : spells.0 ≡ code = cc in
    none dlc (subst (λ c. SpellsCode c dlc) same spells.2)

-- no `R` in front, and no bytes, or too many
pub no_data : (text : List ℕ) → ((code : List ℕ) → text ≢ codes "R" ++ code) → ((bytes : List ℕ) → SpellsBytes text bytes → 8 < length bytes) → SpellsNoData text
no_data text no_r many false dlc payload spells =
    let more = many spells.0 spells.1 in
    let few = spells.3 in
    let same = spells.2 in
    omega (arith, more, few, same)
no_data text no_r many true dlc payload spells = no_r spells.0 spells.1

-- a byte of a pair, or a dot
abbrev pub IsPairByte : ℕ → Type 0
IsPairByte byte = IsHexDigit byte ⊎ (byte ≡ 46)

-- what stands between pairs
between_in : (between bytes : List ℕ) → IsBetween between bytes → All IsPairByte between
between_in between [] none = subst (All IsPairByte) (sym none) (All-nil IsPairByte)
between_in between (byte ∷ bytes) (inl none) = subst (All IsPairByte) (sym none) (All-nil IsPairByte)
between_in between (byte ∷ bytes) (inr dot) = subst (All IsPairByte) (sym dot) (All-cons IsPairByte 46 [] (inr refl) (All-nil IsPairByte))

-- the bytes of pairs
pub pairs_in : (bytes text : List ℕ) → SpellsBytes text bytes → All IsPairByte text
pairs_in [] text spells = subst (All IsPairByte) (sym spells) (All-nil IsPairByte)
pairs_in (byte ∷ bytes) text spells =
    let pair = spells.2 in
    subst (All IsPairByte) (sym pair.spelled)
    (All-cons IsPairByte pair.high (pair.low ∷ spells.0 ++ spells.1) (inl pair.high_is)
    (All-cons IsPairByte pair.low (spells.0 ++ spells.1) (inl pair.low_is)
    (All-append IsPairByte spells.0 spells.1 (between_in spells.0 bytes spells.3) (pairs_in bytes spells.1 spells.4))))
