-- The letters of a conversion at the front of a text.
use Rattle.std.proofs.Common.{◌≡◌, ℕ, Bool, true, false, List, [], ◌∷◌, ◌++◌, length, take, drop, ◌⊎◌, inl, inr, refl, sym, ap, subst, ◌∙◌, append_assoc, Option, Some, None}
use Rattle.std.specs.Prelude.{◌==◌, if◌then◌else◌, nat_eq, codes}
use Rattle.std.specs.List.{prefix_len, starts_with}
use Rattle.std.proofs.lemmas.Bool.{eqb-true}
use Rattle.std.specs.Cmp.Lexicographic.{same_text}
use Rattle.std.proofs.lemmas.List.{take-append-drop}
use Rattle.std.proofs.lemmas.Option.{none-some, same_Some}
use Rattle.int_kinds.specs.declared.kinds.Kind.TheVariants.{Dword, Long}
use Rattle.text_parts.specs.Number.{is_digit}
use Rattle.write_format.specs.Code as code
use Rattle.write_format.specs.Code.{SpellsConversion}
use Rattle.write_format.specs.Reading.{conversion_at, conversion_behind, conversion_of, is_flag, long_conversion, plain_conversion, size_at, wide_conversion}
use Rattle.write_format.specs.declared.code.Conversion.{Conversion}
use Rattle.write_format.specs.declared.code.Conversion.TheVariants.{Number}
use Rattle.write_format.specs.declared.code.Digits.TheVariants.{Decimal, LowerHexadecimal, UpperHexadecimal, Octal}
use Rattle.write_format.specs.declared.code.Size.{Size}
use Rattle.write_format.specs.declared.code.Size.TheVariants.{Plain, L, I64}

-- letters are found
pub conversion_found : {letters : List ℕ} {conversion : Conversion} → SpellsConversion letters conversion → (rest : List ℕ)
    → conversion_at (letters ++ rest) ≡ Some (conversion, rest)
conversion_found code.letter_d rest = refl
conversion_found code.letters_ld rest = refl
conversion_found code.letter_u rest = refl
conversion_found code.letters_lu rest = refl
conversion_found code.letter_x rest = refl
conversion_found code.letters_lx rest = refl
conversion_found code.upper_x rest = refl
conversion_found code.long_upper_x rest = refl
conversion_found code.letter_o rest = refl
conversion_found code.letters_lo rest = refl
conversion_found code.wide_d rest = refl
conversion_found code.wide_u rest = refl
conversion_found code.wide_x rest = refl
conversion_found code.letter_c rest = refl
conversion_found code.letter_s rest = refl

-- no flag begins them
pub letters_no_flag : {letters : List ℕ} {conversion : Conversion} → SpellsConversion letters conversion → (rest : List ℕ)
    → prefix_len is_flag (letters ++ rest) ≡ 0
letters_no_flag code.letter_d rest = refl
letters_no_flag code.letters_ld rest = refl
letters_no_flag code.letter_u rest = refl
letters_no_flag code.letters_lu rest = refl
letters_no_flag code.letter_x rest = refl
letters_no_flag code.letters_lx rest = refl
letters_no_flag code.upper_x rest = refl
letters_no_flag code.long_upper_x rest = refl
letters_no_flag code.letter_o rest = refl
letters_no_flag code.letters_lo rest = refl
letters_no_flag code.wide_d rest = refl
letters_no_flag code.wide_u rest = refl
letters_no_flag code.wide_x rest = refl
letters_no_flag code.letter_c rest = refl
letters_no_flag code.letter_s rest = refl

-- and no digit does
pub letters_no_digit : {letters : List ℕ} {conversion : Conversion} → SpellsConversion letters conversion → (rest : List ℕ)
    → prefix_len is_digit (letters ++ rest) ≡ 0
letters_no_digit code.letter_d rest = refl
letters_no_digit code.letters_ld rest = refl
letters_no_digit code.letter_u rest = refl
letters_no_digit code.letters_lu rest = refl
letters_no_digit code.letter_x rest = refl
letters_no_digit code.letters_lx rest = refl
letters_no_digit code.upper_x rest = refl
letters_no_digit code.long_upper_x rest = refl
letters_no_digit code.letter_o rest = refl
letters_no_digit code.letters_lo rest = refl
letters_no_digit code.wide_d rest = refl
letters_no_digit code.wide_u rest = refl
letters_no_digit code.wide_x rest = refl
letters_no_digit code.letter_c rest = refl
letters_no_digit code.letter_s rest = refl

-- what a choice gives
chosen : {A : Type 0} (test : Bool) (x : A) (more : Option A) (y : A) → (if test then Some x else more) ≡ Some y
    → ((test ≡ true) × (x ≡ y)) ⊎ (more ≡ Some y)
chosen true x more y is = inl (refl, same_Some x y is)
chosen false x more y is = inr is

-- a letter that is the tested one
row : (front : List ℕ) (letter tested : ℕ) (given conversion : Conversion) → SpellsConversion (front ++ tested ∷ []) given
    → (letter == tested) ≡ true → given ≡ conversion → SpellsConversion (front ++ letter ∷ []) conversion
row front letter tested given conversion spells is same =
    subst (λ n. SpellsConversion (front ++ n ∷ []) conversion) (sym (eqb-true letter tested is))
    (subst (SpellsConversion (front ++ tested ∷ [])) same spells)

-- a letter behind `I64`
wide_spelled : (letter : ℕ) (conversion : Conversion) → wide_conversion letter ≡ Some conversion
    → SpellsConversion (codes "I64" ++ letter ∷ []) conversion
wide_spelled letter conversion is =
    elim (chosen (letter == 100) _ _ conversion is) [
      | inl d ↦ row (codes "I64") letter 100 _ conversion code.wide_d d.0 d.1
      | inr more ↦ elim (chosen (letter == 117) _ _ conversion more) [
        | inl u ↦ row (codes "I64") letter 117 _ conversion code.wide_u u.0 u.1
        | inr last ↦ elim (chosen (letter == 120) _ _ conversion last) [
          | inl x ↦ row (codes "I64") letter 120 _ conversion code.wide_x x.0 x.1
          | inr none ↦ absurd (none-some conversion none)
        ]
      ]
    ]

-- the letters behind `l`, or alone, where each of them has a row
pub record Rows (front : List ℕ) : Type 0 where
  pub d : SpellsConversion (front ++ codes "d") (Number Long Decimal)
  pub u : SpellsConversion (front ++ codes "u") (Number Dword Decimal)
  pub x : SpellsConversion (front ++ codes "x") (Number Dword LowerHexadecimal)
  pub upper_x : SpellsConversion (front ++ codes "X") (Number Dword UpperHexadecimal)
  pub o : SpellsConversion (front ++ codes "o") (Number Dword Octal)

-- a letter of one of them
long_spelled : (front : List ℕ) → Rows front → (letter : ℕ) (conversion : Conversion) → long_conversion letter ≡ Some conversion
    → SpellsConversion (front ++ letter ∷ []) conversion
long_spelled front rows letter conversion is =
    elim (chosen (letter == 100) _ _ conversion is) [
      | inl d ↦ row front letter 100 _ conversion rows.d d.0 d.1
      | inr a ↦ elim (chosen (letter == 117) _ _ conversion a) [
        | inl u ↦ row front letter 117 _ conversion rows.u u.0 u.1
        | inr b ↦ elim (chosen (letter == 120) _ _ conversion b) [
          | inl x ↦ row front letter 120 _ conversion rows.x x.0 x.1
          | inr c ↦ elim (chosen (letter == 88) _ _ conversion c) [
            | inl upper ↦ row front letter 88 _ conversion rows.upper_x upper.0 upper.1
            | inr e ↦ elim (chosen (letter == 111) _ _ conversion e) [
              | inl o ↦ row front letter 111 _ conversion rows.o o.0 o.1
              | inr none ↦ absurd (none-some conversion none)
            ]
          ]
        ]
      ]
    ]

-- behind `l`
rows_behind_l : Rows (codes "l")
rows_behind_l = record { d = code.letters_ld; u = code.letters_lu; x = code.letters_lx; upper_x = code.long_upper_x; o = code.letters_lo }

-- alone
rows_alone : Rows []
rows_alone = record { d = code.letter_d; u = code.letter_u; x = code.letter_x; upper_x = code.upper_x; o = code.letter_o }

-- a letter that stands alone
pub plain_spelled : (letter : ℕ) (conversion : Conversion) → plain_conversion letter ≡ Some conversion
    → SpellsConversion (letter ∷ []) conversion
plain_spelled letter conversion is =
    elim (chosen (letter == 99) _ _ conversion is) [
      | inl c ↦ row [] letter 99 _ conversion code.letter_c c.0 c.1
      | inr more ↦ elim (chosen (letter == 115) _ _ conversion more) [
        | inl s ↦ row [] letter 115 _ conversion code.letter_s s.0 s.1
        | inr long ↦ long_spelled [] rows_alone letter conversion long
      ]
    ]

-- the letters of a size
size_letters : Size → List ℕ
size_letters Plain = []
size_letters L = codes "l"
size_letters I64 = codes "I64"

-- a letter behind a size
sized_spelled : (size : Size) (letter : ℕ) (conversion : Conversion) → conversion_of size letter ≡ Some conversion
    → SpellsConversion (size_letters size ++ letter ∷ []) conversion
unfolding size_letters
sized_spelled Plain letter conversion is = plain_spelled letter conversion is
sized_spelled L letter conversion is = long_spelled (codes "l") rows_behind_l letter conversion is
sized_spelled I64 letter conversion is = wide_spelled letter conversion is

-- what a text begins with
pub begins_with : (needle bytes : List ℕ) → starts_with nat_eq bytes needle ≡ true → bytes ≡ needle ++ drop (length needle) bytes
begins_with needle bytes is =
    sym (take-append-drop (length needle) bytes)
    ∙ ap (λ l. l ++ drop (length needle) bytes) (sym (same_text needle (take (length needle) bytes) (sym is)))

-- a size and what stands behind it are the text
size_is : (bytes : List ℕ) → bytes ≡ size_letters (size_at bytes).0 ++ (size_at bytes).1
unfolding size_letters
size_is bytes = by_wide (starts_with nat_eq bytes (codes "I64")) refl
  where
    by_long : (test : Bool) → starts_with nat_eq bytes (codes "l") ≡ test → (answer : Size × List ℕ)
        → answer ≡ (if test then (L, drop 1 bytes) else (Plain, bytes)) → bytes ≡ size_letters answer.0 ++ answer.1
    by_long true is answer same = subst (λ (a : Size × List ℕ). bytes ≡ size_letters a.0 ++ a.1) (sym same) (begins_with (codes "l") bytes is)
    by_long false is answer same = subst (λ (a : Size × List ℕ). bytes ≡ size_letters a.0 ++ a.1) (sym same) refl

    by_wide : (test : Bool) → starts_with nat_eq bytes (codes "I64") ≡ test → bytes ≡ size_letters (size_at bytes).0 ++ (size_at bytes).1
    by_wide true is =
        let answer : size_at bytes ≡ (I64, drop 3 bytes) = rw is refl in
        subst (λ (a : Size × List ℕ). bytes ≡ size_letters a.0 ++ a.1) (sym answer) (begins_with (codes "I64") bytes is)
    by_wide false is =
        let answer : size_at bytes ≡ (if starts_with nat_eq bytes (codes "l") then (L, drop 1 bytes) else (Plain, bytes)) = rw is refl in
        by_long (starts_with nat_eq bytes (codes "l")) refl (size_at bytes) answer

-- a conversion and what stands behind it
pub record IsConversionAt (bytes : List ℕ) (conversion : Conversion) (rest : List ℕ) : Type 0 where
  pub letters : List ℕ
  pub spelled : bytes ≡ letters ++ rest
  pub is : SpellsConversion letters conversion

-- the letter behind a size
behind_spelled : (size : Size) (bytes : List ℕ) (conversion : Conversion) (rest : List ℕ)
    → conversion_behind size bytes ≡ Some (conversion, rest) → IsConversionAt (size_letters size ++ bytes) conversion rest
behind_spelled size [] conversion rest is = absurd (none-some (conversion, rest) is)
behind_spelled size (letter ∷ bytes) conversion rest is = by_found (conversion_of size letter) refl
  where
    by_found : (found : Option Conversion) → conversion_of size letter ≡ found → IsConversionAt (size_letters size ++ letter ∷ bytes) conversion rest
    by_found None none = absurd (none-some (conversion, rest) (let e = is in rw none at e))
    by_found (Some given) some =
        let same : (given, bytes) ≡ (conversion, rest) = same_Some (given, bytes) (conversion, rest) (let e = is in rw some at e) in
        let letters = size_letters size ++ letter ∷ [] in
        record {
          letters = letters;
          spelled = sym (append_assoc (size_letters size) (letter ∷ []) bytes) ∙ ap (λ (pair : Conversion × List ℕ). letters ++ pair.1) same;
          is = sized_spelled size letter conversion (some ∙ ap (λ (pair : Conversion × List ℕ). Some pair.0) same);
        }

-- letters that are found
pub conversion_spelled : (bytes : List ℕ) (conversion : Conversion) (rest : List ℕ) → conversion_at bytes ≡ Some (conversion, rest)
    → IsConversionAt bytes conversion rest
conversion_spelled bytes conversion rest is =
    subst (λ l. IsConversionAt l conversion rest) (sym (size_is bytes)) (behind_spelled (size_at bytes).0 (size_at bytes).1 conversion rest is)
