-- The piece at the front of a text.
use Rattle.std.proofs.Common.{◌≡◌, ◌≢◌, ◌<◌, ℕ, Bool, true, false, List, [], ◌∷◌, ◌++◌, length, inl, inr, refl, sym, ap, subst, ◌∙◌, append_assoc, arith, Option, Some, None, ◌⊎◌}
use Rattle.std.specs.Prelude.{◌==◌}
use Rattle.std.specs.Option.{option_map, option_and_then, option_or}
use Rattle.std.proofs.lemmas.Bool.Decides.{nat_tests}
use Rattle.std.proofs.lemmas.Bool.{eqb-true}
use Rattle.std.proofs.lemmas.List.{length-append}
use Rattle.std.proofs.lemmas.List.Elements.{All-nil}
use Rattle.text_parts.specs.Number.{IsDigit}
use Rattle.std.proofs.lemmas.Option.{cond_some, none-some, same_Some}
use Rattle.write_format.specs.Code.{IsFlag, IsWidth, SpellsCode, SpellsConversion, SpellsField}
use Rattle.write_format.specs.Reading.{behind_flags, behind_numeral, behind_percent, code_at, code_behind, conversion_at, field_of, flags_at, numeral_at, percent_at, piece_at, plain_conversion, Spells}
use Rattle.write_format.specs.declared.code.Code as declared
use Rattle.write_format.specs.declared.code.Conversion.{Conversion}
use Rattle.write_format.specs.declared.piece.Piece.{Piece}
use Rattle.write_format.specs.declared.piece.Piece.TheVariants.{Byte, Argument}
use Rattle.write_format.proofs.ConversionLemmas.{conversion_found, conversion_spelled, letters_no_flag, letters_no_digit, plain_spelled}
use Rattle.write_format.proofs.FieldLemmas.{field_found, field_spelled, field_text, parts_found}

-- what a map of an option was made of
mapped : {A B : Type 0} (f : A → B) (o : Option A) (y : B) → option_map f o ≡ Some y → (x : A) × (o ≡ Some x) × (f x ≡ y)
mapped f None y is = absurd (none-some y is)
mapped f (Some x) y is = (x, refl, same_Some (f x) y is)

-- and a step after it
stepped : {A B : Type 0} (f : A → Option B) (o : Option A) (y : B) → option_and_then f o ≡ Some y → (x : A) × (o ≡ Some x) × (f x ≡ Some y)
stepped f None y is = absurd (none-some y is)
stepped f (Some x) y is = (x, refl, is)

-- one of two options
either_of : {A : Type 0} (o p : Option A) (y : A) → option_or o p ≡ Some y → (o ≡ Some y) ⊎ (p ≡ Some y)
either_of None p y is = inr is
either_of (Some x) p y is = inl is

-- a code is found
code_found : (bytes : List ℕ) (code : declared.Code) (rest middle letters : List ℕ) → bytes ≡ middle ++ letters
    → SpellsField middle code.field → SpellsConversion letters code.conversion → code_at (bytes ++ rest) ≡ Some (code, rest)
code_found bytes code rest middle letters is field conversion =
    let flags = field.flags in
    let numeral = field.numeral in
    let behind = letters ++ rest in
    let text : bytes ++ rest ≡ flags ++ (numeral ++ behind) =
    ap (λ l. l ++ rest) (is ∙ ap (λ l. l ++ letters) field.spelled)
    ∙ append_assoc (flags ++ numeral) letters rest ∙ append_assoc flags numeral behind in
    let found = parts_found flags numeral behind _ field.are_flags field.is_width (letters_no_flag conversion rest) (letters_no_digit conversion rest) in
    let of : field_of (flags_at (flags ++ (numeral ++ behind))) (numeral_at (behind_flags (flags ++ (numeral ++ behind)))) ≡ Some code.field =
    ap (λ l. field_of l (numeral_at (behind_flags (flags ++ (numeral ++ behind))))) found.flags_are
    ∙ ap (field_of flags) found.numeral_is ∙ field_found flags numeral code.field field.left field.zeros field.is_width in
    ap code_at text
    ∙ ap (λ o. option_and_then (λ f. code_behind f (behind_numeral (behind_flags (flags ++ (numeral ++ behind))))) o) of
    ∙ ap (code_behind code.field) found.rest_is
    ∙ ap (λ o. option_map (λ found. (record { field = code.field; conversion = found.0 }, found.1)) o) (conversion_found conversion rest)

-- so is one that is a letter
pub letter_found : (letter : ℕ) (conversion : Conversion) (rest : List ℕ) → plain_conversion letter ≡ Some conversion
    → code_at (letter ∷ rest) ≡ Some (record { field = record { left = false; zeros = false; width = 0 }; conversion = conversion }, rest)
letter_found letter conversion rest is =
    let width : IsWidth [] 0 = record { decimal = All-nil IsDigit; no_zero = λ no. absurd (omega (arith, no)); is = refl; most = omega arith } in
    let field : SpellsField [] (record { left = false; zeros = false; width = 0 }) =
    record { flags = []; numeral = []; spelled = refl; are_flags = All-nil IsFlag; left = refl; zeros = refl; is_width = width } in
    code_found (letter ∷ []) (record { field = record { left = false; zeros = false; width = 0 }; conversion = conversion }) rest [] (letter ∷ [])
    refl field (plain_spelled letter conversion is)

-- and a code that is found
code_spelled : (bytes : List ℕ) (code : declared.Code) (rest : List ℕ) → code_at bytes ≡ Some (code, rest)
    → (front : List ℕ) × (bytes ≡ front ++ rest) × SpellsCode (37 ∷ front) code
code_spelled bytes code rest is =
    let behind = behind_numeral (behind_flags bytes) in
    let middle = flags_at bytes ++ numeral_at (behind_flags bytes) in
    let step = stepped (λ field. code_behind field behind) (field_of (flags_at bytes) (numeral_at (behind_flags bytes))) (code, rest) is in
    let field = step.0 in
    let at = mapped (λ (found : Conversion × List ℕ). (record { field = field; conversion = found.0 }, found.1)) (conversion_at behind) (code, rest) step.2 in
    let conversion = conversion_spelled behind (at.0).0 (at.0).1 at.1 in
    let same_field : field ≡ code.field = ap (λ (pair : declared.Code × List ℕ). (pair.0).field) at.2 in
    let same_conversion : (at.0).0 ≡ code.conversion = ap (λ (pair : declared.Code × List ℕ). (pair.0).conversion) at.2 in
    let same_rest : (at.0).1 ≡ rest = ap (λ (pair : declared.Code × List ℕ). pair.1) at.2 in (
      middle ++ conversion.letters,
      field_text bytes ∙ ap (λ l. middle ++ l) (conversion.spelled ∙ ap (λ l. conversion.letters ++ l) same_rest)
          ∙ sym (append_assoc middle conversion.letters rest),
      record {
        middle = middle;
        letters = conversion.letters;
        spelled = refl;
        is_field = subst (SpellsField middle) same_field (field_spelled bytes field step.1);
        is_conversion = subst (SpellsConversion conversion.letters) same_conversion conversion.is;
      },
    )

-- a piece that is spelled is found
pub piece_found : (bytes : List ℕ) (piece : Piece) (rest : List ℕ) → Spells bytes piece → piece_at (bytes ++ rest) ≡ Some (piece, rest)
piece_found bytes (Byte byte) rest (inl plain) =
    let no : (byte == 37) ≡ false = let other = plain.0 in grind (arith, nat_tests, other) in
    ap (λ l. piece_at (l ++ rest)) plain.1 ∙ rw no refl
piece_found bytes (Byte byte) rest (inr percent) =
    ap (λ l. piece_at (l ++ rest)) percent.1 ∙ ap (λ b. Some (Byte b, rest)) (sym percent.0)
piece_found bytes (Argument code) rest is =
    let front = is.middle ++ is.letters in
    let found : code_at (front ++ rest) ≡ Some (code, rest) = code_found front code rest is.middle is.letters refl is.is_field is.is_conversion in
    ap (λ l. piece_at (l ++ rest)) is.spelled
    ∙ ap (λ o. option_or (option_map (λ f. (Argument f.0, f.1)) o) (percent_at (front ++ rest))) found

-- a piece and what stands behind it
pub record IsFront (text : List ℕ) (piece : Piece) (rest : List ℕ) : Type 0 where
  pub bytes : List ℕ
  pub text_is : text ≡ bytes ++ rest
  pub spelled : Spells bytes piece
  pub some : 0 < length bytes

-- a code as a piece
abbrev as_piece : declared.Code × List ℕ → Piece × List ℕ
as_piece found = (Argument found.0, found.1)

-- a piece behind a `%`
percent_spelled : (bytes : List ℕ) (piece : Piece) (rest : List ℕ) → behind_percent bytes ≡ Some (piece, rest) → IsFront (37 ∷ bytes) piece rest
percent_spelled bytes piece rest is =
    elim (either_of (option_map as_piece (code_at bytes)) (percent_at bytes) (piece, rest) is) [
      | inl code ↦ by_code code
      | inr percent ↦ by_percent bytes percent
    ]
  where
    by_code : option_map as_piece (code_at bytes) ≡ Some (piece, rest) → IsFront (37 ∷ bytes) piece rest
    by_code found =
        let at = mapped as_piece (code_at bytes) (piece, rest) found in
        let spelled = code_spelled bytes (at.0).0 (at.0).1 at.1 in
        let same_piece : Argument (at.0).0 ≡ piece = ap (λ (pair : Piece × List ℕ). pair.0) at.2 in
        let same_rest : (at.0).1 ≡ rest = ap (λ (pair : Piece × List ℕ). pair.1) at.2 in
        record {
          bytes = 37 ∷ spelled.0;
          text_is = ap (λ l. 37 ∷ l) (spelled.1 ∙ ap (λ l. spelled.0 ++ l) same_rest);
          spelled = subst (Spells (37 ∷ spelled.0)) same_piece spelled.2;
          some = omega arith;
        }

    by_percent : (l : List ℕ) → percent_at l ≡ Some (piece, rest) → IsFront (37 ∷ l) piece rest
    by_percent [] found = absurd (none-some (piece, rest) found)
    by_percent (byte ∷ l) found =
        let yes = cond_some (byte == 37) (Byte 37, l) (piece, rest) found in
        let is_percent : byte ≡ 37 = eqb-true byte 37 yes.0 in
        let same_piece : Byte 37 ≡ piece = ap (λ (pair : Piece × List ℕ). pair.0) yes.1 in
        let same_rest : l ≡ rest = ap (λ (pair : Piece × List ℕ). pair.1) yes.1 in
        record {
          bytes = 37 ∷ 37 ∷ [];
          text_is = ap (λ b. 37 ∷ b ∷ l) is_percent ∙ ap (λ r. 37 ∷ 37 ∷ r) same_rest;
          spelled = subst (Spells (37 ∷ 37 ∷ [])) same_piece (inr (refl, refl));
          some = omega arith;
        }

-- a piece that is found is spelled
pub piece_spelled : (text : List ℕ) (piece : Piece) (rest : List ℕ) → piece_at text ≡ Some (piece, rest) → IsFront text piece rest
piece_spelled [] piece rest is = absurd (none-some (piece, rest) is)
piece_spelled (byte ∷ bytes) piece rest is = by_test (byte == 37) refl
  where
    by_test : (test : Bool) → (byte == 37) ≡ test → IsFront (byte ∷ bytes) piece rest
    by_test true same =
        let found : behind_percent bytes ≡ Some (piece, rest) = let e = is in rw same at e in
        subst (λ b. IsFront (b ∷ bytes) piece rest) (sym (eqb-true byte 37 same)) (percent_spelled bytes piece rest found)
    by_test false other =
        let found : Some (Byte byte, bytes) ≡ Some (piece, rest) = let e = is in rw other at e in
        let same = same_Some (Byte byte, bytes) (piece, rest) found in
        let differs : byte ≢ 37 = grind (arith, nat_tests, other) in
        record {
          bytes = byte ∷ [];
          text_is = ap (λ (pair : Piece × List ℕ). byte ∷ pair.1) same;
          spelled = subst (Spells (byte ∷ [])) (ap (λ (pair : Piece × List ℕ). pair.0) same) (inl (differs, refl));
          some = omega arith;
        }

-- what stands behind a piece is shorter
pub piece_shorter : (text : List ℕ) (piece : Piece) (rest : List ℕ) → piece_at text ≡ Some (piece, rest) → length rest < length text
piece_shorter text piece rest is =
    let front = piece_spelled text piece rest is in
    let whole = ap length front.text_is ∙ length-append front.bytes rest in
    let some = front.some in
    omega (arith, whole, some)
