-- Flags and width at the front of a text.
use Rattle.std.proofs.Common.{◌≡◌, ◌≢◌, ◌<◌, ◌≤◌, ℕ, Bool, true, false, List, [], ◌∷◌, ◌++◌, length, take, drop, get_or, inr, refl, sym, ap, ◌∙◌, append_assoc, arith, Some, All}
use Rattle.std.specs.Prelude.{◌==◌, nat_le}
use Rattle.std.specs.List.{prefix_len, list_any}
use Rattle.std.proofs.lemmas.Bool.Decides.{nat_tests}
use Rattle.std.proofs.lemmas.List.{take-append-drop, length-take, length-drop, get_or-take}
use Rattle.std.proofs.lemmas.List.Elements.{All-head, All-tail}
use Rattle.std.proofs.lemmas.List.Sums.{prefix_len-le-length, prefix_len_passes, prefix_len_stops}
use Rattle.std.proofs.lemmas.Option.{cond_some}
use Rattle.std.proofs.Math.Seq.{take-append_seam, drop-append_seam, drop-cons}
use Rattle.text_parts.specs.Number.{IsDigit, is_digit, number_in}
use Rattle.write_format.specs.Code.{IsFlag, IsWidth, SpellsField}
use Rattle.write_format.specs.Reading.{is_flag, field_of, flags_at, behind_flags, numeral_at, behind_numeral}
use Rattle.write_format.specs.declared.code.Field.{Field}

-- bytes that pass a test, before a text whose first byte does not, are what passes it at the front
run_length : (test : ℕ → Bool) (run rest : List ℕ) → All (λ byte. test byte ≡ true) run → prefix_len test rest ≡ 0
    → prefix_len test (run ++ rest) ≡ length run
run_length test [] rest passes stops = stops
run_length test (byte ∷ run) rest passes stops =
    let first : test byte ≡ true = All-head (λ b. test b ≡ true) byte run passes in
    let more : prefix_len test (run ++ rest) ≡ length run = run_length test run rest (All-tail (λ b. test b ≡ true) byte run passes) stops in
    rw (first, more) (omega arith)

-- what passes a test at the front of a text
pub record IsRun (test : ℕ → Bool) (run rest text : List ℕ) : Type 0 where
  pub front : take (prefix_len test text) text ≡ run
  pub behind : drop (prefix_len test text) text ≡ rest

-- such bytes are found
run_found : (test : ℕ → Bool) (run rest : List ℕ) → All (λ byte. test byte ≡ true) run → prefix_len test rest ≡ 0
    → IsRun test run rest (run ++ rest)
run_found test run rest passes stops =
    let count = run_length test run rest passes stops in
    record {
      front = ap (λ n. take n (run ++ rest)) count ∙ take-append_seam run rest;
      behind = ap (λ n. drop n (run ++ rest)) count ∙ drop-append_seam run rest;
    }

-- what is found passes
pub passes_found : (test : ℕ → Bool) (text : List ℕ) → All (λ byte. test byte ≡ true) (take (prefix_len test text) text)
passes_found test text k d within =
    let few : length (take (prefix_len test text) text) ≤ prefix_len test text = simp length-take (omega arith) in
    let low : k < prefix_len test text = omega (arith, within, few) in
    rw (get_or-take (prefix_len test text) text k d low) (prefix_len_passes test text k d low)

-- and what stands behind it does not begin with a byte that passes
stops_found : (test : ℕ → Bool) (text : List ℕ) (byte : ℕ) (bytes : List ℕ) → drop (prefix_len test text) text ≡ byte ∷ bytes → test byte ≡ false
stops_found test text byte bytes is =
    let count = prefix_len test text in
    let within : count < length text = omega (arith, simp length-drop at (ap length is), prefix_len-le-length test text) in
    let first : byte ≡ get_or text count 0 = ap (λ l. get_or l 0 0) (sym is ∙ drop-cons text count 0 within) in
    ap test first ∙ prefix_len_stops test text 0 within

-- a flag passes the test
flag_passes : (byte : ℕ) → IsFlag byte → is_flag byte ≡ true
flag_passes byte is = grind (arith, nat_tests, is)

-- and what passes it is a flag
passing_flag : (byte : ℕ) → is_flag byte ≡ true → IsFlag byte
passing_flag byte is = grind (arith, nat_tests, is)

-- a digit passes the test
digit_passes : (byte : ℕ) → IsDigit byte → is_digit byte ≡ true
digit_passes byte is = grind (arith, nat_tests, is)

-- and what passes it is a digit
passing_digit : (byte : ℕ) → is_digit byte ≡ true → IsDigit byte
passing_digit byte is = (grind (arith, nat_tests, is), grind (arith, nat_tests, is))

-- a digit other than 0 is no flag
digit_no_flag : (byte : ℕ) → IsDigit byte → (byte ≡ 48 → ⊥) → is_flag byte ≡ false
digit_no_flag byte is other = grind (arith, nat_tests, is, other)

-- a width begins with no flag
width_no_flag : (numeral rest : List ℕ) (width : ℕ) → IsWidth numeral width → prefix_len is_flag rest ≡ 0 → prefix_len is_flag (numeral ++ rest) ≡ 0
width_no_flag [] rest width is stops = stops
width_no_flag (byte ∷ numeral) rest width is stops =
    let no : is_flag byte ≡ false = digit_no_flag byte (All-head IsDigit byte numeral is.decimal) is.no_zero in
    rw no refl

-- flags, a width, and what stands behind them
pub record AreFound (flags numeral rest bytes : List ℕ) : Type 0 where
  pub flags_are : flags_at bytes ≡ flags
  pub numeral_is : numeral_at (behind_flags bytes) ≡ numeral
  pub rest_is : behind_numeral (behind_flags bytes) ≡ rest

-- they are found before a text that begins with neither flag nor digit
pub parts_found : (flags numeral rest : List ℕ) (width : ℕ) → All IsFlag flags → IsWidth numeral width
    → prefix_len is_flag rest ≡ 0 → prefix_len is_digit rest ≡ 0 → AreFound flags numeral rest (flags ++ (numeral ++ rest))
parts_found flags numeral rest width are is no_flag no_digit =
    let first = run_found is_flag flags (numeral ++ rest) (λ k d within. flag_passes (get_or flags k d) (are k d within)) (width_no_flag numeral rest width is no_flag) in
    let second = run_found is_digit numeral rest (λ k d within. digit_passes (get_or numeral k d) (is.decimal k d within)) no_digit in
    record {
      flags_are = first.front;
      numeral_is = ap numeral_at first.behind ∙ second.front;
      rest_is = ap behind_numeral first.behind ∙ second.behind;
    }

-- the field of a width is found
pub field_found : (flags numeral : List ℕ) (field : Field) → field.left ≡ list_any (λ byte. byte == 45) flags
    → field.zeros ≡ list_any (λ byte. byte == 48) flags → IsWidth numeral field.width → field_of flags numeral ≡ Some field
field_found flags numeral field left zeros is =
    let few : nat_le (number_in 10 numeral) 32 ≡ true = let most = is.most in let same = is.is in grind (arith, nat_tests) in
    let same : record { left = list_any (λ byte. byte == 45) flags; zeros = list_any (λ byte. byte == 48) flags; width = number_in 10 numeral } ≡ field =
    rw (sym left, sym zeros, sym is.is) refl in
    rw few (ap Some same)

-- the first byte behind flags is no 0
no_zero_first : (bytes numeral rest : List ℕ) → behind_flags bytes ≡ numeral ++ rest → get_or numeral 0 0 ≢ 48
no_zero_first bytes [] rest is zero = absurd (omega (arith, zero))
no_zero_first bytes (byte ∷ numeral) rest is zero =
    let no : is_flag byte ≡ false = stops_found is_flag bytes byte (numeral ++ rest) is in
    let yes : is_flag byte ≡ true = flag_passes byte (inr zero) in
    absurd (cc)

-- a field that is found
pub field_spelled : (bytes : List ℕ) (field : Field) → field_of (flags_at bytes) (numeral_at (behind_flags bytes)) ≡ Some field
    → SpellsField (flags_at bytes ++ numeral_at (behind_flags bytes)) field
field_spelled bytes field is =
    let behind = behind_flags bytes in
    let found = cond_some _ _ field is in
    let same = found.1 in
    record {
      flags = flags_at bytes;
      numeral = numeral_at behind;
      spelled = refl;
      are_flags = λ k d within. passing_flag (get_or (flags_at bytes) k d) (passes_found is_flag bytes k d within);
      left = sym (ap (λ (f : Field). f.left) same);
      zeros = sym (ap (λ (f : Field). f.zeros) same);
      is_width = record {
        decimal = λ k d within. passing_digit (get_or (numeral_at behind) k d) (passes_found is_digit behind k d within);
        no_zero = no_zero_first bytes (numeral_at behind) (behind_numeral behind) (sym (take-append-drop (prefix_len is_digit behind) behind));
        is = sym (ap (λ (f : Field). f.width) same);
        most = let few = found.0 in let width = ap (λ (f : Field). f.width) same in grind (arith, nat_tests, few, width);
      };
    }

-- flags, numeral and what stands behind them are the text
pub field_text : (bytes : List ℕ) → bytes ≡ (flags_at bytes ++ numeral_at (behind_flags bytes)) ++ behind_numeral (behind_flags bytes)
field_text bytes =
    let behind = behind_flags bytes in
    sym (take-append-drop (prefix_len is_flag bytes) bytes)
    ∙ ap (λ l. flags_at bytes ++ l) (sym (take-append-drop (prefix_len is_digit behind) behind))
    ∙ sym (append_assoc (flags_at bytes) (numeral_at behind) (behind_numeral behind))
