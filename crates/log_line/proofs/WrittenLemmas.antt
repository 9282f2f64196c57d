-- What a written line reads as.
use Rattle.std.proofs.Common.{◌≡◌, ℕ, suc, ◌+◌, ◌-◌, ◌^◌, ◌<◌, ◌≤◌, inl, inr, Bool, true, false, List, [], ◌∷◌, ◌++◌, length, get_or, take, drop, replicate, refl, sym, ap, subst, ◌∙◌, arith, append_assoc, length-append, length-take, take-append-drop, length-drop}
use Rattle.std.specs.Prelude.{All, codes, decimal, slice_index, ◌==◌, if◌then◌else◌}
use Rattle.std.specs.List.{flat_map}
use Rattle.std.proofs.lemmas.Bool.Decides.{nat_tests}
use Rattle.std.proofs.lemmas.Fmt.{length-decimal-le, decimal_digit}
use Rattle.std.proofs.lemmas.List.{length-replicate, get_or-drop, get_or-take, get_or-append_right}
use Rattle.std.proofs.lemmas.List.Elements.{All-nil, All-cons, All-head, All-tail, All-append, All-weaker, All-from_get_or}
use Rattle.text_parts.specs.Number.{IsDigit, IsHexDigit, number_in, zero_filled}
use Rattle.text_parts.proofs.NumeralLemmas.{numeral_is}
use Rattle.text_parts.proofs.HexadecimalLemmas.{IsHexadecimal, hexadecimal_is_numeral}
use Rattle.can_frame.specs.Frame.{FrameFields, IsFrame, IsIdent, ident_number, data_len}
use Rattle.can_frame.specs.declared.Ident.{Ident}
use Rattle.can_frame.specs.declared.Ident.TheVariants.{Std, Ext}
use Rattle.log_line.specs.Reading.{is_blank, without_return, log_fields, IsStamp, digit_count, SpellsIdent, IsPair, IsBetween, SpellsBytes, SpellsCode, SpellsData, SpellsFrame, IsInterface, IsPrintable, Reads}
use Rattle.log_line.specs.Written.{ident_text, byte_text, data_text, stamp_text, entry_text, IsLoggable}
use Rattle.log_line.specs.declared.line.Line.TheVariants.{Entry}
use Rattle.log_line.proofs.FieldLemmas.{fields_of-first, fields_of-only}
use Rattle.log_line.proofs.OneReading.{IsDataByte, data_in}

-- each byte is above the blank
abbrev Shown : List ℕ → Type 0
Shown bytes = All (λ byte. 33 ≤ byte) bytes

-- so none is a blank
no_blanks : (bytes : List ℕ) → Shown bytes → All (λ byte. is_blank byte ≡ false) bytes
no_blanks bytes shown k d within = let above = shown k d within in grind (arith, nat_tests, above)

-- a shown field before a blank is the first
pub field_then : (field rest : List ℕ) → 0 < length field → Shown field → log_fields (field ++ 32 ∷ rest) ≡ field ∷ log_fields rest
field_then [] rest some shown = absurd (omega (arith, some))
field_then (byte ∷ field) rest some shown = fields_of-first byte field 32 rest (no_blanks (byte ∷ field) shown) refl

-- a shown field alone is the only one
pub field_alone : (field : List ℕ) → 0 < length field → Shown field → log_fields field ≡ field ∷ []
field_alone [] some shown = absurd (omega (arith, some))
field_alone (byte ∷ field) some shown = fields_of-only byte field (no_blanks (byte ∷ field) shown)

-- a text whose last byte is none has no CR to take away
pub no_return : (text last : List ℕ) → 0 < length last → Shown last → without_return (text ++ last) ≡ text ++ last
no_return text last some shown =
    let whole = length-append text last in
    let place : ℕ = length (text ++ last) - 1 in
    let at : get_or (text ++ last) place 0 ≡ get_or last (place - length text) 0 = get_or-append_right text last (length text) place 0 refl (omega (arith, whole, some)) in
    let above : 33 ≤ get_or last (place - length text) 0 = shown (place - length text) 0 (omega (arith, whole, some)) in
    let other : (slice_index (text ++ last) place == 13) ≡ false = grind (arith, nat_tests, at, above) in
    rw other refl

-- decimal digits are shown
digits_shown : (digits : List ℕ) → All IsDigit digits → Shown digits
digits_shown digits all = All-weaker IsDigit (λ byte. 33 ≤ byte) (λ byte is. omega (arith, is)) digits all

-- a hexadecimal digit is shown
hex_shown : (byte : ℕ) → IsHexDigit byte → 33 ≤ byte
hex_shown byte is = grind (arith, is)

-- and so are they all
hexes_shown : (digits : List ℕ) → All IsHexDigit digits → Shown digits
hexes_shown digits all = All-weaker IsHexDigit (λ byte. 33 ≤ byte) hex_shown digits all

-- the digits of a number that needs no more than so many
filled_length : (least most number : ℕ) → least ≤ most → 0 < most → number < 10 ^ most → number < 2 ^ 64 → length (zero_filled least (decimal number)) ≤ most
filled_length least most number le some below fits =
    let short = length-decimal-le most number some below fits in
    let whole = length-append (replicate (least - length (decimal number)) 48) (decimal number) in
    let zeros : length {A = ℕ} (replicate (least - length (decimal number)) 48) ≡ least - length (decimal number) = length-replicate (least - length (decimal number)) 48 in
    omega (arith, short, whole, zeros, le)

-- the field of the stamp
abbrev pub stamp_field : ℕ → ℕ → List ℕ
stamp_field seconds micros = codes "(" ++ zero_filled 10 (decimal seconds) ++ codes "." ++ zero_filled 6 (decimal micros) ++ codes ")"

-- it is the stamp
pub stamp_written : (seconds micros : ℕ) → seconds < 10 ^ 15 → micros < 10 ^ 6 → IsStamp (stamp_field seconds micros) seconds micros
stamp_written seconds micros few below =
    let whole = numeral_is 10 seconds (omega arith) (omega (arith, few)) in
    let fraction = numeral_is 6 micros (omega arith) (omega (arith, below)) in
    let enough = whole.enough in
    let six = fraction.enough in
    let at_most = filled_length 6 6 micros (omega arith) (omega arith) below (omega (arith, below)) in
    record {
      whole = zero_filled 10 (decimal seconds);
      fraction = zero_filled 6 (decimal micros);
      spelled = refl;
      whole_digits = whole.decimal;
      some = omega (arith, enough);
      at_most_fifteen = filled_length 10 15 seconds (omega arith) (omega arith) few (omega (arith, few));
      fraction_digits = fraction.decimal;
      six = omega (arith, six, at_most);
      seconds_are = sym whole.value;
      micros_are = sym fraction.value;
    }

-- and shown
stamp_shown : (seconds micros : ℕ) → seconds < 10 ^ 15 → micros < 10 ^ 6 → Shown (stamp_field seconds micros)
stamp_shown seconds micros few below =
    let whole = numeral_is 10 seconds (omega arith) (omega (arith, few)) in
    let fraction = numeral_is 6 micros (omega arith) (omega (arith, below)) in
    let one : (byte : ℕ) → 33 ≤ byte → Shown (byte ∷ []) = λ byte above. All-cons (λ b. 33 ≤ b) byte [] above (All-nil (λ b. 33 ≤ b)) in
    let both = All-append (λ b. 33 ≤ b) in
    both (codes "(" ++ zero_filled 10 (decimal seconds) ++ codes "." ++ zero_filled 6 (decimal micros)) (codes ")")
    (both (codes "(" ++ zero_filled 10 (decimal seconds) ++ codes ".") (zero_filled 6 (decimal micros))
    (both (codes "(" ++ zero_filled 10 (decimal seconds)) (codes ".")
    (both (codes "(") (zero_filled 10 (decimal seconds)) (one 40 (omega arith)) (digits_shown (zero_filled 10 (decimal seconds)) whole.decimal))
    (one 46 (omega arith)))
    (digits_shown (zero_filled 6 (decimal micros)) fraction.decimal))
    (one 41 (omega arith))

-- the digits of an identifier
ident_digits : (ident : Ident) → IsIdent ident → IsHexadecimal (digit_count ident) (ident_number ident) (ident_text ident)
ident_digits (Std n) is = hexadecimal_is_numeral 3 n (omega arith) (omega arith) (omega (arith, is))
ident_digits (Ext n) is = hexadecimal_is_numeral 8 n (omega arith) (omega arith) (omega (arith, is))

-- they spell it
ident_written : (ident : Ident) → IsIdent ident → SpellsIdent (ident_text ident) ident
ident_written ident is =
    let digits = ident_digits ident is in
    record { hexadecimal = digits.hexadecimal; count = digits.count_is; is = sym digits.value; in_range = is }

-- a list of two
two_of : (bytes : List ℕ) → length bytes ≡ 2 → (high low : ℕ) × (bytes ≡ high ∷ low ∷ [])
two_of [] two = absurd (omega (arith, two))
two_of (x ∷ []) two = absurd (omega (arith, two))
two_of (x ∷ y ∷ []) two = (x, y, refl)
two_of (x ∷ y ∷ z ∷ more) two = absurd (omega (arith, two))

-- the pair of a byte
pair_written : (byte : ℕ) (behind : List ℕ) → byte < 256 → IsPair (byte_text byte ++ behind) byte behind
pair_written byte behind below =
    let digits = hexadecimal_is_numeral 2 byte (omega arith) (omega arith) (omega (arith, below)) in
    let two = two_of (byte_text byte) digits.count_is in
    let all : All IsHexDigit (two.0 ∷ two.1 ∷ []) = subst (All IsHexDigit) two.2 digits.hexadecimal in
    record {
      high = two.0;
      low = two.1;
      spelled = ap (λ l. l ++ behind) two.2;
      high_is = all 0 0 (omega arith);
      low_is = all 1 0 (omega arith);
      is = sym digits.value ∙ ap (number_in 16) two.2;
    }

-- nothing stands between written pairs
nothing_between : (bytes : List ℕ) → IsBetween [] bytes
nothing_between [] = refl
nothing_between (byte ∷ bytes) = inl refl

-- the pairs of bytes
bytes_written : (bytes : List ℕ) → All (λ byte. byte < 256) bytes → SpellsBytes (flat_map byte_text bytes) bytes
bytes_written [] small = refl
bytes_written (byte ∷ bytes) small = (
  [],
  flat_map byte_text bytes,
  pair_written byte (flat_map byte_text bytes) (All-head (λ b. b < 256) byte bytes small),
  nothing_between bytes,
  bytes_written bytes (All-tail (λ b. b < 256) byte bytes small),
)

-- bytes that are all 0
all_zero : (bytes : List ℕ) → ((k : ℕ) → get_or bytes k 0 ≡ 0) → bytes ≡ replicate (length bytes) 0
all_zero [] zeros = refl
all_zero (byte ∷ bytes) zeros =
    let first : byte ≡ 0 = zeros 0 in
    let rest : bytes ≡ replicate (length bytes) 0 = all_zero bytes (λ k. zeros (suc k)) in
    ap (λ b. b ∷ bytes) first ∙ ap (λ l. 0 ∷ l) rest

-- a payload has zeros behind its bytes
zeros_behind : (frame : FrameFields) → IsFrame frame → frame.payload ≡ take (data_len frame) frame.payload ++ replicate (8 - data_len frame) 0
zeros_behind frame is =
    let n = data_len frame in
    let eight = is.eight_bytes in
    let rest : drop n frame.payload ≡ replicate (length (drop n frame.payload)) 0 =
    all_zero (drop n frame.payload) (λ k. get_or-drop n frame.payload k 0 ∙ is.zeros_past (n + k) (omega arith)) in
    let count : length (drop n frame.payload) ≡ 8 - n = length-drop n frame.payload ∙ ap (λ l. l - n) eight in
    sym (take-append-drop n frame.payload) ∙ ap (λ l. take n frame.payload ++ l) (rest ∙ ap (λ m. replicate m 0) count)

-- what is written behind `#`
abbrev pub behind_sign : Bool → ℕ → List ℕ → List ℕ
behind_sign true dlc payload = codes "R" ++ (if dlc == 0 then [] else decimal dlc)
behind_sign false dlc payload = flat_map byte_text (take dlc payload)

-- a length code, by whether it is 0
code_by : (dlc : ℕ) → dlc ≤ 8 → (t : Bool) → (dlc == 0) ≡ t → SpellsCode (if t then [] else decimal dlc) dlc
code_by dlc few true is = inl (refl, grind (arith, nat_tests, is))
code_by dlc few false is = inr (48 + dlc, decimal_digit dlc (omega (arith, few)), omega arith, omega (arith, few), omega arith)

-- a length code
code_written : (dlc : ℕ) → dlc ≤ 8 → SpellsCode (if dlc == 0 then [] else decimal dlc) dlc
code_written dlc few = code_by dlc few (dlc == 0) refl

-- the data of a frame
data_written : (remote : Bool) (frame : FrameFields) → frame.remote ≡ remote → IsFrame frame → SpellsData (behind_sign remote frame.dlc frame.payload) remote frame.dlc frame.payload
data_written true frame remote is =
    let none : data_len frame ≡ 0 = rw remote refl in (
      if frame.dlc == 0 then [] else decimal frame.dlc,
      refl,
      code_written frame.dlc is.dlc_in_range,
      zeros_behind frame is ∙ ap (λ n. take n frame.payload ++ replicate (8 - n) 0) none,
    )
data_written false frame remote is =
    let all : data_len frame ≡ frame.dlc = rw remote refl in
    let few = is.dlc_in_range in
    let eight = is.eight_bytes in
    let count : length (take frame.dlc frame.payload) ≡ frame.dlc = omega (arith, length-take frame.dlc frame.payload, few, eight) in
    let small : All (λ b. b < 256) (take frame.dlc frame.payload) =
    All-from_get_or (λ b. b < 256) (take frame.dlc frame.payload) 0
    (λ k within. let low : k < frame.dlc = omega (arith, within, count) in rw (get_or-take frame.dlc frame.payload k 0 low) (is.bytes k)) in (
      take frame.dlc frame.payload,
      bytes_written (take frame.dlc frame.payload) small,
      sym count,
      few,
      zeros_behind frame is ∙ ap (λ n. take n frame.payload ++ replicate (8 - n) 0) all,
    )

-- `#` and what is behind it
data_is : (remote : Bool) (frame : FrameFields) → frame.remote ≡ remote → data_text frame ≡ 35 ∷ behind_sign remote frame.dlc frame.payload
data_is true frame remote = rw remote refl
data_is false frame remote = rw remote refl

-- the field of a frame
pub frame_written : (frame : FrameFields) → IsLoggable frame → SpellsFrame (ident_text frame.ident ++ data_text frame) frame
frame_written frame loggable =
    let behind = behind_sign frame.remote frame.dlc frame.payload in
    record {
      digits = ident_text frame.ident;
      behind = behind;
      spelled = ap (λ l. ident_text frame.ident ++ l) (data_is frame.remote frame refl) ∙ sym (append_assoc (ident_text frame.ident) (35 ∷ []) behind);
      ident = ident_written frame.ident (loggable.valid).ident_in_range;
      carries = data_written frame.remote frame refl loggable.valid;
      channel = loggable.channel;
    }

-- a byte of data is shown
data_byte_shown : (byte : ℕ) → IsDataByte byte → 33 ≤ byte
data_byte_shown byte is = grind (arith, is)

-- and so is a frame
frame_shown : (field : List ℕ) (frame : FrameFields) → SpellsFrame field frame → Shown field
frame_shown field frame spells =
    let both = All-append (λ b. 33 ≤ b) in
    subst Shown (sym spells.spelled)
    (both (spells.digits ++ codes "#") spells.behind
    (both spells.digits (codes "#") (hexes_shown spells.digits (spells.ident).hexadecimal) (All-cons (λ b. 33 ≤ b) 35 [] (omega arith) (All-nil (λ b. 33 ≤ b))))
    (All-weaker IsDataByte (λ b. 33 ≤ b) data_byte_shown spells.behind (data_in spells.behind frame.remote frame.dlc frame.payload spells.carries)))

-- a frame has a byte
frame_some : (field : List ℕ) (frame : FrameFields) → SpellsFrame field frame → 0 < length field
frame_some field frame spells =
    let whole : length field ≡ length (spells.digits ++ codes "#") + length spells.behind = ap length spells.spelled ∙ length-append (spells.digits ++ codes "#") spells.behind in
    let front = length-append spells.digits (codes "#") in
    omega (arith, whole, front)

-- the name of an interface is shown
interface_shown : (name : List ℕ) → IsInterface name → Shown name
interface_shown name is = All-weaker IsPrintable (λ b. 33 ≤ b) (λ byte printable. printable.0) name is.printable

-- the parts of a written line
pub line_parts : (seconds micros : ℕ) (interface : List ℕ) (frame : FrameFields)
    → entry_text seconds micros interface frame ≡ stamp_field seconds micros ++ 32 ∷ (interface ++ 32 ∷ (ident_text frame.ident ++ data_text frame))
line_parts seconds micros interface frame =
    let ident = ident_text frame.ident in
    let data_ = data_text frame in
    let opened = codes "(" ++ stamp_text seconds micros ++ codes ") " in
    let stamp = stamp_field seconds micros in
    let field = ident ++ data_ in
    let closes : opened ≡ stamp ++ 32 ∷ [] = ap (λ l. 40 ∷ l) (sym (append_assoc (stamp_text seconds micros) (41 ∷ []) (32 ∷ []))) in
    append_assoc (opened ++ interface ++ codes " ") ident data_
    ∙ ap (λ l. ((l ++ interface) ++ 32 ∷ []) ++ field) closes
    ∙ append_assoc ((stamp ++ 32 ∷ []) ++ interface) (32 ∷ []) field
    ∙ append_assoc (stamp ++ 32 ∷ []) interface (32 ∷ field)
    ∙ append_assoc stamp (32 ∷ []) (interface ++ 32 ∷ field)

-- no CR ends a written line
line_stays : (front field : List ℕ) (frame : FrameFields) → SpellsFrame field frame → without_return (front ++ field) ≡ front ++ field
line_stays front field frame spells = no_return front field (frame_some field frame spells) (frame_shown field frame spells)

-- the fields of a written line
pub fields_written : (seconds micros : ℕ) (interface : List ℕ) (frame : FrameFields) → seconds < 10 ^ 15 → micros < 10 ^ 6 → IsInterface interface → IsLoggable frame
    → log_fields (without_return (entry_text seconds micros interface frame)) ≡ stamp_field seconds micros ∷ interface ∷ (ident_text frame.ident ++ data_text frame) ∷ []
fields_written seconds micros interface frame few below is loggable =
    let field = ident_text frame.ident ++ data_text frame in
    let spells = frame_written frame loggable in
    let before = codes "(" ++ stamp_text seconds micros ++ codes ") " ++ interface ++ codes " " in
    let ends : entry_text seconds micros interface frame ≡ before ++ field = append_assoc before (ident_text frame.ident) (data_text frame) in
    let stays : without_return (entry_text seconds micros interface frame) ≡ entry_text seconds micros interface frame =
    ap without_return ends ∙ line_stays before field frame spells ∙ sym ends in
    ap log_fields (stays ∙ line_parts seconds micros interface frame)
    ∙ field_then (stamp_field seconds micros) (interface ++ 32 ∷ field) (omega arith) (stamp_shown seconds micros few below)
    ∙ ap (λ l. stamp_field seconds micros ∷ l)
    (field_then interface field is.some (interface_shown interface is)
    ∙ ap (λ l. interface ∷ l) (field_alone field (frame_some field frame spells) (frame_shown field frame spells)))

-- a written line reads as its own entry
pub line_reads : (seconds micros : ℕ) (interface : List ℕ) (frame : FrameFields) → seconds < 10 ^ 15 → micros < 10 ^ 6 → IsInterface interface → IsLoggable frame
    → Reads (entry_text seconds micros interface frame) (Entry (record { seconds = seconds; micros = micros; interface = interface; frame = frame }))
line_reads seconds micros interface frame few below is loggable = record {
  stamp = stamp_field seconds micros;
  frame = ident_text frame.ident ++ data_text frame;
  direction = [];
  are = fields_written seconds micros interface frame few below is loggable;
  is_stamp = stamp_written seconds micros few below;
  is_interface = is;
  is_frame = frame_written frame loggable;
  is_direction = inl refl;
}
