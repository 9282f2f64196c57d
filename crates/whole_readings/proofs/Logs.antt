-- Each line of a log has a reading or none, and each log a replay or a bad line.
use Rattle.std.proofs.Common.{◌≡◌, ◌≢◌, ◌<◌, ◌≤◌, ◌+◌, ◌-◌, ℕ, zero, suc, Bool, true, false, List, [], ◌∷◌, ◌++◌, length, replicate, All, inl, inr, refl, sym, ap, subst, ◌∙◌, arith, append_assoc}
use Rattle.std.specs.Prelude.{◌⊎◌, codes}
use Rattle.std.specs.List.{AllZip}
use Rattle.text_parts.specs.Line.{text_lines}
use Rattle.text_parts.specs.Number.{IsDigit, IsHexDigit, number_in}
use Rattle.can_frame.specs.Frame.{FrameFields}
use Rattle.can_frame.specs.declared.Ident.{Ident}
use Rattle.can_frame.specs.declared.Ident.TheVariants.{Std, Ext}
use Rattle.log_line.specs.Reading.{log_fields, without_return, IsStamp, SpellsIdent, IsBetween, SpellsBytes, SpellsCode, SpellsData, SpellsFrame, IsFlexible, IsAbove, IsLongCode, IsPrintable, IsInterface, IsDirection, IsPassedOver, FieldsRead, Reads}
use Rattle.log_line.specs.declared.line.Line.{Line}
use Rattle.log_line.specs.declared.line.Line.TheVariants.{Entry, Skip, Empty}
use Rattle.scenario.specs.declared.scenario.Epoch.{Epoch}
use Rattle.replay_node.specs.Replay.{is_ended, HasNoReading, LogReads, IsBadLine, entries_on, skipped_on, epoch_seconds, requests_from, IsReplay}
use Rattle.replay_node.specs.declared.replay.Replay.{Replay}
use Rattle.whole_readings.proofs.Known.{Known, known_by, known_both, known_three, known_either, known_not, known_same, known_le, known_text, known_all, known_split, HasSplit}
use Rattle.whole_readings.proofs.Spellings.{known_digit, known_hex_digit}

-- ---- stamps and interfaces

abbrev IsAnyStamp : List ℕ → Type 0
IsAnyStamp field = (seconds : ℕ) × (micros : ℕ) × IsStamp field seconds micros

-- six digits and `)`
abbrev IsFraction : List ℕ → List ℕ → Type 0
IsFraction fraction end = All IsDigit fraction × (length fraction ≡ 6) × (end ≡ 41 ∷ [])

abbrev IsPointed : List ℕ → Type 0
IsPointed [] = ⊥
IsPointed (byte ∷ bytes) = (byte ≡ 46) × HasSplit IsFraction bytes

-- 1 to 15 digits before a point
abbrev IsWhole : List ℕ → List ℕ → Type 0
IsWhole whole behind = (All IsDigit whole × (1 ≤ length whole)) × (length whole ≤ 15) × IsPointed behind

abbrev IsStampForm : List ℕ → Type 0
IsStampForm [] = ⊥
IsStampForm (byte ∷ bytes) = (byte ≡ 40) × HasSplit IsWhole bytes

known_pointed : (bytes : List ℕ) → Known (IsPointed bytes)
known_pointed [] = inr (λ none. none)
known_pointed (byte ∷ bytes) =
    known_both (known_same byte 46) (known_split IsFraction bytes
    (λ fraction end split. known_three (known_all IsDigit known_digit fraction) (known_same (length fraction) 6) (known_text end (41 ∷ []))))

known_stamp_form : (bytes : List ℕ) → Known (IsStampForm bytes)
known_stamp_form [] = inr (λ none. none)
known_stamp_form (byte ∷ bytes) =
    known_both (known_same byte 40) (known_split IsWhole bytes
    (λ whole behind split. known_three (known_both (known_all IsDigit known_digit whole) (known_le 1 (length whole))) (known_le (length whole) 15) (known_pointed behind)))

-- the parts of a stamp behind its first byte
joined : (whole fraction : List ℕ) → whole ++ 46 ∷ [] ++ fraction ++ 41 ∷ [] ≡ whole ++ (46 ∷ (fraction ++ 41 ∷ []))
joined whole fraction =
    append_assoc (whole ++ 46 ∷ []) fraction (41 ∷ []) ∙ append_assoc whole (46 ∷ []) (fraction ++ 41 ∷ [])

stamp_there : (field : List ℕ) → IsStampForm field → IsAnyStamp field
stamp_there [] none = absurd none
stamp_there (byte ∷ bytes) (is, (whole, [], split, (some, few, none))) = absurd none
stamp_there (byte ∷ bytes) (is, (whole, point ∷ behind, split, (some, few, (point_is, (fraction, end, apart, (digits, six, last)))))) = (
  number_in 10 whole,
  number_in 10 fraction,
  record {
    whole = whole;
    fraction = fraction;
    spelled = ap (λ b. b ∷ bytes) is ∙ ap (λ l. 40 ∷ l) (split ∙ ap (λ b. whole ++ b ∷ behind) point_is
        ∙ ap (λ l. whole ++ 46 ∷ l) (apart ∙ ap (λ l. fraction ++ l) last) ∙ sym (joined whole fraction));
    whole_digits = some.0;
    some = some.1;
    at_most_fifteen = few;
    fraction_digits = digits;
    six = six;
    seconds_are = refl;
    micros_are = refl;
  },
)

stamp_back : (field : List ℕ) → IsAnyStamp field → IsStampForm field
stamp_back field (seconds, micros, is) =
    let split : field ≡ 40 ∷ (is.whole ++ (46 ∷ (is.fraction ++ 41 ∷ []))) = is.spelled ∙ ap (λ l. 40 ∷ l) (joined is.whole is.fraction) in
    subst IsStampForm (sym split) (
      refl,
      (
        is.whole,
        46 ∷ (is.fraction ++ 41 ∷ []),
        refl,
        (
          (is.whole_digits, is.some),
          is.at_most_fifteen,
          (refl, (is.fraction, 41 ∷ [], refl, (is.fraction_digits, is.six, refl))),
        ),
      ),
    )

known_stamp : (field : List ℕ) → Known (IsAnyStamp field)
known_stamp field = known_by (stamp_there field) (stamp_back field) (known_stamp_form field)

known_interface : (name : List ℕ) → Known (IsInterface name)
known_interface name =
    known_by (λ all. record { some = all.0; short = all.1; printable = all.2 }) (λ is. (is.some, is.short, is.printable))
    (known_three (known_le 1 (length name)) (known_le (length name) 15) (known_all IsPrintable (λ byte. known_both (known_le 33 byte) (known_le byte 126)) name))

-- ---- frames

abbrev IsAnyIdent : List ℕ → Type 0
IsAnyIdent digits = (ident : Ident) × SpellsIdent digits ident

abbrev IsIdentForm : List ℕ → Type 0
IsIdentForm digits =
    All IsHexDigit digits
    × (((length digits ≡ 3) × (number_in 16 digits ≤ 0x7FF)) ⊎ ((length digits ≡ 8) × (number_in 16 digits ≤ 0x1FFFFFFF)))

ident_there : (digits : List ℕ) → IsIdentForm digits → IsAnyIdent digits
ident_there digits (all, inl (three, low)) = (Std (number_in 16 digits), record { hexadecimal = all; count = three; is = refl; in_range = low })
ident_there digits (all, inr (eight, low)) = (Ext (number_in 16 digits), record { hexadecimal = all; count = eight; is = refl; in_range = low })

ident_back : (digits : List ℕ) → IsAnyIdent digits → IsIdentForm digits
ident_back digits (Std n, is) = (is.hexadecimal, inl (is.count, subst (λ m. m ≤ 0x7FF) is.is is.in_range))
ident_back digits (Ext n, is) = (is.hexadecimal, inr (is.count, subst (λ m. m ≤ 0x1FFFFFFF) is.is is.in_range))

known_ident : (digits : List ℕ) → Known (IsAnyIdent digits)
known_ident digits =
    known_by (ident_there digits) (ident_back digits) (known_both (known_all IsHexDigit known_hex_digit digits)
    (known_either (known_both (known_same (length digits) 3) (known_le (number_in 16 digits) 0x7FF))
    (known_both (known_same (length digits) 8) (known_le (number_in 16 digits) 0x1FFFFFFF))))

-- pairs for at most so many bytes
abbrev ArePairs : ℕ → List ℕ → Type 0
ArePairs most text = (bytes : List ℕ) × SpellsBytes text bytes × (length bytes ≤ most)

-- nothing, or a dot before something, between pairs
abbrev IsGap : ℕ → List ℕ → List ℕ → Type 0
IsGap most between rest = ((between ≡ []) ⊎ ((between ≡ codes ".") × (rest ≢ []))) × ArePairs most rest

abbrev IsPairAndMore : ℕ → List ℕ → Type 0
IsPairAndMore most (high ∷ low ∷ behind) = IsHexDigit high × IsHexDigit low × HasSplit (IsGap most) behind
IsPairAndMore most _ = ⊥

known_pair : (most : ℕ) → ((text : List ℕ) → Known (ArePairs most text)) → (text : List ℕ) → Known (IsPairAndMore most text)
known_pair most known [] = inr (λ none. none)
known_pair most known (byte ∷ []) = inr (λ none. none)
known_pair most known (high ∷ low ∷ behind) =
    known_three (known_hex_digit high) (known_hex_digit low) (known_split (IsGap most) behind
    (λ between rest split. known_both (known_either (known_text between []) (known_both (known_text between (codes ".")) (known_not (known_text rest [])))) (known rest)))

between_from : (between rest bytes : List ℕ) → SpellsBytes rest bytes → (between ≡ []) ⊎ ((between ≡ codes ".") × (rest ≢ [])) → IsBetween between bytes
between_from between rest [] spells (inl none) = none
between_from between rest [] spells (inr (dot, some)) = absurd (some spells)
between_from between rest (byte ∷ bytes) spells (inl none) = inl none
between_from between rest (byte ∷ bytes) spells (inr (dot, some)) = inr dot

from_between : (between rest bytes : List ℕ) → SpellsBytes rest bytes → IsBetween between bytes → (between ≡ []) ⊎ ((between ≡ codes ".") × (rest ≢ []))
from_between between rest [] spells is = inl is
from_between between rest (byte ∷ bytes) spells (inl none) = inl none
from_between between rest (byte ∷ bytes) spells (inr dot) = inr (dot, (λ none. let split = (spells.2).spelled in let e = none in cc))

pairs_there : (most : ℕ) (text : List ℕ) → (text ≡ []) ⊎ IsPairAndMore most text → ArePairs (suc most) text
pairs_there most text (inl none) = ([], none, omega arith)
pairs_there most [] (inr none) = absurd none
pairs_there most (byte ∷ []) (inr none) = absurd none
pairs_there most (high ∷ low ∷ behind) (inr (high_is, low_is, (between, rest, split, (gap, (bytes, spells, few))))) = (
  number_in 16 (high ∷ low ∷ []) ∷ bytes,
  (
    between,
    rest,
    record { high = high; low = low; spelled = ap (λ l. high ∷ low ∷ l) split; high_is = high_is; low_is = low_is; is = refl },
    between_from between rest bytes spells gap,
    spells,
  ),
  omega (arith, few),
)

pairs_back : (most : ℕ) (text : List ℕ) → ArePairs (suc most) text → (text ≡ []) ⊎ IsPairAndMore most text
pairs_back most text ([], spells, few) = inl spells
pairs_back most text (byte ∷ bytes, (between, rest, pair, gap, spells), few) =
    inr (subst (IsPairAndMore most) (sym pair.spelled)
    (pair.high_is, pair.low_is, (between, rest, refl, (from_between between rest bytes spells gap, (bytes, spells, omega (arith, few))))))

no_pairs : (text : List ℕ) → ArePairs 0 text → text ≡ []
no_pairs text ([], spells, few) = spells
no_pairs text (byte ∷ bytes, spells, few) = absurd (omega (arith, few))

known_pairs : (most : ℕ) (text : List ℕ) → Known (ArePairs most text)
known_pairs zero text = known_by (λ none. ([], none, omega arith)) (no_pairs text) (known_text text [])
known_pairs (suc most) text =
    known_by (pairs_there most text) (pairs_back most text)
    (known_either (known_text text []) (known_pair most (λ rest. known_pairs most rest) text))

abbrev IsAnyCode : List ℕ → Type 0
IsAnyCode text = (dlc : ℕ) × SpellsCode text dlc

abbrev IsCodeForm : List ℕ → Type 0
IsCodeForm [] = Unit {0}
IsCodeForm (digit ∷ []) = (48 ≤ digit) × (digit ≤ 56)
IsCodeForm (digit ∷ next ∷ more) = ⊥

code_there : (text : List ℕ) → IsCodeForm text → IsAnyCode text
code_there [] is = (0, inl (refl, refl))
code_there (digit ∷ []) (low, high) = (digit - 48, inr (digit, refl, low, high, refl))
code_there (digit ∷ next ∷ more) none = absurd none

code_back : (text : List ℕ) → IsAnyCode text → IsCodeForm text
code_back text (dlc, inl (none, is)) = subst IsCodeForm (sym none) tt
code_back text (dlc, inr (digit, split, low, high, is)) = subst IsCodeForm (sym split) (low, high)

known_code_form : (text : List ℕ) → Known (IsCodeForm text)
known_code_form [] = inl tt
known_code_form (digit ∷ []) = known_both (known_le 48 digit) (known_le digit 56)
known_code_form (digit ∷ next ∷ more) = inr (λ none. none)

known_code : (text : List ℕ) → Known (IsAnyCode text)
known_code text = known_by (code_there text) (code_back text) (known_code_form text)

abbrev IsRemote : List ℕ → Type 0
IsRemote [] = ⊥
IsRemote (byte ∷ code) = (byte ≡ 82) × IsAnyCode code

known_remote : (text : List ℕ) → Known (IsRemote text)
known_remote [] = inr (λ none. none)
known_remote (byte ∷ code) = known_both (known_same byte 82) (known_code code)

abbrev IsAnyData : List ℕ → Type 0
IsAnyData text = (remote : Bool) × (dlc : ℕ) × (payload : List ℕ) × SpellsData text remote dlc payload

data_there : (text : List ℕ) → ArePairs 8 text ⊎ IsRemote text → IsAnyData text
data_there text (inl (bytes, spells, few)) =
    (false, length bytes, bytes ++ replicate (8 - length bytes) 0, (bytes, spells, refl, few, refl))
data_there [] (inr none) = absurd none
data_there (byte ∷ code) (inr (is, (dlc, spells))) = (true, dlc, replicate 8 0, (code, ap (λ b. b ∷ code) is, spells, refl))

data_back : (text : List ℕ) → IsAnyData text → ArePairs 8 text ⊎ IsRemote text
data_back text (false, dlc, payload, (bytes, spells, dlc_is, few, payload_is)) = inl (bytes, spells, omega (arith, dlc_is, few))
data_back text (true, dlc, payload, (code, split, spells, payload_is)) = inr (subst IsRemote (sym split) (refl, (dlc, spells)))

known_data : (text : List ℕ) → Known (IsAnyData text)
known_data text = known_by (data_there text) (data_back text) (known_either (known_pairs 8 text) (known_remote text))

-- a byte in front, and what is behind it so
abbrev IsSigned : (List ℕ → Type 0) → List ℕ → Type 0
IsSigned IsSo [] = ⊥
IsSigned IsSo (byte ∷ bytes) = (byte ≡ 35) × IsSo bytes

known_signed : (IsSo : List ℕ → Type 0) → ((bytes : List ℕ) → Known (IsSo bytes)) → (bytes : List ℕ) → Known (IsSigned IsSo bytes)
known_signed IsSo known [] = inr (λ none. none)
known_signed IsSo known (byte ∷ bytes) = known_both (known_same byte 35) (known bytes)

signed_split : (field digits behind more : List ℕ) (byte : ℕ) → field ≡ digits ++ behind → behind ≡ byte ∷ more → byte ≡ 35 → field ≡ digits ++ codes "#" ++ more
signed_split field digits behind more byte split first is =
    split ∙ ap (λ l. digits ++ l) first ∙ ap (λ b. digits ++ b ∷ more) is ∙ sym (append_assoc digits (35 ∷ []) more)

abbrev IsAnyFrame : List ℕ → Type 0
IsAnyFrame field = (frame : FrameFields) × SpellsFrame field frame

abbrev IsFrameForm : List ℕ → List ℕ → Type 0
IsFrameForm digits behind = IsAnyIdent digits × IsSigned IsAnyData behind

frame_there : (field : List ℕ) → HasSplit IsFrameForm field → IsAnyFrame field
frame_there field (digits, [], split, (ident, none)) = absurd none
frame_there field (digits, byte ∷ more, split, ((ident, spells), (is, (remote, dlc, payload, carries)))) = (
  record { ident = ident; remote = remote; dlc = dlc; payload = payload; can = 1 },
  record {
    digits = digits;
    behind = more;
    spelled = signed_split field digits (byte ∷ more) more byte split refl is;
    ident = spells;
    carries = carries;
    channel = refl;
  },
)

frame_back : (field : List ℕ) → IsAnyFrame field → HasSplit IsFrameForm field
frame_back field (frame, is) = (
  is.digits,
  35 ∷ is.behind,
  is.spelled ∙ append_assoc is.digits (35 ∷ []) is.behind,
  ((frame.ident, is.ident), (refl, (frame.remote, frame.dlc, frame.payload, is.carries))),
)

known_frame : (field : List ℕ) → Known (IsAnyFrame field)
known_frame field =
    known_by (frame_there field) (frame_back field)
    (known_split IsFrameForm field (λ digits behind split. known_both (known_ident digits) (known_signed IsAnyData known_data behind)))

-- ---- frames of other kinds

-- anything
abbrev IsAnything : List ℕ → Type 0
IsAnything bytes = Unit {0}

abbrev IsFlexibleForm : List ℕ → List ℕ → Type 0
IsFlexibleForm digits behind =
    All IsHexDigit digits × ((length digits ≡ 3) ⊎ (length digits ≡ 8)) × IsSigned (IsSigned IsAnything) behind

flexible_there : (field : List ℕ) → HasSplit IsFlexibleForm field → IsFlexible field
flexible_there field (digits, [], split, (all, count, none)) = absurd none
flexible_there field (digits, byte ∷ [], split, (all, count, (is, none))) = absurd none
flexible_there field (digits, byte ∷ next ∷ more, split, (all, count, (is, (also, any)))) =
    record {
      digits = digits;
      behind = more;
      spelled = split ∙ ap (λ b. digits ++ b ∷ next ∷ more) is ∙ ap (λ b. digits ++ 35 ∷ b ∷ more) also ∙ sym (append_assoc digits (35 ∷ 35 ∷ []) more);
      hexadecimal = all;
      count = count;
    }

flexible_back : (field : List ℕ) → IsFlexible field → HasSplit IsFlexibleForm field
flexible_back field is =
    (is.digits, 35 ∷ 35 ∷ is.behind, is.spelled ∙ append_assoc is.digits (35 ∷ 35 ∷ []) is.behind, (is.hexadecimal, is.count, (refl, (refl, tt))))

known_flexible : (field : List ℕ) → Known (IsFlexible field)
known_flexible field =
    known_by (flexible_there field) (flexible_back field) (known_split IsFlexibleForm field
    (λ digits behind split. known_three (known_all IsHexDigit known_hex_digit digits)
    (known_either (known_same (length digits) 3) (known_same (length digits) 8))
    (known_signed (IsSigned IsAnything) (known_signed IsAnything (λ bytes. inl tt)) behind)))

abbrev IsAboveForm : List ℕ → List ℕ → Type 0
IsAboveForm digits behind =
    (All IsHexDigit digits × (length digits ≡ 8)) × (0x1FFFFFFF < number_in 16 digits) × IsSigned IsAnything behind

above_there : (field : List ℕ) → HasSplit IsAboveForm field → IsAbove field
above_there field (digits, [], split, (all, above, none)) = absurd none
above_there field (digits, byte ∷ more, split, (all, above, (is, any))) =
    record {
      digits = digits;
      behind = more;
      spelled = signed_split field digits (byte ∷ more) more byte split refl is;
      hexadecimal = all.0;
      count = all.1;
      above = above;
    }

above_back : (field : List ℕ) → IsAbove field → HasSplit IsAboveForm field
above_back field is =
    (is.digits, 35 ∷ is.behind, is.spelled ∙ append_assoc is.digits (35 ∷ []) is.behind, ((is.hexadecimal, is.count), is.above, (refl, tt)))

known_above : (field : List ℕ) → Known (IsAbove field)
known_above field =
    known_by (above_there field) (above_back field) (known_split IsAboveForm field
    (λ digits behind split. known_three (known_both (known_all IsHexDigit known_hex_digit digits) (known_same (length digits) 8))
    (known_le (suc 0x1FFFFFFF) (number_in 16 digits)) (known_signed IsAnything (λ bytes. inl tt) behind)))

abbrev IsCodeEnd : List ℕ → Type 0
IsCodeEnd (byte ∷ digit ∷ []) = (byte ≡ 95) × IsHexDigit digit
IsCodeEnd _ = ⊥

known_code_end : (bytes : List ℕ) → Known (IsCodeEnd bytes)
known_code_end [] = inr (λ none. none)
known_code_end (byte ∷ []) = inr (λ none. none)
known_code_end (byte ∷ digit ∷ []) = known_both (known_same byte 95) (known_hex_digit digit)
known_code_end (byte ∷ digit ∷ next ∷ more) = inr (λ none. none)

abbrev IsLongForm : List ℕ → List ℕ → Type 0
IsLongForm front end = IsAnyFrame front × IsCodeEnd end

long_there : (field : List ℕ) → HasSplit IsLongForm field → IsLongCode field
long_there field (front, [], split, (frame, none)) = absurd none
long_there field (front, byte ∷ [], split, (frame, none)) = absurd none
long_there field (front, byte ∷ digit ∷ [], split, (frame, (is, hexadecimal))) =
    record {
      front = front;
      digit = digit;
      spelled = split ∙ ap (λ b. front ++ b ∷ digit ∷ []) is ∙ sym (append_assoc front (95 ∷ []) (digit ∷ []));
      frame = frame;
      hexadecimal = hexadecimal;
    }
long_there field (front, byte ∷ digit ∷ next ∷ more, split, (frame, none)) = absurd none

long_back : (field : List ℕ) → IsLongCode field → HasSplit IsLongForm field
long_back field is =
    (is.front, 95 ∷ is.digit ∷ [], is.spelled ∙ append_assoc is.front (95 ∷ []) (is.digit ∷ []), (is.frame, (refl, is.hexadecimal)))

known_long : (field : List ℕ) → Known (IsLongCode field)
known_long field =
    known_by (long_there field) (long_back field)
    (known_split IsLongForm field (λ front end split. known_both (known_frame front) (known_code_end end)))

-- ---- fields

abbrev IsOneField : List ℕ → List (List ℕ) → Type 0
IsOneField field fields = fields ≡ field ∷ []

first_field : List (List ℕ) → List ℕ
first_field [] = []
first_field (field ∷ fields) = field

known_one_field : (field : List ℕ) (fields : List (List ℕ)) → Known (fields ≡ field ∷ [])
known_one_field field [] = inr (λ is. cc)
known_one_field field (one ∷ []) =
    known_by (λ same. ap (λ f. f ∷ []) same) (λ is. ap (λ fs. first_of one fs) is) (known_text one field)
  where
    first_of : List ℕ → List (List ℕ) → List ℕ
    first_of d [] = d
    first_of d (f ∷ fs) = f
known_one_field field (one ∷ two ∷ fields) = inr (λ is. let long = ap length is in omega (arith, long))

known_no_field : (fields : List (List ℕ)) → Known (fields ≡ [])
known_no_field [] = inl refl
known_no_field (field ∷ fields) = inr (λ is. cc)

known_direction : (fields : List (List ℕ)) → Known (IsDirection fields)
known_direction fields =
    known_either (known_no_field fields) (known_either (known_one_field (codes "R") fields) (known_one_field (codes "T") fields))

known_passed_over : (frame : List ℕ) (more : List (List ℕ)) → Known (IsPassedOver frame more)
known_passed_over frame more =
    known_either (known_flexible frame) (known_either (known_above frame) (known_both (known_long frame) (known_direction more)))

abbrev IsRead : List (List ℕ) → Type 0
IsRead fields = (reading : Line) × FieldsRead fields reading

-- what fields are that read as something
abbrev IsReadForm : List (List ℕ) → Type 0
IsReadForm [] = Unit {0}
IsReadForm (stamp ∷ interface ∷ frame ∷ more) =
    IsAnyStamp stamp × IsInterface interface × ((IsAnyFrame frame × IsDirection more) ⊎ IsPassedOver frame more)
IsReadForm _ = ⊥

known_read_form : (fields : List (List ℕ)) → Known (IsReadForm fields)
known_read_form [] = inl tt
known_read_form (stamp ∷ []) = inr (λ none. none)
known_read_form (stamp ∷ interface ∷ []) = inr (λ none. none)
known_read_form (stamp ∷ interface ∷ frame ∷ more) =
    known_three (known_stamp stamp) (known_interface interface)
    (known_either (known_both (known_frame frame) (known_direction more)) (known_passed_over frame more))

read_there : (fields : List (List ℕ)) → IsReadForm fields → IsRead fields
read_there [] is = (Empty, refl)
read_there (stamp ∷ []) none = absurd none
read_there (stamp ∷ interface ∷ []) none = absurd none
read_there (stamp ∷ interface ∷ frame ∷ more) ((seconds, micros, is_stamp), is_interface, inl ((fields_of_frame, is_frame), is_direction)) = (
  Entry (record { seconds = seconds; micros = micros; interface = interface; frame = fields_of_frame }),
  record {
    stamp = stamp;
    frame = frame;
    direction = more;
    are = refl;
    is_stamp = is_stamp;
    is_interface = is_interface;
    is_frame = is_frame;
    is_direction = is_direction;
  },
)
read_there (stamp ∷ interface ∷ frame ∷ more) (is_stamp, is_interface, inr passed) = (
  Skip,
  record {
    stamp = stamp;
    interface = interface;
    frame = frame;
    more = more;
    are = refl;
    is_stamp = is_stamp;
    is_interface = is_interface;
    is_passed_over = passed;
  },
)

read_back : (fields : List (List ℕ)) (reading : Line) → FieldsRead fields reading → IsReadForm fields
read_back fields (Entry entry) is =
    subst IsReadForm (sym is.are) ((entry.seconds, entry.micros, is.is_stamp), is.is_interface, inl ((entry.frame, is.is_frame), is.is_direction))
read_back fields Skip is = subst IsReadForm (sym is.are) (is.is_stamp, is.is_interface, inr is.is_passed_over)
read_back fields Empty is = subst IsReadForm (sym is) tt

-- a line has a reading, or none
pub known_reading : (line : List ℕ) → ((reading : Line) × Reads line reading) ⊎ HasNoReading line
known_reading line =
    elim (known_read_form (log_fields (without_return line))) [
      | inl is ↦ inl (read_there (log_fields (without_return line)) is)
      | inr fails ↦ inr (λ reading reads. fails (read_back (log_fields (without_return line)) reading reads))
    ]

-- ---- logs

-- the first line without a reading
abbrev HasUnread : List (List ℕ) → Type 0
HasUnread all =
    (lines : List (List ℕ)) × (line : List ℕ) × (behind : List (List ℕ)) × (all ≡ lines ++ line ∷ behind)
    × ((readings : List Line) × AllZip Reads lines readings) × HasNoReading line

abbrev HasReadings : List (List ℕ) → Type 0
HasReadings all = (readings : List Line) × AllZip Reads all readings

one_line : (line : List ℕ) (all : List (List ℕ)) → ((reading : Line) × Reads line reading) ⊎ HasNoReading line
    → HasReadings all ⊎ HasUnread all → HasReadings (line ∷ all) ⊎ HasUnread (line ∷ all)
one_line line all (inr none) further = inr ([], line, all, refl, ([], tt), none)
one_line line all (inl (reading, reads)) (inl (readings, all_read)) = inl (reading ∷ readings, (reads, all_read))
one_line line all (inl (reading, reads)) (inr (lines, unread, behind, split, (readings, all_read), none)) =
    inr (line ∷ lines, unread, behind, ap (λ l. line ∷ l) split, (reading ∷ readings, (reads, all_read)), none)

readings_of : (all : List (List ℕ)) → HasReadings all ⊎ HasUnread all
readings_of [] = inl ([], tt)
readings_of (line ∷ all) = one_line line all (known_reading line) (readings_of all)

-- a log reads so, or has a bad line
abbrev IsReadOrBad : List ℕ → Type 0
IsReadOrBad log = ((readings : List Line) × LogReads log readings) ⊎ ((number : ℕ) × IsBadLine log number)

bad_line : (log : List ℕ) (lines : List (List ℕ)) (line : List ℕ) (behind : List (List ℕ)) → text_lines log ≡ lines ++ line ∷ behind
    → HasReadings lines → HasNoReading line → (behind ≡ [] → is_ended log ≡ true) → IsReadOrBad log
bad_line log lines line behind split read none no_end =
    inr (
      length lines + 1,
      record {
        lines = lines;
        line = line;
        behind = behind;
        are = split;
        number_is = refl;
        read = read;
        no_reading = none;
        is_no_end = no_end;
      },
    )

at_end : (log : List ℕ) (lines : List (List ℕ)) (line : List ℕ) (behind : List (List ℕ)) (ended : Bool) → is_ended log ≡ ended
    → text_lines log ≡ lines ++ line ∷ behind → HasReadings lines → HasNoReading line → IsReadOrBad log
at_end log lines line behind true is split read none = bad_line log lines line behind split read none (λ last. is)
at_end log lines line (next ∷ behind) false is split read none = bad_line log lines line (next ∷ behind) split read none (λ last. absurd (cc))
at_end log lines line [] false is split (readings, all_read) none =
    inl (
      readings ++ Skip ∷ [],
      inr (
        readings,
        record {
          lines = lines;
          last = line;
          are = split;
          read = all_read;
          no_reading = none;
          not_ended = is;
        },
        refl,
      ),
    )

log_by : (log : List ℕ) → HasReadings (text_lines log) ⊎ HasUnread (text_lines log) → IsReadOrBad log
log_by log (inl (readings, all_read)) = inl (readings, inl all_read)
log_by log (inr (lines, line, behind, split, read, none)) = at_end log lines line behind (is_ended log) refl split read none

replay_by : (log interface : List ℕ) (bit : ℕ) (epoch : Epoch) → IsReadOrBad log
    → ((replay : Replay) × IsReplay log interface bit epoch replay) ⊎ ((number : ℕ) × IsBadLine log number)
replay_by log interface bit epoch (inr bad) = inr bad
replay_by log interface bit epoch (inl (readings, reads)) =
    let entries = entries_on interface readings in
    inl (
      record {
        epoch = epoch_seconds epoch entries;
        skipped = skipped_on interface readings;
        list = requests_from bit (epoch_seconds epoch entries) 0 entries;
      },
      (readings, reads, record { epoch_is = refl; skipped_is = refl; list_is = refl }),
    )

-- each log has a replay, or a bad line
pub replay_or_bad_line : (log interface : List ℕ) (bit : ℕ) (epoch : Epoch)
    → ((replay : Replay) × IsReplay log interface bit epoch replay) ⊎ ((number : ℕ) × IsBadLine log number)
replay_or_bad_line log interface bit epoch = replay_by log interface bit epoch (log_by log (readings_of (text_lines log)))
