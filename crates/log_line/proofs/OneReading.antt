-- A line has at most one reading.
use Rattle.std.proofs.Common.{◌≡◌, ◌≢◌, ℕ, ◌-◌, ◌≤◌, ◌⊎◌, inl, inr, Bool, true, false, List, [], ◌∷◌, ◌++◌, length, get_or, replicate, refl, sym, ap, subst, ◌∙◌, arith}
use Rattle.std.specs.Prelude.{All}
use Rattle.std.proofs.lemmas.List.Elements.{All-nil, All-cons, All-weaker}
use Rattle.text_parts.specs.Number.{IsHexDigit, number_in}
use Rattle.can_frame.specs.Frame.{FrameFields, IsIdent, ident_number}
use Rattle.can_frame.specs.declared.Ident.{Ident}
use Rattle.can_frame.specs.declared.Ident.TheVariants.{Std, Ext}
use Rattle.log_line.specs.Reading.{IsStamp, IsBetween, SpellsBytes, SpellsCode, SpellsData, SpellsFrame, AreEntry, AreSkip, IsPassedOver, FieldsRead}
use Rattle.log_line.specs.declared.line.Entry as declared
use Rattle.log_line.specs.declared.line.Line.{Line}
use Rattle.log_line.specs.declared.line.Line.TheVariants.{Entry, Skip, Empty}
use Rattle.log_line.proofs.SplitLemmas.{Without, separator_inside}
use Rattle.log_line.proofs.StampLemmas.{one_stamp}
use Rattle.log_line.proofs.BytesLemmas.{other_in_front}
use Rattle.log_line.proofs.DataLemmas.{IsPairByte, r_in_front, pairs_in}
use Rattle.log_line.proofs.FrameFieldLemmas.{one_parts, one_ident, ident_of_frame, parts_of_frame, parts_of_flexible, parts_of_above, parts_of_long}

-- a dot in front spells nothing
dot_in_front : (more bytes : List ℕ) → SpellsBytes (46 ∷ more) bytes → ⊥
dot_in_front more bytes spells = other_in_front 46 more bytes (λ is. grind (arith, is)) spells

-- what is behind a pair goes on in one way
one_rest : (xs ys bx rx by ry : List ℕ) → IsBetween bx xs → IsBetween by ys → bx ++ rx ≡ by ++ ry → SpellsBytes rx xs → SpellsBytes ry ys → rx ≡ ry
one_rest [] [] bx rx by ry is also same spells other = spells ∙ sym other
one_rest [] (y ∷ ys) bx rx by ry is (inl none) same spells other = sym (ap (λ l. l ++ rx) is) ∙ same ∙ ap (λ l. l ++ ry) none
one_rest [] (y ∷ ys) bx rx by ry is (inr dot) same spells other =
    let both = sym (ap (λ l. l ++ rx) is) ∙ same ∙ ap (λ l. l ++ ry) dot in
    let empty = spells in
    cc
one_rest (x ∷ xs) [] bx rx by ry (inl none) also same spells other = sym (ap (λ l. l ++ rx) none) ∙ same ∙ ap (λ l. l ++ ry) also
one_rest (x ∷ xs) [] bx rx by ry (inr dot) also same spells other =
    let both = sym (ap (λ l. l ++ rx) dot) ∙ same ∙ ap (λ l. l ++ ry) also in
    let empty = other in
    cc
one_rest (x ∷ xs) (y ∷ ys) bx rx by ry (inl none) (inl empty) same spells other = sym (ap (λ l. l ++ rx) none) ∙ same ∙ ap (λ l. l ++ ry) empty
one_rest (x ∷ xs) (y ∷ ys) bx rx by ry (inl none) (inr dot) same spells other =
    let both : rx ≡ 46 ∷ ry = sym (ap (λ l. l ++ rx) none) ∙ same ∙ ap (λ l. l ++ ry) dot in
    absurd (dot_in_front ry (x ∷ xs) (subst (λ t. SpellsBytes t (x ∷ xs)) both spells))
one_rest (x ∷ xs) (y ∷ ys) bx rx by ry (inr dot) (inl empty) same spells other =
    let both : 46 ∷ rx ≡ ry = sym (ap (λ l. l ++ rx) dot) ∙ same ∙ ap (λ l. l ++ ry) empty in
    absurd (dot_in_front rx (y ∷ ys) (subst (λ t. SpellsBytes t (y ∷ ys)) (sym both) other))
one_rest (x ∷ xs) (y ∷ ys) bx rx by ry (inr dot) (inr also) same spells other =
    let both : 46 ∷ rx ≡ 46 ∷ ry = sym (ap (λ l. l ++ rx) dot) ∙ same ∙ ap (λ l. l ++ ry) also in
    cc

-- a text spells at most one list of bytes
one_bytes : (xs ys text : List ℕ) → SpellsBytes text xs → SpellsBytes text ys → xs ≡ ys
one_bytes [] [] text spells other = refl
one_bytes [] (y ∷ ys) text spells other = let split = (other.2).spelled in let none = spells in cc
one_bytes (x ∷ xs) [] text spells other = let split = (spells.2).spelled in let none = other in cc
one_bytes (x ∷ xs) (y ∷ ys) text spells other =
    let pair = spells.2 in
    let second = other.2 in
    let split = sym pair.spelled ∙ second.spelled in
    let highs : pair.high ≡ second.high = cc in
    let lows : pair.low ≡ second.low = cc in
    let behinds : spells.0 ++ spells.1 ≡ other.0 ++ other.1 = cc in
    let bytes : x ≡ y = pair.is ∙ ap (λ h. number_in 16 (h ∷ pair.low ∷ [])) highs ∙ ap (λ l. number_in 16 (second.high ∷ l ∷ [])) lows ∙ sym second.is in
    let rest = one_rest xs ys spells.0 spells.1 other.0 other.1 spells.3 other.3 behinds spells.4 other.4 in
    let others : xs ≡ ys = one_bytes xs ys spells.1 spells.4 (subst (λ t. SpellsBytes t ys) (sym rest) other.4) in
    cc

-- a length code is spelled in one way
one_code : (text : List ℕ) (dlc other : ℕ) → SpellsCode text dlc → SpellsCode text other → dlc ≡ other
one_code text dlc other (inl none) (inl also) = none.1 ∙ sym also.1
one_code text dlc other (inl none) (inr digit) = absurd (let a = none.0 in let b = digit.1 in cc)
one_code text dlc other (inr digit) (inl none) = absurd (let a = none.0 in let b = digit.1 in cc)
one_code text dlc other (inr digit) (inr second) =
    let split = sym digit.1 ∙ second.1 in
    let same : digit.0 ≡ second.0 = cc in
    digit.4 ∙ ap (λ d. d - 48) same ∙ sym second.4

-- what a frame carries
record CarriesSame (remote : Bool) (dlc : ℕ) (payload : List ℕ) (r : Bool) (d : ℕ) (p : List ℕ) : Type 0 where
  remotes : remote ≡ r
  codes_are : dlc ≡ d
  payloads : payload ≡ p

-- a text carries at most one thing
one_data : (text : List ℕ) (remote : Bool) (dlc : ℕ) (payload : List ℕ) (r : Bool) (d : ℕ) (p : List ℕ) → SpellsData text remote dlc payload → SpellsData text r d p → CarriesSame remote dlc payload r d p
one_data text false dlc payload false d p spells other =
    let bytes = one_bytes spells.0 other.0 text spells.1 other.1 in
    let same : dlc ≡ d = spells.2 ∙ ap length bytes ∙ sym other.2 in
    record {
      remotes = refl;
      codes_are = same;
      payloads = spells.4 ∙ ap (λ l. l ++ replicate (8 - dlc) 0) bytes ∙ ap (λ n. other.0 ++ replicate (8 - n) 0) same ∙ sym other.4;
    }
one_data text false dlc payload true d p spells other = absurd (r_in_front other.0 spells.0 (subst (λ t. SpellsBytes t spells.0) other.1 spells.1))
one_data text true dlc payload false d p spells other = absurd (r_in_front spells.0 other.0 (subst (λ t. SpellsBytes t other.0) spells.1 other.1))
one_data text true dlc payload true d p spells other =
    let split = sym spells.1 ∙ other.1 in
    let same : spells.0 ≡ other.0 = cc in
    record {
      remotes = refl;
      codes_are = one_code spells.0 dlc d spells.2 (subst (λ c. SpellsCode c d) (sym same) other.2);
      payloads = spells.3 ∙ sym other.3;
    }

-- a field spells at most one frame
one_frame : (field : List ℕ) (frame other : FrameFields) → SpellsFrame field frame → SpellsFrame field other → frame ≡ other
one_frame field frame other spells also =
    let has = parts_of_frame field frame spells in
    let same = one_parts field _ _ _ _ _ _ has (parts_of_frame field other also) in
    let ident : frame.ident ≡ other.ident = one_ident _ _ frame.ident other.ident (ident_of_frame field _ _ _ frame has spells) (ident_of_frame field _ _ _ other has also) in
    let carried = one_data spells.behind frame.remote frame.dlc frame.payload other.remote other.dlc other.payload spells.carries
    (subst (λ b. SpellsData b other.remote other.dlc other.payload) (sym same.behinds) also.carries) in
    let remote : frame.remote ≡ other.remote = carried.remotes in
    let dlc : frame.dlc ≡ other.dlc = carried.codes_are in
    let payload : frame.payload ≡ other.payload = carried.payloads in
    let can : frame.can ≡ other.can = spells.channel ∙ sym also.channel in
    λ i. record { ident = ident i; remote = remote i; dlc = dlc i; payload = payload i; can = can i }

-- a byte that data are spelled with
abbrev pub IsDataByte : ℕ → Type 0
IsDataByte byte = IsHexDigit byte ⊎ (byte ≡ 46) ⊎ (byte ≡ 82)

-- a length code
code_in : (code : List ℕ) (dlc : ℕ) → SpellsCode code dlc → All IsDataByte code
code_in code dlc (inl none) = subst (All IsDataByte) (sym none.0) (All-nil IsDataByte)
code_in code dlc (inr digit) =
    let low = digit.2 in
    let high = digit.3 in
    subst (All IsDataByte) (sym digit.1) (All-cons IsDataByte digit.0 [] (inl (inl (low, omega (arith, high)))) (All-nil IsDataByte))

-- a byte of a pair is one
pair_byte_in : (byte : ℕ) → IsPairByte byte → IsDataByte byte
pair_byte_in byte (inl digit) = inl digit
pair_byte_in byte (inr dot) = inr (inl dot)

-- the bytes of data
pub data_in : (text : List ℕ) (remote : Bool) (dlc : ℕ) (payload : List ℕ) → SpellsData text remote dlc payload → All IsDataByte text
data_in text false dlc payload spells = All-weaker IsPairByte IsDataByte pair_byte_in text (pairs_in spells.0 text spells.1)
data_in text true dlc payload spells = subst (All IsDataByte) (sym spells.1) (All-cons IsDataByte 82 spells.0 (inr (inr refl)) (code_in spells.0 dlc spells.2))

-- `_` is none of them
not_underscore : (byte : ℕ) → IsDataByte byte → byte ≢ 95
not_underscore byte is same = grind (arith, is, same)

-- so data are without it
data_without : (text : List ℕ) (remote : Bool) (dlc : ℕ) (payload : List ℕ) → SpellsData text remote dlc payload → Without 95 text
data_without text remote dlc payload spells = All-weaker IsDataByte (λ byte. byte ≢ 95) not_underscore text (data_in text remote dlc payload spells)

-- the number of a frame's identifier
pub ident_within : (ident : Ident) → IsIdent ident → ident_number ident ≤ 0x1FFFFFFF
ident_within (Std n) is = omega (arith, is)
ident_within (Ext n) is = is

-- `#` is no digit
sign_is_none : IsHexDigit 35 → ⊥
sign_is_none is = grind (arith, is)

-- `#` in front is no data
pub no_second_sign : (rest : List ℕ) (remote : Bool) (dlc : ℕ) (payload : List ℕ) → SpellsData (35 ∷ rest) remote dlc payload → ⊥
no_second_sign rest false dlc payload spells = other_in_front 35 rest spells.0 sign_is_none spells.1
no_second_sign rest true dlc payload spells = absurd (let first : 35 ≡ 82 = ap (λ l. get_or l 0 0) spells.1 in omega (arith, first))

-- a frame is not passed over
pub not_passed_over : (field : List ℕ) (more : List (List ℕ)) (frame : FrameFields) → SpellsFrame field frame → IsPassedOver field more → ⊥
not_passed_over field more frame spells (inl flexible) =
    let same = one_parts field _ _ _ _ _ _ (parts_of_frame field frame spells) (parts_of_flexible field flexible) in
    no_second_sign flexible.behind frame.remote frame.dlc frame.payload (subst (λ b. SpellsData b frame.remote frame.dlc frame.payload) same.behinds spells.carries)
not_passed_over field more frame spells (inr (inl above)) =
    let same = one_parts field _ _ _ _ _ _ (parts_of_frame field frame spells) (parts_of_above field above) in
    let within = ident_within frame.ident (spells.ident).in_range in
    let number = same.numbers in
    let high = above.above in
    omega (arith, within, number, high)
not_passed_over field more frame spells (inr (inr long)) =
    let same = one_parts field _ _ _ _ _ _ (parts_of_frame field frame spells) (parts_of_long field long.0) in
    separator_inside 95 ((long.0).frame.1).behind ((long.0).digit ∷ [])
    (subst (Without 95) same.behinds (data_without spells.behind frame.remote frame.dlc frame.payload spells.carries))

-- the fields of an entry are of one entry
one_entry : (fields : List (List ℕ)) (entry other : declared.Entry) → AreEntry fields entry → AreEntry fields other → entry ≡ other
one_entry fields entry other is also =
    let split = sym is.are ∙ also.are in
    let stamps : is.stamp ≡ also.stamp = cc in
    let interface : entry.interface ≡ other.interface = cc in
    let frames : is.frame ≡ also.frame = cc in
    let stamp = one_stamp is.stamp entry.seconds entry.micros other.seconds other.micros is.is_stamp (subst (λ s. IsStamp s other.seconds other.micros) (sym stamps) also.is_stamp) in
    let frame : entry.frame ≡ other.frame = one_frame is.frame entry.frame other.frame is.is_frame (subst (λ f. SpellsFrame f other.frame) (sym frames) also.is_frame) in
    let seconds : entry.seconds ≡ other.seconds = stamp.0 in
    let micros : entry.micros ≡ other.micros = stamp.1 in
    λ i. record { seconds = seconds i; micros = micros i; interface = interface i; frame = frame i }

-- an entry is not passed over
not_both : (fields : List (List ℕ)) (entry : declared.Entry) → AreEntry fields entry → AreSkip fields → ⊥
not_both fields entry is skip =
    let split = sym is.are ∙ skip.are in
    let frames : is.frame ≡ skip.frame = cc in
    not_passed_over skip.frame skip.more entry.frame (subst (λ f. SpellsFrame f entry.frame) frames is.is_frame) skip.is_passed_over

-- fields have at most one reading
pub one_fields_reading : (fields : List (List ℕ)) (reading other : Line) → FieldsRead fields reading → FieldsRead fields other → reading ≡ other
one_fields_reading fields (Entry entry) (Entry other) is also = ap Entry (one_entry fields entry other is also)
one_fields_reading fields (Entry entry) Skip is also = absurd (not_both fields entry is also)
one_fields_reading fields (Entry entry) Empty is also = absurd (let a = is.are in let b = also in cc)
one_fields_reading fields Skip (Entry other) is also = absurd (not_both fields other also is)
one_fields_reading fields Skip Skip is also = refl
one_fields_reading fields Skip Empty is also = absurd (let a = is.are in let b = also in cc)
one_fields_reading fields Empty (Entry other) is also = absurd (let a = also.are in let b = is in cc)
one_fields_reading fields Empty Skip is also = absurd (let a = also.are in let b = is in cc)
one_fields_reading fields Empty Empty is also = refl
