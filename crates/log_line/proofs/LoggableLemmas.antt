-- A frame that a line spells is one that a line can carry.
use Rattle.std.proofs.Common.{◌≡◌, ℕ, ◌+◌, ◌-◌, ◌<◌, ◌≤◌, inl, inr, Bool, true, false, List, [], ◌∷◌, ◌++◌, length, replicate, refl, ap, ◌∙◌, arith, length-append}
use Rattle.std.specs.Prelude.{All, ◌⊎◌, slice_index}
use Rattle.std.proofs.lemmas.Bool.{cases_lt}
use Rattle.std.proofs.lemmas.List.{length-replicate, get_or-replicate, get_or_append_left, get_or_past, get_or-append_right}
use Rattle.std.proofs.lemmas.List.Elements.{All-nil, All-cons, All-get_or}
use Rattle.text_parts.specs.Number.{IsHexDigit}
use Rattle.can_frame.specs.Frame.{FrameFields, data_len_of}
use Rattle.log_line.specs.Reading.{IsPair, SpellsBytes, SpellsCode, SpellsData, SpellsFrame, AreEntry}
use Rattle.log_line.specs.Written.{IsLoggable}
use Rattle.log_line.specs.declared.line.Entry.{Entry}
use Rattle.log_line.proofs.NumberBounds.{hexadecimal_lt}

-- a number of 8 bits
abbrev IsByte : ℕ → Type 0
IsByte byte = byte < 256

pair_below : (text : List ℕ) (byte : ℕ) (behind : List ℕ) → IsPair text byte behind → IsByte byte
pair_below text byte behind pair =
    let digits = All-cons IsHexDigit pair.high (pair.low ∷ []) pair.high_is (All-cons IsHexDigit pair.low [] pair.low_is (All-nil IsHexDigit)) in
    let low = hexadecimal_lt (pair.high ∷ pair.low ∷ []) 2 digits (omega arith) in
    let is = pair.is in
    omega (arith, low, is)

bytes_below : (bytes text : List ℕ) → SpellsBytes text bytes → All IsByte bytes
bytes_below [] text spells = All-nil IsByte
bytes_below (byte ∷ bytes) text spells = All-cons IsByte byte bytes (pair_below text byte (spells.0 ++ spells.1) spells.2) (bytes_below bytes spells.1 spells.4)

zero_at : (count k : ℕ) → slice_index (replicate count 0) k ≡ 0
zero_at count k = elim (cases_lt k count) [
  | inl within ↦ get_or-replicate count k 0 0 within
  | inr past ↦ get_or_past (replicate count 0) k 0 (omega (arith, past, length-replicate {A = ℕ} count 0))
]

zero_past : (bytes : List ℕ) (count k : ℕ) → length bytes ≤ k → slice_index (bytes ++ replicate count 0) k ≡ 0
zero_past bytes count k past = get_or-append_right bytes (replicate count 0) (length bytes) k 0 refl past ∙ zero_at count (k - length bytes)

-- a byte of a payload: one of those that are spelled, or a 0 behind them
payload_at : (bytes : List ℕ) (count k : ℕ) → ((k < length bytes) × (slice_index (bytes ++ replicate count 0) k ≡ slice_index bytes k)) ⊎ ((length bytes ≤ k) × (slice_index (bytes ++ replicate count 0) k ≡ 0))
payload_at bytes count k = elim (cases_lt k (length bytes)) [
  | inl within ↦ inl (within, get_or_append_left bytes (replicate count 0) 0 k within)
  | inr past ↦ inr (past, zero_past bytes count k past)
]

-- what data comes to in a frame
record CarriesWell (remote : Bool) (dlc : ℕ) (payload : List ℕ) : Type 0 where
  dlc_in_range : dlc ≤ 8
  eight_bytes : length payload ≡ 8
  bytes : (k : ℕ) → slice_index payload k < 256
  zeros_past : (k : ℕ) → data_len_of remote dlc ≤ k → slice_index payload k ≡ 0

byte_at : (bytes : List ℕ) (k found inside : ℕ) → All IsByte bytes → found ≡ inside → ((k < length bytes) × (inside ≡ slice_index bytes k)) ⊎ ((length bytes ≤ k) × (inside ≡ 0)) → IsByte found
byte_at bytes k found inside small at (inl (within, same)) =
    let low : slice_index bytes k < 256 = All-get_or IsByte bytes k 0 within small in
    omega (arith, low, at, same)
byte_at bytes k found inside small at (inr (past, none)) = omega (arith, at, none)

carries_bytes : (dlc : ℕ) (payload bytes : List ℕ) → All IsByte bytes → dlc ≡ length bytes → dlc ≤ 8 → payload ≡ bytes ++ replicate (8 - dlc) 0 → CarriesWell false dlc payload
carries_bytes dlc payload bytes small count few is = record {
  dlc_in_range = few;
  eight_bytes = ap (λ l. length l) is ∙ length-append bytes (replicate (8 - dlc) 0) ∙ ap (λ n. length bytes + n) (length-replicate {A = ℕ} (8 - dlc) 0) ∙ omega (arith, count, few);
  bytes = λ k.
      let at : slice_index payload k ≡ slice_index (bytes ++ replicate (8 - dlc) 0) k = ap (λ l. slice_index l k) is in
      byte_at bytes k (slice_index payload k) (slice_index (bytes ++ replicate (8 - dlc) 0) k) small at (payload_at bytes (8 - dlc) k);
  zeros_past = λ k far. ap (λ l. slice_index l k) is ∙ zero_past bytes (8 - dlc) k (omega (arith, far, count));
}

code_in_range : (text : List ℕ) (dlc : ℕ) → SpellsCode text dlc → dlc ≤ 8
code_in_range text dlc (inl (none, is)) = omega (arith, is)
code_in_range text dlc (inr (digit, one, low, high, is)) = omega (arith, is, high)

carries_well : (text : List ℕ) (remote : Bool) (dlc : ℕ) (payload : List ℕ) → SpellsData text remote dlc payload → CarriesWell remote dlc payload
carries_well text false dlc payload (bytes, spells, count, few, is) = carries_bytes dlc payload bytes (bytes_below bytes text spells) count few is
carries_well text true dlc payload (code, whole, spells, is) = record {
  dlc_in_range = code_in_range code dlc spells;
  eight_bytes = ap (λ l. length l) is ∙ length-replicate {A = ℕ} 8 0;
  bytes = λ k. let none : slice_index payload k ≡ 0 = ap (λ l. slice_index l k) is ∙ zero_at 8 k in omega (arith, none);
  zeros_past = λ k far. ap (λ l. slice_index l k) is ∙ zero_at 8 k;
}

-- a frame that is spelled can be carried
spelled_loggable : (field : List ℕ) (frame : FrameFields) → SpellsFrame field frame → IsLoggable frame
spelled_loggable field frame spells =
    let carries = carries_well spells.behind frame.remote frame.dlc frame.payload spells.carries in
    let channel = spells.channel in
    record {
      valid = record {
        ident_in_range = spells.ident.in_range;
        dlc_in_range = carries.dlc_in_range;
        can_from_one = omega (arith, channel);
        can_to_two = omega (arith, channel);
        eight_bytes = carries.eight_bytes;
        bytes = carries.bytes;
        zeros_past = carries.zeros_past;
      };
      channel = channel;
    }

-- so can that of an entry
pub entry_loggable : (fields : List (List ℕ)) (entry : Entry) → AreEntry fields entry → IsLoggable entry.frame
entry_loggable fields entry are = spelled_loggable are.frame entry.frame are.is_frame
