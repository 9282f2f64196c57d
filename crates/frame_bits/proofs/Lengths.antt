-- The length of a frame.
use Rattle.std.proofs.Common.{◌≡◌, ℕ, ◌+◌, ◌*◌, ◌/◌, ◌^◌, ◌<◌, ◌≤◌, Bool, true, false, not, cond, List, [], ◌∷◌, ◌++◌, length, take, refl, sym, ap, ◌∙◌, inl, inr, arith, length-append, length-take}
use Rattle.std.proofs.lemmas.Bool.{cases_lt}
use Rattle.can_frame.specs.declared.Ident.{Ident}
use Rattle.can_frame.specs.declared.Ident.TheVariants.{Std, Ext}
use Rattle.can_frame.specs.Frame.{field_bits, number_of, FrameFields, IsFrame, data_len}
use Rattle.can_frame.proofs.BitLists.{length-field_bits}
use Rattle.can_frame.proofs.Payload.{data_len-le}
use Rattle.frame_bits.specs.Length.{header_bits, data_bits, covered_bits, crc_bits, stuffing_of, unstuffed_bits, IsFrameLength, frame_length, is_extended, unstuffed_len, worst_length, BoundsLengths}
use Rattle.frame_bits.specs.Inside.Stuffing.{run_with, stuffing_behind}
use Rattle.frame_bits.proofs.CrcSteps.{length-crc_bits, crc_field}
use Rattle.frame_bits.proofs.Runs.{run_with-le, run_with-positive, run_with-more, run_with-own, stuffing_behind-run, stuffing_behind-more, length-stuffing_behind, stuffing_of-is}
use Rattle.frame_bits.proofs.OneStuffing.{HasOneStuffing-all}

-- ---- the pieces that the code puts together
-- header and data as the code has them are the bits that the CRC covers
pub covered-is : (f : FrameFields) (header : List Bool) (len : ℕ) (payload : List ℕ) → header ≡ header_bits f.ident f.remote f.dlc → len ≡ data_len f → payload ≡ f.payload → header ++ data_bits (take len payload) ≡ covered_bits f
covered-is f header len payload e q r =
    ap (λ h. h ++ data_bits (take len payload)) e
    ∙ ap (λ n. header_bits f.ident f.remote f.dlc ++ data_bits (take n payload)) q
    ∙ ap (λ p. header_bits f.ident f.remote f.dlc ++ data_bits (take (data_len f) p)) r

-- the field of fifteen bits that the code makes of the CRC's number
pub crc_piece : (bits : List Bool) (width number : ℕ) → width ≡ 15 → number ≡ number_of (crc_bits bits) → field_bits width number ≡ crc_bits bits
crc_piece bits width number w e = ap (λ k. field_bits k number) w ∙ ap (field_bits 15) e ∙ crc_field bits

-- ---- the length as a relation and as a function
-- the length as a function of the frame
pub frame_length-is : (f : FrameFields) → frame_length f ≡ length (stuffing_of (unstuffed_bits f)) + 10
unfolding frame_length
frame_length-is f = refl

-- it is a length of the frame
pub IsFrameLength-frame_length : (f : FrameFields) → IsFrameLength f (frame_length f)
IsFrameLength-frame_length f = record {
  bits = stuffing_of (unstuffed_bits f);
  stuffing = (HasOneStuffing-all (unstuffed_bits f)).is_one;
  sum = frame_length-is f;
}

-- and the only one
pub frame_length-only : (f : FrameFields) (n : ℕ) → IsFrameLength f n → n ≡ frame_length f
frame_length-only f n is =
    is.sum ∙ ap (λ s. length s + 10) ((HasOneStuffing-all (unstuffed_bits f)).no_other is.bits is.stuffing) ∙ sym (frame_length-is f)

-- ---- how many stuff bits there can be
-- behind a run of k bits the first stuff bit needs 5 - k bits, each further one four
length-behind : (bits : List Bool) (x : Bool) (k : ℕ) → 0 < k → k < 5 → 4 * length (stuffing_behind x k bits) + 1 ≤ 5 * length bits + k
length-behind [] x k low h = omega arith
length-behind (b ∷ bits) x k low h =
    elim (cases_lt (run_with x k b) 5) [
      | inl less ↦
          let grown : length (stuffing_behind x k (b ∷ bits)) ≡ length (stuffing_behind b (run_with x k b) bits) + 1 =
          ap length (stuffing_behind-more x b k bits less) ∙ omega arith in
          omega (arith, grown, length-behind bits b (run_with x k b) (run_with-positive x b k) less, run_with-more x b k)
      | inr full ↦
          let five : run_with x k b ≡ 5 = omega (arith, run_with-le x b k h, full) in
          let grown : length (stuffing_behind x k (b ∷ bits)) ≡ length (stuffing_behind (not b) 1 bits) + 2 =
          ap length (stuffing_behind-run x b k bits five) ∙ omega arith in
          omega (arith, grown, length-behind bits (not b) 1 (omega arith) (omega arith), five, run_with-more x b k)
    ]

-- at most one stuff bit for each four bits behind the first
pub length-stuffing_of : (bits : List Bool) → 0 < length bits → 4 * length (stuffing_of bits) + 1 ≤ 5 * length bits
length-stuffing_of [] h = absurd (omega (arith, h))
length-stuffing_of (b ∷ bits) h =
    let one : run_with b 0 b ≡ 1 = run_with-own b 0 in
    let grown : length (stuffing_of (b ∷ bits)) ≡ length (stuffing_behind b 1 bits) + 1 =
    ap length (stuffing_of-is b (b ∷ bits) ∙ stuffing_behind-more b b 0 bits (omega (arith, one)) ∙ ap (λ n. b ∷ stuffing_behind b n bits) one) ∙ omega arith in
    omega (arith, grown, length-behind bits b 1 (omega arith) (omega arith))

-- ---- how many bits stand before stuffing
length-header_bits : (i : Ident) (remote : Bool) (dlc : ℕ) → length (header_bits i remote dlc) ≡ cond (is_extended i) 39 19
length-header_bits (Std n) remote dlc =
    rw (length-append (field_bits 11 n), length-field_bits 11 n, length-field_bits 4 dlc) refl
length-header_bits (Ext n) remote dlc =
    rw (length-append (field_bits 11 (n / 2 ^ 18) ++ true ∷ true ∷ field_bits 18 n), length-append (field_bits 11 (n / 2 ^ 18)), length-field_bits 11 (n / 2 ^ 18), length-field_bits 18 n, length-field_bits 4 dlc)
    refl

length-data_bits : (bytes : List ℕ) → length (data_bits bytes) ≡ 8 * length bytes
length-data_bits [] = refl
length-data_bits (b ∷ bytes) = omega (arith, length-append (field_bits 8 b) (data_bits bytes), length-field_bits 8 b, length-data_bits bytes)

least_header : (extended : Bool) → 19 ≤ cond extended 39 19
least_header true = omega arith
least_header false = omega arith

longer_header : (extended : Bool) → cond extended 39 19 + 15 ≡ cond extended 54 34
longer_header true = refl
longer_header false = refl

-- a frame has 34 bits at least from SOF to the CRC
pub least_unstuffed : (f : FrameFields) → 34 ≤ length (unstuffed_bits f)
least_unstuffed f =
    let header : List Bool = header_bits f.ident f.remote f.dlc in
    omega (arith, length-append (covered_bits f) (crc_bits (covered_bits f)), length-crc_bits (covered_bits f), length-append header (data_bits (take (data_len f) f.payload)), length-header_bits f.ident f.remote f.dlc, least_header (is_extended f.ident))

-- and at most those of its format with its data
pub length-unstuffed_bits : (f : FrameFields) → length (unstuffed_bits f) ≤ unstuffed_len (is_extended f.ident) (data_len f)
length-unstuffed_bits f =
    let header : List Bool = header_bits f.ident f.remote f.dlc in
    let sent : List ℕ = take (data_len f) f.payload in
    omega (arith, length-append (covered_bits f) (crc_bits (covered_bits f)), length-crc_bits (covered_bits f), length-append header (data_bits sent), length-header_bits f.ident f.remote f.dlc, length-data_bits sent, length-take (data_len f) f.payload, longer_header (is_extended f.ident))

-- the worst length bounds all lengths
pub BoundsLengths-worst : (extended : Bool) (bytes : ℕ) → BoundsLengths extended bytes (worst_length (unstuffed_len extended bytes))
BoundsLengths-worst extended bytes f n form few is =
    let u : ℕ = length (unstuffed_bits f) in
    let sum : n ≡ length (stuffing_of (unstuffed_bits f)) + 10 = frame_length-only f n is ∙ frame_length-is f in
    let fits : u ≤ cond extended 54 34 + 8 * bytes =
    omega (arith, length-unstuffed_bits f, ap (λ e. unstuffed_len e 0) form, few) in
    omega (arith, sum, fits, length-stuffing_of (unstuffed_bits f) (omega (arith, least_unstuffed f)))

-- ---- the range of all lengths
-- the least length
pub frame_length-least : (f : FrameFields) → 44 ≤ frame_length f
frame_length-least f =
    let kept : length (unstuffed_bits f) ≤ length (stuffing_of (unstuffed_bits f)) =
    omega (arith, length-stuffing_behind (unstuffed_bits f) false 0 (omega arith), ap length (stuffing_of-is false (unstuffed_bits f))) in
    omega (arith, frame_length-is f, kept, least_unstuffed f)

most : (extended : Bool) → worst_length (unstuffed_len extended 8) ≤ 157
most true = omega arith
most false = omega arith

-- the greatest length
pub frame_length-most : (f : FrameFields) → IsFrame f → frame_length f ≤ 157
frame_length-most f is =
    omega (arith, BoundsLengths-worst (is_extended f.ident) 8 f (frame_length f) refl (omega (arith, data_len-le f, is.dlc_in_range)) (IsFrameLength-frame_length f), most (is_extended f.ident))
