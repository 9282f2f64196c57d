-- The message that a frame is, and the frame of a message.
use Rattle.std.proofs.Common.{◌≡◌, ◌<◌, ◌≤◌, ◌+◌, ◌-◌, ◌/◌, ◌%◌, ◌^◌, ℕ, zero, suc, Bool, true, false, cond, not, List, [], ◌∷◌, ◌++◌, length, map, take, drop, replicate, get_or, refl, sym, ap, ◌∙◌, subst, ◌==◌, arith}
use Rattle.std.specs.Prelude.{ℤ, pos, if◌then◌else◌}
use Rattle.std.specs.Int.{cast_signed, cast_unsigned, w128}
use Rattle.std.proofs.lemmas.Int.{ints}
use Rattle.std.proofs.lemmas.List.{get_or-drop, get_or-map, get_or-take}
use Rattle.std.proofs.Math.Nat.{mod-eq_of_lt}
use Rattle.can_frame.specs.declared.Ident.{Ident}
use Rattle.can_frame.specs.declared.Ident.TheVariants.{Std, Ext}
use Rattle.can_frame.specs.Frame.{FrameFields, IsFrame, IsIdent, data_len, data_len_of, padded}
use Rattle.int_kinds.specs.declared.kinds.Kind.TheVariants.{Byte, Word, Dword}
use Rattle.int_kinds.specs.Arithmetic.{residue}
use Rattle.int_kinds.specs.Kind.{Holds}
use Rattle.message_cells.specs.Message.{field_number, frame_of, id_of, ident_of, is_remote, message_kinds, payload_of, written_dlc, written_id, written_rtr}
use Rattle.message_cells.proofs.Identifiers.{ident_of-written_id}
use Rattle.bytecode.specs.Runs.{HoldKinds}
use Rattle.stack_vm.specs.Frame.{message_of}
use Rattle.stack_vm.proofs.NumberLemmas.{Holds-byte, read_back_byte, read_back_word}

-- ---- the message of a frame

-- a word of 32 bits, as it stands in a cell
pub word_in_cell : (r : ℤ) (n : ℕ) → r ≡ pos n → n < 2 ^ 32 → cast_signed w128 (cast_unsigned w128 r) ≡ pos n
word_in_cell r n e h = ap (λ (z : ℤ). cast_signed w128 (cast_unsigned w128 z)) e ∙ read_back_word n h

-- a byte of a list, as it stands in a cell
pub byte_in_cell : (cells : List ℤ) (bytes : List ℕ) → cells ≡ map pos bytes → length bytes ≡ 8 → ((k : ℕ) → get_or bytes k 0 < 256) → (i : ℕ) → i < 8 →
    cast_signed w128 (cast_unsigned w128 (get_or cells i (pos 0))) ≡ pos (get_or bytes i 0)
byte_in_cell cells bytes e n small i h =
    ap (λ (z : ℤ). cast_signed w128 (cast_unsigned w128 z)) (ap (λ (zs : List ℤ). get_or zs i (pos 0)) e ∙ get_or-map pos bytes i 0 (pos 0) (omega (arith, n, h)))
    ∙ read_back_byte (get_or bytes i 0) (small i)

-- an identifier's number is below 2^32
pub id_of-lt : (ident : Ident) → IsIdent ident → id_of ident < 2 ^ 32
id_of-lt (Std id) h = omega (arith, h)
id_of-lt (Ext id) h = omega (arith, h)

bit-held : (b : Bool) → Holds Byte (pos (if b then 1 else 0))
bit-held true = record { at_least = omega (arith, ints); at_most = omega (arith, ints) }
bit-held false = record { at_least = omega (arith, ints); at_most = omega (arith, ints) }

bytes-held : (bytes : List ℕ) → ((k : ℕ) → get_or bytes k 0 < 256) → HoldKinds (replicate (length bytes) Byte) (map pos bytes)
bytes-held [] h = tt
bytes-held (b ∷ bytes) h = (Holds-byte b (h 0), bytes-held bytes (λ k. h (suc k)))

-- the cells of a frame's message hold numbers of their kinds
pub HoldKinds-message : (f : FrameFields) (sent : Bool) (now : ℕ) → IsFrame f → HoldKinds message_kinds (message_of f sent now)
HoldKinds-message f sent now is =
    let id : Holds Dword (pos (id_of f.ident)) = record { at_least = omega (arith, ints); at_most = omega (arith, ints, id_of-lt f.ident is.ident_in_range) } in
    let dlc : Holds Byte (pos f.dlc) = Holds-byte f.dlc (omega (arith, is.dlc_in_range)) in
    let can : Holds Word (pos f.can) = record { at_least = omega (arith, ints); at_most = omega (arith, ints, is.can_to_two) } in
    let time : Holds Dword (pos (now / 10 % 2 ^ 32)) = record { at_least = omega (arith, ints); at_most = omega (arith, ints) } in
    let bytes = subst (λ (n : ℕ). HoldKinds (replicate n Byte) (map pos f.payload)) is.eight_bytes (bytes-held f.payload is.bytes) in
    (id, (dlc, (bit-held f.remote, (can, (bit-held sent, (time, bytes))))))

-- ---- the frame of a message

-- how many data bytes a frame with a message's remote bit and length has
pub data_len_same : (f : FrameFields) (message : List ℤ) → f.remote ≡ is_remote message → f.dlc ≡ written_dlc (field_number message 1) →
    data_len f ≡ data_len_of (is_remote message) (written_dlc (field_number message 1))
data_len_same f message r d =
    ap (λ (b : Bool). data_len_of b f.dlc) r ∙ ap (λ (n : ℕ). data_len_of (is_remote message) n) d

-- a frame with the fields of a message is the message's frame
pub frame_same : (f : FrameFields) (message : List ℤ) → f.ident ≡ ident_of (written_id (field_number message 0)) →
    f.remote ≡ is_remote message → f.dlc ≡ written_dlc (field_number message 1) →
    f.payload ≡ padded (data_len f) (payload_of message) → f.can ≡ 1 → f ≡ frame_of message
frame_same f message i r d p c =
    let p' : f.payload ≡ padded (data_len_of (is_remote message) (written_dlc (field_number message 1))) (payload_of message) = p ∙ ap (λ (n : ℕ). padded n (payload_of message)) (data_len_same f message r d) in
    ap (λ (ident : Ident). record f { ident = ident }) i
    ∙ ap (λ (b : Bool). record f { ident = ident_of (written_id (field_number message 0)); remote = b }) r
    ∙ ap (λ (n : ℕ). record (frame_of message) { dlc = n; payload = f.payload; can = f.can }) d
    ∙ ap (λ (bytes : List ℕ). record (frame_of message) { payload = bytes; can = f.can }) p'
    ∙ ap (λ (n : ℕ). record (frame_of message) { can = n }) c

-- the number in a message's cell is the number in one of the cells
pub field_at : (cells : List ℤ) (at i : ℕ) → i < 14 → get_or cells (at + i) (pos 0) ≡ field_number (take 14 (drop at cells)) i
field_at cells at i h = sym (get_or-take 14 (drop at cells) i (pos 0) h ∙ get_or-drop at cells i (pos 0))

-- ---- the frame of a frame's message

remote_written : (b : Bool) → b ≡ not (written_rtr (pos (if b then 1 else 0)) == 0)
remote_written true = refl
remote_written false = refl

dlc_written : (n : ℕ) → n ≤ 8 → n ≡ written_dlc (pos n)
dlc_written n h = omega (arith, h)

bytes_back : (bytes : List ℕ) → ((k : ℕ) → get_or bytes k 0 < 256) → bytes ≡ map (residue Byte) (map pos bytes)
bytes_back [] h = refl
bytes_back (b ∷ bytes) h =
    let small : b % 256 ≡ b = mod-eq_of_lt (h 0) in
    ap (λ (n : ℕ). n ∷ bytes) (sym small) ∙ ap (λ (ns : List ℕ). b % 256 ∷ ns) (bytes_back bytes (λ k. h (suc k)))

zeros : (bytes : List ℕ) → ((k : ℕ) → get_or bytes k 0 ≡ 0) → bytes ≡ replicate (length bytes) 0
zeros [] h = refl
zeros (b ∷ bytes) h = ap (λ (n : ℕ). n ∷ bytes) (h 0) ∙ ap (λ (ns : List ℕ). 0 ∷ ns) (zeros bytes (λ k. h (suc k)))

padded_whole : (n : ℕ) (bytes : List ℕ) → n ≤ length bytes → ((k : ℕ) → n ≤ k → get_or bytes k 0 ≡ 0) → bytes ≡ take n bytes ++ replicate (length bytes - n) 0
padded_whole zero bytes h z = zeros bytes (λ k. z k (omega arith)) ∙ ap (λ (k : ℕ). replicate k 0) (let same : length bytes ≡ length bytes - 0 = omega arith in same)
padded_whole (suc n) [] h z = absurd (omega arith)
padded_whole (suc n) (b ∷ bytes) h z =
    let less : length bytes - n ≡ suc (length bytes) - suc n = omega arith in
    ap (λ (ns : List ℕ). b ∷ ns) (padded_whole n bytes (omega arith) (λ k g. z (suc k) (omega arith))
    ∙ ap (λ (k : ℕ). take n bytes ++ replicate k 0) less)

few : (f : FrameFields) → f.dlc ≤ 8 → (b : Bool) → cond b 0 f.dlc ≤ 8
few f h true = omega arith
few f h false = h

-- the frame of a frame's message is that frame, on channel 1
pub frame_of-message_of : (f : FrameFields) (sent : Bool) (now : ℕ) → IsFrame f → frame_of (message_of f sent now) ≡ record f { can = 1 }
frame_of-message_of f sent now is =
    let n : ℕ = data_len f in
    let within : n ≤ length f.payload = omega (arith, few f is.dlc_in_range f.remote, is.eight_bytes) in
    let whole : f.payload ≡ padded n f.payload =
    padded_whole n f.payload within is.zeros_past ∙ ap (λ (k : ℕ). take n f.payload ++ replicate (k - n) 0) is.eight_bytes in
    sym (frame_same (record f { can = 1 }) (message_of f sent now) (sym (ident_of-written_id f.ident is.ident_in_range)) (remote_written f.remote)
    (dlc_written f.dlc is.dlc_in_range) (whole ∙ ap (padded n) (bytes_back f.payload is.bytes)) refl)
