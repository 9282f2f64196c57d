-- What a store to a message leaves there: a read gives back what was stored. What a store leaves depends on as many low
-- bits of the number as its place has.
use Rattle.std.proofs.Common.{◌≡◌, ℕ, zero, suc, ◌+◌, ◌-◌, ◌*◌, ◌/◌, ◌%◌, ◌^◌, ◌<◌, ◌≤◌, List, [], ◌∷◌, ◌++◌, length, take, drop, map, refl, sym, ap, ◌∙◌, subst, arith, length-take}
use Rattle.std.specs.Prelude.{ℤ, pos, if◌then◌else◌, min, nat_le, unsigned_abs}
use Rattle.std.specs.Int.{int_rem_euclid}
use Rattle.std.proofs.lemmas.List.{drop-take, drop-map, take-map, length-map}
use Rattle.std.proofs.lemmas.Nat.{pow-add, pow_pos}
use Rattle.std.proofs.Math.Nat.{mod-eq_of_lt}
use Rattle.std.proofs.Math.Seq.{drop-append_seam, take-append_seam, take-length}
use Rattle.int_kinds.specs.declared.kinds.Kind.{Kind}
use Rattle.int_kinds.specs.declared.kinds.Kind.TheVariants.{Byte, Word, Dword, Qword, Int, Long, Int64, Char}
use Rattle.int_kinds.specs.Arithmetic.{residue}
use Rattle.int_kinds.specs.Congruent.{Congruent}
use Rattle.int_kinds.specs.Kind.{Holds, width, wrap}
use Rattle.int_kinds.proofs.Congruence.{Congruent-abs_rem, Congruent-divisor, Congruent-trans, rem_below, rem_of_congruent}
use Rattle.int_kinds.proofs.Values.{residue-wrap, wrap-wrap_wider}
use Rattle.int_kinds.proofs.Wrapping.{Congruent-residue, Congruent-wrap, wrap_same}
use Rattle.signal_codec.specs.declared.layout.Layout.{Layout}
use Rattle.signal_codec.specs.Signal.{bit_numbers, payload_with, payload_with_bits}
use Rattle.message_cells.specs.Message.{IsMessage, bytes_of, bytes_of_number, message_kinds, number_at, number_of_bytes, size, with_bytes}
use Rattle.message_cells.proofs.MessageLemmas.{message_within}
use Rattle.bytecode.specs.Runs.{HoldKinds}
use Rattle.bytecode.proofs.ListItems.{drop-drop, take-take}
use Rattle.bytecode.proofs.MessageCells.{AreBytes, AreBytes-bytes_of, length-bytes_of, length-payload}
use Rattle.bytecode.proofs.ZippedLists.{AllZip-same_length}
use Rattle.typed_tree.specs.Memory.{kind_of, payload_at, written_field}

-- ---- bytes of a payload

-- bytes that were put in cells are read as they were
residues_back : (bytes : List ℕ) → AreBytes bytes → map (residue Byte) (map pos bytes) ≡ bytes
residues_back [] h = refl
residues_back (b ∷ bytes) h =
    let same : residue Byte (pos b) ≡ b = mod-eq_of_lt h.0 in
    ap (λ n. n ∷ map (residue Byte) (map pos bytes)) same ∙ ap (λ ns. b ∷ ns) (residues_back bytes h.1)

-- the items of a list from a place on, once items are put there
spliced : {A : Type 0} (xs new : List A) (from n to : ℕ) → n ≡ length new → from ≤ length xs →
    take n (drop from (take from xs ++ (new ++ drop to xs))) ≡ new
spliced xs new from n to e h =
    let long : length (take from xs) ≡ from = omega (arith, length-take from xs, h) in
    ap (λ k. take n (drop k (take from xs ++ (new ++ drop to xs)))) (sym long) ∙
    ap (take n) (drop-append_seam (take from xs) (new ++ drop to xs)) ∙ ap (λ k. take k (new ++ drop to xs)) e ∙
    take-append_seam new (drop to xs)

-- some bytes of the payload at a cell
payload_part : (cells : List ℤ) (at i n from : ℕ) → i + n ≤ 8 → from ≡ at + 6 + i →
    take n (drop i (payload_at cells at)) ≡ map (residue Byte) (take n (drop from cells))
payload_part cells at i n from h e =
    let rest : ℕ = 8 - i in
    let eight : i + rest ≡ 8 = omega (arith, h) in
    let eight_cells : drop 6 (take 14 (drop at cells)) ≡ take 8 (drop (at + 6) cells) =
    drop-take 6 8 (drop at cells) ∙ ap (take 8) (sym (drop-drop at 6 (at + 6) cells refl)) in
    let part : drop i (take 8 (drop (at + 6) cells)) ≡ take rest (drop from cells) =
    ap (λ k. drop i (take k (drop (at + 6) cells))) (sym eight) ∙ drop-take i rest (drop (at + 6) cells) ∙
    ap (take rest) (sym (drop-drop (at + 6) i from cells e)) in
    ap (take n) (drop-map (residue Byte) i (drop 6 (take 14 (drop at cells)))) ∙
    take-map (residue Byte) n (drop i (drop 6 (take 14 (drop at cells)))) ∙
    ap (map (residue Byte)) (ap (λ part. take n (drop i part)) eight_cells ∙ ap (take n) part ∙
    take-take n rest (drop from cells) (omega (arith, eight, h)))

-- bytes that are put in a payload are there then
pub bytes_back : (cells : List ℤ) (at i n : ℕ) (bytes : List ℕ) → at + 14 ≤ length cells → n ≡ length bytes → i + n ≤ 8 →
    AreBytes bytes → take n (drop i (payload_at (with_bytes at i bytes cells) at)) ≡ bytes
bytes_back cells at i n bytes there e h are =
    let from : ℕ = at + 6 + i in
    payload_part (with_bytes at i bytes cells) at i n from h refl ∙
    ap (map (residue Byte)) (spliced cells (map pos bytes) from n (from + length bytes) (e ∙ sym (length-map bytes pos)) (omega (arith, there, h))) ∙
    residues_back bytes are

-- a whole payload that is put in a message is there then
pub payload_back : (kinds : List Kind) (cells : List ℤ) (at : ℕ) (payload : List ℕ) → HoldKinds kinds cells → IsMessage kinds at →
    HoldKinds kinds (with_bytes at 0 payload cells) → length payload ≡ 8 → AreBytes payload →
    payload_at (with_bytes at 0 payload cells) at ≡ payload
payload_back kinds cells at payload held is after eight are =
    let there : at + 14 ≤ length cells = omega (arith, message_within kinds at is, AllZip-same_length Holds kinds cells held) in
    let new : List ℕ = payload_at (with_bytes at 0 payload cells) at in
    sym (take-length new) ∙ ap (λ k. take k new) (length-payload kinds (with_bytes at 0 payload cells) at after is) ∙
    bytes_back cells at 0 8 payload there (sym eight) (omega arith) are

-- ---- numbers of a kind in bytes

-- the bytes of a number spell it, where there are enough of them
spelled : (count n : ℕ) → n < 256 ^ count → number_of_bytes (bytes_of_number count n) ≡ n
spelled zero n h = omega (arith, h)
spelled (suc count) n h =
    let power : 256 ^ suc count ≡ 256 ^ count * 256 =
    ap (λ (z : ℕ). 256 ^ z) (let more : suc count ≡ count + 1 = omega arith in more) ∙ pow-add 256 count 1 in
    let fewer : n / 256 < 256 ^ count = omega (arith, h, power) in
    let parts : n % 256 + 256 * (n / 256) ≡ n = omega arith in
    ap (λ k. n % 256 + 256 * k) (spelled count (n / 256) fewer) ∙ parts

-- a kind's bytes have as many numbers as the kind
numbers_of_size : (k : Kind) → 2 ^ width k ≡ 256 ^ size k
numbers_of_size Byte = refl
numbers_of_size Word = refl
numbers_of_size Dword = refl
numbers_of_size Qword = refl
numbers_of_size Int = refl
numbers_of_size Long = refl
numbers_of_size Int64 = refl
numbers_of_size Char = refl

-- a kind has at least one byte
size_at_least : (k : Kind) → 1 ≤ size k
size_at_least Byte = omega arith
size_at_least Word = omega arith
size_at_least Dword = omega arith
size_at_least Qword = omega arith
size_at_least Int = omega arith
size_at_least Long = omega arith
size_at_least Int64 = omega arith
size_at_least Char = omega arith

-- a byte at which a number of a kind may begin leaves room for it
pub room_for : (k : Kind) (i : ℕ) → i < 9 - size k → i + size k ≤ 8
room_for k i h = omega (arith, h)

-- a number that is put in a payload is read as it is wrapped
pub number_back : (k : Kind) (cells : List ℤ) (at i : ℕ) (n : ℤ) → at + 14 ≤ length cells → i < 9 - size k →
    number_at k i (payload_at (with_bytes at i (bytes_of k n) cells) at) ≡ wrap k n
unfolding number_at bytes_of
number_back k cells at i n there h =
    let m : ℕ = 2 ^ width k in
    let word : ℕ = residue k n in
    let small : word < 256 ^ size k = subst (λ x. word < x) (numbers_of_size k) (rem_below m n (pow_pos (width k))) in
    ap (λ bytes. wrap k (pos (number_of_bytes bytes)))
    (bytes_back cells at i (size k) (bytes_of k n) there (sym (length-bytes_of k n)) (room_for k i h) (AreBytes-bytes_of k n)) ∙
    ap (λ x. wrap k (pos x)) (spelled (size k) word small) ∙ wrap_same k (pos word) n (Congruent-residue k n)

-- ---- a number that was wrapped to a kind that is no narrower before it is stored

-- a residue is the same
residue_wider : (j k : Kind) (n : ℤ) → width k ≤ width j → residue k (wrap j n) ≡ residue k n
residue_wider j k n h =
    sym (residue-wrap k (wrap j n)) ∙ ap (residue k) (wrap-wrap_wider j k n h) ∙ residue-wrap k n

-- the low bits are the same
low_bits : (j : Kind) (bits : ℕ) (n : ℤ) → bits ≤ width j →
    unsigned_abs (int_rem_euclid (wrap j n) (pos (2 ^ bits))) ≡ unsigned_abs (int_rem_euclid n (pos (2 ^ bits)))
low_bits j bits n h =
    let m : ℕ = 2 ^ bits in
    let more : ℕ = width j - bits in
    let split : more + bits ≡ width j = omega (arith, h) in
    let low : ℕ = unsigned_abs (int_rem_euclid (wrap j n) (pos m)) in
    let same : Congruent m (wrap j n) n =
    Congruent-divisor m (2 ^ more) (2 ^ width j) (wrap j n) n (ap (λ w. 2 ^ w) (sym split) ∙ pow-add 2 more bits) (Congruent-wrap j n) in
    sym (mod-eq_of_lt (rem_below m (wrap j n) (pow_pos bits))) ∙
    rem_of_congruent m low n (pow_pos bits) (Congruent-trans m (pos low) (wrap j n) n (Congruent-abs_rem m (wrap j n) (pow_pos bits)) same)

-- the bytes of a number are the same
pub bytes_wider : (j k : Kind) (n : ℤ) → width k ≤ width j → bytes_of k (wrap j n) ≡ bytes_of k n
unfolding bytes_of
bytes_wider j k n h = ap (bytes_of_number (size k)) (residue_wider j k n h)

-- a payload with a signal set is the same
pub payload_wider : (j : Kind) (l : Layout) (payload : List ℕ) (n : ℤ) → l.len ≤ width j → payload_with l payload (wrap j n) ≡ payload_with l payload n
unfolding payload_with
payload_wider j l payload n h = ap (payload_with_bits payload (bit_numbers l)) (low_bits j l.len n h)

-- what the write rule of a field makes of it is the same
pub field_wider : (j : Kind) (field : ℕ) (n : ℤ) → field ≤ 3 → width (kind_of message_kinds field) ≤ width j →
    written_field field (wrap j n) ≡ written_field field n
field_wider j zero n small h =
    ap (λ (r : ℕ). pos (if nat_le (2 ^ 31) r then 2 ^ 31 + r % 2 ^ 29 else r % 2 ^ 11)) (residue_wider j Dword n h)
field_wider j (suc zero) n small h = ap (λ r. pos (min r 8)) (residue_wider j Byte n h)
field_wider j (suc (suc zero)) n small h = ap (λ r. pos (min r 1)) (residue_wider j Byte n h)
field_wider j (suc (suc (suc zero))) n small h = ap pos (residue_wider j Word n h)
field_wider j (suc (suc (suc (suc field)))) n small h = absurd (omega (arith, small))
