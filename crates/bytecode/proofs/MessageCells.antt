-- The cells of a message: which kinds they have, and what may be put in them.
use Rattle.std.proofs.Common.{◌≡◌, ◌≤◌, ◌<◌, ◌+◌, ◌-◌, ◌^◌, ◌%◌, ◌/◌, ℕ, zero, suc, true, List, [], ◌∷◌, ◌++◌, length, take, drop, map, replicate, slice_get, get_or, Some, refl, sym, ap, ◌∙◌, subst, arith, inl, inr, lit<, length-take, length-drop}
use Rattle.std.specs.Prelude.{ℤ, pos, nat_le}
use Rattle.std.specs.List.{AllZip, AllByRecursion}
use Rattle.std.proofs.lemmas.Bool.Decides.{leb_tells}
use Rattle.std.proofs.lemmas.Int.{ints}
use Rattle.std.proofs.lemmas.List.{drop-take, drop-replicate, take-replicate, length-map}
use Rattle.int_kinds.specs.declared.kinds.Kind.{Kind}
use Rattle.int_kinds.specs.declared.kinds.Kind.TheVariants.{Byte}
use Rattle.int_kinds.specs.Kind.{Holds, width}
use Rattle.int_kinds.specs.Arithmetic.{residue}
use Rattle.int_kinds.proofs.Congruence.{rem_below}
use Rattle.signal_codec.specs.declared.layout.Layout.{Layout}
use Rattle.signal_codec.specs.Signal.{IsUsable, payload_with}
use Rattle.signal_codec.proofs.Payloads.{IsPayload, IsPayload-payload_with}
use Rattle.message_cells.specs.Message.{IsMessage, bytes_of, bytes_of_number, message_at, message_kinds, payload_of, size}
use Rattle.message_cells.proofs.MessageLemmas.{message_within}
use Rattle.bytecode.specs.Runs.{HoldKinds}
use Rattle.bytecode.proofs.ListItems.{drop-drop, slice_get-drop, slice_get-take, take-take}
use Rattle.bytecode.proofs.ZippedLists.{AllZip-same_length, AllZip-splice, AllZip-take, AllZip-drop}

-- ---- the kinds of a message's cells

-- the kind of a message's cell
pub message_kind : (kinds : List Kind) (at i cell : ℕ) (k : Kind) → IsMessage kinds at → i < 14 → cell ≡ at + i →
    slice_get message_kinds i ≡ Some k → slice_get kinds cell ≡ Some k
message_kind kinds at i cell k is h e there =
    slice_get-drop at i cell kinds e ∙ sym (slice_get-take 14 i (drop at kinds) h) ∙ ap (λ ks. slice_get ks i) is ∙ there

-- the kinds of some neighbouring bytes of a message's payload
pub payload_kinds : (kinds : List Kind) (at i n from : ℕ) → IsMessage kinds at → i + n ≤ 8 → from ≡ at + 6 + i →
    take n (drop from kinds) ≡ replicate n Byte
payload_kinds kinds at i n from is h e =
    let moved : drop from kinds ≡ drop (6 + i) (drop at kinds) = drop-drop at (6 + i) from kinds (omega arith) in
    let front : take (6 + i + n) (drop at kinds) ≡ take (6 + i + n) message_kinds =
    sym (take-take (6 + i + n) 14 (drop at kinds) (omega arith)) ∙ ap (take (6 + i + n)) is in
    let bytes : drop (6 + i) message_kinds ≡ replicate (8 - i) Byte = drop-drop 6 i (6 + i) message_kinds refl ∙ drop-replicate i 8 Byte in
    ap (take n) moved ∙ sym (drop-take (6 + i) n (drop at kinds)) ∙ ap (drop (6 + i)) front ∙ drop-take (6 + i) n message_kinds ∙ ap (take n) bytes
    ∙ take-replicate n (8 - i) Byte (omega arith)

-- ---- what may be put in them

-- bytes
abbrev pub AreBytes : List ℕ → Type 0
AreBytes = AllByRecursion (λ byte. byte < 256)

Holds-byte : (n : ℕ) → n < 256 → Holds Byte (pos n)
Holds-byte n h = record { at_least = omega (arith, ints); at_most = omega (arith, ints) }

Holds-bytes : (n : ℕ) (bytes : List ℕ) → n ≡ length bytes → AreBytes bytes → AllZip Holds (replicate n Byte) (map pos bytes)
Holds-bytes zero [] e h = tt
Holds-bytes zero (b ∷ bytes) e h = absurd (cc)
Holds-bytes (suc n) [] e h = absurd (cc)
Holds-bytes (suc n) (b ∷ bytes) e h = (Holds-byte b h.0, Holds-bytes n bytes (cc) h.1)

-- bytes may be put in a message's payload
pub HoldKinds-bytes : (kinds : List Kind) (cells : List ℤ) (at i : ℕ) (bytes : List ℕ) → HoldKinds kinds cells → IsMessage kinds at →
    i + length bytes ≤ 8 → AreBytes bytes →
    HoldKinds kinds (take (at + 6 + i) cells ++ (map pos bytes ++ drop (at + 6 + i + length bytes) cells))
HoldKinds-bytes kinds cells at i bytes held is h b =
    let n : length (map pos bytes) ≡ length bytes = length-map bytes pos in
    let there : take (length (map pos bytes)) (drop (at + 6 + i) kinds) ≡ replicate (length (map pos bytes)) Byte =
    payload_kinds kinds at i (length (map pos bytes)) (at + 6 + i) is (omega (arith, n)) refl in
    AllZip-splice Holds (at + 6 + i) (at + 6 + i + length bytes) kinds cells (map pos bytes) (omega (arith, n)) held
    (subst (λ ks. AllZip Holds ks (map pos bytes)) (sym there) (Holds-bytes (length (map pos bytes)) bytes n b))

-- a message may be copied to another
pub HoldKinds-copy : (kinds : List Kind) (cells : List ℤ) (to from : ℕ) → HoldKinds kinds cells → IsMessage kinds to → IsMessage kinds from →
    HoldKinds kinds (take to cells ++ (take 14 (drop from cells) ++ drop (to + 14) cells))
HoldKinds-copy kinds cells to from held is_to is_from =
    let same = AllZip-same_length Holds kinds cells held in
    let within = message_within kinds from is_from in
    let n : length (take 14 (drop from cells)) ≡ 14 = omega (arith, length-take 14 (drop from cells), length-drop from cells, same, within) in
    let copied : AllZip Holds (take 14 (drop from kinds)) (take 14 (drop from cells)) = AllZip-take Holds 14 (drop from kinds) (drop from cells) (AllZip-drop Holds from kinds cells held) in
    let kinds_same : take 14 (drop from kinds) ≡ take (length (take 14 (drop from cells))) (drop to kinds) = is_from ∙ sym is_to ∙ ap (λ k. take k (drop to kinds)) (sym n) in
    AllZip-splice Holds to (to + 14) kinds cells (take 14 (drop from cells)) (omega (arith, n)) held
    (subst (λ ks. AllZip Holds ks (take 14 (drop from cells))) kinds_same copied)

-- ---- reading them

-- the cells of a message are there
pub message_there : (kinds : List Kind) (cells : List ℤ) (at : ℕ) → HoldKinds kinds cells → IsMessage kinds at →
    message_at at cells ≡ Some (take 14 (drop at cells))
message_there kinds cells at held is =
    let same = AllZip-same_length Holds kinds cells held in
    let within = message_within kinds at is in
    elim (leb_tells (at + 14) (length cells)) [
      | inl h ↦ (let yes : nat_le (at + 14) (length cells) ≡ true = h.0 in simp yes)
      | inr h ↦ absurd (omega (arith, h.1, same, within))
    ]

-- a residue is below 2 to the width
pub residue-lt : (k : Kind) (n : ℤ) → 0 < 2 ^ width k → residue k n < 2 ^ width k
residue-lt k n h = rem_below (2 ^ width k) n h

AreBytes-residues : (cells : List ℤ) → AreBytes (map (residue Byte) cells)
AreBytes-residues [] = tt
AreBytes-residues (n ∷ cells) = (residue-lt Byte n (lit< tt), AreBytes-residues cells)

-- a payload that is read is of bytes
pub AreBytes-payload : (message : List ℤ) → AreBytes (payload_of message)
AreBytes-payload message = AreBytes-residues (drop 6 message)

-- a payload that is read has eight bytes
pub length-payload : (kinds : List Kind) (cells : List ℤ) (at : ℕ) → HoldKinds kinds cells → IsMessage kinds at →
    length (payload_of (take 14 (drop at cells))) ≡ 8
length-payload kinds cells at held is =
    let same = AllZip-same_length Holds kinds cells held in
    let within = message_within kinds at is in
    let all : length (take 14 (drop at cells)) ≡ 14 = omega (arith, length-take 14 (drop at cells), length-drop at cells, same, within) in
    length-map (drop 6 (take 14 (drop at cells))) (residue Byte) ∙ (let n : length (drop 6 (take 14 (drop at cells))) ≡ 8 = omega (arith, length-drop 6 (take 14 (drop at cells)), all) in n)

-- ---- the bytes of a number

-- as many bytes of a number as were asked for
pub length-bytes_of_number : (count n : ℕ) → length (bytes_of_number count n) ≡ count
length-bytes_of_number zero n = refl
length-bytes_of_number (suc count) n = ap suc (length-bytes_of_number count (n / 256))

-- they are bytes
pub AreBytes-bytes_of_number : (count n : ℕ) → AreBytes (bytes_of_number count n)
AreBytes-bytes_of_number zero n = tt
AreBytes-bytes_of_number (suc count) n = (let h : n % 256 < 256 = omega arith in h, AreBytes-bytes_of_number count (n / 256))

-- as many bytes as the kind has
pub length-bytes_of : (k : Kind) (n : ℤ) → length (bytes_of k n) ≡ size k
unfolding bytes_of
length-bytes_of k n = length-bytes_of_number (size k) (residue k n)

-- the bytes of a number of a kind are bytes
pub AreBytes-bytes_of : (k : Kind) (n : ℤ) → AreBytes (bytes_of k n)
unfolding bytes_of
AreBytes-bytes_of k n = AreBytes-bytes_of_number (size k) (residue k n)

-- ---- the bytes of a payload

get_or-AreBytes : (bytes : List ℕ) → AreBytes bytes → (i : ℕ) → get_or bytes i 0 < 256
get_or-AreBytes [] h i = lit< tt
get_or-AreBytes (b ∷ bytes) h zero = h.0
get_or-AreBytes (b ∷ bytes) h (suc i) = get_or-AreBytes bytes h.1 i

AreBytes-from_get_or : (bytes : List ℕ) → ((i : ℕ) → get_or bytes i 0 < 256) → AreBytes bytes
AreBytes-from_get_or [] h = tt
AreBytes-from_get_or (b ∷ bytes) h = (h 0, AreBytes-from_get_or bytes (λ i. h (suc i)))

-- the payload of a message, and the same with a signal set, as the codec of signals sees them
pub IsPayload-payload : (kinds : List Kind) (cells : List ℤ) (at : ℕ) → HoldKinds kinds cells → IsMessage kinds at →
    IsPayload (payload_of (take 14 (drop at cells)))
IsPayload-payload kinds cells at held is = record {
  eight = length-payload kinds cells at held is;
  bytes = get_or-AreBytes (payload_of (take 14 (drop at cells))) (AreBytes-payload (take 14 (drop at cells)));
}

-- a payload with a signal set is of bytes
pub AreBytes-payload_with : (l : Layout) (payload : List ℕ) (n : ℤ) → IsUsable l → IsPayload payload → AreBytes (payload_with l payload n)
AreBytes-payload_with l payload n u p = AreBytes-from_get_or (payload_with l payload n) (IsPayload-payload_with l payload n u p).bytes

-- a payload with a signal set has eight bytes
pub length-payload_with : (l : Layout) (payload : List ℕ) (n : ℤ) → IsUsable l → IsPayload payload → length (payload_with l payload n) ≡ 8
length-payload_with l payload n u p = (IsPayload-payload_with l payload n u p).eight
