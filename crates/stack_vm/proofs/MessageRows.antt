-- The rows of instructions on messages.
use Rattle.std.proofs.Common.{◌≡◌, ◌≤◌, ◌<◌, ◌+◌, ◌-◌, ◌*◌, ◌/◌, ◌%◌, ◌^◌, ℕ, zero, suc, Bool, List, [], ◌∷◌, length, take, drop, map, get_or, Option, Some, refl, sym, ap, ◌∙◌, arith, length-take, length-drop}
use Rattle.std.specs.Prelude.{ℤ, pos, slice_set, slice_index_or}
use Rattle.std.specs.Int.{byte_at, bytes_low_first, from_le_bytes, to_le_bytes, w64}
use Rattle.std.proofs.lemmas.List.{drop-take}
use Rattle.std.proofs.lemmas.Nat.{pow-add, pow_pos, shr-shr}
use Rattle.std.proofs.Math.Nat.{add-mul-mod_self_right, div-add-mod, div-div-eq-div-mul, div-one, mul_assoc, zero-div}
use Rattle.std.specs.List.{splice}
use Rattle.int_kinds.specs.declared.kinds.Kind.{Kind}
use Rattle.int_kinds.specs.declared.kinds.Kind.TheVariants.{Byte, Word, Dword, Qword, Int, Long, Int64, Char}
use Rattle.int_kinds.specs.Arithmetic.{residue}
use Rattle.int_kinds.specs.Kind.{Holds, width, wrap}
use Rattle.int_kinds.proofs.Congruence.{Congruent-divisor, rem_of_congruent}
use Rattle.int_kinds.proofs.Wrapping.{Congruent-residue, wrap_same}
use Rattle.signal_codec.specs.declared.layout.Layout.{Layout}
use Rattle.signal_codec.specs.Signal.{payload_with, signal_value}
use Rattle.bytecode.specs.declared.code.Code.{Code}
use Rattle.bytecode.specs.declared.instr.Instr.TheVariants.{Bytes, SetBytes, Sig, SetSig, SetField, Copy}
use Rattle.bytecode.specs.Machine.{Machine, Next}
use Rattle.message_cells.specs.Message.{IsMessage, bytes_of, bytes_of_number, message_at, number_at, number_of_bytes, payload_of, size, write_rules, written_can}
use Rattle.bytecode.specs.Runs.{HoldKinds}
use Rattle.bytecode.specs.Step.{goes_on, indexing, needing, row, stores_bytes}
use Rattle.bytecode.proofs.ListItems.{drop-drop}
use Rattle.message_cells.proofs.MessageLemmas.{message_within}
use Rattle.bytecode.proofs.ZippedLists.{AllZip-same_length}
use Rattle.stack_vm.proofs.ListLemmas.{eight_items}
use Rattle.stack_vm.proofs.StepLemmas.{one_taken, two_taken}

-- the cells of a message
abbrev pub cells_at : ℕ → List ℤ → List ℤ
cells_at at cells = take 14 (drop at cells)

-- a message of the code is in the memory
pub message_in : (kinds : List Kind) (cells : List ℤ) (at : ℕ) → HoldKinds kinds cells → IsMessage kinds at → at + 14 ≤ length cells
message_in kinds cells at held is = omega (arith, message_within kinds at is, AllZip-same_length Holds kinds cells held)

-- it has 14 cells
pub length-cells_at : (cells : List ℤ) (at : ℕ) → at + 14 ≤ length cells → length (cells_at at cells) ≡ 14
length-cells_at cells at h = omega (arith, h, length-take 14 (drop at cells), length-drop at cells)

-- the payload is in the cells from the seventh on
pub payload_at : (cells : List ℤ) (at : ℕ) → map (residue Byte) (take 8 (drop (at + 6) cells)) ≡ payload_of (cells_at at cells)
payload_at cells at = ap (map (residue Byte)) (ap (take 8) (drop-drop at 6 (at + 6) cells refl) ∙ sym (drop-take 6 8 (drop at cells)))

-- ---- the bytes of numbers

-- a kind has 8 bits for each byte
pub bits_of_size : (k : Kind) → width k ≡ 8 * size k
bits_of_size Byte = refl
bits_of_size Word = refl
bits_of_size Dword = refl
bits_of_size Qword = refl
bits_of_size Int = refl
bits_of_size Long = refl
bits_of_size Int64 = refl
bits_of_size Char = refl

-- a kind has at least one byte
pub size_at_least : (k : Kind) → 1 ≤ size k
size_at_least Byte = omega arith
size_at_least Word = omega arith
size_at_least Dword = omega arith
size_at_least Qword = omega arith
size_at_least Int = omega arith
size_at_least Long = omega arith
size_at_least Int64 = omega arith
size_at_least Char = omega arith

-- and at most 8
pub size_at_most : (k : Kind) → size k ≤ 8
size_at_most Byte = omega arith
size_at_most Word = omega arith
size_at_most Dword = omega arith
size_at_most Qword = omega arith
size_at_most Int = omega arith
size_at_most Long = omega arith
size_at_most Int64 = omega arith
size_at_most Char = omega arith

spelled : (b0 b1 b2 b3 b4 b5 b6 b7 : ℕ) → from_le_bytes w64 (b0 ∷ b1 ∷ b2 ∷ b3 ∷ b4 ∷ b5 ∷ b6 ∷ b7 ∷ []) ≡ number_of_bytes (b0 ∷ b1 ∷ b2 ∷ b3 ∷ b4 ∷ b5 ∷ b6 ∷ b7 ∷ [])
spelled b0 b1 b2 b3 b4 b5 b6 b7 = omega arith

word_of_bytes : (bytes : List ℕ) → length bytes ≡ 8 → from_le_bytes w64 bytes ≡ number_of_bytes bytes
word_of_bytes bytes n =
    let whole = eight_items bytes n in
    ap (from_le_bytes w64) whole
    ∙ spelled (get_or bytes 0 0) (get_or bytes 1 0) (get_or bytes 2 0) (get_or bytes 3 0) (get_or bytes 4 0) (get_or bytes 5 0) (get_or bytes 6 0) (get_or bytes 7 0)
    ∙ ap number_of_bytes (sym whole)

byte_off : (b n : ℕ) → b < 256 → (b + 256 * n) / 2 ^ 8 ≡ n
byte_off b n h = omega arith

-- without the lowest bytes
shifted : (bytes : List ℕ) (i bits : ℕ) → ((j : ℕ) → get_or bytes j 0 < 256) → bits ≡ 8 * i → number_of_bytes bytes / 2 ^ bits ≡ number_of_bytes (drop i bytes)
shifted bytes zero bits h e = ap (λ (n : ℕ). number_of_bytes bytes / 2 ^ n) (let none : bits ≡ 0 = omega arith in none) ∙ div-one (number_of_bytes bytes)
shifted [] (suc i) bits h e = zero-div (2 ^ bits)
shifted (b ∷ bytes) (suc i) bits h e =
    let more : bits ≡ 8 + 8 * i = omega arith in
    ap (λ (n : ℕ). (b + 256 * number_of_bytes bytes) / 2 ^ n) more ∙ sym (shr-shr (b + 256 * number_of_bytes bytes) 8 (8 * i))
    ∙ ap (λ (n : ℕ). n / 2 ^ (8 * i)) (byte_off b (number_of_bytes bytes) (h 0)) ∙ shifted bytes i (8 * i) (λ j. h (suc j)) refl

joined : (b low p : ℕ) → b + 256 * (low + p) ≡ b + 256 * low + p * 256
joined b low p = omega arith

-- the lowest bytes, and the others
split : (i bits : ℕ) (bytes : List ℕ) → bits ≡ 8 * i → number_of_bytes bytes ≡ number_of_bytes (take i bytes) + number_of_bytes (drop i bytes) * 2 ^ bits
split zero bits bytes e =
    let once : 2 ^ bits ≡ 1 = ap (λ (n : ℕ). 2 ^ n) (let none : bits ≡ 0 = omega arith in none) in
    let same : number_of_bytes bytes ≡ 0 + number_of_bytes bytes * 1 = omega arith in
    same ∙ ap (λ (n : ℕ). 0 + number_of_bytes bytes * n) (sym once)
split (suc i) bits [] e = let none : 0 ≡ 0 + 0 * 2 ^ bits = omega arith in none
split (suc i) bits (b ∷ bytes) e =
    let more : bits ≡ 8 * i + 8 = omega arith in
    let power : 2 ^ bits ≡ 2 ^ (8 * i) * 256 = ap (λ (n : ℕ). 2 ^ n) more ∙ pow-add 2 (8 * i) 8 in
    let low : ℕ = number_of_bytes (take i bytes) in
    let high : ℕ = number_of_bytes (drop i bytes) in
    ap (λ (n : ℕ). b + 256 * n) (split i (8 * i) bytes refl) ∙ joined b low (high * 2 ^ (8 * i))
    ∙ ap (λ (n : ℕ). b + 256 * low + n) (mul_assoc high (2 ^ (8 * i)) 256 ∙ ap (λ (n : ℕ). high * n) (sym power))

-- the number at a byte of a payload, from the word of the payload
pub number_at_word : (k : Kind) (i : ℕ) (payload : List ℕ) → length payload ≡ 8 → ((j : ℕ) → get_or payload j 0 < 256) →
    wrap k (pos (from_le_bytes w64 payload / 2 ^ (8 * i))) ≡ number_at k i payload
unfolding number_at
number_at_word k i payload n h =
    let bytes : List ℕ = drop i payload in
    ap (λ (z : ℕ). wrap k (pos (z / 2 ^ (8 * i)))) (word_of_bytes payload n) ∙ ap (λ (z : ℕ). wrap k (pos z)) (shifted payload i (8 * i) h refl)
    ∙ wrap_same k (pos (number_of_bytes bytes)) (pos (number_of_bytes (take (size k) bytes)))
    (record { times = pos (number_of_bytes (drop (size k) bytes)); apart = ap pos (split (size k) (width k) bytes (bits_of_size k)) })

byte_at_is : (i n : ℕ) → byte_at i n ≡ n / 256 ^ i % 256
byte_at_is zero n = ap (λ (z : ℕ). z % 256) (sym (div-one n))
byte_at_is (suc i) n = refl

bytes_from : (count i n : ℕ) → bytes_low_first i count n ≡ bytes_of_number count (n / 256 ^ i)
bytes_from zero i n = refl
bytes_from (suc count) i n =
    let power : 256 ^ suc i ≡ 256 ^ i * 256 = ap (λ (z : ℕ). 256 ^ z) (let more : suc i ≡ i + 1 = omega arith in more) ∙ pow-add 256 i 1 in
    ap (λ (b : ℕ). b ∷ bytes_low_first (suc i) count n) (byte_at_is i n)
    ∙ ap (λ (bytes : List ℕ). n / 256 ^ i % 256 ∷ bytes) (bytes_from count (suc i) n
    ∙ ap (bytes_of_number count) (ap (λ (z : ℕ). n / z) power ∙ sym (div-div-eq-div-mul n (256 ^ i) 256)))

fewer : (count more n : ℕ) → count ≤ more → take count (bytes_of_number more n) ≡ bytes_of_number count n
fewer zero more n h = refl
fewer (suc count) zero n h = absurd (omega arith)
fewer (suc count) (suc more) n h = ap (λ (bytes : List ℕ). n % 256 ∷ bytes) (fewer count more (n / 256) (omega arith))

-- only the lowest bits make a difference to the lowest bytes
same_bytes : (count bits a b q : ℕ) → bits ≡ 8 * count → a ≡ b + q * 2 ^ bits → bytes_of_number count a ≡ bytes_of_number count b
same_bytes zero bits a b q e h = refl
same_bytes (suc count) bits a b q e h =
    let more : bits ≡ 8 * count + 8 = omega arith in
    let power : 2 ^ bits ≡ 2 ^ (8 * count) * 256 = ap (λ (n : ℕ). 2 ^ n) more ∙ pow-add 2 (8 * count) 8 in
    let rest : ℕ = q * 2 ^ (8 * count) in
    let whole : a ≡ b + rest * 256 = h ∙ ap (λ (n : ℕ). b + n) (ap (λ (n : ℕ). q * n) power ∙ sym (mul_assoc q (2 ^ (8 * count)) 256)) in
    let low : a % 256 ≡ b % 256 = ap (λ (n : ℕ). n % 256) whole ∙ add-mul-mod_self_right b rest 256 in
    let high : a / 256 ≡ b / 256 + rest = omega (arith, whole) in
    ap (λ (n : ℕ). n ∷ bytes_of_number count (a / 256)) low ∙ ap (λ (bytes : List ℕ). b % 256 ∷ bytes) (same_bytes count (8 * count) (a / 256) (b / 256) q refl high)

-- the residue of a wider kind
wider : (k : Kind) (n : ℤ) → residue Qword n % 2 ^ width k ≡ residue k n
wider k n =
    let more : ℕ = 64 - width k in
    let within : more + width k ≡ 64 = omega (arith, bits_of_size k, size_at_most k) in
    rem_of_congruent (2 ^ width k) (residue Qword n) n (pow_pos (width k))
    (Congruent-divisor (2 ^ width k) (2 ^ more) (2 ^ 64) (pos (residue Qword n)) n (ap (λ (z : ℕ). 2 ^ z) (sym within) ∙ pow-add 2 more (width k)) (Congruent-residue Qword n))

-- the bytes of a number of a kind, from its word
pub bytes_of_word : (k : Kind) (n : ℤ) → take (size k) (to_le_bytes w64 (residue Qword n)) ≡ bytes_of k n
unfolding bytes_of
bytes_of_word k n =
    let word : ℕ = residue Qword n in
    let m : ℕ = 2 ^ width k in
    let parts : word ≡ word % m + word / m * m = omega (arith, div-add-mod word m) in
    ap (take (size k)) (bytes_from 8 0 word ∙ ap (bytes_of_number 8) (div-one word)) ∙ fewer (size k) 8 word (size_at_most k)
    ∙ same_bytes (size k) (width k) word (word % m) (word / m) (bits_of_size k) parts ∙ ap (bytes_of_number (size k)) (wider k n)

needs : (o : Option (List ℤ)) (message : List ℤ) (doing : List ℤ → Next) → o ≡ Some message → needing o doing ≡ doing message
needs o message doing e = ap (λ (o : Option (List ℤ)). needing o doing) e

module _ (code : Code) (closed : Bool) (moment : ℕ) (m : Machine) where
  -- a message is copied to another
  pub copy_row : (to from : ℕ) (stack : List ℤ) → message_at to m.cells ≡ Some (cells_at to m.cells) → message_at from m.cells ≡ Some (cells_at from m.cells) →
      row code closed moment m (Copy to from) stack ≡ goes_on (record m { cells = splice m.cells to (to + 14) (cells_at from m.cells) }) stack
  copy_row to from stack e e' = needs (message_at to m.cells) (cells_at to m.cells) _ e ∙ needs (message_at from m.cells) (cells_at from m.cells) _ e'

  -- the number of a signal is given
  pub signal_row : (l : Layout) (at : ℕ) (stack : List ℤ) → message_at at m.cells ≡ Some (cells_at at m.cells) →
      row code closed moment m (Sig l at) stack ≡ goes_on m (signal_value l (payload_of (cells_at at m.cells)) ∷ stack)
  signal_row l at stack e = needs (message_at at m.cells) (cells_at at m.cells) _ e

  -- a number is put in a signal
  pub set_signal_row : (l : Layout) (at : ℕ) (stack : List ℤ) (after : List ℕ) → 1 ≤ length stack → message_at at m.cells ≡ Some (cells_at at m.cells) →
      after ≡ payload_with l (payload_of (cells_at at m.cells)) (get_or stack 0 (pos 0)) →
      row code closed moment m (SetSig l at) stack
      ≡ goes_on (record m { cells = splice m.cells (at + 6) (at + 6 + length after) (map pos after) }) (signal_value l after ∷ drop 1 stack)
  set_signal_row l at stack after t e is =
      let front : at + 6 + 0 ≡ at + 6 = omega arith in
      one_taken stack t _ ∙ needs (message_at at m.cells) (cells_at at m.cells) _ e
      ∙ ap (λ (bytes : List ℕ). stores_bytes at 0 bytes (signal_value l bytes) m (drop 1 stack)) (sym is)
      ∙ ap (λ (first : ℕ). goes_on (record m { cells = splice m.cells first (first + length after) (map pos after) }) (signal_value l after ∷ drop 1 stack)) front

  -- a field is written by its rule
  pub set_field_row : (f at : ℕ) (stack : List ℤ) → f ≤ 3 → 1 ≤ length stack → message_at at m.cells ≡ Some (cells_at at m.cells) →
      row code closed moment m (SetField f at) stack
      ≡ goes_on (record m { cells = slice_set m.cells (at + f) (pos (slice_index_or write_rules f written_can (get_or stack 0 (pos 0)))) })
      (pos (slice_index_or write_rules f written_can (get_or stack 0 (pos 0))) ∷ drop 1 stack)
  set_field_row zero at stack h t e = one_taken stack t _ ∙ needs (message_at at m.cells) (cells_at at m.cells) _ e
  set_field_row (suc zero) at stack h t e = one_taken stack t _ ∙ needs (message_at at m.cells) (cells_at at m.cells) _ e
  set_field_row (suc (suc zero)) at stack h t e = one_taken stack t _ ∙ needs (message_at at m.cells) (cells_at at m.cells) _ e
  set_field_row (suc (suc (suc zero))) at stack h t e = one_taken stack t _ ∙ needs (message_at at m.cells) (cells_at at m.cells) _ e
  set_field_row (suc (suc (suc (suc f)))) at stack h t e = absurd (omega arith)

  -- the number at a byte is given
  pub bytes_row : (k : Kind) (at : ℕ) (stack : List ℤ) → 1 ≤ length stack → message_at at m.cells ≡ Some (cells_at at m.cells) →
      row code closed moment m (Bytes k at) stack
      ≡ indexing (get_or stack 0 (pos 0)) (9 - size k) m (λ byte. goes_on m (number_at k byte (payload_of (cells_at at m.cells)) ∷ drop 1 stack))
  bytes_row k at stack t e = one_taken stack t _ ∙ needs (message_at at m.cells) (cells_at at m.cells) _ e

  -- the bytes of a number are put
  pub set_bytes_row : (k : Kind) (at : ℕ) (stack : List ℤ) → 2 ≤ length stack → message_at at m.cells ≡ Some (cells_at at m.cells) →
      row code closed moment m (SetBytes k at) stack
      ≡ indexing (get_or stack 1 (pos 0)) (9 - size k) m (λ byte. stores_bytes at byte (bytes_of k (get_or stack 0 (pos 0))) (wrap k (get_or stack 0 (pos 0))) m (drop 2 stack))
  set_bytes_row k at stack t e = two_taken stack t _ ∙ needs (message_at at m.cells) (cells_at at m.cells) _ e
