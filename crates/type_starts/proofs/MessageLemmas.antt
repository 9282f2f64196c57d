-- Messages once their payloads are written.
use Rattle.std.proofs.Common.{◌≡◌, ℕ, zero, suc, ◌<◌, ◌≤◌, Bool, true, false, List, [], ◌∷◌, Option, Some, None, get_or, length, refl, sym, ap, ◌∙◌, subst, arith}
use Rattle.std.specs.Prelude.{ℤ, pos, negsuc, All, map, nat_le, not, slice_index, ◌&&◌, ◌||◌, if◌then◌else◌}
use Rattle.std.specs.List.{list_any}
use Rattle.std.specs.Option.{option_map_or}
use Rattle.std.proofs.lemmas.Bool.{leb-false, leb-true}
use lib.IntN.{nat_abs}
use lib.Signed.{le_z}
use Rattle.int_kinds.specs.declared.kinds.Kind.{Kind}
use Rattle.int_kinds.specs.Arithmetic.{residue}
use Rattle.message_cells.specs.Message.{bytes_of, bytes_of_number, size}
use Rattle.signal_codec.specs.declared.layout.Layout.{Layout}
use Rattle.signal_codec.specs.Signal.{IsUsable, bit_numbers, payload_with}
use Rattle.dbc_reader.specs.declared.signals.DbcSignal.{DbcSignal}
use Rattle.capl_meaning.specs.declared.field.MessageField.{MessageField}
use Rattle.capl_meaning.specs.Message.{IsField, IsSignal, IsUnknown, IsUnusable, can_be_used, field_named, is_usable, member_named, member_of_signal, member_of_signals, signal_named}
use Rattle.capl_meaning.specs.Initial.{with_bytes_at}
use Rattle.capl_meaning.specs.Store.{MessageRecord, byte_after, payload, row, with_bytes, with_signal}
use Rattle.type_starts.specs.declared.message.Message.{Message}
use Rattle.type_starts.specs.Message.{IsMessage}
use Rattle.type_starts.specs.Payload.{byte_put}
use Rattle.type_starts.proofs.PayloadLemmas.{bytes_behind, bytes_put, bytes_whole, payload_is}

-- the message with another payload
abbrev pub with_payload_of : Message → List ℕ → Message
with_payload_of message bytes = record message { payload = bytes }

-- only the bytes of a message are others
held_with : (message : Message) (m : MessageRecord) (new : List ℕ) (f : ℕ → ℤ) → IsMessage message m → row f 0 8 ≡ map pos new →
    IsMessage (with_payload_of message new) (record m { byte = f })
held_with message m new f held is = record {
  id = held.id;
  dlc = held.dlc;
  rtr = held.rtr;
  can = held.can;
  dir = held.dir;
  time = held.time;
  bytes = is;
}

-- a signal was put
pub signal_held : (layout : Layout) (n : ℤ) (message : Message) (m : MessageRecord) (new : List ℕ) → IsMessage message m →
    ((k : ℕ) → k < length message.payload → get_or message.payload k 0 < 256) → length new ≡ 8 → new ≡ payload_with layout message.payload n →
    IsMessage (with_payload_of message new) (with_signal layout n m)
signal_held layout n message m new held small long is =
    let bytes : List ℕ = payload_with layout (payload m) n in
    let same : bytes ≡ new = ap (λ p. payload_with layout p n) (payload_is m message.payload held.bytes small) ∙ sym is in
    held_with message m new (byte_after 0 bytes m.byte) held
    (ap (λ b. row (byte_after 0 b m.byte) 0 8) same ∙ bytes_whole m.byte new long)

bytes_are : (k : Kind) (n : ℤ) → bytes_of k n ≡ bytes_of_number (size k) (residue k n)
unfolding bytes_of
bytes_are k n = refl

-- bytes were put
pub bytes_held : (k : Kind) (i : ℕ) (n : ℤ) (message : Message) (m : MessageRecord) (new : List ℕ) → IsMessage message m →
    length message.payload ≡ 8 → length new ≡ 8 →
    ((j : ℕ) → j < 8 → slice_index new j ≡ byte_put i (bytes_of_number (size k) (residue k n)) message.payload j) →
    IsMessage (with_payload_of message new) (with_bytes k i n m)
bytes_held k i n message m new held one two puts =
    held_with message m new (byte_after i (bytes_of k n) m.byte) held
    (bytes_put m.byte message.payload new (bytes_of k n) i one two held.bytes
    (λ j less. puts j less ∙ ap (λ b. byte_put i b message.payload j) (sym (bytes_are k n))))

-- bytes that would stand behind the end, or before the beginning, are put nowhere
pub bytes_nowhere : (k : Kind) (from n : ℤ) (message : Message) (m : MessageRecord) → IsMessage message m → length message.payload ≡ 8 →
    ((i : ℕ) → from ≡ pos i → 8 ≤ i) → IsMessage message (with_bytes_at k from n m)
bytes_nowhere k (pos i) n message m held long far =
    held_with message m message.payload (byte_after i (bytes_of k n) m.byte) held
    (bytes_behind m.byte message.payload (bytes_of k n) i long (far i refl) held.bytes)
bytes_nowhere k (negsuc i) n message m held long far = held

-- the same where they are put from a number on that is not negative, as the code has them
pub bytes_held_at : (k : Kind) (from raw n raw_n : ℤ) (count word : ℕ) (message : Message) (m : MessageRecord) (new : List ℕ) → raw ≡ from → raw_n ≡ n →
    le_z (pos 0) raw ≡ true → IsMessage message m → length message.payload ≡ 8 → length new ≡ 8 → count ≡ size k → word ≡ residue k raw_n →
    ((j : ℕ) → j < 8 → slice_index new j ≡ byte_put (nat_abs raw) (bytes_of_number count word) message.payload j) →
    IsMessage (with_payload_of message new) (with_bytes_at k from n m)
bytes_held_at k (pos i) raw n raw_n count word message m new back back_n least held one two count_is word_is puts =
    bytes_held k i n message m new held one two (λ j less.
    puts j less ∙ ap (λ (z : ℤ). byte_put (nat_abs z) (bytes_of_number count word) message.payload j) back
    ∙ ap (λ c. byte_put i (bytes_of_number c word) message.payload j) count_is
    ∙ ap (λ w. byte_put i (bytes_of_number (size k) w) message.payload j) (word_is ∙ ap (residue k) back_n))
bytes_held_at k (negsuc i) raw n raw_n count word message m new back back_n least held one two count_is word_is puts =
    absurd (let e : false ≡ true = sym (ap (le_z (pos 0)) back) ∙ least in cc)

-- ---- signals

-- no number is from 64 on
all_below : (xs : List ℕ) → list_any (λ number. nat_le 64 number) xs ≡ false → All (λ number. number < 64) xs
all_below [] e = λ k d less. absurd (omega (arith, less))
all_below (x ∷ xs) e = parts (nat_le 64 x) refl e (λ f. all_below xs f)
  where
    parts : (b : Bool) → nat_le 64 x ≡ b → b || list_any (λ number. nat_le 64 number) xs ≡ false →
        (list_any (λ number. nat_le 64 number) xs ≡ false → All (λ number. number < 64) xs) → All (λ number. number < 64) (x ∷ xs)
    parts true is e further k d less = absurd (let f : true ≡ false = e in cc)
    parts false is e further zero d less = leb-false 64 x is
    parts false is e further (suc k) d less = further e k d (omega (arith, less))

-- a layout that passes the test
usable : (l : Layout) → is_usable l ≡ true → IsUsable l
usable l h = go (nat_le 1 l.len) (nat_le l.len 64) (list_any (λ number. nat_le 64 number) (bit_numbers l)) refl refl refl h
  where
    go : (a b c : Bool) → nat_le 1 l.len ≡ a → nat_le l.len 64 ≡ b → list_any (λ number. nat_le 64 number) (bit_numbers l) ≡ c →
        a && (b && not c) ≡ true → IsUsable l
    go true true false p q r h = record { at_least_one = leb-true 1 l.len p; at_most_64 = leb-true l.len 64 q; in_payload = all_below (bit_numbers l) r }
    go true true true p q r h = absurd (let f : false ≡ true = h in cc)
    go true false c p q r h = absurd (let f : false ≡ true = h in cc)
    go false b c p q r h = absurd (let f : false ≡ true = h in cc)

-- a signal that a name means can be used
pub usable_member : (signals : Option (List DbcSignal)) (name : List ℕ) (l : Layout) → member_named signals name ≡ IsSignal l → IsUsable l
usable_member signals name l e = field (field_named name) e
  where
    parted : (signal : DbcSignal) (b : Bool) → can_be_used signal ≡ b → (if b then IsSignal signal.layout else IsUnusable) ≡ IsSignal l → IsUsable l
    parted signal false is e = absurd (let f : IsUnusable ≡ IsSignal l = e in cc)
    parted signal true is e =
        let same : signal.layout ≡ l = let f : IsSignal signal.layout ≡ IsSignal l = e in cc in
        subst IsUsable same (usable signal.layout (first (is_usable signal.layout) (not signal.float) is))
      where
        first : (a b : Bool) → a && b ≡ true → a ≡ true
        first true b h = refl
        first false b h = absurd (let f : false ≡ true = h in cc)

    found : (o : Option DbcSignal) → member_of_signal o ≡ IsSignal l → IsUsable l
    found None e = absurd (let f : IsUnknown true ≡ IsSignal l = e in cc)
    found (Some signal) e = parted signal (can_be_used signal) refl e

    among : (o : Option (List DbcSignal)) → member_of_signals o name ≡ IsSignal l → IsUsable l
    among None e = absurd (let f : IsUnknown false ≡ IsSignal l = e in cc)
    among (Some all) e = found (signal_named all name) e

    field : (o : Option MessageField) → option_map_or IsField o (member_of_signals signals name) ≡ IsSignal l → IsUsable l
    field None e = among signals e
    field (Some f) e = absurd (let g : IsField f ≡ IsSignal l = e in cc)
