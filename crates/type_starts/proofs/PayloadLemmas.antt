-- Bytes in payloads, and messages that hold them.
use Rattle.std.proofs.Common.{◌≡◌, ℕ, zero, suc, ◌+◌, ◌-◌, ◌/◌, ◌%◌, ◌<◌, ◌≤◌, Bool, true, false, List, [], ◌∷◌, get_or, length, refl, sym, ap, ◌∙◌, arith, get_or-set_other, get_or-set_same}
use Rattle.std.specs.Prelude.{ℤ, pos, ◌&&◌, if◌then◌else◌, nat_le, nat_lt, map, slice_index, slice_index_or, slice_set}
use Rattle.std.proofs.lemmas.Bool.{ltb-true, ltb-false, leb-true, leb-false}
use Rattle.std.proofs.Math.Nat.{mod-eq_of_lt}
use Rattle.std.proofs.lemmas.List.{get_or-map, length-map}
use Rattle.int_kinds.specs.declared.kinds.Kind.TheVariants.{Byte}
use Rattle.int_kinds.specs.Arithmetic.{residue}
use Rattle.message_cells.specs.Message.{bytes_of_number}
use Rattle.capl_meaning.specs.Store.{MessageRecord, byte_after, payload, row}
use Rattle.typed_laws.proofs.Lists.{row_at}
use Rattle.type_starts.specs.Payload.{byte_put}

-- a row is a list that has each of its items
pub row_is : (f : ℕ → ℤ) (from : ℕ) (xs : List ℤ) → ((k : ℕ) → k < length xs → f (from + k) ≡ get_or xs k (pos 0)) → row f from (length xs) ≡ xs
row_is f from [] is = refl
row_is f from (x ∷ xs) is =
    let first : from + 0 ≡ from = omega arith in
    let one : f from ≡ x = ap f (sym first) ∙ is 0 (omega arith) in
    ap (λ y. y ∷ row f (suc from) (length xs)) one
    ∙ ap (λ l. x ∷ l) (row_is f (suc from) xs (λ k less. let e : suc from + k ≡ from + suc k = omega arith in ap f e ∙ is (suc k) (omega (arith, less))))

-- the same of bytes
pub bytes_row : (f : ℕ → ℤ) (bytes : List ℕ) → length bytes ≡ 8 → ((k : ℕ) → k < 8 → f k ≡ pos (get_or bytes k 0)) → row f 0 8 ≡ map pos bytes
bytes_row f bytes long is =
    let same : length (map pos bytes) ≡ 8 = length-map bytes pos ∙ long in
    ap (row f 0) (sym same)
    ∙ row_is f 0 (map pos bytes) (λ k less. let start : 0 + k ≡ k = omega arith in
    ap f start ∙ is k (omega (arith, less, same)) ∙ sym (get_or-map pos bytes k 0 (pos 0) (omega (arith, less, same, long))))

-- a byte of a row that is these bytes
pub row_byte : (f : ℕ → ℤ) (bytes : List ℕ) → length bytes ≡ 8 → row f 0 8 ≡ map pos bytes → (k : ℕ) → k < 8 → f k ≡ pos (get_or bytes k 0)
row_byte f bytes long is k less =
    let start : 0 + k ≡ k = omega arith in
    sym (ap f start) ∙ sym (row_at f 0 8 k (pos 0) less) ∙ ap (λ l. get_or l k (pos 0)) is ∙ get_or-map pos bytes k 0 (pos 0) (omega (arith, less, long))

-- ---- bytes of a number

-- a byte by its tests
byte_by : (from k byte : ℕ) (bytes old : List ℕ) (a b : Bool) → nat_le from k ≡ a → nat_lt k (from + length bytes) ≡ b →
    byte_put from bytes old k ≡ (if a && b then slice_index bytes (k - from) else slice_index old k)
byte_by from k byte bytes old a b one two = ap (λ x. if x && nat_lt k (from + length bytes) then slice_index bytes (k - from) else slice_index old k) one
    ∙ ap (λ x. if a && x then slice_index bytes (k - from) else slice_index old k) two

-- one byte is put in its place
pub put_at : (from byte : ℕ) (old : List ℕ) (k : ℕ) → k < length old → slice_index (slice_set old from byte) k ≡ byte_put from (byte ∷ []) old k
put_at from byte old k less = by (nat_le from k) (nat_lt k (from + 1)) refl refl
  where
    by : (a b : Bool) → nat_le from k ≡ a → nat_lt k (from + 1) ≡ b →
        slice_index (slice_set old from byte) k ≡ (if a && b then slice_index (byte ∷ []) (k - from) else slice_index old k)
    by true true a b =
        let same : k ≡ from = omega (arith, leb-true from k a, ltb-true k (from + 1) b) in
        let none : k - from ≡ 0 = omega (arith, same) in
        ap (λ i. get_or (slice_set old from byte) i 0) same ∙ get_or-set_same old from byte 0 (omega (arith, less, same))
        ∙ sym (ap (slice_index (byte ∷ [])) none)
    by true false a b =
        let far : from + 1 ≤ k = ltb-false k (from + 1) b in get_or-set_other old from k byte 0 (λ e. absurd (omega (arith, far, e)))
    by false b' a b =
        let below : k < from = leb-false from k a in get_or-set_other old from k byte 0 (λ e. absurd (omega (arith, below, e)))

-- one byte behind the end is put nowhere
pub put_over : (from byte : ℕ) (old : List ℕ) (k : ℕ) → k < from → slice_index old k ≡ byte_put from (byte ∷ []) old k
put_over from byte old k below = by (nat_le from k) refl
  where
    by : (a : Bool) → nat_le from k ≡ a → slice_index old k ≡ (if a && nat_lt k (from + 1) then slice_index (byte ∷ []) (k - from) else slice_index old k)
    by true a = absurd (omega (arith, below, leb-true from k a))
    by false a = refl

-- the first byte, and then the others
pub put_more : (from byte : ℕ) (bytes old mid : List ℕ) (k : ℕ) → slice_index mid k ≡ byte_put from (byte ∷ []) old k →
    byte_put (suc from) bytes mid k ≡ byte_put from (byte ∷ bytes) old k
put_more from byte bytes old mid k is =
    by (nat_le (suc from) k) (nat_lt k (suc from + length bytes)) (nat_le from k) (nat_lt k (from + suc (length bytes))) (nat_lt k (from + 1)) refl refl refl refl refl
    (is ∙ byte_by from k byte (byte ∷ []) old (nat_le from k) (nat_lt k (from + 1)) refl refl)
  where
    by : (a b c d e : Bool) → nat_le (suc from) k ≡ a → nat_lt k (suc from + length bytes) ≡ b → nat_le from k ≡ c → nat_lt k (from + suc (length bytes)) ≡ d →
        nat_lt k (from + 1) ≡ e → slice_index mid k ≡ (if c && e then slice_index (byte ∷ []) (k - from) else slice_index old k) →
        (if a && b then slice_index bytes (k - suc from) else slice_index mid k)
        ≡ (if c && d then slice_index (byte ∷ bytes) (k - from) else slice_index old k)
    by true true true true e' a b c d e h =
        let above : suc from ≤ k = leb-true (suc from) k a in
        let place : k - from ≡ suc (k - suc from) = omega (arith, above) in
        sym (ap (slice_index (byte ∷ bytes)) place)
    by true true true false e' a b c d e h = absurd (omega (arith, ltb-true k (suc from + length bytes) b, ltb-false k (from + suc (length bytes)) d))
    by true b' false d' e' a b c d e h = absurd (omega (arith, leb-true (suc from) k a, leb-false from k c))
    by true false true true e' a b c d e h = absurd (omega (arith, ltb-false k (suc from + length bytes) b, ltb-true k (from + suc (length bytes)) d))
    by true false true false true a b c d e h = absurd (omega (arith, leb-true (suc from) k a, ltb-true k (from + 1) e))
    by true false true false false a b c d e h = h
    by false b' true true true a b c d e h =
        let none : k - from ≡ 0 = omega (arith, leb-false (suc from) k a) in
        h ∙ ap (slice_index (byte ∷ [])) none ∙ sym (ap (slice_index (byte ∷ bytes)) none)
    by false b' true true false a b c d e h = absurd (omega (arith, leb-false (suc from) k a, ltb-false k (from + 1) e))
    by false b' true false e' a b c d e h = absurd (omega (arith, leb-false (suc from) k a, ltb-false k (from + suc (length bytes)) d))
    by false b' false d' e' a b c d e h = h

-- one byte of a number, and then the others
pub put_number : (from count n : ℕ) (old mid : List ℕ) (found k : ℕ) → ¬ (count ≡ 0) → slice_index mid k ≡ byte_put from (n % 256 ∷ []) old k →
    found ≡ byte_put (from + 1) (bytes_of_number (count - 1) (n / 256)) mid k → found ≡ byte_put from (bytes_of_number count n) old k
put_number from zero n old mid found k some is rest = absurd (some refl)
put_number from (suc count) n old mid found k some is rest =
    let one : from + 1 ≡ suc from = omega arith in
    let less : suc count - 1 ≡ count = omega arith in
    rest ∙ ap (λ i. byte_put i (bytes_of_number (suc count - 1) (n / 256)) mid k) one
    ∙ ap (λ c. byte_put (suc from) (bytes_of_number c (n / 256)) mid k) less
    ∙ put_more from (n % 256) (bytes_of_number count (n / 256)) old mid k is

-- no bytes change nothing
pub put_none : (from : ℕ) (old : List ℕ) (k : ℕ) → byte_put from [] old k ≡ slice_index old k
put_none from old k = by (nat_le from k) (nat_lt k (from + 0)) refl refl
  where
    by : (a b : Bool) → nat_le from k ≡ a → nat_lt k (from + 0) ≡ b → (if a && b then slice_index [] (k - from) else slice_index old k) ≡ slice_index old k
    by true true a b = absurd (omega (arith, leb-true from k a, ltb-true k (from + 0) b))
    by true false a b = refl
    by false b' a b = refl

-- a payload in which bytes were put is that of the message with these bytes
pub bytes_put : (f : ℕ → ℤ) (old new bytes : List ℕ) (from : ℕ) → length old ≡ 8 → length new ≡ 8 → row f 0 8 ≡ map pos old →
    ((k : ℕ) → k < 8 → slice_index new k ≡ byte_put from bytes old k) → row (byte_after from bytes f) 0 8 ≡ map pos new
bytes_put f old new bytes from one two is puts =
    bytes_row (byte_after from bytes f) new two (λ k less. by k less (nat_le from k && nat_lt k (from + length bytes)) ∙ ap pos (sym (puts k less)))
  where
    by : (k : ℕ) → k < 8 → (b : Bool) → (if b then pos (slice_index_or bytes (k - from) 0) else f k) ≡ pos (if b then slice_index bytes (k - from) else slice_index old k)
    by k less true = refl
    by k less false = row_byte f old one is k less

-- bytes behind the end change nothing
pub bytes_behind : (f : ℕ → ℤ) (old bytes : List ℕ) (from : ℕ) → length old ≡ 8 → 8 ≤ from → row f 0 8 ≡ map pos old →
    row (byte_after from bytes f) 0 8 ≡ map pos old
bytes_behind f old bytes from long far is = bytes_row (byte_after from bytes f) old long (λ k less. by k less (nat_le from k) refl)
  where
    by : (k : ℕ) → k < 8 → (b : Bool) → nat_le from k ≡ b → (if b && nat_lt k (from + length bytes) then pos (slice_index_or bytes (k - from) 0) else f k) ≡ pos (get_or old k 0)
    by k less true e = absurd (omega (arith, less, far, leb-true from k e))
    by k less false e = row_byte f old long is k less

-- all bytes
pub bytes_whole : (f : ℕ → ℤ) (bytes : List ℕ) → length bytes ≡ 8 → row (byte_after 0 bytes f) 0 8 ≡ map pos bytes
bytes_whole f bytes long = bytes_row (byte_after 0 bytes f) bytes long (λ k less. by k less (nat_le 0 k) (nat_lt k (0 + length bytes)) refl refl)
  where
    by : (k : ℕ) → k < 8 → (a b : Bool) → nat_le 0 k ≡ a → nat_lt k (0 + length bytes) ≡ b →
        (if a && b then pos (slice_index_or bytes (k - 0) 0) else f k) ≡ pos (get_or bytes k 0)
    by k less true true d e = let none : k - 0 ≡ k = omega arith in ap (λ i. pos (get_or bytes i 0)) none
    by k less true false d e = absurd (omega (arith, less, long, ltb-false k (0 + length bytes) e))
    by k less false b d e = absurd (omega (arith, leb-false 0 k d))

-- bytes are their own residues
residues : (bytes : List ℕ) → ((k : ℕ) → k < length bytes → get_or bytes k 0 < 256) → map (residue Byte) (map pos bytes) ≡ bytes
residues [] small = refl
residues (b ∷ bytes) small =
    let first : b < 256 = small 0 (omega arith) in
    let same : b % 256 ≡ b = mod-eq_of_lt first in
    ap (λ x. x ∷ map (residue Byte) (map pos bytes)) same ∙ ap (λ l. b ∷ l) (residues bytes (λ k less. small (suc k) (omega (arith, less))))

-- the payload of a message whose bytes these are
pub payload_is : (m : MessageRecord) (bytes : List ℕ) → row m.byte 0 8 ≡ map pos bytes → ((k : ℕ) → k < length bytes → get_or bytes k 0 < 256) →
    payload m ≡ bytes
payload_is m bytes is small = ap (map (residue Byte)) is ∙ residues bytes small

-- one byte is put
pub ruleset put = (put_at, put_over)
