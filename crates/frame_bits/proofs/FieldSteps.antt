-- Fields bit by bit, by nibbles and in parts, and lists of fields.
use Rattle.std.proofs.Common.{◌≡◌, ℕ, suc, ◌+◌, ◌-◌, ◌*◌, ◌/◌, ◌%◌, ◌^◌, ◌<◌, ◌≤◌, Bool, true, false, eqb, List, [], ◌∷◌, ◌++◌, length, take, get_or, refl, sym, ap, subst, ◌∙◌, arith, append_assoc, bit_and, zero, zero-add}
use Rattle.std.specs.List.{flat_map}
use Rattle.std.proofs.lemmas.List.{append-nil, take_more, flat_map_more, take_all}
use Rattle.std.proofs.lemmas.Nat.{and_mask, shr-shr}
use Rattle.std.proofs.lemmas.Nat.Bits.{shr_and_one}
use mir.Val.{bool_byte}
use Rattle.can_frame.specs.declared.Ident.TheVariants.{Std, Ext}
use Rattle.can_frame.specs.Frame.{field_bits}
use Rattle.frame_bits.specs.Length.{header_bits}
use Rattle.can_frame.proofs.BitLists.{field_bits-snoc, field_bits-zero, field_bits-suc, field_bits-mod}

-- no bit of a field stands above its width
pub field_starts : (bits : List Bool) (w n : ℕ) → bits ≡ bits ++ field_bits (w - w) n
field_starts bits w n =
    let none : 0 ≡ w - w = omega arith in
    sym (append-nil bits) ∙ ap (λ l. bits ++ l) (sym (field_bits-zero n)) ∙ ap (λ k. bits ++ field_bits k n) none

-- the bits of a field down to a place, from those above the place and the bit there
grows : (bits : List Bool) (w p n : ℕ) → p < w → (bits ++ field_bits (w - (p + 1)) (n / 2 ^ (p + 1))) ++ eqb (bit_and (n / 2 ^ p) 1) 1 ∷ [] ≡ bits ++ field_bits (w - p) (n / 2 ^ p)
grows bits w p n h =
    let wider : w - p ≡ suc (w - (p + 1)) = omega arith in
    append_assoc bits (field_bits (w - (p + 1)) (n / 2 ^ (p + 1))) _
    ∙ ap (λ b. bits ++ (field_bits (w - (p + 1)) (n / 2 ^ (p + 1)) ++ eqb b 1 ∷ [])) (shr_and_one n p)
    ∙ ap (λ m. bits ++ (field_bits (w - (p + 1)) m ++ eqb (n / 2 ^ p % 2) 1 ∷ [])) (sym (shr-shr n p 1))
    ∙ ap (λ l. bits ++ l) (sym (field_bits-snoc (w - (p + 1)) (n / 2 ^ p)))
    ∙ ap (λ k. bits ++ field_bits k (n / 2 ^ p)) (sym wider)

-- the bits of a field down to the next place
pub field_grows : (bits : List Bool) (w place n : ℕ) → 0 < place → place ≤ w → (bits ++ field_bits (w - place) (n / 2 ^ place)) ++ eqb (bit_and (n / 2 ^ (place - 1)) 1) 1 ∷ [] ≡ bits ++ field_bits (w - (place - 1)) (n / 2 ^ (place - 1))
field_grows bits w place n low high =
    let above : place - 1 + 1 ≡ place = omega arith in
    subst (λ q. (bits ++ field_bits (w - q) (n / 2 ^ q)) ++ eqb (bit_and (n / 2 ^ (place - 1)) 1) 1 ∷ [] ≡ bits ++ field_bits (w - (place - 1)) (n / 2 ^ (place - 1))) above (grows bits w (place - 1) n (omega arith))

-- down to place 0 they are all its bits
pub field_ends : (bits : List Bool) (w place n : ℕ) → place ≡ 0 → bits ++ field_bits (w - place) (n / 2 ^ place) ≡ bits ++ field_bits w n
field_ends bits w place n e =
    let whole : w - 0 ≡ w = omega arith in
    let same : n / 2 ^ 0 ≡ n = omega arith in
    ap (λ q. bits ++ field_bits (w - q) (n / 2 ^ q)) e ∙ ap (λ k. bits ++ field_bits k (n / 2 ^ 0)) whole ∙ ap (λ m. bits ++ field_bits w m) same

-- ---- fields in two parts, and by nibbles
-- a field is the field above a place and the one below it
pub field_bits-split : (a b n : ℕ) → field_bits (a + b) n ≡ field_bits a (n / 2 ^ b) ++ field_bits b n
field_bits-split zero b n =
    ap (λ k. field_bits k n) (zero-add b) ∙ ap (λ l. l ++ field_bits b n) (sym (field_bits-zero (n / 2 ^ b)))
field_bits-split (suc a) b n =
    let longer : suc a + b ≡ suc (a + b) = omega arith in
    let places : b + a ≡ a + b = omega arith in
    ap (λ k. field_bits k n) longer
    ∙ field_bits-suc (a + b) n
    ∙ ap (λ l. eqb (n / 2 ^ (a + b) % 2) 1 ∷ l) (field_bits-split a b n)
    ∙ ap (λ m. eqb (m % 2) 1 ∷ (field_bits a (n / 2 ^ b) ++ field_bits b n)) (sym (shr-shr n b a ∙ ap (λ k. n / 2 ^ k) places))
    ∙ ap (λ l. l ++ field_bits b n) (sym (field_bits-suc a (n / 2 ^ b)))

-- no nibble stands above the first
pub nibbles_start : (bits : List Bool) (count n : ℕ) → bits ≡ bits ++ field_bits (4 * (count - count)) n
nibbles_start bits count n =
    let none : 0 ≡ 4 * (count - count) = omega arith in
    sym (append-nil bits) ∙ ap (λ l. bits ++ l) (sym (field_bits-zero n)) ∙ ap (λ k. bits ++ field_bits k n) none

-- the nibbles down to the next place, as the code takes the one there
pub nibbles_grow : (bits : List Bool) (count place n : ℕ) → 0 < place → place ≤ count → (bits ++ field_bits (4 * (count - place)) (n / 2 ^ (4 * place))) ++ field_bits 4 (bit_and (n / 2 ^ (4 * (place - 1))) 15) ≡ bits ++ field_bits (4 * (count - (place - 1))) (n / 2 ^ (4 * (place - 1)))
nibbles_grow bits count place n low high =
    let below : ℕ = n / 2 ^ (4 * (place - 1)) in
    let upper : List Bool = field_bits (4 * (count - place)) (n / 2 ^ (4 * place)) in
    let above : 4 * (place - 1) + 4 ≡ 4 * place = omega (arith, low) in
    let longer : 4 * (count - place) + 4 ≡ 4 * (count - (place - 1)) = omega (arith, low, high) in
    append_assoc bits upper _
    ∙ ap (λ m. bits ++ (upper ++ field_bits 4 m)) (and_mask below 4)
    ∙ ap (λ l. bits ++ (upper ++ l)) (field_bits-mod 4 4 below (omega arith))
    ∙ ap (λ m. bits ++ (field_bits (4 * (count - place)) m ++ field_bits 4 below)) (sym (shr-shr n (4 * (place - 1)) 4 ∙ ap (λ k. n / 2 ^ k) above))
    ∙ ap (λ l. bits ++ l) (sym (field_bits-split (4 * (count - place)) 4 below))
    ∙ ap (λ k. bits ++ field_bits k below) longer

-- down to place 0 they are all nibbles
pub nibbles_end : (bits : List Bool) (count place n : ℕ) → place ≡ 0 → bits ++ field_bits (4 * (count - place)) (n / 2 ^ (4 * place)) ≡ bits ++ field_bits (4 * count) n
nibbles_end bits count place n e =
    let whole : 4 * (count - 0) ≡ 4 * count = omega arith in
    let same : n / 2 ^ 0 ≡ n = omega arith in
    ap (λ q. bits ++ field_bits (4 * (count - q)) (n / 2 ^ (4 * q))) e ∙ ap (λ k. bits ++ field_bits k (n / 2 ^ 0)) whole ∙ ap (λ m. bits ++ field_bits (4 * count) m) same

-- a field is its leading bits and then nibbles
pub field_nibbles : (bits : List Bool) (width n lead_width lead : ℕ) → lead_width ≡ width % 4 → lead ≡ n / 2 ^ (4 * (width / 4)) → (bits ++ field_bits lead_width lead) ++ field_bits (4 * (width / 4)) n ≡ bits ++ field_bits width n
field_nibbles bits width n lead_width lead w e =
    let sum : width % 4 + 4 * (width / 4) ≡ width = omega arith in
    append_assoc bits (field_bits lead_width lead) _
    ∙ ap (λ k. bits ++ (field_bits k lead ++ field_bits (4 * (width / 4)) n)) w
    ∙ ap (λ m. bits ++ (field_bits (width % 4) m ++ field_bits (4 * (width / 4)) n)) e
    ∙ ap (λ l. bits ++ l) (sym (field_bits-split (width % 4) (4 * (width / 4)) n))
    ∙ ap (λ k. bits ++ field_bits k n) sum

-- ---- lists of fields
-- the bits of one more field
pub fields_grow : {X : Type 0} (f : X → List Bool) (bits : List Bool) (xs : List X) (i : ℕ) (d : X) (piece : List Bool) → i < length xs → piece ≡ f (get_or xs i d) → (bits ++ flat_map f (take i xs)) ++ piece ≡ bits ++ flat_map f (take (i + 1) xs)
fields_grow f bits xs i d piece h e =
    ap (λ l. (bits ++ flat_map f (take i xs)) ++ l) e
    ∙ flat_map_more f bits (take i xs) (get_or xs i d)
    ∙ ap (λ l. bits ++ flat_map f l) (sym (take_more xs i d h))

-- past the last field they are the bits of all fields
pub fields_end : {X : Type 0} (f : X → List Bool) (bits : List Bool) (xs : List X) (i : ℕ) → length xs ≤ i → bits ++ flat_map f (take i xs) ≡ bits ++ flat_map f xs
fields_end f bits xs i h = ap (λ l. bits ++ flat_map f l) (take_all i xs h)

-- a field whose width and number the code knows
pub number_field : (width number w n : ℕ) → width ≡ w → number ≡ n → field_bits width number ≡ field_bits w n
number_field width number w n e q = ap (λ k. field_bits k number) e ∙ ap (field_bits w) q

-- ---- headers as one field
bit_of_byte : (b : Bool) (m r : ℕ) → m ≡ r → r ≡ bool_byte b → eqb m 1 ≡ b
bit_of_byte true m r e q = ap (λ k. eqb k 1) (e ∙ q)
bit_of_byte false m r e q = ap (λ k. eqb k 1) (e ∙ q)

bool_byte-le : (b : Bool) (r : ℕ) → r ≡ bool_byte b → r ≤ 1
bool_byte-le true r e = omega (arith, e)
bool_byte-le false r e = omega (arith, e)

-- the last seven bits of a header
control_field : (x r d : ℕ) (remote : Bool) → r ≡ bool_byte remote → d ≤ 8 → field_bits 7 (x * 128 + (r * 64 + d)) ≡ remote ∷ false ∷ false ∷ field_bits 4 d
control_field x r d remote e h =
    let n : ℕ = x * 128 + (r * 64 + d) in
    let one : r ≤ 1 = bool_byte-le remote r e in
    let first : n / 2 ^ 6 % 2 ≡ r = omega (arith, one, h) in
    let second : n / 2 ^ 5 % 2 ≡ 0 = omega (arith, one, h) in
    let third : n / 2 ^ 4 % 2 ≡ 0 = omega (arith, one, h) in
    let rest : n % 2 ^ 4 ≡ d = omega (arith, one, h) in
    rw (field_bits-suc 6 n, field_bits-suc 5 n, field_bits-suc 4 n, second, third, sym (field_bits-mod 4 4 n (omega arith)), rest)
    (ap (λ b. b ∷ false ∷ false ∷ field_bits 4 d) (bit_of_byte remote _ r first e))

-- a field that its number does not fill
led_field : (n : ℕ) → n < 2 ^ 11 → field_bits 12 n ≡ false ∷ field_bits 11 n
led_field n h =
    let above : n / 2 ^ 11 % 2 ≡ 0 = omega (arith, h) in
    rw (field_bits-suc 11 n, above) refl

-- the header of a standard frame
pub header_std : (n r dlc : ℕ) (remote : Bool) → n ≤ 0x7FF → r ≡ bool_byte remote → dlc ≤ 8 → field_bits 19 (n * 128 + (r * 64 + dlc)) ≡ header_bits (Std n) remote dlc
header_std n r dlc remote h e k =
    let all : ℕ = n * 128 + (r * 64 + dlc) in
    let upper : all / 2 ^ 7 ≡ n = omega (arith, bool_byte-le remote r e, k) in
    field_bits-split 12 7 all
    ∙ ap (λ m. field_bits 12 m ++ field_bits 7 all) upper
    ∙ ap (λ l. l ++ field_bits 7 all) (led_field n (omega (arith, h)))
    ∙ ap (λ l. (false ∷ field_bits 11 n) ++ l) (control_field n r dlc remote e k)

-- the identifier of an extended frame with the bits before, in and behind it
extended_field : (base further : ℕ) → base < 2 ^ 11 → further < 2 ^ 18 → field_bits 32 ((base * 4 + 3) * 262144 + further) ≡ (false ∷ field_bits 11 base ++ true ∷ true ∷ []) ++ field_bits 18 further
extended_field base further h k =
    let all : ℕ = (base * 4 + 3) * 262144 + further in
    let upper : all / 2 ^ 18 ≡ base * 4 + 3 = omega (arith, k) in
    let lower : all % 2 ^ 18 ≡ further = omega (arith, k) in
    let lead : (base * 4 + 3) / 2 ^ 2 ≡ base = omega arith in
    let srr : (base * 4 + 3) / 2 ^ 1 % 2 ≡ 1 = omega arith in
    let ide : (base * 4 + 3) / 2 ^ 0 % 2 ≡ 1 = omega arith in
    let two : field_bits 2 (base * 4 + 3) ≡ true ∷ true ∷ [] =
    rw (field_bits-suc 1 (base * 4 + 3), field_bits-suc 0 (base * 4 + 3), field_bits-zero (base * 4 + 3), srr, ide) refl in
    field_bits-split 14 18 all
    ∙ ap (λ m. field_bits 14 m ++ field_bits 18 all) upper
    ∙ ap (λ l. field_bits 14 (base * 4 + 3) ++ l) (sym (field_bits-mod 18 18 all (omega arith)) ∙ ap (field_bits 18) lower)
    ∙ ap (λ l. l ++ field_bits 18 further) (field_bits-split 12 2 (base * 4 + 3) ∙ ap (λ m. field_bits 12 m ++ field_bits 2 (base * 4 + 3)) lead ∙ ap (λ l. l ++ field_bits 2 (base * 4 + 3)) (led_field base h) ∙ ap (λ l. (false ∷ field_bits 11 base) ++ l) two)

-- the header of an extended frame
pub header_ext : (n further r dlc : ℕ) (remote : Bool) → n ≤ 0x1FFFFFFF → further ≡ n % 2 ^ 18 → r ≡ bool_byte remote → dlc ≤ 8 → field_bits 39 (((n / 2 ^ 18 * 4 + 3) * 262144 + further) * 128 + (r * 64 + dlc)) ≡ header_bits (Ext n) remote dlc
header_ext n further r dlc remote h f e k =
    let base : ℕ = n / 2 ^ 18 in
    let x : ℕ = (base * 4 + 3) * 262144 + further in
    let all : ℕ = x * 128 + (r * 64 + dlc) in
    let upper : all / 2 ^ 7 ≡ x = omega (arith, bool_byte-le remote r e, k) in
    let control : List Bool = remote ∷ false ∷ false ∷ field_bits 4 dlc in
    field_bits-split 32 7 all
    ∙ ap (λ m. field_bits 32 m ++ field_bits 7 all) upper
    ∙ ap (λ l. field_bits 32 x ++ l) (control_field x r dlc remote e k)
    ∙ ap (λ l. l ++ control) (extended_field base further (omega (arith, h)) (omega (arith, f)))
    ∙ ap (λ l. ((false ∷ field_bits 11 base ++ true ∷ true ∷ []) ++ l) ++ control) (ap (field_bits 18) f ∙ field_bits-mod 18 18 n (omega arith))
    ∙ ap (λ l. (false ∷ l) ++ control) (append_assoc (field_bits 11 base) (true ∷ true ∷ []) (field_bits 18 n))
