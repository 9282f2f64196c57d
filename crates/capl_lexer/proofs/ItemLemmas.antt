-- The bytes and escapes of strings and characters: what stands at the front of a text is one item.
use Rattle.std.proofs.Common.{◌≡◌, ◌<◌, ◌≤◌, ◌+◌, ◌*◌, ℕ, zero, suc, List, [], ◌∷◌, ◌++◌, length, All, inl, inr, Option, Some, None, refl, sym, ap, subst, ◌∙◌, arith, length-append, append_assoc}
use Rattle.std.specs.Prelude.{◌⊎◌}
use Rattle.std.proofs.lemmas.List.{append_cancel_left}
use Rattle.std.proofs.lemmas.List.Elements.{All-cons, All-nil}
use Rattle.text_parts.specs.Number.{IsHexDigit, digit_value, number_in}
use Rattle.capl_lexer.specs.Spelling.{IsHexDigitFront, escaped, IsEscape, IsPlain, IsPlainInChar, IsItem, AreItems}
use Rattle.capl_lexer.proofs.SplitLemmas.{front_injective}

-- one value and one rest
pub record IsSameItem (value other : ℕ) (rest after : List ℕ) : Type 0 where
  pub one_value : value ≡ other
  pub one_rest : rest ≡ after

-- `\x` alone is no escape
letter_not_x : (letter value : ℕ) → letter ≡ 120 → escaped letter ≡ Some value → ⊥
letter_not_x letter value is escape = let none : None ≡ Some value = sym (ap escaped is) ∙ escape in cc

-- two digits are not one digit and a rest that begins with none
longer_digits : (digits others rest after : List ℕ) → digits ++ rest ≡ others ++ after
    → length digits ≡ 2 → length others ≡ 1 → All IsHexDigit digits → (IsHexDigitFront after → ⊥) → ⊥
longer_digits (one ∷ two ∷ []) (other ∷ []) rest after same long short all no_digit =
    let tails : two ∷ rest ≡ after = cc in
    no_digit (subst IsHexDigitFront tails (all 1 0 (omega arith)))
longer_digits [] others rest after same long short all no_digit = absurd (omega (arith, long))
longer_digits (one ∷ []) others rest after same long short all no_digit = absurd (omega (arith, long))
longer_digits (one ∷ two ∷ three ∷ digits) others rest after same long short all no_digit = absurd (omega (arith, long))
longer_digits (one ∷ two ∷ []) [] rest after same long short all no_digit = absurd (omega (arith, short))
longer_digits (one ∷ two ∷ []) (other ∷ more ∷ others) rest after same long short all no_digit = absurd (omega (arith, short))

-- the digits of an escape: two, or one with no digit behind it
abbrev HasDigits : List ℕ → List ℕ → Type 0
HasDigits digits rest = (length digits ≡ 2) ⊎ ((length digits ≡ 1) × (IsHexDigitFront rest → ⊥))

one_count : (digits others rest after : List ℕ) → digits ++ rest ≡ others ++ after
    → All IsHexDigit digits → All IsHexDigit others → HasDigits digits rest → HasDigits others after
    → length digits ≡ length others
one_count digits others rest after same all every (inl two) (inl also) = two ∙ sym also
one_count digits others rest after same all every (inl two) (inr (one, none)) = absurd (longer_digits digits others rest after same two one all none)
one_count digits others rest after same all every (inr (one, none)) (inl two) = absurd (longer_digits others digits after rest (sym same) two one every none)
one_count digits others rest after same all every (inr (one, none)) (inr (also, nothing)) = one ∙ sym also

-- at most one escape is at the front of a text
pub escape-unique : (text : List ℕ) (value other : ℕ) (rest after : List ℕ)
    → IsEscape value text rest → IsEscape other text after → IsSameItem value other rest after
escape-unique text value other rest after (inl (letter, is, escape)) (inl (another, also, escape_too)) =
    let whole : 92 ∷ letter ∷ rest ≡ 92 ∷ another ∷ after = sym is ∙ also in
    let letters : letter ≡ another = cc in
    let values : Some value ≡ Some other = sym escape ∙ ap escaped letters ∙ escape_too in
    record { one_value = cc; one_rest = cc }
escape-unique text value other rest after (inl (letter, is, escape)) (inr (digits, also, all, value_is, count)) =
    let whole : 92 ∷ letter ∷ rest ≡ 92 ∷ 120 ∷ digits ++ after = sym is ∙ also in
    absurd (letter_not_x letter value (cc) escape)
escape-unique text value other rest after (inr (digits, is, all, value_is, count)) (inl (letter, also, escape)) =
    let whole : 92 ∷ letter ∷ after ≡ 92 ∷ 120 ∷ digits ++ rest = sym also ∙ is in
    absurd (letter_not_x letter other (cc) escape)
escape-unique text value other rest after (inr (digits, is, all, value_is, count)) (inr (others, also, every, other_is, counted)) =
    let whole : 92 ∷ 120 ∷ digits ++ rest ≡ 92 ∷ 120 ∷ others ++ after = sym is ∙ also in
    let same : digits ++ rest ≡ others ++ after = cc in
    let counts = one_count digits others rest after same all every count counted in
    let one : digits ≡ others = front_injective digits others rest after same counts in
    let rests : others ++ rest ≡ others ++ after = ap (λ b. b ++ rest) (sym one) ∙ same in
    record {
      one_value = value_is ∙ ap (number_in 16) one ∙ sym other_is;
      one_rest = append_cancel_left others rest after rests;
    }

-- `\x` and two digits
pub escape_two : (text rest : List ℕ) (high low : ℕ) → text ≡ high ∷ low ∷ rest → IsHexDigit high → IsHexDigit low
    → IsEscape (digit_value high * 16 + digit_value low) (92 ∷ 120 ∷ text) rest
escape_two text rest high low is one two =
    inr (
      high ∷ low ∷ [],
      ap (λ b. 92 ∷ 120 ∷ b) is,
      All-cons IsHexDigit high (low ∷ []) one (All-cons IsHexDigit low [] two (All-nil IsHexDigit)),
      omega arith,
      inl refl,
    )

-- `\x` and one digit
pub escape_one : (text rest : List ℕ) (digit : ℕ) → text ≡ digit ∷ rest → IsHexDigit digit → (IsHexDigitFront rest → ⊥)
    → IsEscape (digit_value digit) (92 ∷ 120 ∷ text) rest
escape_one text rest digit is one none =
    inr (
      digit ∷ [],
      ap (λ b. 92 ∷ 120 ∷ b) is,
      All-cons IsHexDigit digit [] one (All-nil IsHexDigit),
      omega arith,
      inr (refl, none),
    )

-- `\x` and no digit
pub escape_none : (text : List ℕ) → (IsHexDigitFront text → ⊥) → (value : ℕ) (rest : List ℕ)
    → IsEscape value (92 ∷ 120 ∷ text) rest → ⊥
escape_none text none value rest (inl (letter, is, escape)) = letter_not_x letter value (cc) escape
escape_none text none value rest (inr ([], is, all, value_is, inl two)) = absurd (omega (arith, two))
escape_none text none value rest (inr ([], is, all, value_is, inr one)) = absurd (omega (arith, one.0))
escape_none text none value rest (inr (digit ∷ digits, is, all, value_is, count)) =
    let inside : text ≡ digit ∷ digits ++ rest = cc in
    none (subst IsHexDigitFront (sym inside) (all 0 0 (omega arith)))

-- `\` and a byte other than `x`
pub escape_short : (letter value : ℕ) (rest : List ℕ) → escaped letter ≡ Some value → IsEscape value (92 ∷ letter ∷ rest) rest
escape_short letter value rest is = inl (letter, refl, is)

-- `\` and a byte with which it stands for nothing
pub escape_other : (letter : ℕ) (text : List ℕ) → (letter ≡ 120 → ⊥) → escaped letter ≡ None → (value : ℕ) (rest : List ℕ)
    → IsEscape value (92 ∷ letter ∷ text) rest → ⊥
escape_other letter text no_x none value rest (inl (another, is, escape)) =
    let same : another ≡ letter = cc in
    let wrong : None ≡ Some value = sym none ∙ ap escaped (sym same) ∙ escape in cc
escape_other letter text no_x none value rest (inr (digits, is, all, value_is, count)) = no_x (cc)

-- an escape begins with `\`
pub escape-front : (text : List ℕ) (value : ℕ) (rest : List ℕ) → IsEscape value text rest
    → (others : List ℕ) × (text ≡ 92 ∷ others)
escape-front text value rest (inl (letter, is, escape)) = (letter ∷ rest, is)
escape-front text value rest (inr (digits, is, all, value_is, count)) = (120 ∷ digits ++ rest, is)

-- at most one item is at the front of a text
pub item-unique : (P : ℕ → Type 0) → (P 92 → ⊥) → (text : List ℕ) (value other : ℕ) (rest after : List ℕ)
    → IsItem P value text rest → IsItem P other text after → IsSameItem value other rest after
item-unique P outside text value other rest after (inl (plain, is)) (inl (also, is_too)) =
    let whole : value ∷ rest ≡ other ∷ after = sym is ∙ is_too in record { one_value = cc; one_rest = cc }
item-unique P outside text value other rest after (inl (plain, is)) (inr escape) =
    let (others, front) = escape-front text other after escape in
    let whole : value ∷ rest ≡ 92 ∷ others = sym is ∙ front in
    let same : value ≡ 92 = cc in
    absurd (outside (let Q = P in subst Q same plain))
item-unique P outside text value other rest after (inr escape) (inl (plain, is)) =
    let (others, front) = escape-front text value rest escape in
    let whole : other ∷ after ≡ 92 ∷ others = sym is ∙ front in
    let same : other ≡ 92 = cc in
    absurd (outside (let Q = P in subst Q same plain))
item-unique P outside text value other rest after (inr escape) (inr also) = escape-unique text value other rest after escape also

-- an item has at least one byte
pub item-shorter : (P : ℕ → Type 0) (text : List ℕ) (value : ℕ) (rest : List ℕ) → IsItem P value text rest
    → length rest < length text
item-shorter P text value rest (inl (plain, is)) = omega (arith, ap length is)
item-shorter P text value rest (inr (inl (letter, is, escape))) = omega (arith, ap length is)
item-shorter P text value rest (inr (inr (digits, is, all, value_is, count))) = omega (arith, ap length is, length-append digits rest)

-- no item begins with a byte that neither stands for itself nor is `\`
pub item-front : (P : ℕ → Type 0) (byte : ℕ) (text : List ℕ) (value : ℕ) (rest : List ℕ)
    → (P byte → ⊥) → (byte ≡ 92 → ⊥) → IsItem P value (byte ∷ text) rest → ⊥
item-front P byte text value rest outside no_escape (inl (plain, is)) =
    let same : value ≡ byte = cc in outside (let Q = P in subst Q same plain)
item-front P byte text value rest outside no_escape (inr escape) =
    let (others, front) = escape-front (byte ∷ text) value rest escape in no_escape (cc)

-- what follows an item may go on
pub item-append : (P : ℕ → Type 0) (text : List ℕ) (value byte : ℕ) (rest after : List ℕ)
    → IsItem P value text (byte ∷ rest) → IsItem P value (text ++ after) (byte ∷ rest ++ after)
item-append P text value byte rest after (inl (plain, is)) = inl (plain, ap (λ b. b ++ after) is)
item-append P text value byte rest after (inr (inl (letter, is, escape))) = inr (inl (letter, ap (λ b. b ++ after) is, escape))
item-append P text value byte rest after (inr (inr (digits, is, all, value_is, count))) =
    inr (inr (digits, ap (λ b. b ++ after) is ∙ ap (λ b. 92 ∷ 120 ∷ b) (append_assoc digits (byte ∷ rest) after), all, value_is, count))

hex_front-append : (bytes after : List ℕ) → IsHexDigitFront bytes → IsHexDigitFront (bytes ++ after)
hex_front-append [] after front = absurd front
hex_front-append (byte ∷ bytes) after front = front

hex_count-cut : (digits bytes after : List ℕ) → HasDigits digits (bytes ++ after) → HasDigits digits bytes
hex_count-cut digits bytes after (inl two) = inl two
hex_count-cut digits bytes after (inr (one, none)) = inr (one, λ front. none (hex_front-append bytes after front))

-- what follows an item may be cut
pub item-cut : (P : ℕ → Type 0) (text : List ℕ) (value : ℕ) (rest after : List ℕ)
    → IsItem P value text (rest ++ after)
    → (inside : List ℕ) × (text ≡ inside ++ after) × IsItem P value inside rest
item-cut P text value rest after (inl (plain, is)) = (value ∷ rest, is, inl (plain, refl))
item-cut P text value rest after (inr (inl (letter, is, escape))) = (92 ∷ letter ∷ rest, is, inr (inl (letter, refl, escape)))
item-cut P text value rest after (inr (inr (digits, is, all, value_is, count))) = (
  92 ∷ 120 ∷ digits ++ rest,
  is ∙ ap (λ b. 92 ∷ 120 ∷ b) (sym (append_assoc digits rest after)),
  inr (inr (digits, refl, all, value_is, hex_count-cut digits rest after count)),
)

-- the quote ends a string
quote-outside : IsPlain 34 → ⊥
quote-outside plain = plain.0 refl

-- `\` does not stand for itself in a string
pub backslash-outside : IsPlain 92 → ⊥
backslash-outside plain = plain.1 refl

-- `\` does not stand for itself in a character
pub backslash-outside_char : IsPlainInChar 92 → ⊥
backslash-outside_char plain = plain.2 refl

no_item_at_quote : (value : ℕ) (text rest after : List ℕ) → text ≡ 34 ∷ after → IsItem IsPlain value text rest → ⊥
no_item_at_quote value text rest after is item =
    item-front IsPlain 34 after value rest quote-outside (λ same. absurd (omega (arith, same))) (subst (λ t. IsItem IsPlain value t rest) is item)

-- items up to a quote are the same, and so is what follows it
pub items-unique : (values others text rest after : List ℕ)
    → AreItems values text (34 ∷ rest) → AreItems others text (34 ∷ after)
    → (values ≡ others) × (rest ≡ after)
items-unique [] [] text rest after first second =
    let same : 34 ∷ rest ≡ 34 ∷ after = sym first ∙ second in (refl, cc)
items-unique [] (other ∷ others) text rest after first (between, item, items) = absurd (no_item_at_quote other text between rest first item)
items-unique (value ∷ values) [] text rest after (between, item, items) second = absurd (no_item_at_quote value text between after second item)
items-unique (value ∷ values) (other ∷ others) text rest after (between, item, items) (beyond, also, more) =
    let one = item-unique IsPlain backslash-outside text value other between beyond item also in
    let behind = items-unique values others beyond rest after (subst (λ t. AreItems values t (34 ∷ rest)) one.one_rest items) more in
    (let head = one.one_value in let tail = behind.0 in cc, behind.1)

-- items up to a quote are bytes
items-nonempty : (values text rest : List ℕ) (byte : ℕ) → AreItems values text (byte ∷ rest)
    → (first : ℕ) × (others : List ℕ) × (text ≡ first ∷ others)
items-nonempty [] text rest byte is = (byte, rest, is)
items-nonempty (value ∷ values) text rest byte (between, inl (plain, is), items) = (value, between, is)
items-nonempty (value ∷ values) text rest byte (between, inr escape, items) =
    let (others, front) = escape-front text value between escape in (92, others, front)

-- what follows items may go on
pub items-append : (values text : List ℕ) (byte : ℕ) (rest after : List ℕ)
    → AreItems values text (byte ∷ rest) → AreItems values (text ++ after) (byte ∷ rest ++ after)
items-append [] text byte rest after is = ap (λ b. b ++ after) is
items-append (value ∷ values) text byte rest after (between, item, items) =
    let (first, others, is) = items-nonempty values between rest byte items in
    let whole = item-append IsPlain text value first others after (subst (IsItem IsPlain value text) is item) in (
      between ++ after,
      subst (IsItem IsPlain value (text ++ after)) (ap (λ b. b ++ after) (sym is)) whole,
      items-append values between byte rest after items,
    )

-- what follows items may be cut
pub items-cut : (values text rest after : List ℕ) → AreItems values text (rest ++ after)
    → (inside : List ℕ) × (text ≡ inside ++ after) × AreItems values inside rest
items-cut [] text rest after is = (rest, is, refl)
items-cut (value ∷ values) text rest after (between, item, items) =
    let (inner, split, cut) = items-cut values between rest after items in
    let (inside, whole, is) = item-cut IsPlain text value inner after (subst (IsItem IsPlain value text) split item) in
    (inside, whole, (inner, is, cut))

-- where items lead to a place at which no item stands and no quote, no items lead to a quote
pub items-stuck : (values others text rest after : List ℕ) → AreItems values text rest
    → ((value : ℕ) (beyond : List ℕ) → IsItem IsPlain value rest beyond → ⊥)
    → ((beyond : List ℕ) → rest ≡ 34 ∷ beyond → ⊥)
    → AreItems others text (34 ∷ after) → ⊥
items-stuck [] [] text rest after is none open_end closed = open_end after (sym is ∙ closed)
items-stuck [] (other ∷ others) text rest after is none open_end (between, item, items) =
    none other between (subst (λ t. IsItem IsPlain other t between) is item)
items-stuck (value ∷ values) [] text rest after (between, item, items) none open_end closed = no_item_at_quote value text between after closed item
items-stuck (value ∷ values) (other ∷ others) text rest after (between, item, items) none open_end (beyond, also, more) =
    let one = item-unique IsPlain backslash-outside text value other between beyond item also in
    items-stuck values others beyond rest after (subst (λ t. AreItems values t rest) one.one_rest items) none open_end more

-- one more item
pub items-push : (values text between rest : List ℕ) (value : ℕ) → AreItems values text between
    → IsItem IsPlain value between rest → AreItems (values ++ value ∷ []) text rest
items-push [] text between rest value is item = (rest, subst (λ t. IsItem IsPlain value t rest) (sym is) item, refl)
items-push (first ∷ values) text between rest value (next, is, items) item = (next, is, items-push values next between rest value items item)
