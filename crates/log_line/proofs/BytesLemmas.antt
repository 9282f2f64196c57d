-- Pairs of digits, from the front of a text.
use Rattle.std.proofs.Common.{◌≡◌, ◌≢◌, ℕ, length-set, ◌+◌, ◌-◌, ◌*◌, ◌<◌, ◌≤◌, List, [], ◌∷◌, ◌++◌, inl, inr, length, get_or, set, take, drop, refl, sym, ap, subst, ◌∙◌, arith, append_assoc, append-nil, length-append, length-take, length-drop}
use Rattle.std.specs.Prelude.{codes}
use Rattle.std.proofs.lemmas.List.{take_more_set, take_all}
use Rattle.text_parts.specs.Number.{IsHexDigit, digit_value, number_in}
use Rattle.log_line.specs.Reading.{IsBetween, SpellsBytes}
use Rattle.log_line.specs.Inside.FrameField.{SpellsNoByte, IsFirstByte, HasDotAndMore, IsWithoutDot}

-- nothing may stand between, whatever follows
nothing_between : (bytes : List ℕ) → IsBetween [] bytes
nothing_between [] = refl
nothing_between (byte ∷ bytes) = inl refl

-- a text with a byte spells bytes of which there is a first
spells_some : (text bytes : List ℕ) → text ≢ [] → SpellsBytes text bytes → bytes ≢ []
spells_some text [] some spells none = some spells
spells_some text (byte ∷ bytes) some spells none = cc

-- the empty text spells no byte
nothing_spelled : (byte : ℕ) (bytes : List ℕ) → SpellsBytes [] (byte ∷ bytes) → ⊥
nothing_spelled byte bytes spells = let split = (spells.2).spelled in cc

-- where no dot and more stand behind the first pair, the others follow at once
others_follow : (behind between rest bytes : List ℕ) → (HasDotAndMore behind → ⊥) → behind ≡ between ++ rest → IsBetween between bytes → SpellsBytes rest bytes → SpellsBytes behind bytes
others_follow behind between rest [] no_dot split is spells = split ∙ ap (λ l. l ++ rest) is ∙ spells
others_follow behind between rest (byte ∷ bytes) no_dot split (inl none) spells =
    let same : rest ≡ behind = sym (split ∙ ap (λ l. l ++ rest) none) in
    subst (λ t. SpellsBytes t (byte ∷ bytes)) same spells
others_follow behind between rest (byte ∷ bytes) no_dot split (inr dot) spells =
    absurd (no_dot (rest, split ∙ ap (λ l. l ++ rest) dot, λ none. nothing_spelled byte bytes (subst (λ t. SpellsBytes t (byte ∷ bytes)) none spells)))

-- a text with another byte in front spells no bytes
pub other_in_front : (other : ℕ) (more bytes : List ℕ) → (IsHexDigit other → ⊥) → SpellsBytes (other ∷ more) bytes → ⊥
other_in_front other more [] none spells = cc
other_in_front other more (byte ∷ bytes) none spells =
    let pair = spells.2 in
    let split = pair.spelled in
    let same : pair.high ≡ other = cc in
    none (subst IsHexDigit same pair.high_is)

-- a dot is no digit
dot_in_front : (more bytes : List ℕ) → SpellsBytes (46 ∷ more) bytes → ⊥
dot_in_front more bytes spells = other_in_front 46 more bytes (λ is. grind (arith, is)) spells

-- behind a dot the others follow
others_behind_dot : (more between rest bytes : List ℕ) → more ≢ [] → 46 ∷ more ≡ between ++ rest → IsBetween between bytes → SpellsBytes rest bytes → SpellsBytes more bytes
others_behind_dot more between rest [] some split is spells = absurd (let b = is in let r = spells in let e = split ∙ ap (λ l. l ++ rest) b in cc)
others_behind_dot more between rest (byte ∷ bytes) some split (inl none) spells =
    let same : rest ≡ 46 ∷ more = sym (split ∙ ap (λ l. l ++ rest) none) in
    absurd (dot_in_front more (byte ∷ bytes) (subst (λ t. SpellsBytes t (byte ∷ bytes)) same spells))
others_behind_dot more between rest (byte ∷ bytes) some split (inr dot) spells =
    let both = split ∙ ap (λ l. l ++ rest) dot in
    let same : rest ≡ more = cc in
    subst (λ t. SpellsBytes t (byte ∷ bytes)) same spells

-- a dot may stand before further bytes
dot_between : (bytes : List ℕ) → bytes ≢ [] → IsBetween (codes ".") bytes
dot_between [] some = absurd (some refl)
dot_between (byte ∷ bytes) some = inr refl

-- the value of two digits
value_is : (x y h l : ℕ) → h ≡ digit_value x → l ≡ digit_value y → h * 16 + l ≡ number_in 16 (x ∷ y ∷ [])
value_is x y h l is also = omega (arith, is, also)

-- the first byte where no dot and more stand behind its pair
pub first_of_pair : (x y h l : ℕ) (behind : List ℕ) → IsHexDigit x × (h ≡ digit_value x) → IsHexDigit y × (l ≡ digit_value y) → (HasDotAndMore behind → ⊥)
    → IsFirstByte (x ∷ y ∷ behind) (h * 16 + l) behind
first_of_pair x y h l behind high low no_dot = record {
  shorter = omega arith;
  goes_on = λ bytes spells. ([], behind, record { high = x; low = y; spelled = refl; high_is = high.0; low_is = low.0; is = value_is x y h l high.1 low.1 }, nothing_between bytes, spells);
  only = λ first bytes spells.
      let pair = spells.2 in
      let split = pair.spelled in
      let same_x : pair.high ≡ x = cc in
      let same_y : pair.low ≡ y = cc in
      let same : behind ≡ spells.0 ++ spells.1 = cc in (
        pair.is ∙ ap (λ v. number_in 16 (v ∷ pair.low ∷ [])) same_x ∙ ap (λ v. number_in 16 (x ∷ v ∷ [])) same_y ∙ sym (value_is x y h l high.1 low.1),
        others_follow behind spells.0 spells.1 bytes no_dot same spells.3 spells.4,
      );
}

-- the first byte where a dot and more stand behind its pair
pub first_before_dot : (x y h l : ℕ) (more : List ℕ) → IsHexDigit x × (h ≡ digit_value x) → IsHexDigit y × (l ≡ digit_value y) → more ≢ []
    → IsFirstByte (x ∷ y ∷ 46 ∷ more) (h * 16 + l) more
first_before_dot x y h l more high low some = record {
  shorter = omega arith;
  goes_on = λ bytes spells. (codes ".", more, record { high = x; low = y; spelled = refl; high_is = high.0; low_is = low.0; is = value_is x y h l high.1 low.1 }, dot_between bytes (spells_some more bytes some spells), spells);
  only = λ first bytes spells.
      let pair = spells.2 in
      let split = pair.spelled in
      let same_x : pair.high ≡ x = cc in
      let same_y : pair.low ≡ y = cc in
      let same : 46 ∷ more ≡ spells.0 ++ spells.1 = cc in (
        pair.is ∙ ap (λ v. number_in 16 (v ∷ pair.low ∷ [])) same_x ∙ ap (λ v. number_in 16 (x ∷ v ∷ [])) same_y ∙ sym (value_is x y h l high.1 low.1),
        others_behind_dot more spells.0 spells.1 bytes some same spells.3 spells.4,
      );
}

-- the first byte, whatever stands behind its pair
pub first_byte_is : (x y h l : ℕ) (behind rest : List ℕ) → IsHexDigit x × (h ≡ digit_value x) → IsHexDigit y × (l ≡ digit_value y) → IsWithoutDot behind rest
    → IsFirstByte (x ∷ y ∷ behind) (h * 16 + l) rest
first_byte_is x y h l behind rest high low (inl dot) =
    subst (λ t. IsFirstByte (x ∷ y ∷ t) (h * 16 + l) rest) (sym dot.0) (first_before_dot x y h l rest high low dot.1)
first_byte_is x y h l behind rest high low (inr none) =
    subst (IsFirstByte (x ∷ y ∷ behind) (h * 16 + l)) (sym none.0) (first_of_pair x y h l behind high low none.1)

-- what was taken from a text of pairs, and what is left
pub record HasTaken (text rest : List ℕ) (count : ℕ) (bytes : List ℕ) : Type 0 where
  pub in_range : count ≤ 8
  pub eight : length bytes ≡ 8
  pub goes_on : (more : List ℕ) → SpellsBytes rest more → SpellsBytes text (take count bytes ++ more)
  pub only : (all : List ℕ) → SpellsBytes text all → (more : List ℕ) × (all ≡ take count bytes ++ more) × SpellsBytes rest more

-- nothing was taken yet
pub taken_nothing : (text bytes : List ℕ) → length bytes ≡ 8 → HasTaken text text 0 bytes
taken_nothing text bytes eight = record {
  in_range = omega arith;
  eight = eight;
  goes_on = λ more spells. spells;
  only = λ all spells. (all, refl, spells);
}

-- the bytes of a text by its first byte
others_of : (rest behind : List ℕ) (byte : ℕ) (more : List ℕ) → rest ≢ [] → IsFirstByte rest byte behind → SpellsBytes rest more → (others : List ℕ) × (more ≡ byte ∷ others) × SpellsBytes behind others
others_of rest behind byte [] some first spells = absurd (some spells)
others_of rest behind byte (b ∷ others) some first spells =
    let both = first.only b others spells in (others, ap (λ x. x ∷ others) both.0, both.1)

-- one byte more
pub taken_more : (text rest behind : List ℕ) (count byte : ℕ) (bytes : List ℕ) → HasTaken text rest count bytes → count < 8 → rest ≢ [] → IsFirstByte rest byte behind
    → HasTaken text behind (count + 1) (set bytes count byte)
taken_more text rest behind count byte bytes taken room some first =
    let eight = taken.eight in
    let more_is : take (count + 1) (set bytes count byte) ≡ take count bytes ++ byte ∷ [] = take_more_set bytes count byte (omega (arith, eight)) in
    record {
      in_range = omega (arith, room);
      eight = length-set bytes count byte ∙ eight;
      goes_on = λ more spells.
          subst (SpellsBytes text) (sym (ap (λ l. l ++ more) more_is ∙ append_assoc (take count bytes) (byte ∷ []) more))
          (taken.goes_on (byte ∷ more) (first.goes_on more spells));
      only = λ all spells.
          let before = taken.only all spells in
          let others = others_of rest behind byte before.0 some first before.2 in
          (others.0, before.1 ∙ ap (λ l. take count bytes ++ l) others.1 ∙ sym (ap (λ l. l ++ others.0) more_is ∙ append_assoc (take count bytes) (byte ∷ []) others.0), others.2);
    }

-- nothing is left
pub taken_all : (text : List ℕ) (count : ℕ) (bytes : List ℕ) → HasTaken text [] count bytes → SpellsBytes text (take count bytes)
taken_all text count bytes taken = subst (SpellsBytes text) (append-nil (take count bytes)) (taken.goes_on [] refl)

-- a text without a first byte spells none
no_bytes : (rest more : List ℕ) → rest ≢ [] → SpellsNoByte rest → SpellsBytes rest more → ⊥
no_bytes rest [] some none spells = some spells
no_bytes rest (byte ∷ bytes) some none spells = none byte bytes spells

-- what is left spells no byte
pub taken_none : (text rest : List ℕ) (count : ℕ) (bytes all : List ℕ) → HasTaken text rest count bytes → rest ≢ [] → SpellsNoByte rest → SpellsBytes text all → ⊥
taken_none text rest count bytes all taken some none spells =
    let before = taken.only all spells in no_bytes rest before.0 some none before.2

-- a list that is not empty has a length
some_length : (bytes : List ℕ) → bytes ≢ [] → 0 < length bytes
some_length [] some = absurd (some refl)
some_length (byte ∷ bytes) some = omega arith

-- more than eight are spelled
pub taken_too_many : (text rest : List ℕ) (bytes all : List ℕ) → HasTaken text rest 8 bytes → rest ≢ [] → SpellsBytes text all → 8 < length all
taken_too_many text rest bytes all taken some spells =
    let before = taken.only all spells in
    let more = some_length before.0 (spells_some rest before.0 some before.2) in
    let whole : length all ≡ length (take 8 bytes) + length before.0 = ap length before.1 ∙ length-append (take 8 bytes) before.0 in
    let eight = taken.eight in
    let front : length (take 8 bytes) ≡ 8 = omega (arith, length-take 8 bytes, eight) in
    omega (arith, whole, front, more)

-- a text of two bytes or more
pub two_in_front : (text : List ℕ) → 2 ≤ length text → text ≡ get_or text 0 0 ∷ get_or text 1 0 ∷ drop 2 text
two_in_front [] some = absurd (omega (arith, some))
two_in_front (x ∷ []) some = absurd (omega (arith, some))
two_in_front (x ∷ y ∷ text) some = refl

-- what stands behind the two
pub rest_of_two : (text : List ℕ) → take (length text - 2) (drop 2 text) ≡ drop 2 text
rest_of_two text = take_all (length text - 2) (drop 2 text) (omega (arith, length-drop 2 text))

-- a list without a length is empty
pub empty_is : (bytes : List ℕ) → length bytes ≡ 0 → bytes ≡ []
empty_is [] none = refl
empty_is (byte ∷ bytes) none = absurd (omega (arith, none))

-- a list with a length is not
pub some_is : (bytes : List ℕ) → 0 < length bytes → bytes ≢ []
some_is [] some is = omega (arith, some)
some_is (byte ∷ bytes) some is = cc
