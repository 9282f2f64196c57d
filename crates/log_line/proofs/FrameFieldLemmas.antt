-- What the frame of a line is, by its parts.
use Rattle.std.proofs.Common.{◌≡◌, ◌≢◌, ℕ, ◌<◌, ◌⊎◌, inl, inr, List, [], ◌∷◌, ◌++◌, Option, Some, None, length, refl, sym, ap, subst, ◌∙◌, arith, append_assoc}
use Rattle.std.specs.Prelude.{All, codes, MatchOption}
use Rattle.std.specs.Borrow.{Bor}
use Rattle.std.proofs.lemmas.List.{append_cancel_right}
use Rattle.text_parts.specs.Number.{IsHexDigit, number_in}
use Rattle.can_frame.specs.Frame.{FrameFields, ident_number}
use Rattle.can_frame.specs.declared.Ident.{Ident}
use Rattle.can_frame.specs.declared.Ident.TheVariants.{Std, Ext}
use Rattle.log_line.specs.Reading.{digit_count, SpellsIdent, SpellsData, SpellsFrame, IsFlexible, IsAbove, IsLongCode}
use Rattle.log_line.specs.Inside.FrameField.{IsFrameField, HasParts, HasNoParts, IsSignFirst, IsUnread, HasCode, HasNoCode, IsIdentOf, IsFrameWith}
use Rattle.log_line.specs.declared.frame_text.FrameField.{FrameField}
use Rattle.log_line.specs.declared.frame_text.FrameField.TheVariants.{Read, Unread, LongCode}
use Rattle.log_line.proofs.NumberBounds.{hexadecimal_lt}
use Rattle.log_line.proofs.SplitLemmas.{Without, one_split}

-- digits have no `#`
digits_without_sign : (digits : List ℕ) → All IsHexDigit digits → Without 35 digits
digits_without_sign digits all k d within same = let is = all k d within in grind (arith, is, same)

-- a sign behind the digits
sign_behind : (digits behind : List ℕ) → (digits ++ codes "#") ++ behind ≡ digits ++ 35 ∷ behind
sign_behind digits behind = append_assoc digits (35 ∷ []) behind

-- the same parts
pub record AreSame (count number : ℕ) (behind : List ℕ) (c n : ℕ) (b : List ℕ) : Type 0 where
  pub counts : count ≡ c
  pub numbers : number ≡ n
  pub behinds : behind ≡ b

-- a field has one split into parts
pub one_parts : (field : List ℕ) (count number : ℕ) (behind : List ℕ) (c n : ℕ) (b : List ℕ) → HasParts field count number behind → HasParts field c n b
    → AreSame count number behind c n b
one_parts field count number behind c n b has also =
    let same = one_split 35 has.digits also.digits behind b (digits_without_sign has.digits has.hexadecimal) (digits_without_sign also.digits also.hexadecimal)
    (sym (sign_behind has.digits behind) ∙ sym has.spelled ∙ also.spelled ∙ sign_behind also.digits b) in
    record {
      counts = sym has.count_is ∙ ap length same.0 ∙ also.count_is;
      numbers = has.is ∙ ap (number_in 16) same.0 ∙ sym also.is;
      behinds = same.1;
    }

-- three digits or eight
three_or_eight : (ident : Ident) → (digit_count ident ≡ 3) ⊎ (digit_count ident ≡ 8)
three_or_eight (Std n) = inl refl
three_or_eight (Ext n) = inr refl

-- the parts of a frame
pub parts_of_frame : (field : List ℕ) (frame : FrameFields) → (spells : SpellsFrame field frame) → HasParts field (digit_count frame.ident) (ident_number frame.ident) spells.behind
parts_of_frame field frame spells = record {
  digits = spells.digits;
  spelled = spells.spelled;
  hexadecimal = (spells.ident).hexadecimal;
  count_is = (spells.ident).count;
  three_or_eight = three_or_eight frame.ident;
  is = (spells.ident).is;
}

-- with more behind
pub parts_with_more : (field : List ℕ) (count number : ℕ) (behind more : List ℕ) → HasParts field count number behind → HasParts (field ++ more) count number (behind ++ more)
parts_with_more field count number behind more has = record {
  digits = has.digits;
  spelled = ap (λ l. l ++ more) has.spelled ∙ append_assoc (has.digits ++ codes "#") behind more;
  hexadecimal = has.hexadecimal;
  count_is = has.count_is;
  three_or_eight = has.three_or_eight;
  is = has.is;
}

-- the parts of a frame with a long code
pub parts_of_long : (field : List ℕ) → (long : IsLongCode field) →
    HasParts field (digit_count ((long.frame).0.ident)) (ident_number ((long.frame).0.ident)) (((long.frame).1).behind ++ 95 ∷ long.digit ∷ [])
parts_of_long field long =
    let whole : field ≡ long.front ++ 95 ∷ long.digit ∷ [] = long.spelled ∙ append_assoc long.front (95 ∷ []) (long.digit ∷ []) in
    let frame = (long.frame).0 in
    subst (λ f. HasParts f (digit_count frame.ident) (ident_number frame.ident) (((long.frame).1).behind ++ 95 ∷ long.digit ∷ [])) (sym whole)
    (parts_with_more long.front (digit_count frame.ident) (ident_number frame.ident) ((long.frame).1).behind (95 ∷ long.digit ∷ []) (parts_of_frame long.front frame (long.frame).1))

-- the parts of a frame of CAN FD
pub parts_of_flexible : (field : List ℕ) → (is : IsFlexible field) → HasParts field (length is.digits) (number_in 16 is.digits) (35 ∷ is.behind)
parts_of_flexible field is = record {
  digits = is.digits;
  spelled = is.spelled ∙ append_assoc is.digits (codes "##") is.behind ∙ sym (sign_behind is.digits (35 ∷ is.behind));
  hexadecimal = is.hexadecimal;
  count_is = refl;
  three_or_eight = is.count;
  is = refl;
}

-- the parts of a frame above the greatest identifier
pub parts_of_above : (field : List ℕ) → (is : IsAbove field) → HasParts field 8 (number_in 16 is.digits) is.behind
parts_of_above field is = record {
  digits = is.digits;
  spelled = is.spelled;
  hexadecimal = is.hexadecimal;
  count_is = is.count;
  three_or_eight = inr refl;
  is = refl;
}

-- a field without parts is no frame
pub no_parts : (field : List ℕ) → HasNoParts field → (x : FrameField) → IsFrameField field x → ⊥
no_parts field none (Read frame) is = none _ _ _ (parts_of_frame field frame is)
no_parts field none Unread (inl is) = none _ _ _ (parts_of_flexible field is)
no_parts field none Unread (inr is) = none _ _ _ (parts_of_above field is)
no_parts field none LongCode is = none _ _ _ (parts_of_long field is)

-- a number above the greatest identifier has eight digits
eight_digits : (field : List ℕ) (count number : ℕ) (behind : List ℕ) → HasParts field count number behind → 0x1FFFFFFF < number → count ≡ 8
eight_digits field count number behind has above = eight_by has.three_or_eight
  where
    eight_by : (count ≡ 3) ⊎ (count ≡ 8) → count ≡ 8
    eight_by (inl three) =
        let count_is = has.count_is in
        let below = hexadecimal_lt has.digits 3 has.hexadecimal (omega (arith, count_is, three)) in
        let is = has.is in
        absurd (omega (arith, below, is, above))
    eight_by (inr eight) = eight

-- such a frame is of another kind
pub is_unread : (field : List ℕ) (count number : ℕ) (behind : List ℕ) → HasParts field count number behind → IsUnread number behind → IsFlexible field ⊎ IsAbove field
is_unread field count number behind has (inl above) =
    let is = has.is in
    inr (record { digits = has.digits; behind = behind; spelled = has.spelled; hexadecimal = has.hexadecimal; count = has.count_is ∙ eight_digits field count number behind has above; above = omega (arith, is, above) })
is_unread field count number [] has (inr sign) = absurd sign
is_unread field count number (byte ∷ rest) has (inr sign) =
    let split : field ≡ (has.digits ++ codes "##") ++ rest =
    has.spelled ∙ sign_behind has.digits (byte ∷ rest) ∙ ap (λ b. has.digits ++ 35 ∷ b ∷ rest) sign ∙ sym (append_assoc has.digits (codes "##") rest) in
    inl (record { digits = has.digits; behind = rest; spelled = split; hexadecimal = has.hexadecimal; count = three_of has.three_or_eight })
  where
    three_of : (count ≡ 3) ⊎ (count ≡ 8) → (length has.digits ≡ 3) ⊎ (length has.digits ≡ 8)
    three_of (inl three) = inl (has.count_is ∙ three)
    three_of (inr eight) = inr (has.count_is ∙ eight)

-- and only such a frame
pub unread_has : (field : List ℕ) (count number : ℕ) (behind : List ℕ) → HasParts field count number behind → IsFrameField field Unread → IsUnread number behind
unread_has field count number behind has (inl is) =
    let same = one_parts field count number behind _ _ _ has (parts_of_flexible field is) in
    inr (subst IsSignFirst (sym same.behinds) refl)
unread_has field count number behind has (inr is) =
    let same = one_parts field count number behind _ _ _ has (parts_of_above field is) in
    let above = is.above in
    let numbers = same.numbers in
    inl (omega (arith, above, numbers))

-- the identifier of a frame with these parts
pub ident_of_frame : (field : List ℕ) (count number : ℕ) (behind : List ℕ) (frame : FrameFields) → HasParts field count number behind → SpellsFrame field frame → IsIdentOf count number frame.ident
ident_of_frame field count number behind frame has spells =
    let same = one_parts field count number behind _ _ _ has (parts_of_frame field frame spells) in
    record { digits = same.counts; is = sym same.numbers; in_range = (spells.ident).in_range }

-- and of a frame with a long code
pub ident_of_long : (field : List ℕ) (count number : ℕ) (behind : List ℕ) → HasParts field count number behind → (long : IsLongCode field) → IsIdentOf count number ((long.frame).0.ident)
ident_of_long field count number behind has long =
    let same = one_parts field count number behind _ _ _ has (parts_of_long field long) in
    record { digits = same.counts; is = sym same.numbers; in_range = ((long.frame).1.ident).in_range }

-- without an identifier there is no frame
pub no_ident : (field : List ℕ) (count number : ℕ) (behind : List ℕ) → HasParts field count number behind → (IsUnread number behind → ⊥) → ((ident : Ident) → IsIdentOf count number ident → ⊥)
    → (x : FrameField) → IsFrameField field x → ⊥
no_ident field count number behind has read none (Read frame) is = none frame.ident (ident_of_frame field count number behind frame has is)
no_ident field count number behind has read none Unread is = read (unread_has field count number behind has is)
no_ident field count number behind has read none LongCode is = none _ (ident_of_long field count number behind has is)

-- an identifier is known by its digits and its number
pub one_ident : (count number : ℕ) (ident other : Ident) → IsIdentOf count number ident → IsIdentOf count number other → ident ≡ other
one_ident count number (Std n) (Std m) is also = ap Std (is.is ∙ sym also.is)
one_ident count number (Ext n) (Ext m) is also = ap Ext (is.is ∙ sym also.is)
one_ident count number (Std n) (Ext m) is also = absurd (let a = is.digits in let b = also.digits in omega (arith, a, b))
one_ident count number (Ext n) (Std m) is also = absurd (let a = is.digits in let b = also.digits in omega (arith, a, b))

-- a frame with this identifier and what stands behind
pub spells_with : (field : List ℕ) (count number : ℕ) (behind : List ℕ) (ident : Ident) (frame : FrameFields) → HasParts field count number behind → IsIdentOf count number ident → IsFrameWith ident behind frame
    → SpellsFrame field frame
spells_with field count number behind ident frame has ident_is with =
    let same = with.ident_is in
    record {
      digits = has.digits;
      behind = behind;
      spelled = has.spelled;
      ident = subst (SpellsIdent has.digits) (sym same) (record {
        hexadecimal = has.hexadecimal;
        count = has.count_is ∙ ident_is.digits;
        is = ident_is.is ∙ has.is;
        in_range = ident_is.in_range;
      });
      carries = with.carries;
      channel = with.channel;
    }

-- and back
pub with_of : (field : List ℕ) (count number : ℕ) (behind : List ℕ) (ident : Ident) (frame : FrameFields) → HasParts field count number behind → IsIdentOf count number ident → SpellsFrame field frame
    → IsFrameWith ident behind frame
with_of field count number behind ident frame has ident_is spells =
    let same = one_parts field count number behind _ _ _ has (parts_of_frame field frame spells) in
    record {
      ident_is = one_ident count number frame.ident ident (ident_of_frame field count number behind frame has spells) ident_is;
      carries = subst (λ b. SpellsData b frame.remote frame.dlc frame.payload) (sym same.behinds) spells.carries;
      channel = spells.channel;
    }

-- the front of a frame with a long code
pub long_with : (field : List ℕ) (count number : ℕ) (behind : List ℕ) (ident : Ident) → HasParts field count number behind → IsIdentOf count number ident → IsLongCode field
    → (front : List ℕ) × (frame : FrameFields) × HasCode behind front × IsFrameWith ident front frame
long_with field count number behind ident has ident_is long =
    let same = one_parts field count number behind _ _ _ has (parts_of_long field long) in
    let frame = (long.frame).0 in
    let spells = (long.frame).1 in (
      spells.behind,
      frame,
      record { digit = long.digit; spelled = same.behinds ∙ sym (append_assoc spells.behind (95 ∷ []) (long.digit ∷ [])); hexadecimal = long.hexadecimal },
      record {
        ident_is = one_ident count number frame.ident ident (ident_of_long field count number behind has long) ident_is;
        carries = spells.carries;
        channel = spells.channel;
      },
    )

-- what was pushed on two lists that are one
one_push : (a b : List ℕ) (x y : ℕ) → a ++ x ∷ [] ≡ b ++ y ∷ [] → a ≡ b
one_push [] [] x y same = refl
one_push [] (c ∷ []) x y same = cc
one_push [] (c ∷ d ∷ b) x y same = cc
one_push (c ∷ []) [] x y same = cc
one_push (c ∷ d ∷ a) [] x y same = cc
one_push (c ∷ a) (d ∷ b) x y same =
    let rest = one_push a b x y (cc) in
    let heads : c ≡ d = cc in
    cc

-- a front has one code behind it
pub one_front : (behind front other : List ℕ) → HasCode behind front → HasCode behind other → front ≡ other
one_front behind front other is also = one_front_by front other is.digit also.digit (sym is.spelled ∙ also.spelled)
  where
    one_front_by : (a b : List ℕ) (x y : ℕ) → (a ++ codes "_") ++ x ∷ [] ≡ (b ++ codes "_") ++ y ∷ [] → a ≡ b
    one_front_by a b x y same =
        let pushed = one_push (a ++ 95 ∷ []) (b ++ 95 ∷ []) x y same in
        append_cancel_right a b (95 ∷ []) pushed

-- a frame with a long code, from its parts
pub is_long : (field : List ℕ) (count number : ℕ) (behind front : List ℕ) (ident : Ident) (frame : FrameFields) → HasParts field count number behind → IsIdentOf count number ident
    → HasCode behind front → IsFrameWith ident front frame → IsFrameField field LongCode
is_long field count number behind front ident frame has ident_is code with =
    let before : HasParts (has.digits ++ codes "#" ++ front) count number front = record {
      digits = has.digits;
      spelled = refl;
      hexadecimal = has.hexadecimal;
      count_is = has.count_is;
      three_or_eight = has.three_or_eight;
      is = has.is;
    } in
    record {
      front = has.digits ++ codes "#" ++ front;
      digit = code.digit;
      spelled = has.spelled ∙ ap (λ l. (has.digits ++ codes "#") ++ l) (code.spelled ∙ append_assoc front (95 ∷ []) (code.digit ∷ []))
          ∙ sym (append_assoc (has.digits ++ codes "#") front (95 ∷ code.digit ∷ [])) ∙ sym (append_assoc ((has.digits ++ codes "#") ++ front) (95 ∷ []) (code.digit ∷ []));
      frame = (frame, spells_with (has.digits ++ codes "#" ++ front) count number front ident frame before ident_is with);
      hexadecimal = code.hexadecimal;
    }

-- no frame stands there
pub no_frame : (field : List ℕ) (count number : ℕ) (behind : List ℕ) (ident : Ident) → HasParts field count number behind → (IsUnread number behind → ⊥) → IsIdentOf count number ident
    → ((frame : FrameFields) → IsFrameWith ident behind frame → ⊥) → ((front : List ℕ) (frame : FrameFields) → HasCode behind front → IsFrameWith ident front frame → ⊥)
    → (x : FrameField) → IsFrameField field x → ⊥
no_frame field count number behind ident has read ident_is none none_long (Read frame) is = none frame (with_of field count number behind ident frame has ident_is is)
no_frame field count number behind ident has read ident_is none none_long Unread is = read (unread_has field count number behind has is)
no_frame field count number behind ident has read ident_is none none_long LongCode is =
    let long = long_with field count number behind ident has ident_is is in
    none_long long.0 long.1 long.2 long.3

-- the digits of parts are those before the first `#`
pub digits_found : (field digits behind : List ℕ) (count number : ℕ) (more : List ℕ) → field ≡ digits ++ 35 ∷ behind → Without 35 digits → (has : HasParts field count number more) → digits ≡ has.digits
digits_found field digits behind count number more split first has =
    (one_split 35 digits has.digits behind more first (digits_without_sign has.digits has.hexadecimal) (sym split ∙ has.spelled ∙ sign_behind has.digits more)).0

-- other counts have no parts
pub other_count : (field digits behind : List ℕ) → field ≡ digits ++ 35 ∷ behind → Without 35 digits → length digits ≢ 3 → length digits ≢ 8 → HasNoParts field
other_count field digits behind split first not_three not_eight count number more has =
    let same : length digits ≡ count = ap length (digits_found field digits behind count number more split first has) ∙ has.count_is in
    other_by has.three_or_eight same
  where
    other_by : (count ≡ 3) ⊎ (count ≡ 8) → length digits ≡ count → ⊥
    other_by (inl three) same = not_three (same ∙ three)
    other_by (inr eight) same = not_eight (same ∙ eight)

-- nor has what are no digits
pub no_digits : (field digits behind : List ℕ) → field ≡ digits ++ 35 ∷ behind → Without 35 digits
    → ((number : ℕ) → All IsHexDigit digits × (number ≡ number_in 16 digits) → ⊥) → HasNoParts field
no_digits field digits behind split first none count number more has =
    let same = digits_found field digits behind count number more split first has in
    none (number_in 16 digits) (subst (All IsHexDigit) (sym same) has.hexadecimal, refl)

-- the code behind a rest that `_` may end
pub code_behind : (behind rest : List ℕ) (digit : ℕ) (found : Option (Bor (List ℕ))) → behind ≡ rest ++ digit ∷ [] → IsHexDigit digit
    → MatchOption found ((front : List ℕ) → rest ≢ front ++ codes "_") (λ front. rest ≡ front.now ++ codes "_")
    → MatchOption found (HasNoCode behind) (λ front. HasCode behind front.now)
code_behind behind rest digit None split is none = λ front has.
    none front (one_push rest (front ++ codes "_") digit has.digit (sym split ∙ has.spelled))
code_behind behind rest digit (Some front) split is found =
    record { digit = digit; spelled = split ∙ ap (λ l. l ++ digit ∷ []) found; hexadecimal = is }
