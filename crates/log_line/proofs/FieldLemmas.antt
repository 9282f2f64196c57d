-- The fields of a text, from its front.
use Rattle.std.proofs.Common.{◌≡◌, ℕ, zero, suc, ◌-◌, ◌<◌, ◌≤◌, Bool, true, false, List, [], ◌∷◌, ◌++◌, length, get_or, take, drop, refl, sym, ap, subst, ◌∙◌, arith, take-append-drop, drop-cons, length-drop, length-take}
use Rattle.std.specs.Prelude.{All, filter, not, position, Some, None}
use Rattle.std.specs.List.{position_or_len}
use Rattle.std.proofs.lemmas.Option.{cond_some}
use Rattle.std.proofs.lemmas.Bool.Decides.{nat_tests}
use Rattle.std.proofs.lemmas.List.{drop_all, take_all, get_or-take}
use Rattle.std.proofs.lemmas.List.Elements.{All-from_get_or}
use Rattle.std.proofs.lemmas.List.Splits.{slice_split-cons_yes, slice_split_none, slice_split_at}
use Rattle.std.proofs.lemmas.List.Sums.{fails_before_first, passes_at_first}
use Rattle.log_line.specs.Reading.{is_blank, has_bytes, log_fields}

-- a blank in front of a text is none of its fields
pub fields_of-blank : (byte : ℕ) (text : List ℕ) → is_blank byte ≡ true → log_fields (byte ∷ text) ≡ log_fields text
fields_of-blank byte text blank = ap (filter has_bytes) (slice_split-cons_yes is_blank byte text blank)

-- a field before a blank is the first
pub fields_of-first : (byte : ℕ) (field : List ℕ) (blank : ℕ) (text : List ℕ) → All (λ b. is_blank b ≡ false) (byte ∷ field) → is_blank blank ≡ true
    → log_fields (byte ∷ field ++ blank ∷ text) ≡ (byte ∷ field) ∷ log_fields text
fields_of-first byte field blank text all is = ap (filter has_bytes) (slice_split_at is_blank (byte ∷ field) blank text all is)

-- a text without blanks is one field
pub fields_of-only : (byte : ℕ) (field : List ℕ) → All (λ b. is_blank b ≡ false) (byte ∷ field) → log_fields (byte ∷ field) ≡ (byte ∷ field) ∷ []
fields_of-only byte field all = ap (filter has_bytes) (slice_split_none is_blank (byte ∷ field) all)

-- whether the byte is none
abbrev is_part : ℕ → Bool
is_part byte = not (is_blank byte)

-- one byte in front, by whether it is a blank
skip_one : (byte : ℕ) (text : List ℕ) (t : Bool) → is_blank byte ≡ t → log_fields text ≡ log_fields (drop (position_or_len is_part text) text)
    → log_fields (byte ∷ text) ≡ log_fields (drop (position_or_len is_part (byte ∷ text)) (byte ∷ text))
skip_one byte text true is rest =
    let further : suc (position_or_len is_part text) ≡ position_or_len is_part (byte ∷ text) = rw is (omega arith) in
    fields_of-blank byte text is ∙ rest ∙ ap (λ n. log_fields (drop n (byte ∷ text))) further
skip_one byte text false is rest =
    let here : 0 ≡ position_or_len is_part (byte ∷ text) = rw is refl in
    ap (λ n. log_fields (drop n (byte ∷ text))) here

-- blanks in front are none of a text's fields
pub fields_of-skip : (text : List ℕ) → log_fields text ≡ log_fields (drop (position_or_len is_part text) text)
fields_of-skip [] = refl
fields_of-skip (byte ∷ text) = skip_one byte text (is_blank byte) refl (fields_of-skip text)

-- what a search for a place found
pub record IsPlaceOf (test : ℕ → Bool) (text : List ℕ) (place : ℕ) : Type 0 where
  pub within : place < length text
  pub is : place ≡ position_or_len test text
  pub passes : test (get_or text place 0) ≡ true

-- the place that was found
pub place_found : (test : ℕ → Bool) (text : List ℕ) (place : ℕ) → Some place ≡ position test text → IsPlaceOf test text place
place_found test text place found =
    let parts = cond_some _ _ _ (sym found) in
    let is : place ≡ position_or_len test text = sym parts.1 in
    let within : position_or_len test text < length text = grind (arith, nat_tests, parts.0) in
    record {
      within = omega (arith, is, within);
      is = is;
      passes = subst (λ n. test (get_or text n 0) ≡ true) (sym is) (passes_at_first test text 0 within);
    }

-- none was found
pub no_place : (test : ℕ → Bool) (text : List ℕ) → None ≡ position test text → length text ≤ position_or_len test text
no_place test text none = grind (arith, nat_tests, none)

-- the text goes on with the first field
pub fields_of-from : (text : List ℕ) (place : ℕ) → IsPlaceOf is_part text place → log_fields text ≡ log_fields (drop place text)
fields_of-from text place is = fields_of-skip text ∙ ap (λ n. log_fields (drop n text)) (sym is.is)

-- a text of blanks has no field
pub fields_of-none : (text : List ℕ) → length text ≤ position_or_len is_part text → log_fields text ≡ []
fields_of-none text all = fields_of-skip text ∙ ap log_fields (drop_all (position_or_len is_part text) text all)

-- no blank stands before the first
no_blank_before : (text : List ℕ) (place : ℕ) → place ≤ position_or_len is_blank text → All (λ b. is_blank b ≡ false) (take place text)
no_blank_before text place before =
    All-from_get_or (λ b. is_blank b ≡ false) (take place text) 0
    (λ k within. let low : k < place = omega (arith, within, length-take place text) in
    rw (get_or-take place text k 0 low) (fails_before_first is_blank text k 0 (omega (arith, low, before))))

-- the first field ends before the first blank
pub fields_of-split : (byte : ℕ) (text : List ℕ) (place : ℕ) → is_blank byte ≡ false → IsPlaceOf is_blank (byte ∷ text) place
    → log_fields (byte ∷ text) ≡ take place (byte ∷ text) ∷ log_fields (drop place (byte ∷ text))
fields_of-split byte text zero no_blank is = let yes = is.passes in cc
fields_of-split byte text (suc place) no_blank is =
    let split : byte ∷ text ≡ (byte ∷ take place text) ++ get_or (byte ∷ text) (suc place) 0 ∷ drop (suc (suc place)) (byte ∷ text) =
    sym (take-append-drop (suc place) (byte ∷ text)) ∙ ap (λ l. (byte ∷ take place text) ++ l) (drop-cons (byte ∷ text) (suc place) 0 is.within) in
    let before = no_blank_before (byte ∷ text) (suc place) (let same = is.is in omega (arith, same)) in
    ap log_fields split
    ∙ fields_of-first byte (take place text) (get_or (byte ∷ text) (suc place) 0) (drop (suc (suc place)) (byte ∷ text)) before is.passes
    ∙ ap (λ l. (byte ∷ take place text) ∷ l)
    (sym (fields_of-blank (get_or (byte ∷ text) (suc place) 0) (drop (suc (suc place)) (byte ∷ text)) is.passes)
    ∙ ap log_fields (sym (drop-cons (byte ∷ text) (suc place) 0 is.within)))

-- without a blank there is one field
pub fields_of-whole : (byte : ℕ) (text : List ℕ) → length (byte ∷ text) ≤ position_or_len is_blank (byte ∷ text) → log_fields (byte ∷ text) ≡ (byte ∷ text) ∷ []
fields_of-whole byte text all =
    fields_of-only byte text (subst (All (λ b. is_blank b ≡ false)) (take_all (length (byte ∷ text)) (byte ∷ text) (omega arith)) (no_blank_before (byte ∷ text) (length (byte ∷ text)) all))

-- a text that begins with a part
pub record BeginsWithPart (text : List ℕ) : Type 0 where
  pub byte : ℕ
  pub rest : List ℕ
  pub is : text ≡ byte ∷ rest
  pub no_blank : is_blank byte ≡ false

not_false : (b : Bool) → not b ≡ true → b ≡ false
not_false true is = cc
not_false false is = refl

-- the text from a part on begins with it
pub begins_at : (text : List ℕ) (place : ℕ) → IsPlaceOf is_part text place → BeginsWithPart (drop place text)
begins_at text place is = record {
  byte = get_or text place 0;
  rest = drop (suc place) text;
  is = drop-cons text place 0 is.within;
  no_blank = not_false (is_blank (get_or text place 0)) is.passes;
}

-- the same of a text that is known to begin with a part
pub split_at_blank : (text : List ℕ) (place : ℕ) → BeginsWithPart text → IsPlaceOf is_blank text place
    → log_fields text ≡ take place text ∷ log_fields (drop place text)
split_at_blank text place begins is =
    subst (λ t. IsPlaceOf is_blank t place → log_fields t ≡ take place t ∷ log_fields (drop place t)) (sym begins.is)
    (fields_of-split begins.byte begins.rest place begins.no_blank) is

-- and of one without a blank
pub whole_field : (text : List ℕ) → BeginsWithPart text → length text ≤ position_or_len is_blank text → log_fields text ≡ text ∷ []
whole_field text begins all =
    subst (λ t. length t ≤ position_or_len is_blank t → log_fields t ≡ t ∷ []) (sym begins.is)
    (fields_of-whole begins.byte begins.rest) all

-- a slice to the end is the rest
rest_is : (text : List ℕ) (place : ℕ) → take (length text - place) (drop place text) ≡ drop place text
rest_is text place = take_all (length text - place) (drop place text) (omega (arith, length-drop place text))

-- the first field ends at a blank
pub next_found : (text : List ℕ) (place end : ℕ) (front back : List ℕ) → Some place ≡ position is_part text
    → Some end ≡ position is_blank (take (length text - place) (drop place text))
    → front ≡ take end (take (length text - place) (drop place text)) → back ≡ drop end (take (length text - place) (drop place text))
    → log_fields text ≡ front ∷ log_fields back
next_found text place end front back part blank front_is back_is =
    let at = place_found is_part text place part in
    let from : List ℕ = take (length text - place) (drop place text) in
    let begins : BeginsWithPart from = subst BeginsWithPart (sym (rest_is text place)) (begins_at text place at) in
    let split = split_at_blank from end begins (place_found is_blank from end blank) in
    fields_of-from text place at ∙ ap log_fields (sym (rest_is text place)) ∙ split
    ∙ ap (λ l. l ∷ log_fields (drop end from)) (sym front_is) ∙ ap (λ l. front ∷ log_fields l) (sym back_is)

-- or with the text
pub last_found : (text : List ℕ) (place : ℕ) → Some place ≡ position is_part text
    → None ≡ position is_blank (take (length text - place) (drop place text))
    → log_fields text ≡ take (length text - place) (drop place text) ∷ []
last_found text place part none =
    let at = place_found is_part text place part in
    let from : List ℕ = take (length text - place) (drop place text) in
    let begins : BeginsWithPart from = subst BeginsWithPart (sym (rest_is text place)) (begins_at text place at) in
    fields_of-from text place at ∙ ap log_fields (sym (rest_is text place)) ∙ whole_field from begins (no_place is_blank from none)

-- or there is none
pub none_found : (text : List ℕ) → None ≡ position is_part text → log_fields text ≡ []
none_found text none = fields_of-none text (no_place is_part text none)
