-- Pairs of digits that stand one behind another in a text.
use Rattle.std.proofs.Common.{◌≡◌, ℕ, ◌+◌, ◌*◌, ◌<◌, ◌≤◌, List, [], ◌∷◌, length, get_or, set, drop, ap, subst, ◌∙◌, arith, length-drop, drop-drop}
use Rattle.std.specs.Char.{IsAsciiHexdigit}
use Rattle.std.specs.List.{All}
use Rattle.std.proofs.lemmas.List.{get_or-drop}
use Rattle.std.proofs.lemmas.List.Elements.{All-drop, All-head}
use Rattle.text_parts.specs.Number.{IsHexDigit, digit_value}
use Rattle.log_line.specs.Inside.FrameField.{HasDotAndMore}
use Rattle.log_line.proofs.BytesLemmas.{HasTaken, first_of_pair, taken_more, empty_is, two_in_front}

-- what is a digit to std is one
digit_from : (byte : ℕ) → IsAsciiHexdigit byte → IsHexDigit byte
digit_from byte is = grind (arith, is)

-- digits to std are digits
pub digits_from : (bytes : List ℕ) → All IsAsciiHexdigit bytes → All IsHexDigit bytes
digits_from bytes all = λ k d low. digit_from (get_or bytes k d) (all k d low)

-- no dot stands before digits
no_dot_in : (digits : List ℕ) → All IsHexDigit digits → HasDotAndMore digits → ⊥
no_dot_in digits all dot =
    let is : IsHexDigit 46 = All-head IsHexDigit 46 dot.0 (subst (All IsHexDigit) dot.1 all) in
    grind (arith, is)

-- the two bytes at a place, and what stands behind them
two_at : (place : ℕ) (text : List ℕ) → place + 2 ≤ length text → drop place text ≡ get_or text place 0 ∷ get_or text (place + 1) 0 ∷ drop (place + 2) text
two_at place text long =
    two_in_front (drop place text) (omega (arith, length-drop place text, long))
    ∙ ap (λ x. x ∷ get_or (drop place text) 1 0 ∷ drop 2 (drop place text)) (get_or-drop place text 0 0 ∙ ap (λ i. get_or text i 0) (omega arith))
    ∙ ap (λ y. get_or text place 0 ∷ y ∷ drop 2 (drop place text)) (get_or-drop place text 1 0)
    ∙ ap (λ rest. get_or text place 0 ∷ get_or text (place + 1) 0 ∷ rest) (drop-drop 2 place text ∙ ap (λ i. drop i text) (omega arith))

-- one pair more
pub taken_pair : (digits : List ℕ) (count high low : ℕ) (bytes : List ℕ) → All IsHexDigit digits → 2 * count + 2 ≤ length digits → count < 8 → HasTaken digits (drop (2 * count) digits) count bytes
    → high ≡ digit_value (get_or digits (2 * count) 0) → low ≡ digit_value (get_or digits (2 * count + 1) 0)
    → HasTaken digits (drop (2 * (count + 1)) digits) (count + 1) (set bytes count (high * 16 + low))
taken_pair digits count high low bytes all long room taken high_is low_is =
    let x = get_or digits (2 * count) 0 in
    let y = get_or digits (2 * count + 1) 0 in
    let behind = drop (2 * count + 2) digits in
    let two = two_at (2 * count) digits long in
    let first = first_of_pair x y high low behind (all (2 * count) 0 (omega (arith, long)), high_is) (all (2 * count + 1) 0 (omega (arith, long)), low_is)
    (no_dot_in behind (All-drop IsHexDigit (2 * count + 2) digits all)) in
    let next : 2 * count + 2 ≡ 2 * (count + 1) = omega arith in
    subst (λ n. HasTaken digits (drop n digits) (count + 1) (set bytes count (high * 16 + low))) next
    (taken_more digits (x ∷ y ∷ behind) behind count (high * 16 + low) bytes (subst (λ rest. HasTaken digits rest count bytes) two taken) room (λ none. cc) first)

-- all pairs
pub taken_whole : (digits : List ℕ) (count : ℕ) (bytes : List ℕ) → length digits ≡ 2 * count → HasTaken digits (drop (2 * count) digits) count bytes → HasTaken digits [] count bytes
taken_whole digits count bytes whole taken =
    subst (λ rest. HasTaken digits rest count bytes) (empty_is (drop (2 * count) digits) (omega (arith, whole, length-drop (2 * count) digits))) taken
