-- The first line of a text, by the lines of the library.
use Rattle.std.proofs.Common.{◌≡◌, ◌≢◌, ◌<◌, ◌≤◌, ◌+◌, ◌-◌, take, length-append, ℕ, Bool, true, false, List, [], ◌∷◌, ◌++◌, length, refl, sym, ap, ◌∙◌, arith, append_assoc, All}
use Rattle.std.specs.Prelude.{◌==◌, slice_index, if◌then◌else◌}
use Rattle.std.specs.List.{slice_split}
use Rattle.std.specs.Str.Lines.{lines, lines_of_parts, strip_carriage_return}
use Rattle.std.proofs.lemmas.Bool.Decides.{nat_tests}
use Rattle.std.proofs.lemmas.List.{append-nil, length-take-le}
use Rattle.std.proofs.lemmas.List.Splits.{slice_split_none, slice_split_at, length-slice_split}

-- the test of a line feed
abbrev is_feed : ℕ → Bool
is_feed byte = byte == 10

no_feed : (line : List ℕ) → All (λ byte. byte ≢ 10) line → All (λ byte. is_feed byte ≡ false) line
no_feed line none k d within = let other = none k d within in grind (arith, nat_tests)

-- a piece before others is a line
more_parts : (line : List ℕ) (parts : List (List ℕ)) → 0 < length parts → lines_of_parts (line ∷ parts) ≡ strip_carriage_return line ∷ lines_of_parts parts
more_parts line [] some = absurd (omega (arith, some))
more_parts line (part ∷ parts) some = refl

-- a line that a line feed ends
pub lines-ended : (text line rest : List ℕ) → All (λ byte. byte ≢ 10) line → text ≡ (line ++ 10 ∷ []) ++ rest → lines text ≡ strip_carriage_return line ∷ lines rest
lines-ended text line rest none is =
    let split : slice_split is_feed text ≡ line ∷ slice_split is_feed rest =
    ap (slice_split is_feed) (is ∙ append_assoc line (10 ∷ []) rest) ∙ slice_split_at is_feed line 10 rest (no_feed line none) refl in
    ap lines_of_parts split ∙ more_parts line (slice_split is_feed rest) (omega (arith, length-slice_split is_feed rest))

-- the one piece of a text without a line feed
one_part : (line : List ℕ) → line ≢ [] → lines_of_parts (line ∷ []) ≡ line ∷ []
one_part [] some = absurd (some refl)
one_part (byte ∷ bytes) some = let long : (length (byte ∷ bytes) == 0) ≡ false = grind (arith, nat_tests) in rw long refl

-- the last line, without one
pub lines-last : (text line rest : List ℕ) → All (λ byte. byte ≢ 10) line → text ≢ [] → rest ≡ [] → text ≡ (line ++ []) ++ rest → lines text ≡ line ∷ lines rest
lines-last text line rest none some empty is =
    let whole : text ≡ line = is ∙ ap (λ more. (line ++ []) ++ more) empty ∙ append-nil (line ++ []) ∙ append-nil line in
    let split : slice_split is_feed text ≡ line ∷ [] = ap (slice_split is_feed) whole ∙ slice_split_none is_feed line (no_feed line none) in
    ap lines_of_parts split ∙ one_part line (λ nothing. some (whole ∙ nothing)) ∙ ap (λ more. line ∷ lines more) (sym empty)

-- a line without its carriage return is no longer
strip_shorter : (line : List ℕ) → length (strip_carriage_return line) ≤ length line
strip_shorter line = by (slice_index line (length line - 1) == 13)
  where
    by : (b : Bool) → length (if b then take (length line - 1) line else line) ≤ length line
    by true = let same = length-take-le (length line - 1) line (omega arith) in omega (arith, same)
    by false = omega arith

-- the bytes of an ended line and of those behind it
pub ended_within : (text line rest : List ℕ) → text ≡ (line ++ 10 ∷ []) ++ rest → length (strip_carriage_return line) + length rest ≤ length text
ended_within text line rest is =
    let whole : length text ≡ length line + 1 + length rest =
    ap length is ∙ length-append (line ++ 10 ∷ []) rest ∙ ap (λ n. n + length rest) (length-append line (10 ∷ [])) in
    omega (arith, whole, strip_shorter line)

-- and of the last one
pub last_within : (text line rest : List ℕ) → text ≡ (line ++ []) ++ rest → length line + length rest ≤ length text
last_within text line rest is =
    let whole : length text ≡ length line + 0 + length rest =
    ap length is ∙ length-append (line ++ []) rest ∙ ap (λ n. n + length rest) (length-append line []) in
    omega (arith, whole)
