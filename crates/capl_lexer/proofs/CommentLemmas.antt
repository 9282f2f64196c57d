-- Comments: that at most one is at the front of a text.
use Rattle.std.proofs.Common.{◌≡◌, ◌≢◌, ◌<◌, ◌≤◌, ◌+◌, ◌-◌, ℕ, List, [], ◌∷◌, ◌++◌, length, take, drop, All, inl, inr, refl, sym, ap, subst, ◌∙◌, arith, length-append, append_assoc}
use Rattle.std.specs.Prelude.{◌⊎◌}
use Rattle.std.proofs.lemmas.Bool.{cases_lt}
use Rattle.std.proofs.lemmas.List.{append_cancel_left, take-append-le, take_at, take-append-drop}
use Rattle.std.proofs.lemmas.List.Elements.{All-head, All-tail}
use Rattle.capl_lexer.specs.Reading.{line_opening, block_opening, block_closing, IsCommentOpening, OpensComment, EndsLine, IsLineComment, IsBlockComment}
use Rattle.capl_lexer.proofs.SplitLemmas.{front_injective, take_more_of}

-- the bytes of a line are the same, and so is what follows it
line-unique : (xs ys rest after : List ℕ) → All (λ byte. byte ≢ 10) xs → All (λ byte. byte ≢ 10) ys
    → EndsLine rest → EndsLine after → xs ++ rest ≡ ys ++ after → (xs ≡ ys) × (rest ≡ after)
line-unique [] [] rest after all every ends stops same = (refl, same)
line-unique [] (y ∷ ys) rest after all every ends stops same =
    absurd (All-head (λ byte. byte ≢ 10) y ys every (subst EndsLine same ends))
line-unique (x ∷ xs) [] rest after all every ends stops same =
    absurd (All-head (λ byte. byte ≢ 10) x xs all (subst EndsLine (sym same) stops))
line-unique (x ∷ xs) (y ∷ ys) rest after all every ends stops same =
    let one : x ≡ y = cc in
    let tails : xs ++ rest ≡ ys ++ after = cc in
    let behind = line-unique xs ys rest after (All-tail (λ byte. byte ≢ 10) x xs all) (All-tail (λ byte. byte ≢ 10) y ys every) ends stops tails in
    (let both = behind.0 in cc, behind.1)

-- `*/` stands at no earlier place
abbrev pub IsClosedFirst : List ℕ → Type 0
IsClosedFirst inside =
    (before after : List ℕ) → inside ++ block_closing ≡ before ++ block_closing ++ after
    → length inside ≤ length before

-- what is closed first is not closed behind another closing
closed-le : (xs ys rest after : List ℕ) → IsClosedFirst ys
    → xs ++ block_closing ++ rest ≡ ys ++ block_closing ++ after → length ys ≤ length xs
closed-le xs ys rest after first same =
    elim (cases_lt (length xs) (length ys)) [
      | inl short ↦
          let count = length ys + 2 in
          let closing = length-append xs block_closing in
          let whole : take count (xs ++ block_closing ++ rest) ≡ ys ++ block_closing =
          ap (take count) same ∙ take_at (ys ++ block_closing) after count (length-append ys block_closing) in
          let more = take (count - (length xs + 2)) rest in
          let part : take count (xs ++ block_closing ++ rest) ≡ xs ++ block_closing ++ more =
          take_more_of (xs ++ block_closing) rest (length xs + 2) count closing (omega arith) in
          first xs more (sym whole ∙ part)
      | inr long ↦ long
    ]

-- two comments that are closed first are one
closed-unique : (xs ys rest after : List ℕ) → IsClosedFirst xs → IsClosedFirst ys
    → xs ++ block_closing ++ rest ≡ ys ++ block_closing ++ after → (xs ≡ ys) × (rest ≡ after)
closed-unique xs ys rest after first also same =
    let lengths : length xs ≡ length ys = omega (arith, closed-le xs ys rest after also same, closed-le ys xs after rest first (sym same)) in
    let nested : xs ++ (block_closing ++ rest) ≡ ys ++ (block_closing ++ after) =
    sym (append_assoc xs block_closing rest) ∙ same ∙ append_assoc ys block_closing after in
    let one : xs ≡ ys = front_injective xs ys (block_closing ++ rest) (block_closing ++ after) nested lengths in
    let tails : block_closing ++ rest ≡ block_closing ++ after =
    append_cancel_left ys (block_closing ++ rest) (block_closing ++ after) (ap (λ b. b ++ (block_closing ++ rest)) (sym one) ∙ nested) in
    (one, append_cancel_left block_closing rest after tails)

-- the bytes of a comment and what follows them are the same where the text is
pub comment-unique : (bytes others rest after : List ℕ)
    → IsLineComment bytes rest ⊎ IsBlockComment bytes → IsLineComment others after ⊎ IsBlockComment others
    → bytes ++ rest ≡ others ++ after → (bytes ≡ others) × (rest ≡ after)
comment-unique bytes others rest after (inl (inside, is, all, ends)) (inl (within, is_too, every, stops)) same =
    let whole : 47 ∷ 47 ∷ inside ++ rest ≡ 47 ∷ 47 ∷ within ++ after =
    ap (λ b. b ++ rest) (sym is) ∙ same ∙ ap (λ b. b ++ after) is_too in
    let one = line-unique inside within rest after all every ends stops (cc) in
    (is ∙ ap (λ b. 47 ∷ 47 ∷ b) one.0 ∙ sym is_too, one.1)
comment-unique bytes others rest after (inl (inside, is, all, ends)) (inr (within, is_too, first)) same =
    let whole : 47 ∷ 47 ∷ inside ++ rest ≡ 47 ∷ 42 ∷ (within ++ block_closing) ++ after =
    ap (λ b. b ++ rest) (sym is) ∙ same ∙ ap (λ b. b ++ after) is_too in
    let wrong : ◌≡◌ {A = ℕ} 47 42 = cc in absurd (omega (arith, wrong))
comment-unique bytes others rest after (inr (inside, is, first)) (inl (within, is_too, every, stops)) same =
    let whole : 47 ∷ 42 ∷ (inside ++ block_closing) ++ rest ≡ 47 ∷ 47 ∷ within ++ after =
    ap (λ b. b ++ rest) (sym is) ∙ same ∙ ap (λ b. b ++ after) is_too in
    let wrong : ◌≡◌ {A = ℕ} 42 47 = cc in absurd (omega (arith, wrong))
comment-unique bytes others rest after (inr (inside, is, first)) (inr (within, is_too, also)) same =
    let whole : 47 ∷ 42 ∷ (inside ++ block_closing) ++ rest ≡ 47 ∷ 42 ∷ (within ++ block_closing) ++ after =
    ap (λ b. b ++ rest) (sym is) ∙ same ∙ ap (λ b. b ++ after) is_too in
    let one = closed-unique inside within rest after first also (cc) in
    (is ∙ ap (λ b. 47 ∷ 42 ∷ (b ++ block_closing)) one.0 ∙ sym is_too, one.1)

-- where a comment is, one begins
pub comment-opens : (text bytes rest : List ℕ) → text ≡ bytes ++ rest → IsLineComment bytes rest ⊎ IsBlockComment bytes
    → OpensComment text
comment-opens text bytes rest split (inl (inside, is, all, ends)) =
    (line_opening, inside ++ rest, inl refl, split ∙ ap (λ b. b ++ rest) is)
comment-opens text bytes rest split (inr (inside, is, first)) =
    (block_opening, (inside ++ block_closing) ++ rest, inr refl, split ∙ ap (λ b. b ++ rest) is)

-- a text in which a comment begins begins with `/`
pub opens-front : (text : List ℕ) → OpensComment text → (others : List ℕ) × (text ≡ 47 ∷ others)
opens-front text (opening, rest, inl is, split) = (47 ∷ rest, split ∙ ap (λ b. b ++ rest) is)
opens-front text (opening, rest, inr is, split) = (42 ∷ rest, split ∙ ap (λ b. b ++ rest) is)

-- a comment has at least two bytes
pub comment-positive : (bytes rest : List ℕ) → IsLineComment bytes rest ⊎ IsBlockComment bytes → 0 < length bytes
comment-positive bytes rest (inl (inside, is, all, ends)) = omega (arith, ap length is)
comment-positive bytes rest (inr (inside, is, first)) = omega (arith, ap length is)
