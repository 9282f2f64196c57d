-- The comment at the front of a text, by searches.
use Rattle.std.proofs.Common.{◌≡◌, ◌≢◌, ◌<◌, ◌≤◌, ◌+◌, ℕ, zero, suc, List, [], ◌∷◌, ◌++◌, length, get_or, take, drop, All, inl, inr, refl, sym, ap, subst, ◌∙◌, arith, length-append, length-drop, append_assoc}
use Rattle.std.proofs.lemmas.Bool.{cases_lt}
use Rattle.std.proofs.lemmas.List.{take-append-drop, length-take-le, drop_more, drop_all, get_or_at, append-nil}
use Rattle.memchr.specs.Find.{OccursAt, FindsNeedle}
use Rattle.capl_lexer.specs.Reading.{block_opening, block_closing, EndsLine, IsLineComment, IsBlockComment}
use Rattle.capl_lexer.specs.Inside.Step.{IsLineCommentFront, IsBlockCommentFront, HasNoBlockComment}
use Rattle.capl_lexer.proofs.SplitLemmas.{take_append_more}

ends_line : (text : List ℕ) (count : ℕ) → (count < length text → get_or text count 0 ≡ 10) → EndsLine (drop count text)
ends_line text count at =
    elim (cases_lt count (length text)) [
      | inl short ↦ subst EndsLine (sym (drop_more text count 0 short)) (at short)
      | inr long ↦ subst EndsLine (sym (drop_all count text long)) tt
    ]

-- `//` and what goes up to before the first line end, or to the end
pub line_front : (text inside : List ℕ) (count : ℕ) → text ≡ 47 ∷ 47 ∷ inside → count ≤ length text
    → ((j : ℕ) → j < count → get_or text j 0 ≢ 10) → (count < length text → get_or text count 0 ≡ 10)
    → IsLineCommentFront text count
line_front text inside zero is within before at =
    let first : get_or text 0 0 ≡ 47 = ap (λ b. get_or b 0 0) is in
    absurd (omega (arith, at (omega (arith, ap length is)), first))
line_front text inside (suc zero) is within before at =
    let second : get_or text 1 0 ≡ 47 = ap (λ b. get_or b 1 0) is in
    absurd (omega (arith, at (omega (arith, ap length is)), second))
line_front text inside (suc (suc count)) is within before at =
    let short : count ≤ length inside = omega (arith, ap length is) in
    let long = length-take-le count inside short in
    record {
      within = within;
      is = (
        take count inside,
        ap (take (suc (suc count))) is,
        (λ k d below.
            let inside_below : k < count = omega (arith, long) in
            let found : get_or inside k d ≢ 10 = λ same.
            before (suc (suc k)) (omega arith) (ap (λ b. get_or b (suc (suc k)) 0) is ∙ same_item inside k 0 d (omega arith) ∙ same) in
            let at_take = get_or-take_any count inside k d inside_below in
            λ same. found (sym at_take ∙ same)),
        ends_line text (suc (suc count)) at,
      );
    }
  where
    same_item : (xs : List ℕ) (k d e : ℕ) → k < length xs → get_or xs k d ≡ get_or xs k e
    same_item [] k d e below = absurd (omega arith)
    same_item (x ∷ xs) zero d e below = refl
    same_item (x ∷ xs) (suc k) d e below = same_item xs k d e (omega arith)

    get_or-take_any : (n : ℕ) (xs : List ℕ) (k d : ℕ) → k < n → get_or (take n xs) k d ≡ get_or xs k d
    get_or-take_any zero xs k d below = absurd (omega arith)
    get_or-take_any (suc n) [] k d below = refl
    get_or-take_any (suc n) (x ∷ xs) zero d below = refl
    get_or-take_any (suc n) (x ∷ xs) (suc k) d below = get_or-take_any n xs k d (omega arith)

-- where `*/` occurs, it stands there
occurs_split : (text : List ℕ) (place : ℕ) → OccursAt text block_closing place
    → text ≡ take place text ++ block_closing ++ drop (place + 2) text
occurs_split text place occurs =
    let fits : place + 2 ≤ length text = occurs.fits in
    let star : get_or text (place + 0) 0 ≡ 42 = occurs.reads 0 (omega arith) in
    let slash : get_or text (place + 1) 0 ≡ 47 = occurs.reads 1 (omega arith) in
    let star_at : get_or text place 0 ≡ 42 = ap (λ n. get_or text n 0) (omega arith) ∙ star in
    let one : drop place text ≡ 42 ∷ drop (place + 1) text =
    drop_more text place 0 (omega arith) ∙ ap (λ b. b ∷ drop (place + 1) text) star_at in
    let last : place + 1 + 1 ≡ place + 2 = omega arith in
    let two : drop (place + 1) text ≡ 47 ∷ drop (place + 2) text =
    drop_more text (place + 1) 0 (omega arith) ∙ ap (λ b. b ∷ drop (place + 1 + 1) text) slash ∙ ap (λ n. 47 ∷ drop n text) last in
    sym (take-append-drop place text) ∙ ap (λ b. take place text ++ b) (one ∙ ap (λ b. 42 ∷ b) two)
    ∙ sym (append_assoc (take place text) block_closing (drop (place + 2) text))

-- where `*/` stands, it occurs
occurs_from : (text before after : List ℕ) → text ≡ before ++ block_closing ++ after → OccursAt text block_closing (length before)
occurs_from text before after is =
    let nested : text ≡ before ++ 42 ∷ (47 ∷ after) = is ∙ append_assoc before block_closing after in
    let shifted : text ≡ (before ++ 42 ∷ []) ++ 47 ∷ after = nested ∙ sym (append_assoc before (42 ∷ []) (47 ∷ after)) in
    let count : length (before ++ 42 ∷ []) ≡ length before + 1 = length-append before (42 ∷ []) in
    record {
      fits = omega (arith, ap length nested, length-append before (42 ∷ (47 ∷ after)));
      reads = reads_at nested shifted count;
    }
  where
    reads_at : text ≡ before ++ 42 ∷ (47 ∷ after) → text ≡ (before ++ 42 ∷ []) ++ 47 ∷ after
        → length (before ++ 42 ∷ []) ≡ length before + 1
        → (j : ℕ) → j < 2 → get_or text (length before + j) 0 ≡ get_or block_closing j 0
    reads_at nested shifted count zero below =
        ap (λ b. get_or b (length before + 0) 0) nested ∙ get_or_at before 42 (47 ∷ after) 0 (length before + 0) (omega arith)
    reads_at nested shifted count (suc zero) below =
        ap (λ b. get_or b (length before + 1) 0) shifted ∙ get_or_at (before ++ 42 ∷ []) 47 after 0 (length before + 1) count
    reads_at nested shifted count (suc (suc j)) below = absurd (omega arith)

-- `/*` and what goes up to the first `*/`
pub block_front : (text inside : List ℕ) (place : ℕ) → text ≡ 47 ∷ 42 ∷ inside → OccursAt inside block_closing place
    → ((k : ℕ) → k < place → OccursAt inside block_closing k → ⊥) → IsBlockCommentFront text (2 + place + 2)
block_front text inside place is occurs first =
    let fits : place + 2 ≤ length inside = occurs.fits in
    let before = take place inside in
    let rest = drop (place + 2) inside in
    let split = occurs_split inside place occurs in
    let long : length before ≡ place = length-take-le place inside (omega arith) in
    let sizes : 2 + place + 2 ≡ length (block_opening ++ before ++ block_closing) + 0 =
    omega (arith, length-append before block_closing) in
    let whole : text ≡ (block_opening ++ before ++ block_closing) ++ rest = is ∙ ap (λ b. 47 ∷ 42 ∷ b) split in
    let spelled : take (2 + place + 2) text ≡ block_opening ++ before ++ block_closing =
    ap (λ n. take n text) sizes ∙ ap (take (length (block_opening ++ before ++ block_closing) + 0)) whole
    ∙ take_append_more (block_opening ++ before ++ block_closing) rest 0 ∙ append-nil (block_opening ++ before ++ block_closing) in
    record {
      within = omega (arith, ap length is);
      is = (
        before,
        spelled,
        λ others after same.
            elim (cases_lt (length others) (length before)) [
              | inl short ↦
                  let again : inside ≡ others ++ block_closing ++ (after ++ rest) =
                  split ∙ ap (λ b. b ++ rest) same ∙ append_assoc (others ++ block_closing) after rest in
                  absurd (first (length others) (omega arith) (occurs_from inside others (after ++ rest) again))
              | inr enough ↦ enough
            ],
      );
    }

-- `/*` with no `*/` behind it
pub block_none : (text inside : List ℕ) → text ≡ 47 ∷ 42 ∷ inside
    → ((k : ℕ) → k < length inside + 1 → OccursAt inside block_closing k → ⊥) → HasNoBlockComment text
block_none text inside is none bytes rest split (within, spelled, first) =
    let whole : 47 ∷ 42 ∷ inside ≡ 47 ∷ 42 ∷ (within ++ block_closing) ++ rest = sym is ∙ split ∙ ap (λ b. b ++ rest) spelled in
    let same : inside ≡ within ++ block_closing ++ rest = cc in
    let occurs = occurs_from inside within rest same in
    none (length within) (omega (arith, occurs.fits)) occurs
