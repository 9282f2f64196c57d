-- Each text has the tokens of a reading, or a place at which no piece begins.
use Rattle.std.proofs.Common.{◌≡◌, ◌≢◌, ◌<◌, ◌≤◌, ◌+◌, ℕ, zero, suc, List, [], ◌∷◌, ◌++◌, length, take, drop, inl, inr, refl, sym, ap, subst, ◌∙◌, arith, All, append_assoc, length-append, length-drop, length-take-le, take-append-drop}
use Rattle.std.specs.Prelude.{◌⊎◌}
use Rattle.std.proofs.lemmas.Bool.{cases_lt}
use Rattle.std.proofs.lemmas.List.Elements.{All-nil, All-cons}
use Rattle.std.proofs.lemmas.List.{take_at, drop_at, drop-drop}
use Rattle.capl_lexer.specs.Spelling.{IsBlank, Spells}
use Rattle.capl_lexer.specs.Reading.{Piece, Blank, Comment, Lexeme, IsFront, AreFront, OpensComment, EndsLine, IsLineComment, IsBlockComment, IsLongest, line_opening, block_opening, block_closing, first_place, tokens_at, IsReading, IsBadPlace}
use Rattle.capl_lexer.specs.declared.token.Tok.{Tok}
use Rattle.capl_lexer.specs.declared.token.Token.{Token}
use Rattle.capl_lexer.proofs.ReadingLemmas.{front-nil}
use Rattle.capl_lexer.proofs.SpellingLemmas.{spelling-front}
use Rattle.whole_readings.proofs.Known.{Known, known_by, known_both, known_either, known_same, first_split, same_heads, IsFirstSplit, HasFirstSplit, HasNoSplit}
use Rattle.whole_readings.proofs.Spellings.{SpellsAny, known_spelling, known_blank}

-- some piece stands at the front of a text
abbrev IsAnyFront : List ℕ → Type 0
IsAnyFront text = (piece : Piece) × (rest : List ℕ) × IsFront piece text rest

-- or none does
abbrev HasNoFront : List ℕ → Type 0
HasNoFront text = (piece : Piece) (rest : List ℕ) → IsFront piece text rest → ⊥

-- ---- the longest token

-- a token of so many bytes stands at the front of a text, and none of more up to a number
record IsLongestUpTo (text : List ℕ) (most count : ℕ) : Type 0 where
  token : Tok
  spells : Spells (take count text) token
  within : count ≤ most
  longest : (more : ℕ) → count < more → more ≤ most → SpellsAny (take more text) → ⊥

-- no token of up to so many bytes stands there
abbrev HasNoneUpTo : List ℕ → ℕ → Type 0
HasNoneUpTo text most = (count : ℕ) → count ≤ most → SpellsAny (take count text) → ⊥

none_at : (text : List ℕ) (most : ℕ) → (SpellsAny (take (suc most) text) → ⊥) → HasNoneUpTo text most → HasNoneUpTo text (suc most)
none_at text most fails none count within spells =
    elim (cases_lt count (suc most)) [
      | inl less ↦ none count (omega (arith, less)) spells
      | inr at ↦ let same : count ≡ suc most = omega (arith, at, within) in fails (subst (λ n. SpellsAny (take n text)) same spells)
    ]

longer_at : (text : List ℕ) (most count : ℕ) → (SpellsAny (take (suc most) text) → ⊥) → IsLongestUpTo text most count → IsLongestUpTo text (suc most) count
longer_at text most count fails is =
    record {
      token = is.token;
      spells = is.spells;
      within = let low = is.within in omega (arith, low);
      longest = λ more above within spells.
          elim (cases_lt more (suc most)) [
            | inl less ↦ is.longest more above (omega (arith, less)) spells
            | inr at ↦ let same : more ≡ suc most = omega (arith, at, within) in fails (subst (λ n. SpellsAny (take n text)) same spells)
          ];
    }

longest_here : (text : List ℕ) (most : ℕ) → SpellsAny (take most text) → IsLongestUpTo text most most
longest_here text most (token, spells) =
    record { token = token; spells = spells; within = omega arith; longest = λ more above within also. absurd (omega (arith, above, within)) }

longest_behind : (text : List ℕ) (most : ℕ) → (SpellsAny (take (suc most) text) → ⊥) → ((count : ℕ) × IsLongestUpTo text most count) ⊎ HasNoneUpTo text most
    → ((count : ℕ) × IsLongestUpTo text (suc most) count) ⊎ HasNoneUpTo text (suc most)
longest_behind text most fails (inl (count, is)) = inl (count, longer_at text most count fails is)
longest_behind text most fails (inr none) = inr (none_at text most fails none)

longest_up_to : (text : List ℕ) (most : ℕ) → ((count : ℕ) × IsLongestUpTo text most count) ⊎ HasNoneUpTo text most
longest_up_to text zero =
    elim (known_spelling (take 0 text)) [
      | inl spells ↦ inl (0, longest_here text 0 spells)
      | inr fails ↦ inr (λ count within spells. let same : count ≡ 0 = omega (arith, within) in fails (subst (λ n. SpellsAny (take n text)) same spells))
    ]
longest_up_to text (suc most) =
    elim (known_spelling (take (suc most) text)) [
      | inl spells ↦ inl (suc most, longest_here text (suc most) spells)
      | inr fails ↦ longest_behind text most fails (longest_up_to text most)
    ]

-- bytes at the front are so many of the text
front_is : (text bytes after : List ℕ) → text ≡ bytes ++ after → (take (length bytes) text ≡ bytes) × (length bytes ≤ length text)
front_is text bytes after split = (
  ap (take (length bytes)) split ∙ take_at bytes after (length bytes) refl,
  let long = ap length split in omega (arith, long, length-append bytes after),
)

-- the token of a text in which none of more bytes stands is a piece
lexeme_front : (text : List ℕ) (count : ℕ) → IsLongestUpTo text (length text) count → (OpensComment text → ⊥) → IsAnyFront text
lexeme_front text count is open_end =
    let long : length (take count text) ≡ count = length-take-le count text is.within in
    (Lexeme (take count text) is.token, drop count text, (is.spells, sym (take-append-drop count text), longest long, open_end))
  where
    longest : length (take count text) ≡ count → IsLongest text (length (take count text))
    longest long bytes after token split spells =
        let front = front_is text bytes after split in
        elim (cases_lt count (length bytes)) [
          | inl more ↦ absurd (is.longest (length bytes) more front.1 (token, subst (λ b. Spells b token) (sym front.0) spells))
          | inr most ↦ omega (arith, long, most)
        ]

-- ---- comments

-- a text up to the end of its first line
abbrev HasLine : List ℕ → Type 0
HasLine text = (front behind : List ℕ) × (text ≡ front ++ behind) × All (λ byte. byte ≢ 10) front × EndsLine behind

line_behind : (byte : ℕ) (bytes : List ℕ) → Known (byte ≡ 10) → HasLine bytes → HasLine (byte ∷ bytes)
line_behind byte bytes (inl is) line = ([], byte ∷ bytes, refl, All-nil (λ b. b ≢ 10), is)
line_behind byte bytes (inr other) (front, behind, split, all, ends) =
    (byte ∷ front, behind, ap (λ l. byte ∷ l) split, All-cons (λ b. b ≢ 10) byte front other all, ends)

first_line : (text : List ℕ) → HasLine text
first_line [] = ([], [], refl, All-nil (λ b. b ≢ 10), tt)
first_line (byte ∷ bytes) = line_behind byte bytes (known_same byte 10) (first_line bytes)

line_front : (text inside : List ℕ) → text ≡ line_opening ++ inside → IsAnyFront text
line_front text inside opens =
    let line = first_line inside in (
      Comment (line_opening ++ line.0),
      line.1,
      (inl (line.0, refl, line.3, line.4), opens ∙ ap (λ l. line_opening ++ l) line.2),
    )

-- `*/` stands behind
abbrev IsClosed : List ℕ → List ℕ → Type 0
IsClosed front behind = (after : List ℕ) × (behind ≡ block_closing ++ after)

known_closed : (front behind : List ℕ) → Known (IsClosed front behind)
known_closed front [] = inr (λ closed. let e = closed.1 in cc)
known_closed front (byte ∷ []) = inr (λ closed. let e = closed.1 in cc)
known_closed front (star ∷ slash ∷ after) =
    known_by (λ both. (after, ap (λ b. b ∷ slash ∷ after) both.0 ∙ ap (λ b. 42 ∷ b ∷ after) both.1)) back
    (known_both (known_same star 42) (known_same slash 47))
  where
    back : IsClosed front (star ∷ slash ∷ after) → (star ≡ 42) × (slash ≡ 47)
    back (others, split) =
        let first = same_heads star 42 (slash ∷ after) (47 ∷ others) split in
        (first.0, (same_heads slash 47 after others first.1).0)

closed_front : (text inside front behind : List ℕ) → text ≡ block_opening ++ inside → IsFirstSplit IsClosed inside front behind → IsAnyFront text
closed_front text inside front behind opens is =
    let (after, closes) = is.holds in
    let whole : inside ≡ front ++ block_closing ++ after =
    is.split ∙ ap (λ l. front ++ l) closes ∙ sym (append_assoc front block_closing after) in (
      Comment (block_opening ++ front ++ block_closing),
      after,
      (inr (front, refl, least after whole), opens ∙ ap (λ l. block_opening ++ l) whole),
    )
  where
    least : (after : List ℕ) → inside ≡ front ++ block_closing ++ after → (before more : List ℕ) → front ++ block_closing ≡ before ++ block_closing ++ more → length front ≤ length before
    least after whole before more same =
        let split : inside ≡ before ++ (block_closing ++ (more ++ after)) =
        whole ∙ ap (λ l. l ++ after) same ∙ append_assoc (before ++ block_closing) more after ∙ append_assoc before block_closing (more ++ after) in
        is.first before (block_closing ++ (more ++ after)) split (more ++ after, refl)

no_blank_slash : (byte : ℕ) → IsBlank byte → byte ≡ 47 → ⊥
no_blank_slash byte (inl between) is = let low = between.0 in let high = between.1 in omega (arith, low, high, is)
no_blank_slash byte (inr space) is = omega (arith, space, is)

open_front : (text inside : List ℕ) → text ≡ block_opening ++ inside → HasNoSplit IsClosed inside → HasNoFront text
open_front text inside opens none (Blank byte) rest (blank, split) =
    no_blank_slash byte blank (same_heads byte 47 rest (42 ∷ inside) (sym split ∙ opens)).0
open_front text inside opens none (Comment bytes) rest (inl (within, is, all, ends), split) =
    let whole : 47 ∷ 42 ∷ inside ≡ 47 ∷ 47 ∷ (within ++ rest) = sym opens ∙ split ∙ ap (λ b. b ++ rest) is in
    let first = same_heads 47 47 (42 ∷ inside) (47 ∷ (within ++ rest)) whole in
    let second : 42 ≡ 47 = (same_heads 42 47 inside (within ++ rest) first.1).0 in
    omega (arith, second)
open_front text inside opens none (Comment bytes) rest (inr (within, is, least), split) =
    let whole : 47 ∷ 42 ∷ inside ≡ 47 ∷ 42 ∷ (within ++ block_closing ++ rest) = sym opens ∙ split ∙ ap (λ b. b ++ rest) is in
    let first = same_heads 47 47 (42 ∷ inside) (42 ∷ (within ++ block_closing ++ rest)) whole in
    let second = same_heads 42 42 inside (within ++ block_closing ++ rest) first.1 in
    none within (block_closing ++ rest) (second.1 ∙ append_assoc within block_closing rest) (rest, refl)
open_front text inside opens none (Lexeme bytes token) rest (spells, split, longest, no_comment) =
    no_comment (block_opening, inside, inr refl, opens)

block_front : (text inside : List ℕ) → text ≡ block_opening ++ inside → HasFirstSplit IsClosed inside ⊎ HasNoSplit IsClosed inside
    → IsAnyFront text ⊎ HasNoFront text
block_front text inside opens (inl (front, behind, is)) = inl (closed_front text inside front behind opens is)
block_front text inside opens (inr none) = inr (open_front text inside opens none)

-- ---- the piece at the front of a text

-- which comment begins at the front of a text
abbrev HowOpens : List ℕ → Type 0
HowOpens text =
    ((inside : List ℕ) × (text ≡ line_opening ++ inside)) ⊎ ((inside : List ℕ) × (text ≡ block_opening ++ inside))
    ⊎ (OpensComment text → ⊥)

too_short : (text opening rest : List ℕ) → length text ≤ 1 → (opening ≡ line_opening) ⊎ (opening ≡ block_opening) → text ≡ opening ++ rest → ⊥
too_short text opening rest few (inl is) split =
    let long : length text ≡ length opening + length rest = ap length split ∙ length-append opening rest in
    let two : length opening ≡ 2 = ap length is in omega (arith, few, long, two)
too_short text opening rest few (inr is) split =
    let long : length text ≡ length opening + length rest = ap length split ∙ length-append opening rest in
    let two : length opening ≡ 2 = ap length is in omega (arith, few, long, two)

opens_with : (first second : ℕ) (more opening rest : List ℕ) → (opening ≡ line_opening) ⊎ (opening ≡ block_opening) → first ∷ second ∷ more ≡ opening ++ rest
    → (first ≡ 47) × ((second ≡ 47) ⊎ (second ≡ 42))
opens_with first second more opening rest (inl is) split =
    let one = same_heads first 47 (second ∷ more) (47 ∷ rest) (split ∙ ap (λ o. o ++ rest) is) in
    (one.0, inl (same_heads second 47 more rest one.1).0)
opens_with first second more opening rest (inr is) split =
    let one = same_heads first 47 (second ∷ more) (42 ∷ rest) (split ∙ ap (λ o. o ++ rest) is) in
    (one.0, inr (same_heads second 42 more rest one.1).0)

how_by : (first second : ℕ) (more : List ℕ) → Known ((first ≡ 47) × ((second ≡ 47) ⊎ (second ≡ 42))) → HowOpens (first ∷ second ∷ more)
how_by first second more (inl (is, inl also)) = inl (more, ap (λ b. b ∷ second ∷ more) is ∙ ap (λ b. 47 ∷ b ∷ more) also)
how_by first second more (inl (is, inr also)) = inr (inl (more, ap (λ b. b ∷ second ∷ more) is ∙ ap (λ b. 47 ∷ b ∷ more) also))
how_by first second more (inr fails) = inr (inr (λ opens. fails (opens_with first second more opens.0 opens.1 opens.2 opens.3)))

how_opens : (text : List ℕ) → HowOpens text
how_opens [] = inr (inr (λ opens. too_short [] opens.0 opens.1 (omega arith) opens.2 opens.3))
how_opens (byte ∷ []) = inr (inr (λ opens. too_short (byte ∷ []) opens.0 opens.1 (omega arith) opens.2 opens.3))
how_opens (first ∷ second ∷ more) =
    how_by first second more (known_both (known_same first 47) (known_either (known_same second 47) (known_same second 42)))

comment_opens : (text bytes rest : List ℕ) → IsLineComment bytes rest ⊎ IsBlockComment bytes → text ≡ bytes ++ rest → OpensComment text
comment_opens text bytes rest (inl (inside, is, all, ends)) split = (line_opening, inside ++ rest, inl refl, split ∙ ap (λ b. b ++ rest) is)
comment_opens text bytes rest (inr (inside, is, least)) split = (block_opening, inside ++ block_closing ++ rest, inr refl, split ∙ ap (λ b. b ++ rest) is)

plain_none : (byte : ℕ) (text : List ℕ) → (IsBlank byte → ⊥) → (OpensComment (byte ∷ text) → ⊥) → HasNoneUpTo (byte ∷ text) (length (byte ∷ text)) → HasNoFront (byte ∷ text)
plain_none byte text no_blank no_comment none (Blank other) rest (blank, split) =
    no_blank (subst IsBlank (sym (same_heads byte other text rest split).0) blank)
plain_none byte text no_blank no_comment none (Comment bytes) rest (comment, split) = no_comment (comment_opens (byte ∷ text) bytes rest comment split)
plain_none byte text no_blank no_comment none (Lexeme bytes token) rest (spells, split, longest, also) =
    let front = front_is (byte ∷ text) bytes rest split in
    none (length bytes) front.1 (token, subst (λ b. Spells b token) (sym front.0) spells)

plain_by : (byte : ℕ) (text : List ℕ) → (OpensComment (byte ∷ text) → ⊥) → (IsBlank byte → ⊥)
    → ((count : ℕ) × IsLongestUpTo (byte ∷ text) (length (byte ∷ text)) count) ⊎ HasNoneUpTo (byte ∷ text) (length (byte ∷ text))
    → IsAnyFront (byte ∷ text) ⊎ HasNoFront (byte ∷ text)
plain_by byte text no_comment no_blank (inl (count, is)) = inl (lexeme_front (byte ∷ text) count is no_comment)
plain_by byte text no_comment no_blank (inr none) = inr (plain_none byte text no_blank no_comment none)

plain_front : (text : List ℕ) → (OpensComment text → ⊥) → IsAnyFront text ⊎ HasNoFront text
plain_front [] no_comment = inr front-nil
plain_front (byte ∷ text) no_comment =
    elim (known_blank byte) [
      | inl blank ↦ inl (Blank byte, text, (blank, refl))
      | inr no_blank ↦ plain_by byte text no_comment no_blank (longest_up_to (byte ∷ text) (length (byte ∷ text)))
    ]

-- a piece stands at the front of a text, or none does
pub known_front : (text : List ℕ) → IsAnyFront text ⊎ HasNoFront text
known_front text =
    elim (how_opens text) [
      | inl (inside, opens) ↦ inl (line_front text inside opens)
      | inr (inl (inside, opens)) ↦ block_front text inside opens (first_split IsClosed inside (λ front behind split. known_closed front behind))
      | inr (inr no_comment) ↦ plain_front text no_comment
    ]

-- ---- pieces one after another

-- the bytes of a piece
abbrev HasBytes : List ℕ → List ℕ → Type 0
HasBytes text rest = (bytes : List ℕ) × (text ≡ bytes ++ rest) × (1 ≤ length bytes)

piece_bytes : (piece : Piece) (text rest : List ℕ) → IsFront piece text rest → HasBytes text rest
piece_bytes (Blank byte) text rest (blank, split) = (byte ∷ [], split, omega arith)
piece_bytes (Comment bytes) text rest (inl (inside, is, all, ends), split) = (bytes, split, let long = ap length is in omega (arith, long))
piece_bytes (Comment bytes) text rest (inr (inside, is, least), split) = (bytes, split, let long = ap length is in omega (arith, long))
piece_bytes (Lexeme bytes token) text rest (spells, split, longest, open_end) =
    let front = spelling-front bytes token spells in
    let long : length bytes ≡ suc (length front.others) = ap length front.is in
    (bytes, split, omega (arith, long))

-- pieces to the end of a text, or to a place at which none begins
abbrev HasPieces : List ℕ → Type 0
HasPieces text = (pieces : List Piece) × AreFront pieces text []

abbrev StopsAt : List ℕ → Type 0
StopsAt text = (pieces : List Piece) × (count : ℕ) × AreFront pieces text (drop count text) × (count < length text) × HasNoFront (drop count text)

more_pieces : (text rest : List ℕ) (piece : Piece) → IsFront piece text rest → HasBytes text rest → HasPieces rest ⊎ StopsAt rest → HasPieces text ⊎ StopsAt text
more_pieces text rest piece front has (inl (pieces, are)) = inl (piece ∷ pieces, (rest, front, are))
more_pieces text rest piece front (bytes, split, some) (inr (pieces, count, are, within, none)) =
    let behind : drop (length bytes) text ≡ rest = ap (drop (length bytes)) split ∙ drop_at bytes rest (length bytes) refl in
    let same : drop (length bytes + count) text ≡ drop count rest = sym (drop-drop count (length bytes) text) ∙ ap (drop count) behind in
    let long : length text ≡ length bytes + length rest = ap length split ∙ length-append bytes rest in
    inr (
      piece ∷ pieces,
      length bytes + count,
      (rest, front, subst (λ l. AreFront pieces rest l) (sym same) are),
      omega (arith, long, within),
      subst HasNoFront (sym same) none,
    )

pieces_by : (most : ℕ) (text : List ℕ) → length text ≤ suc most → 1 ≤ length text → IsAnyFront text ⊎ HasNoFront text
    → ((rest : List ℕ) → length rest ≤ most → HasPieces rest ⊎ StopsAt rest) → HasPieces text ⊎ StopsAt text
pieces_by most text within some (inl (piece, rest, front)) further =
    let has = piece_bytes piece text rest front in
    let long : length text ≡ length has.0 + length rest = ap length has.1 ∙ length-append has.0 rest in
    more_pieces text rest piece front has (further rest (let one = has.2 in omega (arith, long, within, one)))
pieces_by most text within some (inr none) further = inr ([], 0, refl, omega (arith, some), none)

pieces_of : (most : ℕ) (text : List ℕ) → length text ≤ most → HasPieces text ⊎ StopsAt text
pieces_of most [] within = inl ([], refl)
pieces_of zero (byte ∷ text) within = absurd (omega (arith, within))
pieces_of (suc most) (byte ∷ text) within =
    pieces_by most (byte ∷ text) within (omega arith) (known_front (byte ∷ text)) (λ rest few. pieces_of most rest few)

reading_by : (text : List ℕ) (start : ℕ) → first_place text ≡ start → HasPieces (drop start text) ⊎ StopsAt (drop start text)
    → ((tokens : List Token) × IsReading text tokens) ⊎ ((place : ℕ) × IsBadPlace text place)
reading_by text start is (inl (pieces, are)) =
    inl (tokens_at text (first_place text) pieces, (pieces, subst (λ n. AreFront pieces (drop n text) []) (sym is) are, refl))
reading_by text start is (inr (pieces, count, are, within, none)) =
    let same : drop count (drop start text) ≡ drop (start + count) text = drop-drop count start text in
    inr (
      start + count,
      record {
        before = (pieces, subst (λ n. AreFront pieces (drop n text) (drop (start + count) text)) (sym is) (subst (λ l. AreFront pieces (drop start text) l) same are));
        within = (omega (arith, is), omega (arith, within, length-drop start text));
        no_piece = subst HasNoFront same none;
      },
    )

-- each text has the tokens of a reading, or a bad place
pub reading_or_bad_place : (text : List ℕ) → ((tokens : List Token) × IsReading text tokens) ⊎ ((place : ℕ) × IsBadPlace text place)
reading_or_bad_place text = reading_by text (first_place text) refl (pieces_of (length (drop (first_place text) text)) (drop (first_place text) text) (omega arith))
