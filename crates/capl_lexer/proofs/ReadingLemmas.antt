-- A text has at most one reading, and none where it has a bad place.
use Rattle.std.proofs.Common.{◌≡◌, ◌<◌, ◌≤◌, ◌+◌, ℕ, List, [], ◌∷◌, ◌++◌, length, take, drop, refl, sym, ap, subst, ◌∙◌, arith, length-append, length-drop}
use Rattle.std.specs.Prelude.{◌⊎◌}
use Rattle.std.proofs.lemmas.Bool.Decides.{nat_tests}
use Rattle.std.proofs.lemmas.List.{append_cancel_left}
use Rattle.capl_lexer.specs.Spelling.{IsBlank, Spells}
use Rattle.capl_lexer.specs.Reading.{Piece, Blank, Comment, Lexeme, IsFront, AreFront, OpensComment, IsLineComment, IsBlockComment, first_place, tokens_at, IsReading, IsBadPlace}
use Rattle.capl_lexer.specs.Inside.Step.{HasNoPiece}
use Rattle.capl_lexer.specs.declared.token.Sign.{Sign}
use Rattle.capl_lexer.specs.declared.token.Sign.TheVariants as sign
use Rattle.capl_lexer.specs.declared.token.Tok.{Tok}
use Rattle.capl_lexer.specs.declared.token.Tok.TheVariants as tok
use Rattle.capl_lexer.specs.declared.token.Token.{Token}
use Rattle.capl_lexer.proofs.SplitLemmas.{front_injective}
use Rattle.capl_lexer.proofs.SignLemmas.{sign_first}
use Rattle.capl_lexer.proofs.CommentLemmas.{comment-unique, comment-opens, opens-front, comment-positive}
use Rattle.capl_lexer.proofs.SpellingLemmas.{Begins, spelling-front, spelling-unique, class_of, class_of_token, begins-class}

-- a blank is of the class of signs, and no sign
blank_class : (byte : ℕ) → IsBlank byte → (class_of byte ≡ 1) × (byte ≤ 32)
blank_class byte blank = (grind (arith, nat_tests), grind arith)

sign_above : (some : Sign) → 32 < sign_first some
sign_above sign.OpenBrace = omega arith
sign_above _ = omega arith

-- no token begins with a blank
pub blank-begins : (token : Tok) (byte : ℕ) → IsBlank byte → Begins token byte → ⊥
blank-begins (tok.Sign some) byte blank is = omega (arith, sign_above some, (blank_class byte blank).1, is)
blank-begins token byte blank begins =
    let same = sym (blank_class byte blank).0 ∙ begins-class token byte begins in absurd (omega (arith, same))

-- no token's spelling begins with a blank
pub blank-spelling : (bytes : List ℕ) (token : Tok) (byte : ℕ) (rest after : List ℕ) → IsBlank byte
    → Spells bytes token → byte ∷ rest ≡ bytes ++ after → ⊥
blank-spelling bytes token byte rest after blank spells split =
    let front = spelling-front bytes token spells in
    let whole : byte ∷ rest ≡ front.first ∷ front.others ++ after = split ∙ ap (λ b. b ++ after) front.is in
    let same : byte ≡ front.first = cc in
    blank-begins token byte blank (subst (Begins token) (sym same) front.begins)

-- no comment begins with a blank
blank-comment : (text bytes rest : List ℕ) (byte : ℕ) (after : List ℕ) → IsBlank byte → text ≡ byte ∷ after
    → text ≡ bytes ++ rest → IsLineComment bytes rest ⊎ IsBlockComment bytes → ⊥
blank-comment text bytes rest byte after blank first split comment =
    let (others, is) = opens-front text (comment-opens text bytes rest split comment) in
    let same : byte ∷ after ≡ 47 ∷ others = sym first ∙ is in
    let slash : byte ≡ 47 = cc in
    omega (arith, (blank_class byte blank).1, slash)

-- two pieces at the front of one text are one, and leave one rest
pub record IsSamePiece (piece other : Piece) (rest after : List ℕ) : Type 0 where
  pub one_piece : piece ≡ other
  pub one_rest : rest ≡ after

-- the piece at the front of a text and what follows it
pub front-unique : (text : List ℕ) (piece other : Piece) (rest after : List ℕ)
    → IsFront piece text rest → IsFront other text after → IsSamePiece piece other rest after
front-unique text (Blank byte) (Blank same) rest after (blank, split) (also, again) =
    let one : byte ∷ rest ≡ same ∷ after = sym split ∙ again in record { one_piece = ap Blank (cc); one_rest = cc }
front-unique text (Blank byte) (Lexeme bytes token) rest after (blank, split) (spells, again, longest, open_end) =
    absurd (blank-spelling bytes token byte rest after blank spells (sym split ∙ again))
front-unique text (Lexeme bytes token) (Blank byte) rest after (spells, split, longest, open_end) (blank, again) =
    absurd (blank-spelling bytes token byte after rest blank spells (sym again ∙ split))
front-unique text (Lexeme bytes token) (Lexeme others another) rest after (spells, split, longest, open_end) (also, again, furthest, open_too) =
    let lengths : length bytes ≡ length others = omega (arith, longest others after another again also, furthest bytes rest token split spells) in
    let whole : bytes ++ rest ≡ others ++ after = sym split ∙ again in
    let same : bytes ≡ others = front_injective bytes others rest after whole lengths in
    let token_same : token ≡ another = spelling-unique others token another (subst (λ b. Spells b token) same spells) also in
    let rest_same : rest ≡ after = append_cancel_left others rest after (ap (λ b. b ++ rest) (sym same) ∙ whole) in
    record { one_piece = cc; one_rest = rest_same }
front-unique text (Blank byte) (Comment bytes) rest after (blank, split) (comment, again) =
    absurd (blank-comment text bytes after byte rest blank split again comment)
front-unique text (Comment bytes) (Blank byte) rest after (comment, split) (blank, again) =
    absurd (blank-comment text bytes rest byte after blank again split comment)
front-unique text (Comment bytes) (Comment others) rest after (comment, split) (also, again) =
    let one = comment-unique bytes others rest after comment also (sym split ∙ again) in
    record { one_piece = ap Comment one.0; one_rest = one.1 }
front-unique text (Comment bytes) (Lexeme others token) rest after (comment, split) (spells, again, longest, no_comment) =
    absurd (no_comment (comment-opens text bytes rest split comment))
front-unique text (Lexeme others token) (Comment bytes) rest after (spells, split, longest, no_comment) (comment, again) =
    absurd (no_comment (comment-opens text bytes after again comment))

-- no piece stands at the front of nothing
pub front-nil : HasNoPiece []
front-nil (Blank byte) rest (blank, split) = cc
front-nil (Comment bytes) rest (comment, split) =
    omega (arith, comment-positive bytes rest comment, ap length split, length-append bytes rest)
front-nil (Lexeme bytes token) rest (spells, split, longest, open_end) =
    let front = spelling-front bytes token spells in
    let whole : [] ≡ front.first ∷ front.others ++ rest = split ∙ ap (λ b. b ++ rest) front.is in cc

-- pieces that lead as far as pieces go are the same, and lead to one place
pub fronts-unique : (text : List ℕ) (pieces others : List Piece) (rest after : List ℕ)
    → AreFront pieces text rest → AreFront others text after
    → HasNoPiece rest → HasNoPiece after → (pieces ≡ others) × (rest ≡ after)
fronts-unique text [] [] rest after first second none nothing = (refl, sym first ∙ second)
fronts-unique text [] (other ∷ others) rest after first (between, front, fronts) none nothing =
    absurd (none other between (subst (λ t. IsFront other t between) first front))
fronts-unique text (piece ∷ pieces) [] rest after (between, front, fronts) second none nothing =
    absurd (nothing piece between (subst (λ t. IsFront piece t between) second front))
fronts-unique text (piece ∷ pieces) (other ∷ others) rest after (between, front, fronts) (beyond, also, more) none nothing =
    let one = front-unique text piece other between beyond front also in
    let all = fronts-unique beyond pieces others rest after (subst (λ t. AreFront pieces t rest) one.one_rest fronts) more none nothing in
    (let head = one.one_piece in let tail = all.0 in cc, all.1)

-- a text has at most one reading
pub reading-unique : (text : List ℕ) (tokens others : List Token) → IsReading text tokens
    → IsReading text others → tokens ≡ others
reading-unique text tokens others (pieces, fronts, is) (more, also, same) =
    let one = fronts-unique (drop (first_place text) text) pieces more [] [] fronts also front-nil front-nil in
    is ∙ ap (tokens_at text (first_place text)) one.0 ∙ sym same

-- a text with a bad place has no reading
pub bad_place-reading : (text : List ℕ) (place : ℕ) (tokens : List Token) → IsBadPlace text place
    → IsReading text tokens → ⊥
bad_place-reading text place tokens bad (pieces, fronts, is) =
    let (before, led) = bad.before in
    let one = fronts-unique (drop (first_place text) text) before pieces (drop place text) [] led fronts bad.no_piece front-nil in
    let within = bad.within.1 in
    omega (arith, ap length one.1, length-drop place text)

-- a text has at most one bad place
pub bad_place-unique : (text : List ℕ) (place other : ℕ) → IsBadPlace text place
    → IsBadPlace text other → place ≡ other
bad_place-unique text place other bad also =
    let (before, led) = bad.before in
    let (pieces, fronts) = also.before in
    let one = fronts-unique (drop (first_place text) text) before pieces (drop place text) (drop other text) led fronts bad.no_piece also.no_piece in
    let within = bad.within.1 in
    let beyond = also.within.1 in
    omega (arith, ap length one.1, length-drop place text, length-drop other text)
