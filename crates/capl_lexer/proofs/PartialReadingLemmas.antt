-- How a reading grows piece by piece, from the beginning of a text to its end or its bad place.
use Rattle.std.proofs.Common.{◌≡◌, ◌<◌, ◌≤◌, ◌+◌, ◌-◌, ℕ, List, [], ◌∷◌, ◌++◌, length, take, drop, get_or, inl, inr, Option, Some, None, refl, sym, ap, subst, ◌∙◌, arith, eqb, length-drop, length-append, drop-cons}
use Rattle.std.specs.Prelude.{not}
use Rattle.std.proofs.lemmas.Bool.{cases_lt}
use Rattle.std.specs.List.{suffix_len}
use Rattle.std.proofs.lemmas.List.Sums.{count_by-le-length}
use Rattle.std.proofs.lemmas.List.{append_assoc, append-nil, drop-drop, drop_all, take_all, take_at, take-append-le, length-take-le}
use Rattle.capl_lexer.specs.Spelling.{IsBlank}
use Rattle.capl_lexer.specs.Reading.{Piece, Blank, Comment, Lexeme, IsFront, AreFront, first_place, line_at, column_at, tokens_at, IsReading, IsBadPlace}
use Rattle.capl_lexer.specs.Inside.ByteClass.{IsFirstInClass}
use Rattle.capl_lexer.specs.Inside.Step.{IsStep, HasNoPiece, token_of}
use Rattle.capl_lexer.specs.Inside.Position.{IsPositionIn, IsInLine}
use Rattle.capl_lexer.specs.declared.byte_class.ByteClass.TheVariants as class
use Rattle.capl_lexer.specs.declared.position.Position.{Position}
use Rattle.capl_lexer.specs.declared.step.Step.{Step}
use Rattle.capl_lexer.specs.declared.token.Tok.{Tok}
use Rattle.capl_lexer.specs.declared.token.Token.{Token}
use Rattle.capl_lexer.proofs.CommentLemmas.{comment-positive}
use Rattle.capl_lexer.proofs.SpellingLemmas.{spelling-front}
use Rattle.capl_lexer.proofs.StepLemmas.{step_blank}
use Rattle.capl_lexer.proofs.LineLemmas.{spelling-in_line}

-- pieces that give these tokens lead from the beginning to the place
pub record HasRead (text : List ℕ) (place : ℕ) (tokens : List Token) : Type 0 where
  pub pieces : List Piece
  pub fronts : AreFront pieces (drop (first_place text) text) (drop place text)
  pub goes_on : (more : List Piece) → tokens_at text (first_place text) (pieces ++ more) ≡ tokens ++ tokens_at text place more
  pub start : first_place text ≤ place

-- one more piece
fronts_push : (pieces : List Piece) (piece : Piece) (text between rest : List ℕ)
    → AreFront pieces text between → IsFront piece between rest
    → AreFront (pieces ++ piece ∷ []) text rest
fronts_push [] piece text between rest fronts front = (rest, subst (λ t. IsFront piece t rest) (sym fronts) front, refl)
fronts_push (first ∷ pieces) piece text between rest (next, is, fronts) front = (next, is, fronts_push pieces piece next between rest fronts front)

-- nothing is read at the beginning
pub read_nothing : (text : List ℕ) → HasRead text (first_place text) []
read_nothing text = record { pieces = []; fronts = refl; goes_on = λ more. refl; start = omega arith }

-- how many bytes a piece has
abbrev pub size_of : Piece → ℕ
size_of (Blank byte) = 1
size_of (Comment bytes) = length bytes
size_of (Lexeme bytes tok) = length bytes

-- a piece and what follows it are the text
pub front-size : (piece : Piece) (text rest : List ℕ) → IsFront piece text rest → size_of piece + length rest ≡ length text
front-size (Blank byte) text rest (blank, split) = omega (arith, ap length split)
front-size (Comment bytes) text rest (comment, split) = omega (arith, ap length split, length-append bytes rest)
front-size (Lexeme bytes tok) text rest (spells, split, longest, no_comment) = omega (arith, ap length split, length-append bytes rest)

-- a piece has a byte
pub piece-positive : (piece : Piece) (text rest : List ℕ) → IsFront piece text rest → 0 < size_of piece
piece-positive (Blank byte) text rest front = omega arith
piece-positive (Comment bytes) text rest (comment, split) = comment-positive bytes rest comment
piece-positive (Lexeme bytes tok) text rest (spells, split, longest, no_comment) =
    let front = spelling-front bytes tok spells in omega (arith, ap length front.is)

-- the bytes of a token end no line
piece-in_line : (piece : Piece) (text rest : List ℕ) (size : ℕ) (tok : Tok) → IsFront piece text rest
    → size_of piece ≡ size → Some tok ≡ token_of piece → IsInLine (take size text)
piece-in_line (Blank byte) text rest size tok front is some = cc
piece-in_line (Comment bytes) text rest size tok front is some = cc
piece-in_line (Lexeme bytes spelled) text rest size tok (spells, split, longest, no_comment) is some =
    let taken : take size text ≡ bytes = ap (take size) split ∙ take_at bytes rest size is in
    subst IsInLine (sym taken) (spelling-in_line bytes spelled spells)

-- the tokens of a piece, and then those of the pieces behind it
tokens_at-step : (text : List ℕ) (place : ℕ) (piece : Piece) (more : List Piece)
    → tokens_at text place (piece ∷ more) ≡ tokens_at text place (piece ∷ []) ++ tokens_at text (place + size_of piece) more
tokens_at-step text place (Blank byte) more = refl
tokens_at-step text place (Comment bytes) more = refl
tokens_at-step text place (Lexeme bytes tok) more = refl

-- a step goes as far as its piece
step-size : (text : List ℕ) (place : ℕ) (step : Step) → (is : IsStep (drop place text) step)
    → size_of is.piece ≡ step.length
step-size text place step is =
    let within = is.within in
    omega (arith, front-size is.piece (drop place text) (drop step.length (drop place text)) is.front, length-drop step.length (drop place text))

-- a step goes on
pub step-positive : (text : List ℕ) (place : ℕ) (step : Step) → IsStep (drop place text) step → 0 < step.length
step-positive text place step is =
    omega (arith, step-size text place step is, piece-positive is.piece (drop place text) (drop step.length (drop place text)) is.front)

-- a step stays in the text
pub step-within : (text : List ℕ) (place : ℕ) (step : Step) → place ≤ length text → IsStep (drop place text) step
    → place + step.length ≤ length text
step-within text place step within is = omega (arith, is.within, length-drop place text)

-- the bytes of a step that is a token end no line
pub step-in_line : (text : List ℕ) (place : ℕ) (step : Step) (tok : Tok) → IsStep (drop place text) step
    → step.tok ≡ Some tok → IsInLine (take step.length (drop place text))
step-in_line text place step tok is some =
    piece-in_line is.piece (drop place text) (drop step.length (drop place text)) step.length tok is.front
    (step-size text place step is) (sym some ∙ is.tok)

-- a piece is read
read_piece : (text : List ℕ) (place : ℕ) (tokens : List Token) (step : Step) → HasRead text place tokens
    → (is : IsStep (drop place text) step)
    → HasRead text (place + step.length) (tokens ++ tokens_at text place (is.piece ∷ []))
read_piece text place tokens step read is =
    let piece = is.piece in
    let own = tokens_at text place (piece ∷ []) in
    let ends : place + size_of piece ≡ place + step.length = ap (λ n. place + n) (step-size text place step is) in
    record {
      pieces = read.pieces ++ piece ∷ [];
      fronts = fronts_push read.pieces piece (drop (first_place text) text) (drop place text) (drop (place + step.length) text) read.fronts
          (subst (IsFront piece (drop place text)) (drop-drop step.length place text) is.front);
      goes_on = λ more.
          ap (tokens_at text (first_place text)) (append_assoc read.pieces (piece ∷ []) more) ∙ read.goes_on (piece ∷ more)
          ∙ ap (λ t. tokens ++ t) (tokens_at-step text place piece more)
          ∙ ap (λ n. tokens ++ (own ++ tokens_at text n more)) ends
          ∙ sym (append_assoc tokens own (tokens_at text (place + step.length) more));
      start = let start = read.start in omega arith;
    }

no_tokens : (text : List ℕ) (place : ℕ) (piece : Piece) → None ≡ token_of piece → tokens_at text place (piece ∷ []) ≡ []
no_tokens text place (Blank byte) none = refl
no_tokens text place (Comment bytes) none = refl
no_tokens text place (Lexeme bytes tok) none = cc

one_token : (text : List ℕ) (place size : ℕ) (piece : Piece) (token : Token) → Some token.tok ≡ token_of piece
    → size_of piece ≡ size
    → token.from ≡ place → token.to ≡ place + size → token.line ≡ line_at text place → token.column ≡ column_at text place
    → tokens_at text place (piece ∷ []) ≡ token ∷ []
one_token text place size (Blank byte) token some is from to line column = cc
one_token text place size (Comment bytes) token some is from to line column = cc
one_token text place size (Lexeme bytes tok) token some is from to line column =
    let kind : tok ≡ token.tok = cc in
    let ends : place + length bytes ≡ token.to = ap (λ n. place + n) is ∙ sym to in
    λ i. record { tok = kind i; from = sym from i; to = ends i; line = sym line i; column = sym column i } ∷ []

-- a blank or a comment is read
pub read_passed : (text : List ℕ) (place : ℕ) (tokens : List Token) (step : Step) → HasRead text place tokens
    → IsStep (drop place text) step → step.tok ≡ None → HasRead text (place + step.length) tokens
read_passed text place tokens step read is none =
    let same : tokens ++ tokens_at text place (is.piece ∷ []) ≡ tokens =
    ap (λ t. tokens ++ t) (no_tokens text place is.piece (sym none ∙ is.tok)) ∙ append-nil tokens in
    subst (HasRead text (place + step.length)) same (read_piece text place tokens step read is)

-- a token is read
pub read_token : (text : List ℕ) (place : ℕ) (tokens : List Token) (step : Step) (token : Token) → HasRead text place tokens
    → IsStep (drop place text) step → step.tok ≡ Some token.tok
    → token.from ≡ place → token.to ≡ place + step.length → token.line ≡ line_at text place → token.column ≡ column_at text place
    → HasRead text (place + step.length) (tokens ++ token ∷ [])
read_token text place tokens step token read is some from to line column =
    let same = one_token text place step.length is.piece token (sym some ∙ is.tok) (step-size text place step is) from to line column in
    subst (λ t. HasRead text (place + step.length) (tokens ++ t)) same (read_piece text place tokens step read is)

-- of the tokens up to the place these are kept: all, or more than the limit
pub record HasKept (limit : ℕ) (text : List ℕ) (place : ℕ) (tokens : List Token) : Type 0 where
  pub all : List Token
  pub read : HasRead text place all
  pub kept : tokens ≡ take (limit + 1) all

-- where no more are kept than the limit, they are all
pub kept_all : (limit : ℕ) (text : List ℕ) (place : ℕ) (tokens : List Token) → (has : HasKept limit text place tokens)
    → length tokens ≤ limit → tokens ≡ has.all
kept_all limit text place tokens has within =
    elim (cases_lt limit (length has.all)) [
      | inl long ↦ absurd (omega (arith, ap length has.kept, length-take-le (limit + 1) has.all (omega arith)))
      | inr short ↦ has.kept ∙ take_all (limit + 1) has.all (omega arith)
    ]

-- where more are kept than the limit, there are more
pub kept_many : (limit : ℕ) (text : List ℕ) (place : ℕ) (tokens : List Token) → (has : HasKept limit text place tokens)
    → limit < length tokens → limit < length has.all
kept_many limit text place tokens has many =
    elim (cases_lt limit (length has.all)) [
      | inl long ↦ long
      | inr short ↦ absurd (omega (arith, ap length (has.kept ∙ take_all (limit + 1) has.all (omega arith))))
    ]

-- nothing is kept at the beginning
pub keep_nothing : (limit : ℕ) (text : List ℕ) → HasKept limit text (first_place text) []
keep_nothing limit text = record { all = []; read = read_nothing text; kept = sym (take_all (limit + 1) [] (omega arith)) }

-- a blank or a comment is passed over
pub keep_passed : (limit : ℕ) (text : List ℕ) (place : ℕ) (tokens : List Token) (step : Step) → HasKept limit text place tokens
    → IsStep (drop place text) step → step.tok ≡ None → HasKept limit text (place + step.length) tokens
keep_passed limit text place tokens step has is none =
    record { all = has.all; read = read_passed text place has.all step has.read is none; kept = has.kept }

-- a blank is passed over
pub keep_blank : (limit : ℕ) (text : List ℕ) (place : ℕ) (tokens : List Token) → HasKept limit text place tokens
    → place < length text → IsBlank (get_or text place 0) → HasKept limit text (place + 1) tokens
keep_blank limit text place tokens has within blank =
    let step : Step = record { tok = None; length = 1 } in
    let first = subst (IsFirstInClass class.Blank) (sym (drop-cons text place 0 within)) blank in
    keep_passed limit text place tokens step has (step_blank (drop place text) step first refl refl) refl

-- a token is kept
pub keep_token : (limit : ℕ) (text : List ℕ) (place : ℕ) (tokens : List Token) (step : Step) (token : Token) → HasKept limit text place tokens
    → IsStep (drop place text) step → step.tok ≡ Some token.tok
    → token.from ≡ place → token.to ≡ place + step.length → token.line ≡ line_at text place → token.column ≡ column_at text place
    → length tokens ≤ limit → HasKept limit text (place + step.length) (tokens ++ token ∷ [])
keep_token limit text place tokens step token has is some from to line column within =
    let same = kept_all limit text place tokens has within in
    let whole : tokens ++ token ∷ [] ≡ has.all ++ token ∷ [] = ap (λ t. t ++ token ∷ []) same in
    record {
      all = has.all ++ token ∷ [];
      read = read_token text place has.all step token has.read is some from to line column;
      kept = whole ∙ sym (take_all (limit + 1) (has.all ++ token ∷ []) (omega (arith, ap length same, length-append has.all (token ∷ []))));
    }

-- a token behind too many is not kept
pub keep_enough : (limit : ℕ) (text : List ℕ) (place : ℕ) (tokens : List Token) (step : Step) (token : Token) → HasKept limit text place tokens
    → IsStep (drop place text) step → step.tok ≡ Some token.tok
    → token.from ≡ place → token.to ≡ place + step.length → token.line ≡ line_at text place → token.column ≡ column_at text place
    → limit < length tokens → HasKept limit text (place + step.length) tokens
keep_enough limit text place tokens step token has is some from to line column many = record {
  all = has.all ++ token ∷ [];
  read = read_token text place has.all step token has.read is some from to line column;
  kept = has.kept ∙ sym (take-append-le (limit + 1) has.all (token ∷ []) (omega (arith, kept_many limit text place tokens has many)));
}

-- a token is kept, where it is not behind too many
pub keep_one : (limit : ℕ) (text : List ℕ) (place : ℕ) (tokens more : List Token) (step : Step) (token : Token) → HasKept limit text place tokens
    → IsStep (drop place text) step → step.tok ≡ Some token.tok
    → token.from ≡ place → token.to ≡ place + step.length → token.line ≡ line_at text place → token.column ≡ column_at text place
    → (length tokens ≤ limit → more ≡ tokens ++ token ∷ []) → (limit < length tokens → more ≡ tokens)
    → HasKept limit text (place + step.length) more
keep_one limit text place tokens more step token has is some from to line column kept enough =
    elim (cases_lt limit (length tokens)) [
      | inl many ↦ subst (HasKept limit text (place + step.length)) (sym (enough many))
          (keep_enough limit text place tokens step token has is some from to line column many)
      | inr few ↦ subst (HasKept limit text (place + step.length)) (sym (kept few))
          (keep_token limit text place tokens step token has is some from to line column few)
    ]

-- at the end of the text all of it is read
pub reading_from : (text : List ℕ) (place : ℕ) (tokens : List Token) → HasRead text place tokens
    → length text ≤ place → IsReading text tokens
reading_from text place tokens read end = (
  read.pieces,
  subst (AreFront read.pieces (drop (first_place text) text)) (drop_all place text end) read.fronts,
  sym (append-nil tokens) ∙ sym (read.goes_on []) ∙ ap (tokens_at text (first_place text)) (append-nil read.pieces),
)

-- a place that is reached and at which no piece begins is bad
pub bad_place_from : (text : List ℕ) (place : ℕ) (tokens : List Token) → HasRead text place tokens
    → place < length text → HasNoPiece (drop place text) → IsBadPlace text place
bad_place_from text place tokens read within none = record {
  before = (read.pieces, read.fronts);
  within = (read.start, within);
  no_piece = none;
}

-- a line is at most one more than the place
pub line-le : (text : List ℕ) (position : Position) → IsPositionIn text position
    → position.line ≤ 1 + position.place
line-le text position at =
    omega (arith, at.line, at.within, count_by-le-length (λ byte. eqb byte 10) (take position.place text), length-take-le position.place text at.within)

-- a column is at most one more than the place
pub column-le : (text : List ℕ) (position : Position) → IsPositionIn text position
    → position.column ≤ 1 + position.place
column-le text position at =
    let before = take position.place text in
    omega (arith, at.column, length-drop (length before - suffix_len (λ byte. not (eqb byte 10)) before) before, length-take-le position.place text at.within)
