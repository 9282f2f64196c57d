-- The piece at the front of a text.
use Rattle.std.specs.Prelude.{◌≡◌, ◌≤◌, ℕ, List, ◌++◌, length, take, drop, Option, Some, None}
use Rattle.capl_lexer.specs.Reading.{Piece, Blank, Comment, Lexeme, IsFront, line_opening, block_opening, OpensComment, IsLineComment, IsBlockComment}
use Rattle.capl_lexer.specs.Inside.ByteClass.{IsFirstInClass}
use Rattle.capl_lexer.specs.declared.byte_class.ByteClass.TheVariants as class
use Rattle.capl_lexer.specs.declared.token.Tok.{Tok}
use Rattle.capl_lexer.specs.declared.step.Step.{Step}

-- the token of a piece, if it is one
abbrev pub token_of : Piece → Option Tok
token_of (Blank byte) = None
token_of (Comment bytes) = None
token_of (Lexeme bytes tok) = Some tok

-- a piece of so many bytes stands at the front, with this token or none
pub record IsStep (text : List ℕ) (step : Step) : Type 0 where
  pub piece : Piece
  pub within : step.length ≤ length text
  pub front : IsFront piece text (drop step.length text)
  pub tok : step.tok ≡ token_of piece

-- no piece stands at the front
abbrev pub HasNoPiece : List ℕ → Type 0
HasNoPiece text = (piece : Piece) (rest : List ℕ) → IsFront piece text rest → ⊥

-- no blank stands at the front
abbrev pub HasNoBlank : List ℕ → Type 0
HasNoBlank text = IsFirstInClass class.Blank text → ⊥

-- no blank stands at the front, and no comment begins there
pub record HasNoPassed (text : List ℕ) : Type 0 where
  pub no_blank : HasNoBlank text
  pub no_comment : OpensComment text → ⊥

-- the text begins with `//`
abbrev pub OpensLine : List ℕ → Type 0
OpensLine text = (inside : List ℕ) × (text ≡ line_opening ++ inside)

-- the text begins with `/*`
abbrev pub OpensBlock : List ℕ → Type 0
OpensBlock text = (inside : List ℕ) × (text ≡ block_opening ++ inside)

-- a comment up to the end of its line has so many bytes
pub record IsLineCommentFront (text : List ℕ) (count : ℕ) : Type 0 where
  pub within : count ≤ length text
  pub is : IsLineComment (take count text) (drop count text)

-- a comment that is closed has so many bytes
pub record IsBlockCommentFront (text : List ℕ) (count : ℕ) : Type 0 where
  pub within : count ≤ length text
  pub is : IsBlockComment (take count text)

-- no closed comment stands at the front
abbrev pub HasNoBlockComment : List ℕ → Type 0
HasNoBlockComment text = (bytes rest : List ℕ) → text ≡ bytes ++ rest → IsBlockComment bytes → ⊥
