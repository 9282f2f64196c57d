-- The token at the front of a text.
use Rattle.std.specs.Prelude.{◌≡◌, ◌≢◌, ◌≤◌, ⊤, ℕ, List, [], ◌∷◌, ◌++◌, length, take}
use Rattle.text_parts.specs.Number.{IsDigit}
use Rattle.capl_lexer.specs.Spelling.{IsNameStart, Spells, IsFloat}
use Rattle.capl_lexer.specs.Reading.{IsLongest}
use Rattle.capl_lexer.specs.declared.token.Tok.{Tok}
use Rattle.capl_lexer.specs.declared.front.Front.{Front}

-- the bytes of the front spell its token, and no token there has more bytes
pub record IsTokenFront (text : List ℕ) (front : Front) : Type 0 where
  pub within : front.length ≤ length text
  pub spells : Spells (take front.length text) front.tok
  pub longest : IsLongest text front.length

-- no token stands at the front
abbrev pub HasNoToken : List ℕ → Type 0
HasNoToken text = (bytes after : List ℕ) (tok : Tok) → text ≡ bytes ++ after → Spells bytes tok → ⊥

-- a byte with which no token but a sign begins
pub record IsOther (byte : ℕ) : Type 0 where
  pub no_name : IsNameStart byte → ⊥
  pub no_digit : IsDigit byte → ⊥
  pub no_quote : byte ≢ 34
  pub no_apostrophe : byte ≢ 39
  pub no_hash : byte ≢ 35

-- the first byte, if there is one, is such a byte
abbrev pub IsOtherFront : List ℕ → Type 0
IsOtherFront [] = ⊤
IsOtherFront (byte ∷ bytes) = IsOther byte

-- no floating point number stands at the front
abbrev pub HasNoFloat : List ℕ → Type 0
HasNoFloat text = (bytes after : List ℕ) → text ≡ bytes ++ after → IsFloat bytes → ⊥
