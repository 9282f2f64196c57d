-- Tokens of the code, and what a place in a text has before it.
use Rattle.std.specs.Prelude.{◌≡◌, ℕ, Bool, false, List, [], ◌∷◌}
use Rattle.dbc_statements.specs.Token.{Token, Front, Placed, is_blank, Word, Number, Quoted, Byte}
use Rattle.dbc_statements.specs.declared.token.Token.{Token as Borrowed}
use Rattle.dbc_statements.specs.declared.token.Token.TheVariants as borrowed
use Rattle.dbc_statements.specs.declared.front.Front.{Front as BorrowedFront}

-- the token that a token of the code is
abbrev pub token_of : Borrowed → Token
token_of (borrowed.Word bytes) = Word bytes.now
token_of (borrowed.Number bytes) = Number bytes.now
token_of borrowed.Quoted = Quoted
token_of (borrowed.Byte byte) = Byte byte

-- the token and its length
abbrev pub front_of : BorrowedFront → Front
front_of found = record { token = token_of found.token; length = found.length }

-- whether a blank stands at the front
abbrev pub begins_with_blank : List ℕ → Bool
begins_with_blank [] = false
begins_with_blank (byte ∷ bytes) = is_blank byte

-- these tokens are a token and then the others
abbrev pub AreMore : List Placed → Token → List Placed → Type 0
AreMore [] token others = ⊥
AreMore (placed ∷ more) token others = (placed.token ≡ token) × (more ≡ others)
