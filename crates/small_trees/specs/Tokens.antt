-- Tokens whose numbers, characters and texts fit.
use Rattle.std.specs.Prelude.{ℕ, ◌<◌, ◌^◌, List, IfSome, ⊤}
use Rattle.std.specs.List.{AllByRecursion}
use Rattle.capl_lexer.specs.declared.token.Tok.{Tok}
use Rattle.capl_lexer.specs.declared.token.Tok.TheVariants as tok
use Rattle.sound_programs.specs.Small.{IsShortList}

-- each number is a byte
abbrev pub AreBytes : List ℕ → Type 0
AreBytes numbers = AllByRecursion (λ byte. byte < 2 ^ 8) numbers

-- the number, the character or the text of a token fits
abbrev pub IsSmallTok : Tok → Type 0
IsSmallTok (tok.Num ext value) = IfSome value (λ n. n < 2 ^ 64)
IsSmallTok (tok.Char value) = value < 2 ^ 8
IsSmallTok (tok.Str text) = IsShortList text × AreBytes text
IsSmallTok _ = ⊤

-- the same of each of some tokens
abbrev pub AreSmallToks : List Tok → Type 0
AreSmallToks tokens = AllByRecursion IsSmallTok tokens

-- there are fewer than 2^32 tokens, and they are small
abbrev pub IsSmallText : List Tok → Type 0
IsSmallText tokens = IsShortList tokens × AreSmallToks tokens
