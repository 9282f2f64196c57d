-- The texts that the tokens of files are of, also where no contents are told.
use Rattle.std.specs.Prelude.{ℕ, ◌<◌, ◌≤◌, ◌^◌, List, All, length}
use Rattle.capl_lexer.specs.Reading.{IsReading}
use Rattle.capl_lexer.specs.declared.token.Token.{Token}
use Rattle.capl_include.specs.Expansion.{byte_limit}
use Rattle.capl_include.specs.declared.expanded.SourceFile.{SourceFile}

-- tokens are those of a reading of some text of bytes, which is no longer than a file may be
pub record IsOfText (tokens : List Token) : Type 0 where
  pub text : List ℕ
  pub bytes : All (λ byte. byte < 2 ^ 8) text
  pub short : length text ≤ byte_limit
  pub reading : IsReading text tokens

-- so are the tokens of each of some files
abbrev pub AreOfTexts : List SourceFile → Type 0
AreOfTexts files = All (λ file. IsOfText file.tokens) files
