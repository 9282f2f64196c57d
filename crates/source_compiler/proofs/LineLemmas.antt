-- The lines of tokens.
use Rattle.std.proofs.Common.{◌≡◌, ℕ, zero, suc, List, [], ◌∷◌, map, refl}
use Rattle.std.specs.Prelude.{slice_get, unwrap_or}
use Rattle.std.specs.Option.{option_map_or}
use Rattle.capl_lexer.specs.declared.token.Token.{Token}
use Rattle.capl_include.specs.declared.expanded.SourceFile.{SourceFile}
use Rattle.check_types.specs.Lines.{line_in}
use Rattle.source_compiler.specs.Source.{lines_of, token_in}

line_at : (tokens : List Token) (number : ℕ) → unwrap_or (slice_get (map (λ token. token.line) tokens) number) 0 ≡ option_map_or (λ token. token.line) (slice_get tokens number) 0
line_at [] number = refl
line_at (token ∷ tokens) zero = refl
line_at (token ∷ tokens) (suc number) = line_at tokens number

-- the line of a token, by the lines of the tokens of each file, is that of the token
pub line_told : (files : List SourceFile) (file number : ℕ) → line_in (lines_of files) file number ≡ option_map_or (λ token. token.line) (token_in files file number) 0
line_told [] file number = refl
line_told (first ∷ files) zero number = line_at first.tokens number
line_told (first ∷ files) (suc file) number = line_told files file number
