-- What a refusal tells of its text.
use Rattle.std.specs.Prelude.{◌≡◌, ◌<◌, ℕ, List, length, ⊤}
use Rattle.capl_lexer.specs.Reading.{IsReading, IsBadPlace, line_at, column_at, token_limit}
use Rattle.capl_lexer.specs.declared.token.Token.{Token}
use Rattle.capl_lexer.specs.declared.refusal.LexRefusal.{LexRefusal}
use Rattle.capl_lexer.specs.declared.refusal.LexRefusal.TheVariants.{Bad, Many, NoMemory}

-- it names the line and the column of the bad place, or says that a reading has too many tokens
abbrev pub IsRefusalOf : List ℕ → LexRefusal → Type 0
IsRefusalOf text (Bad line column) =
    (place : ℕ) × IsBadPlace text place × (line ≡ line_at text place) × (column ≡ column_at text place)
IsRefusalOf text Many = (tokens : List Token) × IsReading text tokens × (token_limit < length tokens)
IsRefusalOf text NoMemory = ⊤

-- if it names a place, the text has no reading, and where there are too many tokens none with fewer
abbrev pub RefusesAllReadings : List ℕ → LexRefusal → Type 0
RefusesAllReadings text (Bad line column) = (tokens : List Token) → IsReading text tokens → ⊥
RefusesAllReadings text Many = (tokens : List Token) → IsReading text tokens → token_limit < length tokens
RefusesAllReadings text NoMemory = ⊤
