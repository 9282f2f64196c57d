-- The expansion of a file over what the files hold: a recursion on the names that it names (CAPL manual,
-- includes). It ends at the first rule that is broken.
use Rattle.std.specs.Prelude.{ℕ, Bool, not, List, length, map, ◌==◌, ◌&&◌, nat_le, if◌then◌else◌, ◌≡◌, ◌+◌, ◌^◌, ◌⊎◌, zero, suc, true, false, [], ◌∷◌, ◌++◌, MatchBool, Option, Some, None, nat_lt}
use Rattle.std.specs.List.{list_all, list_any}
use Rattle.sim_outside.specs.Files.{beside}
use Rattle.std.specs.Str.{bytes_eq}
use Rattle.texts.specs.declared.blame.Blame.{Blame}
use Rattle.texts.specs.Rule.{source_rule}
use Rattle.capl_lexer.specs.Reading.{IsReading, IsBadPlace, line_at, column_at, token_limit}
use Rattle.capl_lexer.specs.declared.token.Tok.{Tok}
use Rattle.capl_lexer.specs.declared.token.Token.{Token}
use Rattle.capl_include.specs.Blame.{too_long_rule, file_blame, place_blame}
use Rattle.capl_include.specs.declared.expanded.SourceFile.{SourceFile}
use Rattle.capl_lexer.specs.declared.token.Tok.TheVariants as tok

-- ---- The names of included files (CAPL manual, includes).

-- the bytes with `/` for each `\`
abbrev pub with_slashes : List ℕ → List ℕ
with_slashes bytes = map (λ byte. if byte == 92 then 47 else byte) bytes

-- the name of the file that a file includes by this name of its own
abbrev pub included_name : List ℕ → List ℕ → List ℕ
included_name naming own = beside naming (with_slashes own)

-- whether the byte is one of 32 to 126
abbrev pub is_shown : ℕ → Bool
is_shown byte = nat_le 32 byte && nat_le byte 126

-- a file's own name is not empty, and its joined name has at most 255 bytes, each from 32 to 126
abbrev pub is_included_name : List ℕ → List ℕ → Bool
is_included_name own name =
    not (length own == 0) && nat_le (length name) 255 && list_all is_shown name

-- ---- The expansion of a file.

-- what each name holds, or that it holds nothing
abbrev pub Contents : Type 0
Contents = List ℕ → Option (List ℕ)

-- how many files a program may have
abbrev pub file_limit : ℕ
file_limit = 32

-- how many bytes a file may have
abbrev pub byte_limit : ℕ
byte_limit = 2 ^ 20

-- where an expansion stands: the names of the files met so far, how many tokens they have, and the files
-- that are appended
pub record Expansion : Type 0 where
  pub met : List (List ℕ)
  pub count : ℕ
  pub files : List SourceFile

-- where an expansion begins
abbrev pub nothing_met : Expansion
nothing_met = record { met = []; count = 0; files = [] }

-- an expansion went on to here, or stopped at its first blame
pub data Outcome : Type 0 where
  Went : Expansion → Outcome
  Stopped : Blame → Outcome

-- an INCLUDE token: the name in it, and where it stands
pub record Include : Type 0 where
  pub own : List ℕ
  pub line : ℕ
  pub column : ℕ

-- the include that a token is, before further ones
abbrev pub include_then : Token → Tok → List Include → List Include
include_then token (tok.Include own) more =
    record { own = own; line = token.line; column = token.column } ∷ more
include_then token _ more = more

-- the includes of a file, in order
abbrev pub includes_of : List Token → List Include
includes_of [] = []
includes_of (token ∷ tokens) = include_then token token.tok (includes_of tokens)

-- how a visit of the file of a name goes, from where an expansion stands
abbrev pub Visits : Type 1
Visits = List ℕ → Expansion → Outcome → Type 0

-- where a part of an expansion went on, this holds from there; where it stopped, all of it stops so
abbrev pub GoesOn : Outcome → Outcome → (Expansion → Type 0) → Type 0
GoesOn (Went next) outcome Rest = Rest next
GoesOn (Stopped blame) outcome Rest = outcome ≡ Stopped blame

-- where the test holds the expansion stops at the blame, and else this holds
abbrev pub StopsIf : Bool → Blame → Outcome → Type 0 → Type 0
StopsIf true blame outcome Rest = outcome ≡ Stopped blame
StopsIf false blame outcome Rest = Rest

-- an include of a file goes so, and this holds from there: a name that is none stops the expansion, a file
-- that was met is passed over, and another one is visited
abbrev pub IsIncluded : Visits → List ℕ → Include → Expansion → Outcome → (Expansion → Type 0) → Type 0
IsIncluded IsVisited naming include at outcome Rest =
    let name : List ℕ = included_name naming include.own in
    StopsIf (not (is_included_name include.own name))
    (place_blame naming include.line include.column (source_rule 8)) outcome
    (MatchBool (list_any (λ other. bytes_eq other name) at.met) (Rest at)
    ((after : Outcome) × IsVisited name at after × GoesOn after outcome Rest))

-- the includes of a file go so, one after another
abbrev pub AreIncluded : Visits → List ℕ → List Include → Expansion → Outcome → Type 0
AreIncluded IsVisited naming [] at outcome = outcome ≡ Went at
AreIncluded IsVisited naming (include ∷ includes) at outcome =
    IsIncluded IsVisited naming include at outcome
    (λ next. AreIncluded IsVisited naming includes next outcome)

-- a file with these tokens is met
abbrev pub meeting : List ℕ → List Token → Expansion → Expansion
meeting name tokens at = record at { met = at.met ++ name ∷ []; count = at.count + length tokens }

-- a file with these tokens is appended, where the expansion went on
abbrev pub appending : List ℕ → List Token → Outcome → Outcome
appending name tokens (Went at) =
    Went (record at { files = at.files ++ record { name = name; tokens = tokens } ∷ [] })
appending name tokens (Stopped blame) = Stopped blame

-- a file with these tokens is visited: it is met, its includes are visited, and it is appended
abbrev pub VisitsTokens : Visits → List ℕ → List Token → Expansion → Outcome → Type 0
VisitsTokens IsVisited name tokens at outcome =
    StopsIf (nat_lt token_limit (at.count + length tokens)) (file_blame name (source_rule 4)) outcome
    ((inner : Outcome) × AreIncluded IsVisited name (includes_of tokens) (meeting name tokens at) inner
    × (outcome ≡ appending name tokens inner))

-- a file with these bytes is visited: it has a bad place, or the tokens of its reading
abbrev pub VisitsText : Visits → List ℕ → List ℕ → Expansion → Outcome → Type 0
VisitsText IsVisited name text at outcome =
    ((place : ℕ) × IsBadPlace text place
    × (outcome ≡ Stopped (place_blame name (line_at text place) (column_at text place) (source_rule 1))))
    ⊎ ((tokens : List Token) × IsReading text tokens × VisitsTokens IsVisited name tokens at outcome)

-- a file that holds this is visited: it is missing, too long, or has bytes
abbrev pub VisitsHeld : Visits → List ℕ → Option (List ℕ) → Expansion → Outcome → Type 0
VisitsHeld IsVisited name None at outcome = outcome ≡ Stopped (file_blame name (source_rule 7))
VisitsHeld IsVisited name (Some text) at outcome =
    StopsIf (nat_lt byte_limit (length text)) (file_blame name too_long_rule) outcome
    (VisitsText IsVisited name text at outcome)

-- the file of a name is visited, with so many files inside one another at most: there are too many already,
-- for which the first file is to blame, or it is visited as what it holds
abbrev pub IsVisit : Contents → List ℕ → ℕ → Visits
IsVisit contents root zero name at outcome = outcome ≡ Stopped (file_blame root (source_rule 29))
IsVisit contents root (suc deeper) name at outcome =
    StopsIf (nat_le file_limit (length at.met)) (file_blame root (source_rule 29)) outcome
    (VisitsHeld (IsVisit contents root deeper) name (contents name) at outcome)

-- the expansion of the file of this name: a file inside more than the limit is met when there are too many
abbrev pub IsExpansion : Contents → List ℕ → Outcome → Type 0
IsExpansion contents name outcome = IsVisit contents name file_limit name nothing_met outcome
