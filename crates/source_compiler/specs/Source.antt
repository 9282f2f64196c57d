-- Which sources are accepted, and which blame is the first of a source that is not: that of its files, else
-- of their tokens, their trees, or what they mean.
use Rattle.std.specs.Prelude.{◌≡◌, ◌<◌, ◌≤◌, ◌⊎◌, ℕ, ◌+◌, ◌-◌, List, [], ◌∷◌, ◌++◌, length, map, slice_get, Option, Some, None, All}
use Rattle.std.specs.List.{AllZip}
use Rattle.std.specs.Option.{option_and_then, option_map_or}
use Rattle.texts.specs.declared.blame.Blame.{Blame}
use Rattle.texts.specs.declared.blame.Rule.{Rule}
use Rattle.texts.specs.Rule.{source_rule}
use Rattle.dbc_reader.specs.declared.message.DbcMessage.{DbcMessage}
use Rattle.capl_lexer.specs.Screening.{Breaks}
use Rattle.capl_lexer.specs.declared.token.Token.{Token}
use Rattle.capl_nesting.specs.Tokens.{toks}
use Rattle.capl_tree.specs.Nesting.{nesting}
use Rattle.capl_grammar.specs.File.{IsSourceOf}
use Rattle.capl_tree.specs.Weight.{weight}
use Rattle.capl_tree.specs.declared.file.FileTree.{FileTree}
use Rattle.capl_tree.specs.declared.file.Program.{Program}
use Rattle.capl_parser.specs.Refusal.{nesting_limit}
use Rattle.viable_prefixes.specs.Prefix.{IsFirstWrong}
use Rattle.capl_include.specs.Blame.{file_blame, place_blame}
use Rattle.capl_include.specs.Expansion.{Contents, Expansion, Went, IsExpansion, Stopped}
use Rattle.capl_include.specs.declared.expanded.SourceFile.{SourceFile}
use Rattle.capl_meaning.specs.Offences.{IsFirstOffence, offences_of}
use Rattle.capl_meaning.specs.Store.{cells_of_program}
use Rattle.capl_meaning.specs.declared.offence.Offence.{Offence}

-- ---- The program of a node's files, and which of its rules is the first that is broken.

-- ---- files

-- the files of the program, in program order
abbrev pub FilesAt : Contents → List ℕ → List SourceFile → Type 0
FilesAt contents name files =
    (end : Expansion) × IsExpansion contents name (Went end) × (files ≡ end.files)

-- a file has this, and all files before it are right
pub record IsFirstFile (IsRight IsWrong : SourceFile → Type 0) (files : List SourceFile) : Type 0 where
  pub before : List SourceFile
  pub file : SourceFile
  pub after : List SourceFile
  pub split : files ≡ before ++ file ∷ after
  pub right_before : All IsRight before
  pub wrong : IsWrong file

-- ---- tokens

-- a file has only tokens that a program may have
abbrev pub IsScreened : SourceFile → Type 0
IsScreened file = (place : ℕ) (rule : Rule) → Breaks file.tokens place rule → ⊥

-- a token of the file breaks E05 or E06, and none before it does
pub record IsTokenBlame (blame : Blame) (file : SourceFile) : Type 0 where
  pub place : ℕ
  pub rule : Rule
  pub breaks : Breaks file.tokens place rule
  pub first : (earlier : ℕ) (other : Rule) → earlier < place → Breaks file.tokens earlier other → ⊥
  pub is : blame ≡ place_blame file.name breaks.token.line breaks.token.column rule

-- ---- trees

-- the tokens of a file nest no deeper than they may, and spell this tree
abbrev pub HasTree : SourceFile → FileTree → Type 0
HasTree file tree = (nesting (toks file.tokens) ≤ nesting_limit) × IsSourceOf (toks file.tokens) tree

-- they spell some tree
abbrev pub IsParsed : SourceFile → Type 0
IsParsed file = (tree : FileTree) × HasTree file tree

-- the trees of the program are those of its files
abbrev pub AreTreesOf : List SourceFile → Program → Type 0
AreTreesOf files program = AllZip HasTree files program.files

-- the column just past a token
abbrev pub column_past : Token → ℕ
column_past token = token.column + (token.to - token.from)

-- the place of a wrong token, or where there is none the one just past the last token; the beginning of the
-- file where there is no token
abbrev pub wrong_blame : List ℕ → Option Token → Option Token → Blame
wrong_blame name (Some wrong) last = place_blame name wrong.line wrong.column (source_rule 2)
wrong_blame name None (Some last) = place_blame name last.line (column_past last) (source_rule 2)
wrong_blame name None None = place_blame name 1 1 (source_rule 2)

-- the tokens of a file nest no deeper than they may and spell no tree, and to blame is the first wrong one,
-- or the place just past the last
pub record IsSpellingBlame (blame : Blame) (file : SourceFile) : Type 0 where
  pub shallow : nesting (toks file.tokens) ≤ nesting_limit
  pub no_tree : (tree : FileTree) → IsSourceOf (toks file.tokens) tree → ⊥
  pub number : ℕ
  pub first : IsFirstWrong (toks file.tokens) number
  pub is : blame ≡ wrong_blame file.name (slice_get file.tokens number)
      (slice_get file.tokens (length file.tokens - 1))

-- the tokens of a file nest deeper than they may (E03), or they do not and spell no tree (E02)
abbrev pub IsTreeBlame : Blame → SourceFile → Type 0
IsTreeBlame blame file =
    ((nesting_limit < nesting (toks file.tokens)) × (blame ≡ file_blame file.name (source_rule 3)))
    ⊎ IsSpellingBlame blame file

-- ---- meaning

-- the lines of the tokens of each file
abbrev pub lines_of : List SourceFile → List (List ℕ)
lines_of files = map (λ file. map (λ token. token.line) file.tokens) files

-- the token of a number in the file of a number
abbrev pub token_in : List SourceFile → ℕ → ℕ → Option Token
token_in files file token = option_and_then (λ f. slice_get f.tokens token) (slice_get files file)

-- the blame of an offence: the place of its token in its file; line and column are 0 where there is none
abbrev pub offence_blame : List SourceFile → Offence → Blame
offence_blame files offence =
    let token : Option Token = token_in files offence.file offence.token in
    place_blame (option_map_or (λ file. file.name) (slice_get files offence.file) [])
    (option_map_or (λ t. t.line) token 0) (option_map_or (λ t. t.column) token 0)
    (source_rule offence.rule.number)

-- the program breaks a rule of E09 to E28, and this is its first offence
abbrev pub IsOffenceBlame : List DbcMessage → List SourceFile → Program → Blame → Type 0
IsOffenceBlame base files program blame =
    (offence : Offence) × IsFirstOffence base program offence × (blame ≡ offence_blame files offence)

-- the most cells, and the greatest weight, of a program
abbrev pub most : ℕ
most = 1000000

-- the program breaks none of them, and its cells or its weight are too large (E29)
abbrev pub IsSizeBlame : List DbcMessage → List ℕ → Program → Blame → Type 0
IsSizeBlame base name program blame =
    (offences_of base program ≡ [])
    × ((most < cells_of_program base program) ⊎ (most < weight program))
    × (blame ≡ file_blame name (source_rule 29))

-- ---- Which sources are accepted.

-- The source of a name is accepted with the messages of a database: these are its files, none of which has a
-- token that a program may not have; this is their program; and it breaks no rule and is not too large.
pub record IsSource (contents : Contents) (name : List ℕ) (base : List DbcMessage)
    (files : List SourceFile) (program : Program) : Type 0 where
  pub files_at : FilesAt contents name files
  pub screened : All IsScreened files
  pub trees : AreTreesOf files program
  pub no_offence : offences_of base program ≡ []
  pub few_cells : cells_of_program base program ≤ most
  pub light : weight program ≤ most

-- the blame of files that were read: that of the first file with a token that a program may not have; where
-- there is none, that of the first file that has no tree; or that of what they mean
abbrev pub IsProgramBlame : List DbcMessage → List ℕ → List SourceFile → Blame → Type 0
IsProgramBlame base name files blame =
    IsFirstFile IsScreened (IsTokenBlame blame) files
    ⊎ (All IsScreened files × IsFirstFile IsParsed (IsTreeBlame blame) files)
    ⊎ (All IsScreened files × ((program : Program) × AreTreesOf files program
    × (IsOffenceBlame base files program blame ⊎ IsSizeBlame base name program blame)))

-- the first blame of a source: that at which the expansion of its files stopped (E01, E04, E07, E08, E29 or
-- F02), else that of their program
abbrev pub IsSourceBlame : Contents → List ℕ → List DbcMessage → Blame → Type 0
IsSourceBlame contents name base blame =
    IsExpansion contents name (Stopped blame)
    ⊎ ((files : List SourceFile) × FilesAt contents name files × IsProgramBlame base name files blame)
