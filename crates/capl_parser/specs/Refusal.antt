-- What a refusal tells of its tokens.
use Rattle.std.specs.Prelude.{◌≤◌, ◌<◌, ℕ, List, ⊤}
use Rattle.capl_lexer.specs.declared.token.Tok.{Tok}
use Rattle.capl_tree.specs.Nesting.{nesting}
use Rattle.capl_grammar.specs.File.{IsSourceOf}
use Rattle.capl_tree.specs.declared.file.FileTree.{FileTree}
use Rattle.viable_prefixes.specs.Prefix.{IsFirstWrong}
use Rattle.capl_parser.specs.declared.refusal.ParseRefusal.{ParseRefusal}
use Rattle.capl_parser.specs.declared.refusal.ParseRefusal.TheVariants.{Deep, NotSpelled, NoMemory}

-- how deep the tokens of a file may nest
abbrev pub nesting_limit : ℕ
nesting_limit = 200

-- they nest deeper than they may; or they do not, they spell no tree, and this is the first wrong token
abbrev pub IsRefusalOf : List Tok → ParseRefusal → Type 0
IsRefusalOf tokens Deep = nesting_limit < nesting tokens
IsRefusalOf tokens (NotSpelled token) =
    (nesting tokens ≤ nesting_limit) × ((tree : FileTree) → IsSourceOf tokens tree → ⊥)
    × IsFirstWrong tokens token
IsRefusalOf tokens NoMemory = ⊤
