-- What is read as a declaration, in the words of the grammar.
use Rattle.std.specs.Prelude.{◌≡◌, ◌≤◌, ◌<◌, ℕ, List, length, Some}
use Rattle.capl_lexer.specs.declared.token.Tok.{Tok}
use Rattle.capl_tree.specs.declared.declaration.Decl.{Decl}
use Rattle.capl_tree.specs.Grammar.{IsDeclaration}
use Rattle.capl_tree.specs.Spelling as spelled
use Rattle.capl_tree.specs.Placed.{IsDeclarationPlaced}
use Rattle.decl_parser.specs.Declaration as read

-- the tokens begin with a declaration at its place
pub record ReadsDeclaration (total : ℕ) (ts : List Tok) (d : Decl) (rest : List Tok) : Type 0 where
  pub spelled : ts ≡ spelled.declaration d rest
  pub well : IsDeclaration d
  pub placed : IsDeclarationPlaced total d rest

-- a well formed declaration is read from its tokens, whatever stands behind them
abbrev pub ReadsEachDeclaration : Type 0
ReadsEachDeclaration =
    (total depth : ℕ) (d : Decl) (rest : List Tok) → IsDeclaration d → IsDeclarationPlaced total d rest
    → length (spelled.declaration d rest) < depth
    → read.declaration total depth (spelled.declaration d rest) ≡ Some (d, rest)

-- and nothing else is read
abbrev pub ReadsOnlyDeclarations : Type 0
ReadsOnlyDeclarations =
    (total depth : ℕ) (ts : List Tok) (d : Decl) (rest : List Tok) → length ts ≤ total
    → read.declaration total depth ts ≡ Some (d, rest) → ReadsDeclaration total ts d rest
