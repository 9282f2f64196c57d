-- Which tree tokens spell.
use Rattle.std.specs.Prelude.{◌≡◌, ℕ, List, [], ◌∷◌, length}
use Rattle.capl_lexer.specs.declared.token.Tok.{Tok}
use Rattle.capl_tree.specs.declared.file.TopItem.{TopItem}
use Rattle.capl_tree.specs.declared.file.FileTree.{FileTree}
use Rattle.capl_tree.specs.Grammar.{IsFile}
use Rattle.capl_tree.specs.FileSpelling.{Voids, top_item}
use Rattle.capl_tree.specs.FilePlaced.{IsTopItemPlaced}

-- these tokens, the last of a file of so many, are those of the parts, for some choice of `void` at each, and
-- each part stands where its `at` says
abbrev pub AreInPlace : ℕ → List TopItem → List Tok → Type 0
AreInPlace total [] tokens = tokens ≡ []
AreInPlace total (first ∷ others) tokens =
    (voids : Voids) × (rest : List Tok) × (tokens ≡ top_item voids first rest)
    × IsTopItemPlaced total voids first rest × AreInPlace total others rest

-- the tokens spell the tree, whose parts stand where they may and where their places say
pub record IsTreeOf (tokens : List Tok) (file : FileTree) : Type 0 where
  pub well_formed : IsFile file
  pub spelled_in_place : AreInPlace (length tokens) file.items tokens
