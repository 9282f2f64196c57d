-- Tokens with which some source begins, and the first token with which they no longer do (the viable prefixes
-- of parsing theory).
use Rattle.std.specs.Prelude.{ℕ, suc, ◌≤◌, ◌<◌, List, ◌++◌, length, take}
use Rattle.capl_lexer.specs.declared.token.Tok.{Tok}
use Rattle.capl_tree.specs.declared.file.FileTree.{FileTree}
use Rattle.capl_grammar.specs.File.{IsSourceOf}

-- a well formed tree is spelled by tokens that begin with these
abbrev pub BeginsTree : List Tok → Type 0
BeginsTree front = (rest : List Tok) × (tree : FileTree) × IsSourceOf (front ++ rest) tree

-- the tokens before the one of this number begin a tree, and with it, where there is one, they begin none
pub record IsFirstWrong (tokens : List Tok) (number : ℕ) : Type 0 where
  pub among : number ≤ length tokens
  pub begins : BeginsTree (take number tokens)
  pub wrong : number < length tokens → BeginsTree (take (suc number) tokens) → ⊥
