-- Tokens spell a tree, or one of them is the first wrong one.
use Rattle.std.proofs.Common.{ℕ, List, inl, inr}
use Rattle.std.specs.Prelude.{◌⊎◌}
use Rattle.capl_lexer.specs.declared.token.Tok.{Tok}
use Rattle.capl_tree.specs.declared.file.FileTree.{FileTree}
use Rattle.capl_grammar.specs.File.{IsSourceOf}
use Rattle.viable_prefixes.specs.Prefix.{IsFirstWrong}
use Rattle.viable_prefixes.proofs.DeclarationFollows.{parts_followed}
use Rattle.viable_prefixes.proofs.FileFollows.{tree_accepted, accepted_tree}
use Rattle.viable_prefixes.proofs.First.{first_is}
use Rattle.whole_readings.proofs.Known.{Known, known_told}

abbrev IsTree : List Tok → Type 0
IsTree ts = (tree : FileTree) × IsSourceOf ts tree

-- whether tokens spell a tree
pub known_tree : (ts : List Tok) → Known (IsTree ts)
known_tree ts = known_told _ (accepted_tree parts_followed ts, λ some. tree_accepted parts_followed ts some.0 some.1)

-- the first wrong token of any tokens
pub has_first_wrong : (ts : List Tok) → (number : ℕ) × IsFirstWrong ts number
has_first_wrong ts = (_, first_is (tree_accepted parts_followed, accepted_tree parts_followed) ts)

-- tokens spell a tree, or none and have a first wrong one
pub tree_or_first_wrong : (ts : List Tok) → IsTree ts ⊎ ((number : ℕ) × ((tree : FileTree) → IsSourceOf ts tree → ⊥) × IsFirstWrong ts number)
tree_or_first_wrong ts =
    let wrong = has_first_wrong ts in
    elim (known_tree ts) [ inl tree ↦ inl tree | inr none ↦ inr (wrong.0, (λ tree is. none (tree, is)), wrong.1) ]
