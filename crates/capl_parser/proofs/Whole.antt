-- What is read of all tokens of a file.
use Rattle.std.proofs.Common.{◌≡◌, ℕ, ◌≤◌, List, length, Some, None, sym}
use Rattle.std.proofs.lemmas.List.{length-map}
use Rattle.capl_lexer.specs.declared.token.Tok.{Tok}
use Rattle.capl_lexer.specs.declared.token.Token.{Token}
use Rattle.capl_nesting.specs.Tokens.{toks}
use Rattle.capl_tree.specs.declared.file.TopItem.{TopItem}
use Rattle.capl_tree.specs.declared.file.FileTree.{FileTree}
use Rattle.capl_grammar.specs.File.{IsSourceOf}
use Rattle.capl_grammar.proofs.SameFile.{read, written}
use Rattle.parser_laws.specs.File.{file}
use Rattle.parser_laws.specs.Statement.{parts_of}
use Rattle.parser_laws.proofs.Whole.{read_tree, none_spelled, only_tree}

-- there are as many tokens as there are without their places
length_toks : (tokens : List Token) → length tokens ≡ length (toks tokens)
length_toks tokens = sym (length-map tokens (λ (token : Token). token.tok))

-- what is read is the tree
pub tree_parsed : (tokens : List Token) (total : ℕ) (items : List TopItem) (rest : List Tok) → total ≡ length tokens
    → file (parts_of total) (toks tokens) ≡ Some (items, rest) → IsSourceOf (toks tokens) (record { items = items })
tree_parsed tokens total items rest all found =
    written (toks tokens) (record { items = items }) (read_tree (toks tokens) items rest (rw (← length_toks tokens, ← all) found))

-- where nothing is read, there is none
pub none_parsed : (tokens : List Token) (total : ℕ) → total ≡ length tokens
    → file (parts_of total) (toks tokens) ≡ None → (tree : FileTree) → IsSourceOf (toks tokens) tree → ⊥
none_parsed tokens total all none tree is =
    none_spelled (toks tokens) (rw (← length_toks tokens, ← all) none) tree (read (toks tokens) tree is)

-- tokens are a source of at most one tree
pub only_parsed : (tokens : List Tok) (one other : FileTree) → IsSourceOf tokens one → IsSourceOf tokens other → one ≡ other
only_parsed tokens one other is_one is_other = only_tree tokens one other (read tokens one is_one) (read tokens other is_other)
