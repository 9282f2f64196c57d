-- All tokens are read as the one tree that they spell.
use Rattle.std.proofs.Common.{◌≡◌, ℕ, List, [], length, Option, Some, None, refl, ap, sym, subst, ◌∙◌, arith, ◌≤◌}
use Rattle.std.specs.Prelude.{◌↔◌}
use Rattle.capl_lexer.specs.declared.token.Tok.{Tok}
use Rattle.capl_tree.specs.declared.file.TopItem.{TopItem}
use Rattle.capl_tree.specs.declared.file.FileTree.{FileTree}
use Rattle.capl_tree.specs.Tree.{IsTreeOf}
use Rattle.expr_parser.specs.Reading.{Read}
use Rattle.parser_laws.specs.Statement.{parts_of}
use Rattle.parser_laws.specs.File.{file}
use Rattle.parser_laws.proofs.CompleteFile.{file_complete}
use Rattle.parser_laws.proofs.SoundFile.{file_sound}
use Rattle.parser_laws.proofs.Readers.{complete_parts, sound_parts}

abbrev tree_with : List TopItem → FileTree
tree_with all = record { items = all }

abbrev items_of : List TopItem → Read (List TopItem) → List TopItem
items_of all None = all
items_of all (Some p) = p.0

-- the tree of the tokens is what is read from them
pub tree_read : (tokens : List Tok) (tree : FileTree) → IsTreeOf tokens tree → file (parts_of (length tokens)) tokens ≡ Some (tree.items, [])
tree_read tokens tree is = file_complete (parts_of (length tokens)) (complete_parts (length tokens)) tree tokens is.well_formed is.spelled_in_place

-- where nothing is read, the tokens spell no tree
pub none_spelled : (tokens : List Tok) → file (parts_of (length tokens)) tokens ≡ None → (tree : FileTree) → IsTreeOf tokens tree → ⊥
none_spelled tokens none tree is = let read = tree_read tokens tree is in cc

-- what is read is a tree of the tokens
pub read_tree : (tokens : List Tok) (all : List TopItem) (rest : List Tok) → file (parts_of (length tokens)) tokens ≡ Some (all, rest) → IsTreeOf tokens (record { items = all })
read_tree tokens all rest read =
    let sound = file_sound (parts_of (length tokens)) (sound_parts (length tokens)) tokens all rest (omega arith) read in
    record { well_formed = sound.0; spelled_in_place = sound.1 }

-- tokens spell at most one tree
pub only_tree : (tokens : List Tok) (one other : FileTree) → IsTreeOf tokens one → IsTreeOf tokens other → one ≡ other
only_tree tokens one other is_one is_other =
    let same : one.items ≡ other.items = ap (λ (x : Read (List TopItem)). items_of one.items x) (sym (tree_read tokens one is_one) ∙ tree_read tokens other is_other) in
    ap (λ (all : List TopItem). tree_with all) same

-- a tree is that of tokens exactly where it is read from all of them
pub trees_read : (tokens : List Tok) (tree : FileTree) → IsTreeOf tokens tree ↔ (file (parts_of (length tokens)) tokens ≡ Some (tree.items, []))
trees_read tokens tree = (tree_read tokens tree, read_tree tokens tree.items [])
