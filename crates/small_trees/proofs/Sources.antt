-- Texts that are sources of trees spell them, in place.
use Rattle.std.proofs.Common.{List, [], ◌∷◌}
use Rattle.std.specs.List.{AllZip}
use Rattle.capl_lexer.specs.declared.token.Tok.{Tok}
use Rattle.capl_tree.specs.declared.file.FileTree.{FileTree}
use Rattle.capl_tree.specs.Tree.{IsTreeOf}
use Rattle.capl_grammar.specs.File.{IsSourceOf}
use Rattle.capl_grammar.proofs.SameFile.{read}

-- each text spells its tree
pub spelled : (texts : List (List Tok)) (files : List FileTree) → AllZip IsSourceOf texts files → AllZip IsTreeOf texts files
spelled [] [] are = tt
spelled [] (file ∷ files) are = absurd are
spelled (text ∷ texts) [] are = absurd are
spelled (text ∷ texts) (file ∷ files) are = (read text file are.0, spelled texts files are.1)
