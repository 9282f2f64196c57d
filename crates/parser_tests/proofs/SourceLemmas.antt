-- The program of one source declares few.
use Rattle.std.proofs.Common.{◌≡◌, ◌+◌, ◌≤◌, ◌<◌, ◌^◌, ◌∷◌, List, [], arith, length, subst, sym}
use Rattle.std.specs.Prelude.{sum_by}
use Rattle.std.specs.List.{AllZip}
use Rattle.std.proofs.lemmas.List.{length-map}
use Rattle.std.proofs.lemmas.List.Sums.{sum_by-cons}
use Rattle.capl_lexer.specs.declared.token.Tok.{Tok}
use Rattle.capl_lexer.specs.declared.token.Token.{Token}
use Rattle.capl_meaning.specs.Variable.{parts_of, variables_of}
use Rattle.capl_nesting.specs.Tokens.{toks}
use Rattle.capl_grammar.specs.File.{IsSourceOf}
use Rattle.capl_tree.specs.declared.file.FileTree.{FileTree}
use Rattle.capl_tree.specs.declared.file.Program.{Program}
use Rattle.check_names.specs.Few.{IsFew}
use Rattle.dbc_reader.specs.declared.message.DbcMessage.{DbcMessage}

-- a program of one file that is spelled by fewer than 2^32 tokens
pub source_few : ((texts : List (List Tok)) (p : Program) → AllZip IsSourceOf texts p.files → length (parts_of p) ≤ sum_by length texts) →
    ((texts : List (List Tok)) (base : List DbcMessage) (p : Program) → AllZip IsSourceOf texts p.files →
    length (variables_of base p) ≤ sum_by length texts) →
    (tokens : List Token) (tree : FileTree) (program : Program) → length tokens < 2 ^ 32 → IsSourceOf (toks tokens) tree →
    program.files ≡ tree ∷ [] → IsFew program
source_few parts variables tokens tree program few spelled is =
    let texts = toks tokens ∷ [] in
    let are = subst (AllZip IsSourceOf texts) (sym is) (spelled, tt) in
    let many : sum_by length texts ≡ length (toks tokens) + 0 = sum_by-cons length (toks tokens) [] in
    let same = length-map tokens (λ (t : Token). t.tok) in
    record {
      files = subst (λ (files : List FileTree). length files < 2 ^ 32) (sym is) (omega arith);
      parts = omega (arith, parts texts program are, many, same, few);
      variables = λ base. omega (arith, variables texts base program are, many, same, few);
    }
