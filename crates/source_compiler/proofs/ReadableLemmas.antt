-- The program of files is readable and light, and declares few.
use Rattle.std.proofs.Common.{◌≡◌, ◌+◌, ◌*◌, ◌≤◌, ◌<◌, ◌^◌, ℕ, List, [], ◌∷◌, length, map, All, refl, arith}
use Rattle.std.specs.Prelude.{sum_by}
use Rattle.std.specs.List.{AllZip}
use Rattle.std.proofs.lemmas.List.{length-map}
use Rattle.std.proofs.lemmas.List.Elements.{All-cons, All-nil, All-head, All-tail, recursion_from_All}
use Rattle.std.proofs.lemmas.List.Sums.{sum_by-cons}
use Rattle.capl_include.specs.Answer.{token_count}
use Rattle.capl_include.specs.Expansion.{file_limit}
use Rattle.capl_include.specs.Text.{AreOfTexts, IsOfText}
use Rattle.capl_include.specs.declared.expanded.SourceFile.{SourceFile}
use Rattle.capl_lexer.specs.Reading.{IsReading, token_limit}
use Rattle.capl_lexer.specs.declared.token.Tok.{Tok}
use Rattle.capl_lexer.specs.declared.token.Token.{Token}
use Rattle.capl_nesting.specs.Tokens.{toks}
use Rattle.capl_grammar.specs.File.{IsSourceOf}
use Rattle.capl_tree.specs.Weight.{weight}
use Rattle.capl_tree.specs.declared.file.FileTree.{FileTree}
use Rattle.capl_tree.specs.declared.file.Program.{Program}
use Rattle.dbc_reader.specs.declared.message.DbcMessage.{DbcMessage}
use Rattle.capl_meaning.specs.Variable.{parts_of, variables_of}
use Rattle.check_names.specs.Few.{IsFew}
use Rattle.sound_programs.specs.Given.{IsReadable}
use Rattle.sound_programs.specs.Small.{IsShortList}
use Rattle.small_trees.specs.Tokens.{AreBytes, AreSmallToks, IsSmallText}
use Rattle.source_compiler.specs.Source.{AreTreesOf, HasTree}

-- what the tokens of each file are
abbrev texts_of : List SourceFile → List (List Tok)
texts_of files = map (λ (file : SourceFile). toks file.tokens) files

-- the trees are those of the texts
text_trees : (files : List SourceFile) (trees : List FileTree) → AllZip HasTree files trees → AllZip IsSourceOf (texts_of files) trees
text_trees [] [] are = tt
text_trees [] (tree ∷ trees) are = absurd are
text_trees (file ∷ files) [] are = absurd are
text_trees (file ∷ files) (tree ∷ trees) are = (are.0.1, text_trees files trees are.1)

-- each text is small
small_texts : ((text : List ℕ) (tokens : List Token) → IsReading text tokens → AreBytes text → IsShortList text → AreSmallToks (toks tokens)) →
    (files : List SourceFile) → AreOfTexts files → token_count files ≤ token_limit → All IsSmallText (texts_of files)
small_texts law [] are few = All-nil IsSmallText
small_texts law (file ∷ files) are few =
    let head : IsOfText file.tokens = All-head (λ (f : SourceFile). IsOfText f.tokens) file files are in
    let many : token_count (file ∷ files) ≡ length file.tokens + token_count files = sum_by-cons (λ (f : SourceFile). length f.tokens) file files in
    let same = length-map file.tokens (λ (t : Token). t.tok) in
    let small = law head.text file.tokens head.reading (recursion_from_All (λ byte. byte < 2 ^ 8) head.text head.bytes) (omega (arith, head.short)) in
    All-cons IsSmallText (toks file.tokens) (texts_of files) (omega (arith, many, few, same), small)
    (small_texts law files (All-tail (λ (f : SourceFile). IsOfText f.tokens) file files are) (omega (arith, many, few)))

-- the tokens of the texts are counted as those of the files
texts_counted : (files : List SourceFile) → sum_by length (texts_of files) ≡ token_count files
texts_counted [] = refl
texts_counted (file ∷ files) =
    let one : sum_by length (texts_of (file ∷ files)) ≡ length (toks file.tokens) + sum_by length (texts_of files) = sum_by-cons length (toks file.tokens) (texts_of files) in
    let two : token_count (file ∷ files) ≡ length file.tokens + token_count files = sum_by-cons (λ (f : SourceFile). length f.tokens) file files in
    omega (arith, one, two, length-map file.tokens (λ (t : Token). t.tok), texts_counted files)

-- the program is readable
pub files_readable : ((text : List ℕ) (tokens : List Token) → IsReading text tokens → AreBytes text → IsShortList text → AreSmallToks (toks tokens)) →
    ((texts : List (List Tok)) (p : Program) → AllZip IsSourceOf texts p.files → All IsSmallText texts → IsReadable p) →
    (files : List SourceFile) (program : Program) → AreTreesOf files program → AreOfTexts files → token_count files ≤ token_limit → IsReadable program
files_readable tokens programs files program trees are few =
    programs (texts_of files) program (text_trees files program.files trees) (small_texts tokens files are few)

-- the program is light
pub files_light : ((texts : List (List Tok)) (p : Program) → AllZip IsSourceOf texts p.files → weight p ≤ 8 * sum_by length texts) →
    (files : List SourceFile) (program : Program) → AreTreesOf files program → token_count files ≤ token_limit → weight program < 2 ^ 35
files_light law files program trees few =
    let most = law (texts_of files) program (text_trees files program.files trees) in
    omega (arith, most, few, texts_counted files)

-- the program declares few
pub files_few : ((texts : List (List Tok)) (p : Program) → AllZip IsSourceOf texts p.files → length p.files ≡ length texts) →
    ((texts : List (List Tok)) (p : Program) → AllZip IsSourceOf texts p.files → length (parts_of p) ≤ sum_by length texts) →
    ((texts : List (List Tok)) (base : List DbcMessage) (p : Program) → AllZip IsSourceOf texts p.files →
    length (variables_of base p) ≤ sum_by length texts) →
    (files : List SourceFile) (program : Program) → AreTreesOf files program → length files ≤ file_limit →
    token_count files ≤ token_limit → IsFew program
files_few counted parts variables files program trees few_files few =
    let texts = texts_of files in
    let are = text_trees files program.files trees in
    let many : length texts ≡ length files = length-map files (λ (file : SourceFile). toks file.tokens) in
    record {
      files = omega (arith, counted texts program are, many, few_files);
      parts = omega (arith, parts texts program are, few, texts_counted files);
      variables = λ base. omega (arith, variables texts base program are, few, texts_counted files);
    }
