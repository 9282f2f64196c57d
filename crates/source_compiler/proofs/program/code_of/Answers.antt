-- What is known of a typed program that is compiled, how large it is, and what is to blame of one that is too
-- heavy.
use Rattle.std.proofs.Common.{◌≡◌, ◌≤◌, ◌<◌, ◌∙◌, ◌⊎◌, ℕ, All, List, inl, inr, subst, sym}
use Rattle.texts.specs.Rule.{source_rule}
use Rattle.bytecode.specs.declared.code.Code.{Code}
use Rattle.capl_include.specs.Blame.{file_blame}
use Rattle.capl_tree.specs.declared.file.Program.{Program}
use Rattle.capl_include.specs.declared.expanded.SourceFile.{SourceFile}
use Rattle.check_names.specs.Names.{messages_of}
use Rattle.typed_tree.specs.Size.{size}
use Rattle.code_listing.specs.Program.{IsCodeOf}
use Rattle.source_compiler.specs.Source.{AreTreesOf, IsFirstFile, IsOffenceBlame, IsParsed, IsProgramBlame, IsScreened, IsSizeBlame, IsTreeBlame, lines_of, most}
use Rattle.source_compiler.specs.Inside.{ArePlacesOf}
use Rattle.check_types.specs.Accepted.{IsAccepted}
use Rattle.typed_tree.specs.declared.program.Typed.{Typed}
use Rattle.source_compiler.specs.Compiled.{IsCompiled}
use Rattle.source_compiler.specs.declared.compiled.Compiled.{Compiled}
use Rattle.source_compiler.proofs.CellLemmas.{cells_told, few_cells, weight_above, weight_within, within_weight}
use Rattle.source_compiler.proofs.ReadableLemmas.{files_few, files_light, files_readable}
use Rattle.input_refusals.proofs.Passing.{judged_on}
use Rattle.source_compiler.proofs.program.code_of.Goals as goal

-- what is so of the files that were read is so of those that were given: their trees
trees_of : (files sources : List SourceFile) (program : Program) → sources ≡ files → AreTreesOf sources program → AreTreesOf files program
trees_of files sources program same trees = subst (λ (l : List SourceFile). AreTreesOf l program) same trees

-- that they are screened
screened_of : (files sources : List SourceFile) → sources ≡ files → All IsScreened sources → All IsScreened files
screened_of files sources same screened = subst (All IsScreened) same screened

-- and the places of their tokens
places_of : (files sources : List SourceFile) (names lines columns : List (List ℕ)) → sources ≡ files → ArePlacesOf sources names lines columns → ArePlacesOf files names lines columns
places_of files sources names lines columns same places = subst (λ (l : List SourceFile). ArePlacesOf l names lines columns) same places

pub check_program-requires-clause-readable : goal.check_program-requires-clause-readable
check_program-requires-clause-readable c =
    files_readable c.tokens_of_texts_are_small.ensures c.programs_of_small_texts_are_readable.ensures c.args.files c.in_ok-program.program
    (trees_of c.args.files c.as_slice-sources.result.now c.in_ok-program.program c.as_slice-sources.ensures c.in_ok-program.ensures) c.requires.texts c.requires.few

pub check_program-requires-clause-light : goal.check_program-requires-clause-light
check_program-requires-clause-light c =
    files_light c.programs_weigh_eight_times_their_tokens.ensures c.args.files c.in_ok-program.program (trees_of c.args.files c.as_slice-sources.result.now c.in_ok-program.program c.as_slice-sources.ensures c.in_ok-program.ensures)
    c.requires.few

pub check_program-requires-clause-few : goal.check_program-requires-clause-few
check_program-requires-clause-few c =
    let law = c.programs_declare_no_more_than_their_tokens.ensures in
    files_few law.files law.parts law.variables c.args.files c.in_ok-program.program (trees_of c.args.files c.as_slice-sources.result.now c.in_ok-program.program c.as_slice-sources.ensures c.in_ok-program.ensures) c.requires.few_files
    c.requires.few

pub compile_program-requires-clause-bounded : goal.compile_program-requires-clause-bounded
compile_program-requires-clause-bounded c =
    let base = messages_of c.args.base in
    let program = c.in_ok-program.program in
    let lines = lines_of c.args.files in
    let typed : IsAccepted base program lines c.in_ok-typed.typed =
    c.in_ok-typed.ensures c.args.files (places_of c.args.files c.as_slice-sources.result.now _ _ _ c.as_slice-sources.ensures c.in_ok-places.ensures) in
    let bound = within_weight base program lines c.in_ok-typed.typed typed (c.code_is_within_the_weight.ensures base program) in
    λ small. subst (λ n. size c.in_ok-typed.typed ≤ n) (sym (weight_within program c.weight_of-weight.result c.weight_of-weight.ensures small)) bound

pub compile_program-requires-clause-few_cells : goal.compile_program-requires-clause-few_cells
compile_program-requires-clause-few_cells c =
    let base = messages_of c.args.base in
    let program = c.in_ok-program.program in
    let lines = lines_of c.args.files in
    let typed : IsAccepted base program lines c.in_ok-typed.typed =
    c.in_ok-typed.ensures c.args.files (places_of c.args.files c.as_slice-sources.result.now _ _ _ c.as_slice-sources.ensures c.in_ok-places.ensures) in
    few_cells base program lines c.in_ok-typed.typed typed

-- files of which one has no tree
pub returns-in_err-program : goal.returns-in_err-program
returns-in_err-program c =
    let base = messages_of c.args.base in
    let name = c.args.name.now in
    let files = c.args.files in
    let same = c.as_slice-sources.ensures in
    let screened = screened_of files c.as_slice-sources.result.now same c.in_ok-screen_files.ensures in
    judged_on {A = Program} {B = Compiled} (AreTreesOf c.as_slice-sources.result.now)
    (λ blame. IsFirstFile IsParsed (IsTreeBlame blame) c.as_slice-sources.result.now) (IsCompiled base files) (IsProgramBlame base name files)
    c.in_err-program.field-0.0 c.from_residual-in_err-program.result c.from_residual-in_err-program.ensures.1
    (λ blame wrong. inr (inl (screened, subst (IsFirstFile IsParsed (IsTreeBlame blame)) same wrong)))
    c.in_err-program.ensures

-- a program that breaks a rule or has too many cells
pub returns-in_err-typed : goal.returns-in_err-typed
returns-in_err-typed c =
    let base = messages_of c.args.base in
    let name = c.args.name.now in
    let files = c.args.files in
    let program = c.in_ok-program.program in
    let same = c.as_slice-sources.ensures in
    let screened = screened_of files c.as_slice-sources.result.now same c.in_ok-screen_files.ensures in
    let trees = trees_of files c.as_slice-sources.result.now program same c.in_ok-program.ensures in
    judged_on {A = Typed} {B = Compiled} (IsAccepted base program (lines_of files))
    (λ blame. IsOffenceBlame base files program blame ⊎ IsSizeBlame base name program blame) (IsCompiled base files) (IsProgramBlame base name files)
    c.in_err-typed.field-0.0 c.from_residual-in_err-typed.result c.from_residual-in_err-typed.ensures.1
    (λ blame wrong. inr (inr (screened, (program, trees, wrong))))
    (c.in_err-typed.ensures files (places_of files c.as_slice-sources.result.now _ _ _ same c.in_ok-places.ensures))

-- a program that is too heavy
pub returns-in_err-code : goal.returns-in_err-code
returns-in_err-code c =
    let base = messages_of c.args.base in
    let name = c.args.name.now in
    let files = c.args.files in
    let program = c.in_ok-program.program in
    let same = c.as_slice-sources.ensures in
    let screened = screened_of files c.as_slice-sources.result.now same c.in_ok-screen_files.ensures in
    let trees = trees_of files c.as_slice-sources.result.now program same c.in_ok-program.ensures in
    let typed : IsAccepted base program (lines_of files) c.in_ok-typed.typed =
    c.in_ok-typed.ensures files (places_of files c.as_slice-sources.result.now _ _ _ same c.in_ok-places.ensures) in
    let told = c.weight_of-weight.result in
    judged_on {A = Code} {B = Compiled} (λ code. IsCodeOf c.in_ok-typed.typed code × (told ≤ most))
    (λ blame. (most < told) × (blame ≡ file_blame name (source_rule 29))) (IsCompiled base files) (IsProgramBlame base name files)
    c.in_err-code.field-0.0 c.from_residual-in_err-code.result c.from_residual-in_err-code.ensures.1
    (λ blame heavy. inr (inr (screened, (program, trees, inr (typed.made.no_offence, inr (weight_above program told c.weight_of-weight.ensures heavy.0), heavy.1)))))
    c.in_err-code.ensures

-- a program that is compiled
pub returns : goal.returns
returns c =
    let base = messages_of c.args.base in
    let files = c.args.files in
    let program = c.in_ok-program.program in
    let lines = lines_of files in
    let same = c.as_slice-sources.ensures in
    let places = places_of files c.as_slice-sources.result.now _ _ _ same c.in_ok-places.ensures in
    let typed : IsAccepted base program lines c.in_ok-typed.typed = c.in_ok-typed.ensures files places in
    let weight_is = weight_within program c.weight_of-weight.result c.weight_of-weight.ensures c.in_ok-code.ensures.1 in
    record {
      screened = screened_of files c.as_slice-sources.result.now same c.in_ok-screen_files.ensures;
      program = program;
      trees = trees_of files c.as_slice-sources.result.now program same c.in_ok-program.ensures;
      light = subst (λ n. n ≤ most) weight_is c.in_ok-code.ensures.1;
      made = record {
        code_is = (c.in_ok-typed.typed, typed, c.in_ok-code.ensures.0);
        cells_are = cells_told base program lines c.in_ok-typed.typed c.cells_of.result typed c.cells_of.ensures;
        weight_is = weight_is;
        files_are = c.from_list.ensures ∙ places.0;
      };
    }
