-- A file more, and one that is to blame.
use Rattle.std.proofs.Common.{List, ◌+◌, arith, subst, sym, take}
use Rattle.std.proofs.lemmas.List.{take_all}
use Rattle.std.specs.List.{AllZip}
use Rattle.capl_include.specs.declared.expanded.SourceFile.{SourceFile}
use Rattle.capl_tree.specs.declared.file.FileTree.{FileTree}
use Rattle.source_compiler.specs.Source.{AreTreesOf, HasTree, IsFirstFile, IsParsed, IsTreeBlame}
use Rattle.source_compiler.proofs.FileLemmas.{few_in_each, first_at, zip_more, zip_parsed}
use Rattle.input_refusals.proofs.Passing.{judged_on}
use Rattle.source_compiler.proofs.program.parse_files.Goals as goal

pub parse_file-requires-clause-few : goal.parse_file-requires-clause-few
parse_file-requires-clause-few c =
    omega (arith, c.requires.few, few_in_each c.args.files.now c.loop-file.file-index c.file-item.result c.loop-file-test.true c.file-item.is)

pub returns-in_err-tree : goal.returns-in_err-tree
returns-in_err-tree c =
    let files = c.args.files.now in
    let file = c.file-item.result in
    let index = c.loop-file.file-index in
    judged_on (HasTree file) (λ blame. IsTreeBlame blame file) (AreTreesOf files)
    (λ blame. IsFirstFile IsParsed (IsTreeBlame blame) files)
    c.in_err-tree.field-0.0 c.from_residual.result c.from_residual.ensures.1
    (λ blame wrong. first_at IsParsed (IsTreeBlame blame) files index file c.loop-file-test.true c.file-item.is
    (zip_parsed (take index files) c.loop-file.trees.items c.loop-file.invariant) wrong)
    c.in_err-tree.ensures

pub loop-file-preserved : goal.loop-file-preserved
loop-file-preserved c =
    subst (AllZip HasTree (take (c.loop-file.file-index + 1) c.args.files.now)) (sym c.in_ok-push.ensures.items)
    (zip_more c.args.files.now c.loop-file.file-index c.loop-file.trees.items c.file-item.result c.in_ok-tree.tree c.loop-file-test.true c.file-item.is c.loop-file.invariant c.in_ok-tree.ensures)

pub returns : goal.returns
returns c =
    subst (λ (t : List FileTree). AllZip HasTree c.args.files.now t) (sym c.from_list.ensures)
    (subst (λ (f : List SourceFile). AllZip HasTree f c.loop-file.trees.items) (take_all c.loop-file.file-index c.args.files.now c.loop-file-test.false) c.loop-file.invariant)
