-- A file more, and one that is to blame.
use Rattle.std.proofs.Common.{All, subst}
use Rattle.std.proofs.lemmas.List.{take_all}
use Rattle.source_compiler.specs.Source.{IsFirstFile, IsScreened, IsTokenBlame}
use Rattle.source_compiler.proofs.FileLemmas.{all_more, first_at}
use Rattle.input_refusals.proofs.Passing.{judged_on}
use Rattle.source_compiler.proofs.program.screen_files.Goals as goal

pub returns-in_err-screen_file : goal.returns-in_err-screen_file
returns-in_err-screen_file c =
    let files = c.args.files.now in
    let file = c.file-item.result in
    judged_on {A = Unit {0}} {B = Unit {0}} (λ done. IsScreened file) (λ blame. IsTokenBlame blame file) (λ done. All IsScreened files)
    (λ blame. IsFirstFile IsScreened (IsTokenBlame blame) files)
    c.in_err-screen_file.field-0.0 c.from_residual.result c.from_residual.ensures.1
    (λ blame wrong. first_at IsScreened (IsTokenBlame blame) files c.loop-file.file-index file c.loop-file-test.true c.file-item.is c.loop-file.invariant wrong)
    c.in_err-screen_file.ensures

pub loop-file-preserved : goal.loop-file-preserved
loop-file-preserved c =
    all_more IsScreened c.args.files.now c.loop-file.file-index c.file-item.result c.loop-file-test.true c.file-item.is c.loop-file.invariant c.in_ok-screen_file.ensures

pub returns : goal.returns
returns c = subst (All IsScreened) (take_all c.loop-file.file-index c.args.files.now c.loop-file-test.false) c.loop-file.invariant
