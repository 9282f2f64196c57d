-- The includes so far are visited: what goes on from here goes on from the first of them.
use Rattle.std.proofs.Common.{◌≡◌, ◌<◌, ◌≤◌, ◌+◌, ◌-◌, length}
use Rattle.std.specs.Prelude.{IfSome}
use Rattle.capl_lexer.specs.Reading.{token_limit}
use Rattle.capl_include.specs.Answer.{token_count}
use Rattle.capl_include.specs.Expansion.{file_limit, meeting}
use Rattle.capl_include.specs.Text.{AreOfTexts}
use Rattle.capl_include.specs.Inside.Once.{GoesOnce, ReadsEach}
use Rattle.capl_include.proofs.VisitLemmas.{GoesFrom}
use Rattle.capl_include.proofs.expansion.+visit.Given as goal

abbrev pub invariant-loop-token : goal.invariant-loop-token
invariant-loop-token g l = record {
  once : GoesOnce (meeting l.name l.token-items l.fn.progress) l.progress;
  reads : ReadsEach 1 (g.F.Files.reads l.fn.files) (g.F.Files.reads l.files) l.fn.progress l.progress;
  grows : length l.fn.progress.met < length l.progress.met;
  appends : length l.progress.files + (length l.fn.progress.met + 1) ≡ length l.fn.progress.files + length l.progress.met;
  few_files : length l.progress.met ≤ file_limit;
  few : l.progress.count ≤ token_limit;
  counts : token_count l.progress.files + (l.fn.progress.count + length l.token-items)
      ≡ token_count l.fn.progress.files + l.progress.count;
  texts : AreOfTexts l.fn.progress.files → AreOfTexts l.progress.files;
  faults_stay : g.F.Files.faults l.fn.files ≤ g.F.Files.faults l.files;
  contents_stay : g.F.Files.held l.files ≡ g.F.Files.held l.fn.files;
  told : IfSome (g.F.Files.held l.fn.files) (λ contents.
      GoesFrom contents l.root l.name l.token-items l.fn.progress l.token-index l.progress);
}

abbrev pub decreases-visit : goal.decreases-visit
decreases-visit g l = file_limit - length l.progress.now.met
