-- There are a name and a list of one file for each name so far.
use Rattle.std.proofs.Common.{◌≡◌, All, length}
use Rattle.play_tests.proofs.shown.labels.Given as goal

abbrev pub invariant-loop-name : goal.invariant-loop-name
invariant-loop-name l = record {
  names : length l.called.items ≡ l.name-index;
  files : length l.files.items ≡ l.name-index;
  each : All (λ files. length files ≡ 1) l.files.items;
}
