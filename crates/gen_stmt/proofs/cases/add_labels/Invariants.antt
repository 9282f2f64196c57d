-- What is appended so far, with the cases of the labels that are left, is all of them.
use Rattle.std.proofs.Common.{◌≡◌, ◌+◌, ◌++◌, length, drop}
use Rattle.std.specs.Prelude.{count_by, is_some}
use Rattle.code_listing.specs.Statement.{labels_code}
use Rattle.gen_stmt.proofs.cases.add_labels.Given as goal

abbrev pub invariant-loop-label : goal.invariant-loop-label
invariant-loop-label l = record {
  grown : length l.into + count_by is_some (drop l.label-index l.labels) ≡
      length l.fn.into + count_by is_some l.labels;
  code : l.into ++ labels_code (drop l.label-index l.labels) l.at ≡ l.fn.into ++ labels_code l.labels l.at;
}
