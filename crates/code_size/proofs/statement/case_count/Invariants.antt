-- The count so far, with that of the groups that are left, is the whole count, up to the limit.
use Rattle.std.proofs.Common.{◌≡◌, ◌+◌, ◌-◌, ◌^◌, ◌<◌, drop}
use Rattle.std.specs.Prelude.{min}
use Rattle.code_size.specs.Rows.{case_count_of}
use Rattle.code_size.proofs.statement.case_count.Given as goal

abbrev pub invariant-loop-group : goal.invariant-loop-group
invariant-loop-group l = record {
  within : l.cases < 2 ^ 64;
  cases : min (l.cases + case_count_of (drop l.group-index l.groups)) (2 ^ 64 - 1) ≡ min (case_count_of l.groups) (2 ^ 64 - 1);
}
