-- What is appended so far, with the cases of the groups that are left, is all of them, and the notes of these groups
-- stand last.
use Rattle.std.proofs.Common.{◌≡◌, ◌+◌, ◌<◌, ◌^◌, ◌++◌, length, drop}
use Rattle.std.specs.Prelude.{sum}
use Rattle.code_listing.specs.Statement.{cases_code}
use Rattle.code_size.specs.Notes.{StandLast, groups_notes_of}
use Rattle.code_size.specs.Rows.{case_count_of, group_sizes_of, labels_of_groups}
use Rattle.gen_stmt.proofs.cases.add_choice.Given as goal

abbrev pub invariant-loop-group : goal.invariant-loop-group
invariant-loop-group l = record {
  room : l.at + sum (group_sizes_of l.typed (drop l.group-index l.groups)) < 2 ^ 32;
  noted : StandLast (groups_notes_of l.typed (drop l.group-index l.groups)) l.left;
  grown : length l.into + case_count_of (drop l.group-index l.groups) ≡ length l.initial.into + case_count_of l.groups;
  code : l.into ++
      cases_code (labels_of_groups (drop l.group-index l.groups)) (group_sizes_of l.typed (drop l.group-index l.groups)) l.at ≡
      l.initial.into ++ cases_code (labels_of_groups l.groups) (group_sizes_of l.typed l.groups) l.initial.at;
}
