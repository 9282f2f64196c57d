-- The size so far is that of what is done, up to the limit, and what is noted so far are its notes.
use Rattle.std.proofs.Common.{◌≡◌, ◌-◌, ◌^◌, ◌≤◌, ◌++◌, length, drop, take}
use Rattle.std.specs.Prelude.{min, sum, sum_by, true}
use Rattle.typed_tree.specs.Shape.{body_goes_on}
use Rattle.typed_tree.specs.Size.{stmt_size}
use Rattle.code_size.specs.Notes.{all_notes, arms_notes_of, groups_notes_of}
use Rattle.code_size.specs.Rows.{arms_go_on_of, arms_size_of, before_default, group_sizes_of, labels_of_groups}
use Rattle.code_size.proofs.statement.+sizes.Given as goal

abbrev pub decreases-note_first-loop-left : goal.decreases-note_first-loop-left
decreases-note_first-loop-left l = l.left

abbrev pub invariant-note_first-loop-left : goal.invariant-note_first-loop-left
invariant-note_first-loop-left l = record {
  within : l.left ≤ l.count;
  size : l.whole.size ≡ min (sum_by (stmt_size l.typed) (drop l.left (take l.count l.all))) (2 ^ 64 - 1);
  goes_on : l.whole.goes_on ≡ body_goes_on true (drop l.left (take l.count l.all));
  noted : l.notes.items ≡ l.fn.notes.items ++ all_notes l.typed (drop l.left (take l.count l.all));
}

abbrev pub decreases-note_arms-loop-left : goal.decreases-note_arms-loop-left
decreases-note_arms-loop-left l = l.left

abbrev pub invariant-note_arms-loop-left : goal.invariant-note_arms-loop-left
invariant-note_arms-loop-left l = record {
  within : l.left ≤ length l.arms;
  size : l.behind.size ≡ min (arms_size_of l.typed (drop l.left l.arms) l.initial.behind.size) (2 ^ 64 - 1);
  goes_on : l.behind.goes_on ≡ arms_go_on_of (drop l.left l.arms) l.initial.behind.goes_on;
  noted : l.notes.items ≡ l.fn.notes.items ++ arms_notes_of l.typed (drop l.left l.arms);
}

abbrev pub decreases-note_groups-loop-left : goal.decreases-note_groups-loop-left
decreases-note_groups-loop-left l = l.left

abbrev pub invariant-note_groups-loop-left : goal.invariant-note_groups-loop-left
invariant-note_groups-loop-left l = record {
  within : l.left ≤ length l.groups;
  over : l.sizes.over ≡ min (before_default (labels_of_groups (drop l.left l.groups))
      (group_sizes_of l.typed (drop l.left l.groups))) (2 ^ 64 - 1);
  groups : l.sizes.groups ≡ min (sum (group_sizes_of l.typed (drop l.left l.groups))) (2 ^ 64 - 1);
  noted : l.notes.items ≡ l.fn.notes.items ++ groups_notes_of l.typed (drop l.left l.groups);
}
