-- One more group: its size and the notes before it are read from the notes that stand last.
use Rattle.std.proofs.Common.{ℕ, ◌≡◌, ◌+◌, ◌==◌, ◌++◌, List, length, drop, take, ap, sym, ◌∙◌, arith, length-append}
use Rattle.std.specs.Prelude.{count_by, is_some, sum_by}
use Rattle.std.proofs.lemmas.List.{at_drop_all, length-take-le, take_at}
use Rattle.typed_tree.specs.Size.{jump_size, stmt_size}
use Rattle.code_listing.specs.Statement.{labels_code}
use Rattle.code_size.specs.declared.extent.Extent.{Extent}
use Rattle.code_size.specs.Notes.{all_notes, group_notes, groups_notes_of}
use Rattle.code_size.specs.Rows.{case_count_of, group_sizes_of, kept_if, labels_of_groups}
use Rattle.gen_stmt.proofs.Noted.{cases_here, groups_noted, sizes_sum}
use Rattle.gen_stmt.proofs.Steps.{before_default_le, cases_next}
use Rattle.gen_stmt.proofs.cases.add_choice.Goals as goal

pub last_group-size-requires : goal.last_group-size-requires
last_group-size-requires c =
    let typed = c.args.typed.now in let there = c.loop-group-test.true in let is = c.group-item.is in
    let noted = groups_noted typed _ _ _ _ _ there is c.loop-group.invariant.noted.1 in
    let here = sizes_sum typed _ _ _ there is in
    (_, _, _, noted, omega (arith, c.loop-group.invariant.room, here))

pub overflow_add-at-in-loop-group : goal.overflow_add-at-in-loop-group
overflow_add-at-in-loop-group c =
    let typed = c.args.typed.now in let there = c.loop-group-test.true in let is = c.group-item.is in
    let noted = groups_noted typed _ _ _ _ _ there is c.loop-group.invariant.noted.1 in
    let here = sizes_sum typed _ _ _ there is in
    let gives = c.last_group-size.ensures _ _ _ noted (omega (arith, c.loop-group.invariant.room, here)) in
    omega (arith, c.loop-group.invariant.room, here, gives.0)

pub slice_bounds-left-end : goal.slice_bounds-left-end
slice_bounds-left-end c =
    let typed = c.args.typed.now in let there = c.loop-group-test.true in let is = c.group-item.is in
    let noted = groups_noted typed _ _ _ _ _ there is c.loop-group.invariant.noted.1 in
    let here = sizes_sum typed _ _ _ there is in
    let gives = c.last_group-size.ensures _ _ _ noted (omega (arith, c.loop-group.invariant.room, here)) in
    let left : List Extent = c.loop-group.invariant.noted.0 ++ groups_notes_of typed (drop (c.loop-group.group-index + 1) c.args.groups.now) in
    sym (length-take-le c.last_group-size.result.1 c.loop-group.left.now (omega (arith, gives.1, ap length noted ∙ length-append left _)))

pub loop-group-preserved : goal.loop-group-preserved
loop-group-preserved c =
    let groups = c.args.groups.now in let i = c.loop-group.group-index in
    let group = c.group-item.result in let at = c.loop-group.at in
    let before = c.loop-group.invariant.noted.0 in
    let typed = c.args.typed.now in let there = c.loop-group-test.true in let is = c.group-item.is in
    let noted = groups_noted typed _ _ _ _ _ there is c.loop-group.invariant.noted.1 in
    let here = sizes_sum typed _ _ _ there is in
    let gives = c.last_group-size.ensures _ _ _ noted (omega (arith, c.loop-group.invariant.room, here)) in
    let left : List Extent = before ++ groups_notes_of typed (drop (i + 1) groups) in
    let labels = c.in_ok-add_labels.ensures.code ∙ ap (λ l. c.loop-group.into ++ labels_code l at) c.as_slice.ensures in
    let size : ℕ = sum_by (stmt_size typed) (kept_if (i + 1 == length groups) group.body) in
    let next : at + c.last_group-size.result.0 ≡ at + size = ap (λ k. at + k) gives.0 in
    record {
      room = omega (arith, c.loop-group.invariant.room, here, gives.0);
      noted = (before, ap (take c.last_group-size.result.1) noted ∙ take_at left (group_notes (all_notes typed (kept_if (i + 1 == length groups) group.body)) size) c.last_group-size.result.1 (sym gives.1));
      grown = omega (arith, c.in_ok-add_labels.ensures.grows, ap (count_by is_some) c.as_slice.ensures, cases_here groups i group there is, c.loop-group.invariant.grown);
      code = cases_next typed groups i group at (at + c.last_group-size.result.0) c.loop-group.into _ there is labels next ∙ c.loop-group.invariant.code;
    }

pub add_jump-requires : goal.add_jump-requires
add_jump-requires c =
    let groups = c.args.groups.now in
    let sizes : List ℕ = group_sizes_of c.args.typed.now groups in
    let done = at_drop_all case_count_of groups c.loop-group.group-index (omega (arith, c.loop-group-test.false)) in
    let less = before_default_le (labels_of_groups groups) sizes in
    omega (arith, c.loop-group.invariant.grown, done, c.in_ok-add.ensures.grows, c.in_ok-emit.ensures.grows, c.requires.over, ap jump_size c.requires.over, less, c.requires.room)
