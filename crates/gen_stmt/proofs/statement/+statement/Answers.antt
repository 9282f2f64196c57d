-- The notes that stand last at each step, and the pieces of each statement's code, one behind the other.
use Rattle.std.proofs.Common.{ℕ, ◌≡◌, ◌+◌, ◌<◌, ◌==◌, ◌++◌, List, [], ◌∷◌, length, drop, take, refl, sym, subst, ap, ◌∙◌, rules, arith, append_assoc, length-append}
use Rattle.std.specs.Prelude.{Bool, All, IfSome, sum_by}
use Rattle.std.proofs.lemmas.List.{same_from_push}
use Rattle.typed_tree.specs.declared.statement.TStmt.{the_lemmas}
use Rattle.typed_tree.specs.Size.{for_test_size, jump_size, stmt_size, value_size}
use Rattle.code_listing.specs.Expression.{value_code}
use Rattle.code_listing.specs.Program.{body_code}
use Rattle.code_size.specs.declared.extent.Extent.{Extent}
use Rattle.code_size.specs.Notes.{all_notes, arms_notes_of, extent_of, groups_notes_of, inside_notes, part_notes_of, switch_notes_of}
use Rattle.code_size.specs.Rows.{arms_size_of, before_default, group_sizes_of, kept_if, labels_of_groups, part_size_of, switch_size_of}
use Rattle.code_size.proofs.Noted.{all_taken, first_size}
use Rattle.code_size.proofs.Notes.{block_notes, if_notes, switch_notes, while_notes, do_notes}
use Rattle.code_size.proofs.Rows.{block_size, for_size, if_size, switch_size}
use Rattle.gen_stmt.specs.Inside.Exits.{exits_of}
use Rattle.gen_stmt.specs.Inside.Fields.{ArmHasFieldCells, BodyHasFieldCells, GroupHasFieldCells, StmtHasFieldCells}
use Rattle.gen_stmt.specs.Inside.Rows.{arms_code_of, part_code_of, switch_code_of}
use Rattle.gen_stmt.proofs.Emitted.{for_emitted, while_emitted}
use Rattle.gen_stmt.proofs.Fields.{block_fields, do_fields, for_fields, if_fields, switch_fields, while_fields}
use Rattle.gen_stmt.proofs.Noted.{alone, arms_noted, body_noted, first_noted, for_noted, groups_noted, sizes_sum}
use Rattle.gen_stmt.proofs.Rows.{block_code, do_size, if_code, switch_code, while_size}
use Rattle.gen_stmt.proofs.Steps.{arm_next, arm_room, before_default_le, first_next, groups_next, values_count}
use Rattle.gen_stmt.proofs.statement.+statement.Goals.{emit_stmt-After-as_slice, emit_stmt-After-take_size-body_size-in-For, emit_switch-After-take_size-over}
use Rattle.gen_stmt.proofs.statement.+statement.Goals as goal

pub emit_first-take_size-size-requires : goal.emit_first-take_size-size-requires
emit_first-take_size-size-requires t c =
    let typed = c.args.typed.now in
    let size = first_size c.args.all.now c.args.count _ _ c.index-all-i.result c.requires.within c.loop-i-test.true c.index-all-i.is refl typed in
    (_, _, first_noted typed _ _ _ _ _ _ c.requires.within c.loop-i-test.true c.index-all-i.is (c.loop-i.invariant.noted _ c.requires.noted.1), omega (arith, size, c.loop-i.invariant.grown, c.requires.room))

pub emit_first-emit_stmt-requires : goal.emit_first-emit_stmt-requires
emit_first-emit_stmt-requires t c =
    let typed = c.args.typed.now in
    let size = first_size c.args.all.now c.args.count _ _ c.index-all-i.result c.requires.within c.loop-i-test.true c.index-all-i.is refl typed in
    let gives = c.take_size-size.ensures _ _ (first_noted typed _ _ _ _ _ _ c.requires.within c.loop-i-test.true c.index-all-i.is (c.loop-i.invariant.noted _ c.requires.noted.1)) in
    let within : c.loop-i.i < length c.args.all.now = omega (arith, c.loop-i-test.true, c.requires.within) in
    (search (rules, the_lemmas, within, c.index-all-i.is), (subst StmtHasFieldCells (sym c.index-all-i.is) (c.requires.fields _ _ within), (omega (arith, gives.0, size, c.loop-i.invariant.grown, c.requires.room), (omega (arith, size, c.loop-i.invariant.grown, c.requires.room), (_, gives.1)))))

pub emit_first-loop-i-preserved : goal.emit_first-loop-i-preserved
emit_first-loop-i-preserved t c =
    let typed = c.args.typed.now in
    let size = first_size c.args.all.now c.args.count _ _ c.index-all-i.result c.requires.within c.loop-i-test.true c.index-all-i.is refl typed in
    let done = c.in_ok-emit_stmt.ensures.grows in
    record {
      grown = omega (arith, done, size, c.loop-i.invariant.grown);
      noted = λ rest e.
          let noted = first_noted typed _ _ _ _ _ _ c.requires.within c.loop-i-test.true c.index-all-i.is (c.loop-i.invariant.noted rest e) in
          c.in_ok-emit_stmt.ensures.taken _ (c.take_size-size.ensures _ _ noted).1;
      code = first_next typed (exits_of c.args.exits) _ _ _ _ _ _ c.requires.within c.loop-i-test.true c.index-all-i.is c.in_ok-emit_stmt.ensures.code done ∙
          c.loop-i.invariant.code;
    }

pub emit_groups-take_group-requires : goal.emit_groups-take_group-requires
emit_groups-take_group-requires t c =
    let typed = c.args.typed.now in
    (_, _, _, groups_noted typed _ _ _ _ _ c.loop-i-test.true c.index-groups-i.is (c.loop-i.invariant.noted _ c.requires.noted.1))

pub emit_groups-emit_first-requires : goal.emit_groups-emit_first-requires
emit_groups-emit_first-requires t c =
    let typed = c.args.typed.now in
    let left : List Extent = groups_notes_of typed (drop (c.loop-i.i + 1) c.args.groups.now) in
    let last : Bool = c.loop-i.i + 1 == length c.args.groups.now in
    let kept : take c.kept_len.result c.as_slice-body.result.now ≡ kept_if last c.index-groups-i.result.body =
    c.kept_len.ensures.kept ∙ ap (kept_if last) c.as_slice-body.ensures in
    let size = ap (sum_by (stmt_size typed)) kept in
    let here = sizes_sum typed _ _ _ c.loop-i-test.true c.index-groups-i.is in
    let before = c.requires.noted.0 in
    let noted = groups_noted typed _ _ _ _ _ c.loop-i-test.true c.index-groups-i.is (c.loop-i.invariant.noted _ c.requires.noted.1) in
    let taken = c.take_group.ensures _ _ _ noted ∙ ap (λ l. before ++ left ++ all_notes typed l) (sym kept) in
    let fields = subst GroupHasFieldCells (sym c.index-groups-i.is) (c.requires.fields _ _ c.loop-i-test.true) in
    (search (rules, the_lemmas, c.loop-i-test.true, c.index-groups-i.is, c.as_slice-body.ensures), (subst BodyHasFieldCells (sym c.as_slice-body.ensures) fields, (c.kept_len.ensures.within, (omega (arith, size, here, c.loop-i.invariant.grown, c.requires.room), (before ++ left, taken)))))

pub emit_groups-loop-i-preserved : goal.emit_groups-loop-i-preserved
emit_groups-loop-i-preserved t c =
    let typed = c.args.typed.now in
    let left : List Extent = groups_notes_of typed (drop (c.loop-i.i + 1) c.args.groups.now) in
    let last : Bool = c.loop-i.i + 1 == length c.args.groups.now in
    let kept : take c.kept_len.result c.as_slice-body.result.now ≡ kept_if last c.index-groups-i.result.body =
    c.kept_len.ensures.kept ∙ ap (kept_if last) c.as_slice-body.ensures in
    let size = ap (sum_by (stmt_size typed)) kept in
    let here = sizes_sum typed _ _ _ c.loop-i-test.true c.index-groups-i.is in
    let exits = exits_of c.args.exits in let old = c.loop-i.into in
    let done = c.in_ok-emit_first.ensures.grows ∙ ap (λ k. length old + k) size in
    record {
      grown = omega (arith, done, here, c.loop-i.invariant.grown);
      noted = λ rest e.
          let noted = groups_noted typed _ _ _ _ _ c.loop-i-test.true c.index-groups-i.is (c.loop-i.invariant.noted rest e) in
          c.in_ok-emit_first.ensures.taken _ (c.take_group.ensures _ _ _ noted ∙ ap (λ l. rest ++ left ++ all_notes typed l) (sym kept));
      code = groups_next typed exits _ _ _ _ _ c.loop-i-test.true c.index-groups-i.is
          (c.in_ok-emit_first.ensures.code ∙ ap (λ l. old ++ body_code typed exits l (length old)) kept) done ∙
          c.loop-i.invariant.code;
    }

pub emit_arms-take-body-requires : goal.emit_arms-take-body-requires
emit_arms-take-body-requires t c =
    let typed = c.args.typed.now in
    let noted = arms_noted typed _ _ _ _ _ c.loop-arm-test.true c.arm-item.is (c.loop-arm.invariant.noted _ c.requires.noted.1) in
    omega (arith, ap length noted ∙ length-append _ (_ ∷ []))

pub emit_arms-emit_arm-requires : goal.emit_arms-emit_arm-requires
emit_arms-emit_arm-requires t c =
    let typed = c.args.typed.now in let there = c.loop-arm-test.true in let is = c.arm-item.is in
    let noted = arms_noted typed _ _ _ _ _ there is (c.loop-arm.invariant.noted _ c.requires.noted.1) in
    let taken = same_from_push _ _ _ _ (sym c.take-body.ensures ∙ noted) in
    let room = arm_room typed _ _ _ _ _ _ there is (c.loop-arm.invariant.end _ c.requires.end.1) in
    (search (rules, the_lemmas, there, is), (subst ArmHasFieldCells (sym is) (c.requires.fields _ _ there), (taken.1, (omega (arith, room, c.ranges.end.fits), (_, taken.0)))))

pub emit_arms-loop-arm-preserved : goal.emit_arms-loop-arm-preserved
emit_arms-loop-arm-preserved t c =
    let typed = c.args.typed.now in let exits = exits_of c.args.exits in
    let there = c.loop-arm-test.true in let is = c.arm-item.is in
    record {
      end = λ other e. (arm_next typed exits c.args.arms.now c.loop-arm.arm-index c.arm-item.result other (λ at. []) c.loop-arm.into c.emit_arm.new.into c.args.end there is
          (c.loop-arm.invariant.end other e) c.in_ok-emit_arm.ensures.code c.in_ok-emit_arm.ensures.grows).0;
      noted = λ rest e.
          let noted = arms_noted typed _ _ _ _ _ there is (c.loop-arm.invariant.noted rest e) in
          c.in_ok-emit_arm.ensures.taken _ (same_from_push _ _ _ _ (sym c.take-body.ensures ∙ noted)).0;
      code = λ other behind e. (arm_next typed exits c.args.arms.now c.loop-arm.arm-index c.arm-item.result other behind c.loop-arm.into c.emit_arm.new.into c.args.end there is
          (c.loop-arm.invariant.end other e) c.in_ok-emit_arm.ensures.code c.in_ok-emit_arm.ensures.grows).1 ∙
          c.loop-arm.invariant.code other behind e;
    }

pub emit_loop-emit_stmt-requires : goal.emit_loop-emit_stmt-requires
emit_loop-emit_stmt-requires t c =
    (search (rules, the_lemmas), (c.requires.body, (c.requires.size, (omega (arith, c.requires.end, c.ranges.end.fits), c.requires.noted))))

pub emit_part-take_size-size-requires : goal.emit_part-take_size-size-requires
emit_part-take_size-size-requires t c =
    let typed = c.args.typed.now in let part = c.in-Some.part in let before = c.requires.noted.0 in
    let noted = alone c.args.notes.now.items before (inside_notes typed part) (extent_of typed part)
    (c.requires.noted.1 ∙ ap (λ o. before ++ part_notes_of typed o) c.in-Some.is) in
    let size = ap (part_size_of typed) c.in-Some.is in
    (before ++ inside_notes typed part, extent_of typed part, noted, omega (arith, size, c.requires.room))

pub emit_part-emit_stmt-requires : goal.emit_part-emit_stmt-requires
emit_part-emit_stmt-requires t c =
    let typed = c.args.typed.now in let part = c.in-Some.part in let before = c.requires.noted.0 in
    let noted = alone c.args.notes.now.items before (inside_notes typed part) (extent_of typed part)
    (c.requires.noted.1 ∙ ap (λ o. before ++ part_notes_of typed o) c.in-Some.is) in
    let size = ap (part_size_of typed) c.in-Some.is in
    let gives = c.take_size-size.ensures _ _ noted in
    let same = ap (stmt_size typed) c.get.ensures in
    let fields = subst (λ o. IfSome o StmtHasFieldCells) c.in-Some.is c.requires.fields in
    (search (rules, the_lemmas, c.in-Some.is, c.get.ensures), (subst StmtHasFieldCells (sym c.get.ensures) fields, (omega (arith, gives.0, same, size, c.requires.room), (omega (arith, same, size, c.requires.room), (before, gives.1 ∙ ap (λ p. before ++ inside_notes typed p) (sym c.get.ensures))))))

pub emit_stmt-emit_first-requires : goal.emit_stmt-emit_first-requires
emit_stmt-emit_first-requires t c =
    let typed = c.args.typed.now in let is = c.in-Block.is in let before = c.requires.noted.0 in
    let whole = all_taken _ _ c.as_slice-all.ensures in
    let size = ap (sum_by (stmt_size typed)) whole in let own = block_size typed _ _ is in
    let noted = c.requires.noted.1 ∙ ap (λ l. before ++ l) (block_notes typed _ _ is ∙ ap (all_notes typed) (sym whole)) in
    let fields = subst BodyHasFieldCells (sym c.as_slice-all.ensures) (block_fields _ _ is c.requires.fields) in
    (search (rules, the_lemmas, is, c.as_slice-all.ensures), (fields, (omega arith, (omega (arith, size, own, c.requires.room), (before, noted)))))

-- where an `if` ends, and how the notes of what is in it stand
if_stands : (t : _) (c : emit_stmt-After-as_slice t) →
    (c.place.result + c.args.size ≡
    length c.args.into.now + arms_size_of c.args.typed.now c.as_slice.result.now (part_size_of c.args.typed.now c.in-If.other)) ×
    ((rest : List Extent) → c.args.notes.now.items ≡ rest ++ inside_notes c.args.typed.now c.args.s.now → c.args.notes.now.items ≡
    rest ++ part_notes_of c.args.typed.now c.in-If.other ++ arms_notes_of c.args.typed.now c.as_slice.result.now)
if_stands t c =
    let typed = c.args.typed.now in let is = c.in-If.is in let size = if_size typed _ _ _ is in
    let same = ap (λ l. arms_size_of typed l (part_size_of typed c.in-If.other)) c.as_slice.ensures in
    let last : List Extent = part_notes_of typed c.in-If.other in (
      omega (arith, c.place.ensures, c.requires.size, size, same),
      λ rest e. e ∙ ap (λ l. rest ++ l) (if_notes typed _ _ _ is) ∙ sym (append_assoc rest last _) ∙
          ap (λ l. rest ++ last ++ arms_notes_of typed l) (sym c.as_slice.ensures),
    )

pub emit_stmt-emit_arms-requires : goal.emit_stmt-emit_arms-requires
emit_stmt-emit_arms-requires t c =
    let stands = if_stands t (goal.at.emit_stmt-emit_arms-requires t c).After-as_slice in
    let fields = if_fields _ _ _ c.in-If.is c.requires.fields in
    (search (rules, the_lemmas, c.in-If.is, c.as_slice.ensures), (subst (All ArmHasFieldCells) (sym c.as_slice.ensures) fields.0, ((_, stands.0), (_, stands.1 _ c.requires.noted.1))))

pub emit_stmt-emit_part-requires : goal.emit_stmt-emit_part-requires
emit_stmt-emit_part-requires t c =
    let stands = if_stands t (goal.at.emit_stmt-emit_part-requires t c).After-as_slice in
    let fields = if_fields _ _ _ c.in-If.is c.requires.fields in
    let grown = c.in_ok-emit_arms-in-If.ensures.grows _ stands.0 in
    (search (rules, the_lemmas, c.in-If.is), (fields.1, (omega (arith, grown, c.place.ensures, c.requires.size, c.requires.room), (_, c.in_ok-emit_arms-in-If.ensures.taken _ (stands.1 _ c.requires.noted.1)))))

pub emit_stmt-take_size-body_size-requires : goal.emit_stmt-take_size-body_size-requires
emit_stmt-take_size-body_size-requires t c =
    let typed = c.args.typed.now in let size = while_size typed _ _ _ c.in-While.is in
    (_, _, body_noted typed c.args.s.now c.in-While.body _ _ (while_notes typed _ _ _ c.in-While.is) c.requires.noted.1, omega (arith, size, c.requires.room))

pub emit_stmt-add_jump-requires : goal.emit_stmt-add_jump-requires
emit_stmt-add_jump-requires t c =
    let typed = c.args.typed.now in let size = while_size typed _ _ _ c.in-While.is in
    let gives = c.take_size-body_size.ensures _ _ (body_noted typed c.args.s.now c.in-While.body _ _ (while_notes typed _ _ _ c.in-While.is) c.requires.noted.1) in
    let sized : c.take_size-body_size.result ≡ stmt_size typed c.in-While.body = omega (arith, gives.0, size, c.requires.room) in
    omega (arith, sized, ap jump_size sized, size, c.requires.room)

pub emit_stmt-emit_loop-requires : goal.emit_stmt-emit_loop-requires
emit_stmt-emit_loop-requires t c =
    let typed = c.args.typed.now in let is = rw (← c.get.ensures) at rw (← c.get-in-While.ensures) at c.in-While.is in
    let size = while_size typed _ _ _ is in
    let gives = c.take_size-body_size.ensures _ _ (body_noted typed c.args.s.now c.get.result.now _ _ (while_notes typed _ _ _ is) c.requires.noted.1) in
    let sized : c.take_size-body_size.result ≡ stmt_size typed c.get.result.now = omega (arith, gives.0, size, c.requires.room) in
    let fields = while_fields _ _ _ is c.requires.fields in
    (search (rules, the_lemmas, c.in-While.is, c.get.ensures), (fields.0, (fields.1, (sized, (omega (arith, c.place.ensures, c.requires.size, size, c.in_ok-add_jump-in-While.ensures.grows, ap jump_size sized), (_, gives.1))))))

pub emit_stmt-take_size-body_size-requires-in-Do : goal.emit_stmt-take_size-body_size-requires-in-Do
emit_stmt-take_size-body_size-requires-in-Do t c =
    let typed = c.args.typed.now in let size = do_size typed _ _ _ c.in-Do.is in
    (_, _, body_noted typed c.args.s.now c.in-Do.body _ _ (do_notes typed _ _ _ c.in-Do.is) c.requires.noted.1, omega (arith, size, c.requires.room))

pub emit_stmt-emit_loop-requires-in-Do : goal.emit_stmt-emit_loop-requires-in-Do
emit_stmt-emit_loop-requires-in-Do t c =
    let typed = c.args.typed.now in let is = rw (← c.get-in-Do.ensures) at c.in-Do.is in
    let size = do_size typed _ _ _ is in
    let gives = c.take_size-body_size-in-Do.ensures _ _ (body_noted typed c.args.s.now c.get-in-Do.result.now _ _ (do_notes typed _ _ _ is) c.requires.noted.1) in
    let sized : c.take_size-body_size-in-Do.result ≡ stmt_size typed c.get-in-Do.result.now = omega (arith, gives.0, size, c.requires.room) in
    let fields = do_fields _ _ _ is c.requires.fields in
    (search (rules, the_lemmas, c.in-Do.is, c.get-in-Do.ensures), (fields.0, (fields.1, (sized, (omega (arith, c.place.ensures, c.requires.size, size, c.in_ok-add-in-Do.ensures.grows), (_, gives.1))))))

pub emit_stmt-returns-in_ok-emit_loop-in-While-clause-taken : goal.emit_stmt-returns-in_ok-emit_loop-in-While-clause-taken
emit_stmt-returns-in_ok-emit_loop-in-While-clause-taken t c =
    let typed = c.args.typed.now in let is = rw (← c.get.ensures) at rw (← c.get-in-While.ensures) at c.in-While.is in
    λ rest e.
    let gives = c.take_size-body_size.ensures _ _ (body_noted typed c.args.s.now c.get.result.now _ _ (while_notes typed _ _ _ is) e) in
    c.in_ok-emit_loop-in-While.ensures.taken rest gives.1

pub emit_stmt-returns-in_ok-emit_loop-in-While-clause-code : goal.emit_stmt-returns-in_ok-emit_loop-in-While-clause-code
emit_stmt-returns-in_ok-emit_loop-in-While-clause-code t c =
    let typed = c.args.typed.now in let is = rw (← c.get.ensures) at rw (← c.get-in-While.ensures) at c.in-While.is in
    let size = while_size typed _ _ _ is in
    let gives = c.take_size-body_size.ensures _ _ (body_noted typed c.args.s.now c.get.result.now _ _ (while_notes typed _ _ _ is) c.requires.noted.1) in
    let sized : c.take_size-body_size.result ≡ stmt_size typed c.get.result.now = omega (arith, gives.0, size, c.requires.room) in
    while_emitted typed (exits_of c.args.exits) _ _ _ _ _ _ _ is sized
    c.in_ok-add_jump-in-While.ensures.code c.in_ok-add_jump-in-While.ensures.grows c.in_ok-emit_loop-in-While.ensures.code

pub emit_stmt-take_size-step_size-requires : goal.emit_stmt-take_size-step_size-requires
emit_stmt-take_size-step_size-requires t c =
    let typed = c.args.typed.now in let is = rw (← c.get-body.ensures) at c.in-For.is in
    let size = for_size typed _ _ _ _ _ is in
    (_, _, for_noted typed _ _ _ _ _ _ _ is c.requires.noted.1, omega (arith, size, c.requires.room))

pub emit_stmt-emit_part-requires-in-For : goal.emit_stmt-emit_part-requires-in-For
emit_stmt-emit_part-requires-in-For t c =
    let typed = c.args.typed.now in let is = rw (← c.get-body.ensures) at c.in-For.is in
    let size = for_size typed _ _ _ _ _ is in let fields = for_fields _ _ _ _ _ is c.requires.fields in
    let steps = c.take_size-step_size.ensures _ _ (for_noted typed _ _ _ _ _ _ _ is c.requires.noted.1) in
    (search (rules, the_lemmas, c.in-For.is), (fields.0, (omega (arith, size, c.requires.room), (_, steps.1))))

pub emit_stmt-take_size-body_size-requires-in-For : goal.emit_stmt-take_size-body_size-requires-in-For
emit_stmt-take_size-body_size-requires-in-For t c =
    let typed = c.args.typed.now in let is = rw (← c.get-body.ensures) at c.in-For.is in
    let size = for_size typed _ _ _ _ _ is in
    let steps = c.take_size-step_size.ensures _ _ (for_noted typed _ _ _ _ _ _ _ is c.requires.noted.1) in
    (_, _, alone _ _ _ _ (c.in_ok-emit_part-in-For.ensures.taken _ steps.1), omega (arith, size, c.requires.room))

-- once the size of its body is taken, the sizes in a `for`, and what is left of its notes
for_sized : (t : _) (c : emit_stmt-After-take_size-body_size-in-For t) →
    (stmt_size c.args.typed.now c.args.s.now ≡ part_size_of c.args.typed.now c.in-For.init +
    (jump_size (c.take_size-body_size-in-For.result + c.take_size-step_size.result) +
    (c.take_size-body_size-in-For.result + c.take_size-step_size.result + for_test_size c.args.typed.now c.in-For.test))) ×
    (c.take_size-body_size-in-For.result ≡ stmt_size c.args.typed.now c.get-body.result.now) ×
    (c.take_size-step_size.result ≡ part_size_of c.args.typed.now c.in-For.step) ×
    (c.take_size-body_size-in-For.new.notes.items ≡
    c.requires.noted.0 ++ part_notes_of c.args.typed.now c.in-For.step ++ inside_notes c.args.typed.now c.get-body.result.now)
for_sized t c =
    let typed = c.args.typed.now in let body = c.get-body.result.now in let step = c.in-For.step in
    let is = rw (← c.get-body.ensures) at c.in-For.is in let size = for_size typed _ _ _ _ _ is in
    let steps = c.take_size-step_size.ensures _ _ (for_noted typed _ _ _ _ _ _ _ is c.requires.noted.1) in
    let gives = c.take_size-body_size-in-For.ensures _ _ (alone _ _ _ _ (c.in_ok-emit_part-in-For.ensures.taken _ steps.1)) in
    let third_size : c.take_size-step_size.result ≡ part_size_of typed step = omega (arith, steps.0, size, c.requires.room) in
    let body_size : c.take_size-body_size-in-For.result ≡ stmt_size typed body = omega (arith, gives.0, size, c.requires.room) in
    let both : c.take_size-body_size-in-For.result + c.take_size-step_size.result ≡ stmt_size typed body + part_size_of typed step =
    omega (arith, body_size, third_size) in
    (omega (arith, size, both, ap jump_size both), body_size, third_size, gives.1)

pub emit_stmt-overflow_add-body_size : goal.emit_stmt-overflow_add-body_size
emit_stmt-overflow_add-body_size t c =
    let sized = for_sized t (goal.at.emit_stmt-overflow_add-body_size t c).After-take_size-body_size-in-For in
    omega (arith, sized.0, c.requires.room)

pub emit_stmt-overflow_add-body_at : goal.emit_stmt-overflow_add-body_at
emit_stmt-overflow_add-body_at t c =
    let sized = for_sized t (goal.at.emit_stmt-overflow_add-body_at t c).After-take_size-body_size-in-For in
    omega (arith, sized.0, c.jump_size.ensures, c.place-in-For.ensures, c.in_ok-emit_part-in-For.ensures.grows, c.requires.room)

pub emit_stmt-overflow_add-step_at : goal.emit_stmt-overflow_add-step_at
emit_stmt-overflow_add-step_at t c =
    let sized = for_sized t (goal.at.emit_stmt-overflow_add-step_at t c).After-take_size-body_size-in-For in
    omega (arith, sized.0, c.jump_size.ensures, c.place-in-For.ensures, c.in_ok-emit_part-in-For.ensures.grows, c.requires.room)

pub emit_stmt-overflow_add-body_size-in-For : goal.emit_stmt-overflow_add-body_size-in-For
emit_stmt-overflow_add-body_size-in-For t c =
    let sized = for_sized t (goal.at.emit_stmt-overflow_add-body_size-in-For t c).After-take_size-body_size-in-For in
    omega (arith, sized.0, c.requires.room)

pub emit_stmt-add_jump-requires-in-For : goal.emit_stmt-add_jump-requires-in-For
emit_stmt-add_jump-requires-in-For t c =
    let sized = for_sized t (goal.at.emit_stmt-add_jump-requires-in-For t c).After-take_size-body_size-in-For in
    omega (arith, sized.0, c.in_ok-emit_part-in-For.ensures.grows, c.requires.room)

pub emit_stmt-emit_stmt-requires : goal.emit_stmt-emit_stmt-requires
emit_stmt-emit_stmt-requires t c =
    let sized = for_sized t (goal.at.emit_stmt-emit_stmt-requires t c).After-take_size-body_size-in-For in
    let is = rw (← c.get-body.ensures) at c.in-For.is in
    let fields = for_fields _ _ _ _ _ is c.requires.fields in
    (search (rules, the_lemmas, c.in-For.is, c.get-body.ensures), (fields.3, (sized.1, (omega (arith, sized.0, sized.1, c.in_ok-add_jump-in-For.ensures.grows, c.in_ok-emit_part-in-For.ensures.grows, c.requires.room), (_, sized.3)))))

pub emit_stmt-emit_part-requires-in-For-2 : goal.emit_stmt-emit_part-requires-in-For-2
emit_stmt-emit_part-requires-in-For-2 t c =
    let sized = for_sized t (goal.at.emit_stmt-emit_part-requires-in-For-2 t c).After-take_size-body_size-in-For in
    let is = rw (← c.get-body.ensures) at c.in-For.is in
    let fields = for_fields _ _ _ _ _ is c.requires.fields in (
      search (rules, the_lemmas, c.in-For.is),
      (
        fields.2,
        (
          omega (arith, sized.0, sized.1, sized.2, c.in_ok-add_jump-in-For.ensures.grows, c.in_ok-emit_part-in-For.ensures.grows, c.in_ok-emit_stmt-in-For.ensures.grows, c.requires.room),
          (c.requires.noted.0, c.in_ok-emit_stmt-in-For.ensures.taken _ sized.3),
        ),
      ),
    )

pub emit_stmt-emit_for_test-requires-clause-room : goal.emit_stmt-emit_for_test-requires-clause-room
emit_stmt-emit_for_test-requires-clause-room t c =
    let sized = for_sized t (goal.at.emit_stmt-emit_for_test-requires-clause-room t c).After-take_size-body_size-in-For in
    omega (arith, sized.0, sized.1, sized.2, c.in_ok-add_jump-in-For.ensures.grows, c.in_ok-emit_part-in-For.ensures.grows, c.in_ok-emit_stmt-in-For.ensures.grows, c.in_ok-emit_part-in-For-2.ensures.grows, c.requires.room)

pub emit_stmt-returns-in_ok-emit_for_test-in-For-clause-grows : goal.emit_stmt-returns-in_ok-emit_for_test-in-For-clause-grows
emit_stmt-returns-in_ok-emit_for_test-in-For-clause-grows t c =
    let sized = for_sized t (goal.at.emit_stmt-returns-in_ok-emit_for_test-in-For-clause-grows t c).After-take_size-body_size-in-For in
    omega (arith, sized.0, sized.1, sized.2, c.in_ok-add_jump-in-For.ensures.grows, c.in_ok-emit_part-in-For.ensures.grows, c.in_ok-emit_stmt-in-For.ensures.grows, c.in_ok-emit_part-in-For-2.ensures.grows, c.in_ok-emit_for_test-in-For.ensures.grows)

pub emit_stmt-returns-in_ok-emit_for_test-in-For-clause-taken : goal.emit_stmt-returns-in_ok-emit_for_test-in-For-clause-taken
emit_stmt-returns-in_ok-emit_for_test-in-For-clause-taken t c =
    let typed = c.args.typed.now in let is = rw (← c.get-body.ensures) at c.in-For.is in
    λ rest e.
    let steps = c.take_size-step_size.ensures _ _ (for_noted typed _ _ _ _ _ _ _ is e) in
    let left = alone _ _ _ _ (c.in_ok-emit_part-in-For.ensures.taken _ steps.1) in
    c.in_ok-emit_part-in-For-2.ensures.taken rest (c.in_ok-emit_stmt-in-For.ensures.taken _ (c.take_size-body_size-in-For.ensures _ _ left).1)

pub emit_stmt-returns-in_ok-emit_for_test-in-For-clause-code : goal.emit_stmt-returns-in_ok-emit_for_test-in-For-clause-code
emit_stmt-returns-in_ok-emit_for_test-in-For-clause-code t c =
    let sized = for_sized t (goal.at.emit_stmt-returns-in_ok-emit_for_test-in-For-clause-code t c).After-take_size-body_size-in-For in
    let typed = c.args.typed.now in let is = rw (← c.get-body.ensures) at c.in-For.is in
    let both : c.take_size-body_size-in-For.result + c.take_size-step_size.result ≡
    stmt_size typed c.get-body.result.now + part_size_of typed c.in-For.step = omega (arith, sized.1, sized.2) in
    let jump = ap jump_size both in let place = c.place-in-For.ensures in
    let jumps = c.jump_size.ensures in let jumped = c.in_ok-add_jump-in-For.ensures.grows in
    let begun = c.in_ok-emit_part-in-For.ensures.grows in
    let ran = c.in_ok-emit_stmt-in-For.ensures.grows in
    for_emitted typed (exits_of c.args.exits) _ _ _ _ _ _ _ _ _ _ _ _ _ _ _ is both
    (omega (arith, place, jumps, begun))
    (omega (arith, place, jumps, begun, jump, sized.1))
    (omega (arith, c.place.ensures, c.requires.size, sized.0, sized.2, place, jumps, begun, sized.1))
    c.in_ok-emit_part-in-For.ensures.code begun
    c.in_ok-add_jump-in-For.ensures.code (omega (arith, jumped, begun, jump))
    c.in_ok-emit_stmt-in-For.ensures.code (omega (arith, jumped, begun, jump, ran))
    c.in_ok-emit_part-in-For-2.ensures.code (omega (arith, jumped, begun, jump, both, ran, c.in_ok-emit_part-in-For-2.ensures.grows))
    c.in_ok-emit_for_test-in-For.ensures.code

pub emit_stmt-emit_switch-requires : goal.emit_stmt-emit_switch-requires
emit_stmt-emit_switch-requires t c =
    let typed = c.args.typed.now in let is = rw (← c.get-in-Switch.ensures) at c.in-Switch.is in let same = c.as_slice-in-Switch.ensures in
    let before = c.requires.noted.0 in let size = switch_size typed _ _ _ is in
    let noted = c.requires.noted.1 ∙ ap (λ l. before ++ l) (switch_notes typed _ _ _ is ∙ ap (switch_notes_of typed) (sym same)) in
    let fields = switch_fields _ _ _ is c.requires.fields in
    (search (rules, the_lemmas, is, same), (fields.0, (subst (All GroupHasFieldCells) (sym same) fields.1, (omega (arith, c.place.ensures, c.requires.size, size, ap (switch_size_of typed) same), (before, noted)))))

pub emit_stmt-returns-in_ok-emit_switch-in-Switch-clause-taken : goal.emit_stmt-returns-in_ok-emit_switch-in-Switch-clause-taken
emit_stmt-returns-in_ok-emit_switch-in-Switch-clause-taken t c =
    let typed = c.args.typed.now in let is = c.in-Switch.is in let same = c.as_slice-in-Switch.ensures in
    λ rest e. c.in_ok-emit_switch-in-Switch.ensures.taken rest
    (e ∙ ap (λ l. rest ++ l) (switch_notes typed _ _ _ is ∙ ap (switch_notes_of typed) (sym same)))

pub emit_stmt-returns-in_ok-emit_switch-in-Switch-clause-code : goal.emit_stmt-returns-in_ok-emit_switch-in-Switch-clause-code
emit_stmt-returns-in_ok-emit_switch-in-Switch-clause-code t c =
    let typed = c.args.typed.now in let on = c.get-in-Switch.result.now in let old = c.args.into.now in
    let is = rw (← c.get-in-Switch.ensures) at c.in-Switch.is in let exits = exits_of c.args.exits in
    c.in_ok-emit_switch-in-Switch.ensures.code ∙
    ap (λ l. old ++ (value_code typed on (length old) 0 ++ switch_code_of typed exits l (length old + value_size typed on))) c.as_slice-in-Switch.ensures ∙
    ap (λ l. old ++ l) (sym (switch_code typed exits _ _ _ (length old) is))

pub emit_stmt-overflow_cast-len : goal.emit_stmt-overflow_cast-len
emit_stmt-overflow_cast-len t c =
    let typed = c.args.typed.now in
    let size : stmt_size typed c.args.s.now ≡ sum_by (value_size typed) c.in-Write.args + 1 = ap (stmt_size typed) c.in-Write.is in
    omega (arith, size, values_count typed c.in-Write.args, c.len.ensures, c.requires.room)

pub emit_stmt-returns-in_ok-emit_first-in-Block-clause-grows : goal.emit_stmt-returns-in_ok-emit_first-in-Block-clause-grows
emit_stmt-returns-in_ok-emit_first-in-Block-clause-grows t c =
    let typed = c.args.typed.now in let own = block_size typed _ _ c.in-Block.is in
    let size = ap (sum_by (stmt_size typed)) (all_taken _ _ c.as_slice-all.ensures) in
    omega (arith, own, size, c.in_ok-emit_first-in-Block.ensures.grows)

pub emit_stmt-returns-in_ok-emit_first-in-Block-clause-taken : goal.emit_stmt-returns-in_ok-emit_first-in-Block-clause-taken
emit_stmt-returns-in_ok-emit_first-in-Block-clause-taken t c =
    let typed = c.args.typed.now in let is = c.in-Block.is in
    let whole = all_taken _ _ c.as_slice-all.ensures in
    λ rest e. c.in_ok-emit_first-in-Block.ensures.taken rest
    (e ∙ ap (λ l. rest ++ l) (block_notes typed _ _ is ∙ ap (all_notes typed) (sym whole)))

pub emit_stmt-returns-in_ok-emit_first-in-Block-clause-code : goal.emit_stmt-returns-in_ok-emit_first-in-Block-clause-code
emit_stmt-returns-in_ok-emit_first-in-Block-clause-code t c =
    let typed = c.args.typed.now in let old = c.args.into.now in
    let exits = exits_of c.args.exits in let whole = all_taken _ _ c.as_slice-all.ensures in
    c.in_ok-emit_first-in-Block.ensures.code ∙ ap (λ l. old ++ body_code typed exits l (length old)) whole ∙
    ap (λ l. old ++ l) (sym (block_code typed exits _ _ (length old) c.in-Block.is))

pub emit_stmt-returns-in_ok-emit_part-in-If-clause-grows : goal.emit_stmt-returns-in_ok-emit_part-in-If-clause-grows
emit_stmt-returns-in_ok-emit_part-in-If-clause-grows t c =
    let grown = c.in_ok-emit_arms-in-If.ensures.grows _ (if_stands t (goal.at.emit_stmt-returns-in_ok-emit_part-in-If-clause-grows t c).After-as_slice).0 in
    omega (arith, grown, c.place.ensures, c.requires.size, c.in_ok-emit_part-in-If.ensures.grows)

pub emit_stmt-returns-in_ok-emit_part-in-If-clause-taken : goal.emit_stmt-returns-in_ok-emit_part-in-If-clause-taken
emit_stmt-returns-in_ok-emit_part-in-If-clause-taken t c =
    λ rest e.
    let noted = (if_stands t (goal.at.emit_stmt-returns-in_ok-emit_part-in-If-clause-taken t c).After-as_slice).1 rest e in
    c.in_ok-emit_part-in-If.ensures.taken rest (c.in_ok-emit_arms-in-If.ensures.taken _ noted)

pub emit_stmt-returns-in_ok-emit_part-in-If-clause-code : goal.emit_stmt-returns-in_ok-emit_part-in-If-clause-code
emit_stmt-returns-in_ok-emit_part-in-If-clause-code t c =
    let typed = c.args.typed.now in let other = c.in-If.other in let old = c.args.into.now in
    let exits = exits_of c.args.exits in let code = part_code_of typed exits other in
    let behind : ℕ = part_size_of typed other in
    c.in_ok-emit_part-in-If.ensures.code ∙ c.in_ok-emit_arms-in-If.ensures.code behind code (if_stands t (goal.at.emit_stmt-returns-in_ok-emit_part-in-If-clause-code t c).After-as_slice).0 ∙
    ap (λ l. old ++ arms_code_of typed exits l behind code (length old)) c.as_slice.ensures ∙
    ap (λ l. old ++ l) (sym (if_code typed exits c.args.s.now c.in-If.arms other (length old) c.in-If.is))

pub emit_switch-take_size-over-requires : goal.emit_switch-take_size-over-requires
emit_switch-take_size-over-requires t c =
    let less = before_default_le (labels_of_groups c.args.groups.now) (group_sizes_of c.args.typed.now c.args.groups.now) in
    (_, _, alone _ _ _ _ c.requires.noted.1, omega (arith, less, c.requires.end, c.ranges.end.fits))

-- what stands before the first group with `default`, as it is taken from the notes, and what is left of these
over_taken : (t : _) (c : emit_switch-After-take_size-over t) (rest : List Extent) →
    c.args.notes.now.items ≡ rest ++ switch_notes_of c.args.typed.now c.args.groups.now →
    (c.take_size-over.result ≡ before_default (labels_of_groups c.args.groups.now) (group_sizes_of c.args.typed.now c.args.groups.now)) ×
    (c.take_size-over.new.notes.items ≡ rest ++ groups_notes_of c.args.typed.now c.args.groups.now)
over_taken t c rest e =
    let less = before_default_le (labels_of_groups c.args.groups.now) (group_sizes_of c.args.typed.now c.args.groups.now) in
    let gives = c.take_size-over.ensures _ _ (alone _ _ _ _ e) in
    (omega (arith, gives.0, less, c.requires.end, c.ranges.end.fits), gives.1)

pub emit_switch-add_choice-requires-clause-over : goal.emit_switch-add_choice-requires-clause-over
emit_switch-add_choice-requires-clause-over t c =
    (over_taken t (goal.at.emit_switch-add_choice-requires-clause-over t c).After-take_size-over _ c.requires.noted.1).0

pub emit_switch-emit_groups-requires : goal.emit_switch-emit_groups-requires
emit_switch-emit_groups-requires t c =
    let gives = over_taken t (goal.at.emit_switch-emit_groups-requires t c).After-take_size-over _ c.requires.noted.1 in
    (search (rules, the_lemmas), (c.requires.fields, (omega (arith, c.in_ok-add_choice.ensures.grows, ap jump_size gives.0, c.requires.end, c.ranges.end.fits), (_, gives.1))))

pub emit_switch-returns-clause-taken : goal.emit_switch-returns-clause-taken
emit_switch-returns-clause-taken t c =
    λ rest e. c.in_ok-emit_groups.ensures.taken rest (over_taken t (goal.at.emit_switch-returns-clause-taken t c).After-take_size-over rest e).1
