-- Forms with parts, and turns of loops.
use Rattle.std.proofs.Common.{◌≡◌, ◌++◌, ◌∙◌, IfOk, OnOk, ap, length, refl, rules, subst, sym}
use Rattle.std.proofs.lemmas.Result.{on_ok_weaker}
use Rattle.capl_tree.specs.declared.statement.Stmt.{the_lemmas}
use Rattle.capl_tree.specs.declared.statement.Stmt.TheVariants as stmt
use Rattle.typed_tree.specs.declared.statement.TStmt.TheVariants as typed
use Rattle.typed_tree.specs.Forms.{Convert}
use Rattle.capl_meaning.specs.Constant.{prefix_kind}
use Rattle.typed_source.specs.Expression.{expression_of}
use Rattle.typed_source.specs.Statement.{formats_of, formats_of_part, statement_of}
use Rattle.typed_source.specs.Program.{formats_of_body}
use Rattle.check_sorts.specs.Scope.{scope_in}
use Rattle.type_statements.specs.Rows.{else_in, formats_in_arms, formats_in_else, formats_in_groups, groups_in}
use Rattle.type_alone.specs.Tables.{order_of}
use Rattle.type_statements.proofs.MadeLemmas.{arms_turn, body_turn, do_made, for_formats_made, for_made, for_of, formats_turn, groups_turn, if_formats_made, if_made, part_formats, switch_formats_made, switch_made, there_already, while_made}
use Rattle.type_alone.proofs.RoomLemmas.{room_first, room_rest, room_same, room_third, room_two}
use Rattle.type_statements.proofs.RowLemmas.{block_formats, do_formats, for_formats, if_formats, switch_formats, while_formats}
use Rattle.type_statements.proofs.statement.+statement.Goals as goal

pub make_body-loop-statement-preserved : goal.make_body-loop-statement-preserved
make_body-loop-statement-preserved t c =
    let s = scope_in c.args.scope in
    record {
      trees = body_turn s (order_of c.args.tables.now) c.args.statements.now c.loop-statement.statement-index c.statement-item.result
          c.loop-statement.made.items c.push.new.self.items _ c.loop-statement.formats.items c.make_statement.new.formats.items
          c.loop-statement-test.true c.statement-item.is c.in_ok-tree.ensures.tree c.in_ok-tree.ensures.formats c.in_ok-push.ensures.items
          ∙ c.loop-statement.invariant.trees;
      formats = formats_turn (formats_of s) c.args.statements.now c.loop-statement.statement-index c.statement-item.result
          c.loop-statement.formats.items c.make_statement.new.formats.items c.loop-statement-test.true c.statement-item.is
          c.in_ok-tree.ensures.formats
          ∙ c.loop-statement.invariant.formats;
    }

pub make_arms-loop-arm-preserved : goal.make_arms-loop-arm-preserved
make_arms-loop-arm-preserved t c =
    let s = scope_in c.args.scope in
    record {
      trees = arms_turn s (order_of c.args.tables.now) c.args.arms.now c.loop-arm.arm-index c.arm-item.result
          c.loop-arm.made.items c.push.new.self.items _ c.loop-arm.formats.items c.make_arm.new.formats.items
          c.loop-arm-test.true c.arm-item.is c.in_ok-tree.ensures.test c.in_ok-tree.ensures.body c.in_ok-tree.ensures.formats
          c.in_ok-push.ensures.items
          ∙ c.loop-arm.invariant.trees;
      formats = formats_turn (λ arm. formats_of s arm.body) c.args.arms.now c.loop-arm.arm-index c.arm-item.result
          c.loop-arm.formats.items c.make_arm.new.formats.items c.loop-arm-test.true c.arm-item.is
          c.in_ok-tree.ensures.formats
          ∙ c.loop-arm.invariant.formats;
    }

pub make_groups-loop-group-preserved : goal.make_groups-loop-group-preserved
make_groups-loop-group-preserved t c =
    let s = scope_in c.args.scope in
    record {
      trees = groups_turn s (order_of c.args.tables.now) c.args.kind c.args.groups.now c.loop-group.group-index c.group-item.result
          c.loop-group.made.items c.push_group.new.into.items _ c.loop-group.formats.items c.make_body.new.formats.items
          c.loop-group-test.true c.group-item.is (search rules) (search rules) (search rules)
          c.in_ok-push_group.ensures
          ∙ c.loop-group.invariant.trees;
      formats = formats_turn (λ group. formats_of_body s group.body) c.args.groups.now c.loop-group.group-index c.group-item.result
          c.loop-group.formats.items c.make_body.new.formats.items c.loop-group-test.true c.group-item.is
          (search rules)
          ∙ c.loop-group.invariant.formats;
    }

pub make_statement-make_body-requires : goal.make_statement-make_body-requires
make_statement-make_body-requires t c =
    let s = scope_in c.args.scope in (
      search (rules, the_lemmas, c.in-Block.is, c.as_slice.ensures),
      (
        c.requires.tables,
        room_same c.args.formats.now.items (formats_of s c.args.s.now) (formats_of_body s c.as_slice.result.now)
            (block_formats s c.args.s.now _ c.in-Block.is ∙ ap (formats_of_body s) (sym c.as_slice.ensures)) c.requires.room,
      ),
    )

pub make_statement-returns-in_ok-arms-in-If-clause-tree :
    goal.make_statement-returns-in_ok-arms-in-If-clause-tree
make_statement-returns-in_ok-arms-in-If-clause-tree t c =
    let s = scope_in c.args.scope in
    let order = order_of c.args.tables.now in
    let old = c.args.formats.now.items in
    let middle = c.make_arms.new.formats.items in
    subst (λ one. IfOk c.make_if.result (λ tree. tree ≡ one))
    (if_made s order old middle c.args.s.now c.in-If.arms _ c.in-If.other _ (else_in s order (length middle) c.in-If.other)
    c.in-If.is c.as_slice-in-If.ensures c.in_ok-arms-in-If.ensures.formats c.in_ok-arms-in-If.ensures.trees refl)
    c.make_if.ensures.tree

pub make_statement-returns-in_ok-arms-in-If-clause-formats :
    goal.make_statement-returns-in_ok-arms-in-If-clause-formats
make_statement-returns-in_ok-arms-in-If-clause-formats t c =
    on_ok_weaker c.make_if.result
    (if_formats_made (scope_in c.args.scope) (order_of c.args.tables.now) c.args.formats.now.items c.make_arms.new.formats.items
    c.make_if.new.formats.items c.args.s.now c.in-If.arms _ c.in-If.other c.in-If.is c.as_slice-in-If.ensures
    c.in_ok-arms-in-If.ensures.formats)
    c.make_if.ensures.formats

pub make_statement-make_arms-requires : goal.make_statement-make_arms-requires
make_statement-make_arms-requires t c =
    let s = scope_in c.args.scope in
    let old = c.args.formats.now.items in
    let given = formats_in_arms s c.as_slice-in-If.result.now in
    let other = formats_in_else s c.in-If.other in (
      search (rules, the_lemmas, c.in-If.is, c.as_slice-in-If.ensures),
      (
        c.requires.tables,
        room_first old given other
            (room_same old (formats_of s c.args.s.now) (given ++ other)
            (if_formats s c.args.s.now c.in-If.arms c.in-If.other c.in-If.is
            ∙ ap (λ arms. formats_in_arms s arms ++ other) (sym c.as_slice-in-If.ensures)) c.requires.room),
      ),
    )

pub make_statement-make_if-requires : goal.make_statement-make_if-requires
make_statement-make_if-requires t c =
    let s = scope_in c.args.scope in
    let old = c.args.formats.now.items in
    let given = formats_in_arms s c.as_slice-in-If.result.now in
    let other = formats_in_else s c.in-If.other in (
      search (rules, the_lemmas, c.in-If.is),
      (
        c.requires.tables,
        room_rest old c.make_arms.new.formats.items given other c.in_ok-arms-in-If.ensures.formats
            (room_same old (formats_of s c.args.s.now) (given ++ other)
            (if_formats s c.args.s.now c.in-If.arms c.in-If.other c.in-If.is
            ∙ ap (λ arms. formats_in_arms s arms ++ other) (sym c.as_slice-in-If.ensures)) c.requires.room),
      ),
    )

pub make_statement-make_while-requires : goal.make_statement-make_while-requires
make_statement-make_while-requires t c =
    let s = scope_in c.args.scope in (
      search (rules, the_lemmas, c.in-While.is, c.get.ensures),
      (
        c.requires.tables,
        room_same c.args.formats.now.items (formats_of s c.args.s.now) (formats_of s c.get.result.now)
            (while_formats s c.args.s.now _ _ c.in-While.is ∙ ap (formats_of s) (sym c.get.ensures)) c.requires.room,
      ),
    )

pub make_statement-returns-in-While-clause-tree : goal.make_statement-returns-in-While-clause-tree
make_statement-returns-in-While-clause-tree t c =
    subst (λ one. IfOk c.make_while.result (λ tree. tree ≡ one))
    (while_made (scope_in c.args.scope) (order_of c.args.tables.now) (length c.args.formats.now.items) c.args.s.now c.in-While.test
    c.in-While.body c.get.result.now _ c.in-While.is c.get.ensures refl)
    c.make_while.ensures.tree

pub make_statement-returns-in-While-clause-formats : goal.make_statement-returns-in-While-clause-formats
make_statement-returns-in-While-clause-formats t c =
    let s = scope_in c.args.scope in
    on_ok_weaker c.make_while.result
    (part_formats s c.args.formats.now.items c.make_while.new.formats.items c.args.s.now _ c.in-While.body c.get.ensures
    (while_formats s c.args.s.now c.in-While.test c.in-While.body c.in-While.is))
    c.make_while.ensures.formats

pub make_statement-make_do-requires : goal.make_statement-make_do-requires
make_statement-make_do-requires t c =
    let s = scope_in c.args.scope in (
      search (rules, the_lemmas, c.in-Do.is, c.get-in-Do.ensures),
      (
        c.requires.tables,
        room_same c.args.formats.now.items (formats_of s c.args.s.now) (formats_of s c.get-in-Do.result.now)
            (do_formats s c.args.s.now _ _ c.in-Do.is ∙ ap (formats_of s) (sym c.get-in-Do.ensures)) c.requires.room,
      ),
    )

pub make_statement-returns-in-Do-clause-tree : goal.make_statement-returns-in-Do-clause-tree
make_statement-returns-in-Do-clause-tree t c =
    subst (λ one. IfOk c.make_do.result (λ tree. tree ≡ one))
    (do_made (scope_in c.args.scope) (order_of c.args.tables.now) (length c.args.formats.now.items) c.args.s.now c.in-Do.body
    c.in-Do.test c.get-in-Do.result.now _ c.in-Do.is c.get-in-Do.ensures refl)
    c.make_do.ensures.tree

pub make_statement-returns-in-Do-clause-formats : goal.make_statement-returns-in-Do-clause-formats
make_statement-returns-in-Do-clause-formats t c =
    let s = scope_in c.args.scope in
    on_ok_weaker c.make_do.result
    (part_formats s c.args.formats.now.items c.make_do.new.formats.items c.args.s.now _ c.in-Do.body c.get-in-Do.ensures
    (do_formats s c.args.s.now c.in-Do.body c.in-Do.test c.in-Do.is))
    c.make_do.ensures.formats

pub make_statement-make_for-requires : goal.make_statement-make_for-requires
make_statement-make_for-requires t c =
    let s = scope_in c.args.scope in (
      search (rules, the_lemmas, c.in-For.is, c.get-in-For.ensures),
      (
        c.requires.tables,
        room_same c.args.formats.now.items (formats_of s c.args.s.now)
            (formats_of s (stmt.For c.in-For.init c.in-For.test c.in-For.step c.get-in-For.result.now))
            (ap (formats_of s) (for_of c.args.s.now c.in-For.init c.in-For.test c.in-For.step c.in-For.body c.get-in-For.result.now
            c.in-For.is c.get-in-For.ensures))
            c.requires.room,
      ),
    )

pub make_statement-returns-in-For-clause-tree : goal.make_statement-returns-in-For-clause-tree
make_statement-returns-in-For-clause-tree t c =
    subst (λ x. IfOk c.make_for.result
    (λ tree. tree ≡ statement_of (scope_in c.args.scope) (order_of c.args.tables.now) (length c.args.formats.now.items) x))
    (sym (for_of c.args.s.now c.in-For.init c.in-For.test c.in-For.step c.in-For.body c.get-in-For.result.now c.in-For.is c.get-in-For.ensures))
    c.make_for.ensures.tree

pub make_statement-returns-in-For-clause-formats : goal.make_statement-returns-in-For-clause-formats
make_statement-returns-in-For-clause-formats t c =
    subst (λ x. OnOk c.make_for.result
    (c.make_for.new.formats.items ≡ c.args.formats.now.items ++ formats_of (scope_in c.args.scope) x))
    (sym (for_of c.args.s.now c.in-For.init c.in-For.test c.in-For.step c.in-For.body c.get-in-For.result.now c.in-For.is c.get-in-For.ensures))
    c.make_for.ensures.formats

pub make_for-make_head-requires-clause-room : goal.make_for-make_head-requires-clause-room
make_for-make_head-requires-clause-room t c =
    let s = scope_in c.args.scope in
    let old = c.args.formats.now.items in
    let init = formats_of_part s c.args.init.now in
    let step = formats_of_part s c.args.step.now in
    let whole = stmt.For c.args.init.now c.args.test.now c.args.step.now c.args.body.now in
    room_two old init step (formats_of s c.args.body.now)
    (room_same old (formats_of s whole) (init ++ (step ++ formats_of s c.args.body.now))
    (for_formats s whole c.args.init.now c.args.test.now c.args.step.now c.args.body.now refl) c.requires.room)

pub make_for-make_statement-requires : goal.make_for-make_statement-requires
make_for-make_statement-requires t c =
    let s = scope_in c.args.scope in
    let old = c.args.formats.now.items in
    let init = formats_of_part s c.args.init.now in
    let step = formats_of_part s c.args.step.now in
    let whole = stmt.For c.args.init.now c.args.test.now c.args.step.now c.args.body.now in (
      search (rules, the_lemmas),
      (
        c.requires.tables,
        room_third old c.make_head.new.formats.items init step (formats_of s c.args.body.now) (formats_of s c.args.body.now)
            c.in_ok-head.ensures.formats refl
            (room_same old (formats_of s whole) (init ++ (step ++ formats_of s c.args.body.now))
            (for_formats s whole c.args.init.now c.args.test.now c.args.step.now c.args.body.now refl) c.requires.room),
      ),
    )

pub make_for-returns-clause-tree : goal.make_for-returns-clause-tree
make_for-returns-clause-tree t c =
    let s = scope_in c.args.scope in
    let old = c.args.formats.now.items in
    let whole = stmt.For c.args.init.now c.args.test.now c.args.step.now c.args.body.now in
    subst (λ one. IfOk c.for_with.result (λ tree. tree ≡ one))
    (for_made s (order_of c.args.tables.now) old (old ++ formats_of_part s c.args.init.now) c.make_head.new.formats.items whole
    c.args.init.now c.args.test.now c.args.step.now c.args.body.now c.args.body.now c.in_ok-head.head.init c.in_ok-head.head.test
    c.in_ok-head.head.step c.in_ok-made.made c.in_ok-made.made refl refl refl c.in_ok-head.ensures.formats c.in_ok-head.ensures.init
    c.in_ok-head.ensures.test c.in_ok-head.ensures.step c.in_ok-made.ensures.tree refl)
    c.for_with.ensures

pub make_for-returns-clause-formats : goal.make_for-returns-clause-formats
make_for-returns-clause-formats t c =
    let s = scope_in c.args.scope in
    let old = c.args.formats.now.items in
    let whole = stmt.For c.args.init.now c.args.test.now c.args.step.now c.args.body.now in
    there_already c.for_with.result
    (for_formats_made s (order_of c.args.tables.now) old (old ++ formats_of_part s c.args.init.now) c.make_head.new.formats.items
    c.make_statement.new.formats.items whole c.args.init.now c.args.test.now c.args.step.now c.args.body.now c.args.body.now refl refl refl
    c.in_ok-head.ensures.formats c.in_ok-made.ensures.formats)

pub make_statement-make_switch-requires : goal.make_statement-make_switch-requires
make_statement-make_switch-requires t c =
    let s = scope_in c.args.scope in (
      search (rules, the_lemmas, c.in-Switch.is, c.as_slice-in-Switch.ensures),
      (
        c.requires.tables,
        room_same c.args.formats.now.items (formats_of s c.args.s.now) (formats_in_groups s c.as_slice-in-Switch.result.now)
            (switch_formats s c.args.s.now _ _ c.in-Switch.is ∙ ap (formats_in_groups s) (sym c.as_slice-in-Switch.ensures)) c.requires.room,
      ),
    )

pub make_statement-returns-in-Switch-clause-tree : goal.make_statement-returns-in-Switch-clause-tree
make_statement-returns-in-Switch-clause-tree t c =
    let s = scope_in c.args.scope in
    let order = order_of c.args.tables.now in
    let before = length c.args.formats.now.items in
    subst (λ one. IfOk c.make_switch.result (λ tree. tree ≡ one))
    (ap (λ on. typed.Switch (Convert (prefix_kind s on) (expression_of s order on))
    (groups_in s order (prefix_kind s on) before c.as_slice-in-Switch.result.now)) c.get-in-Switch.ensures
    ∙ switch_made s order before c.args.s.now c.in-Switch.on c.in-Switch.groups c.as_slice-in-Switch.result.now _ _ _ c.in-Switch.is
    c.as_slice-in-Switch.ensures refl refl refl)
    c.make_switch.ensures.tree

pub make_statement-returns-in-Switch-clause-formats : goal.make_statement-returns-in-Switch-clause-formats
make_statement-returns-in-Switch-clause-formats t c =
    on_ok_weaker c.make_switch.result
    (switch_formats_made (scope_in c.args.scope) (order_of c.args.tables.now) c.args.formats.now.items c.make_switch.new.formats.items
    c.args.s.now c.in-Switch.on c.in-Switch.groups c.as_slice-in-Switch.result.now c.in-Switch.is c.as_slice-in-Switch.ensures)
    c.make_switch.ensures.formats
