-- The pieces of each expression's code, one behind the other.
use Rattle.std.proofs.Common.{◌<◌, length, ap, sym, subst, ◌∙◌, rules, arith}
use Rattle.std.specs.Prelude.{sum_by, All}
use Rattle.std.proofs.lemmas.List.Sums.{sum_by-drop_more}
use Rattle.typed_tree.specs.declared.expression.TExpr.{the_lemmas}
use Rattle.typed_tree.specs.Size.{value_size}
use Rattle.gen_expr.proofs.Emitted.{store_emitted, update_emitted, unary_emitted, binary_emitted, both_emitted, either_emitted, choice_emitted, convert_emitted, call_emitted, index_some, binary_size, store_size, value_some, values_next}
use Rattle.code_size.proofs.Rows.{call_size}
use Rattle.gen_expr.specs.Fields.{HasFieldCells}
use Rattle.gen_expr.proofs.Fields.{call_fields}
use Rattle.gen_expr.proofs.expression.+expression.Goals as goal

pub emit_value-overflow_add-inner-in-Store : goal.emit_value-overflow_add-inner-in-Store
emit_value-overflow_add-inner-in-Store t c =
    let is = rw (← c.get-value.ensures) at c.in-Store.is in
    let size = store_size c.args.typed.now c.args.e.now _ _ is in
    omega (arith, size, c.requires.depth, value_some c.args.typed.now c.get-value.result.now, index_some c.args.typed.now c.in-Store.place, c.index_depth-in-Store.ensures)

pub emit_value-overflow_add-depth-in-Binary-2 : goal.emit_value-overflow_add-depth-in-Binary-2
emit_value-overflow_add-depth-in-Binary-2 t c =
    let is = rw (← c.get-left.ensures, ← c.get-right.ensures) at c.in-Binary.is in
    omega (arith, binary_size c.args.typed.now c.args.e.now _ _ _ _ is, c.requires.depth, value_some c.args.typed.now c.get-left.result.now, value_some c.args.typed.now c.get-right.result.now)

pub emit_value-emit_values-requires : goal.emit_value-emit_values-requires
emit_value-emit_values-requires t c =
    let size = call_size c.args.typed.now c.args.e.now c.in-Call.function c.in-Call.args c.in-Call.is in
    let same = ap (sum_by (value_size c.args.typed.now)) c.as_slice.ensures in
    let fields = subst (All HasFieldCells) (sym c.as_slice.ensures) (call_fields c.args.e.now c.in-Call.function c.in-Call.args c.in-Call.is c.requires.fields) in
    (search (rules, the_lemmas, c.in-Call.is, c.as_slice.ensures), (fields, (omega (arith, size, same, c.requires.room), omega (arith, size, same, c.requires.depth))))

pub emit_value-returns-in_ok-add-in-Store-clause-code : goal.emit_value-returns-in_ok-add-in-Store-clause-code
emit_value-returns-in_ok-add-in-Store-clause-code t c =
    let depth = c.index_depth-in-Store.ensures in
    store_emitted c.args.typed.now c.args.e.now c.args.into.now c.args.depth c.in-Store.place c.get-value.result.now _ _ _ _
    (rw (← c.get-value.ensures) at c.in-Store.is) c.in_ok-emit_index-in-Store.ensures.code
    (rw depth at c.in_ok-add_check-in-Store.ensures.code)
    (omega (arith, c.in_ok-emit_index-in-Store.ensures.grows, c.in_ok-add_check-in-Store.ensures.grows))
    (rw depth at c.in_ok-emit_value-in-Store.ensures.code)
    (rw (c.write_instr.ensures, depth) at c.in_ok-add-in-Store.ensures.code)

pub emit_value-returns-in_ok-add_update-in-Update-clause-code : goal.emit_value-returns-in_ok-add_update-in-Update-clause-code
emit_value-returns-in_ok-add_update-in-Update-clause-code t c =
    update_emitted c.args.typed.now c.args.e.now c.args.into.now c.args.depth c.in-Update.op c.in-Update.kind c.in-Update.back c.in-Update.place c.get-value-in-Update.result.now _ _ _ _
    (rw (← c.get-value-in-Update.ensures) at c.in-Update.is) c.in_ok-emit_index-in-Update.ensures.code
    c.in_ok-add_read_again-in-Update.ensures.code
    (omega (arith, c.in_ok-emit_index-in-Update.ensures.grows, c.in_ok-add_read_again-in-Update.ensures.grows))
    (rw c.index_depth-in-Update.ensures at c.in_ok-emit_value-in-Update.ensures.code) c.in_ok-add_update-in-Update.ensures.code

pub emit_value-returns-in_ok-add-in-Unary-clause-code : goal.emit_value-returns-in_ok-add-in-Unary-clause-code
emit_value-returns-in_ok-add-in-Unary-clause-code t c =
    unary_emitted c.args.typed.now c.args.e.now c.args.into.now c.args.depth c.in-Unary.op c.in-Unary.kind c.get-inner.result.now _ _
    (rw (← c.get-inner.ensures) at c.in-Unary.is) c.in_ok-emit_value-in-Unary.ensures.code
    (rw c.prefix_instr.ensures at c.in_ok-add-in-Unary.ensures.code)

pub emit_value-returns-in_ok-add-in-Binary-clause-code : goal.emit_value-returns-in_ok-add-in-Binary-clause-code
emit_value-returns-in_ok-add-in-Binary-clause-code t c =
    binary_emitted c.args.typed.now c.args.e.now c.args.into.now c.args.depth c.in-Binary.op c.in-Binary.kind c.get-left.result.now c.get-right.result.now _ _ _
    (rw (← c.get-left.ensures, ← c.get-right.ensures) at c.in-Binary.is) c.in_ok-emit_value-in-Binary.ensures.code
    c.in_ok-emit_value-in-Binary.ensures.grows c.in_ok-emit_value-in-Binary-2.ensures.code c.in_ok-add-in-Binary.ensures.code

pub emit_value-returns-in_ok-add-in-Both-2-clause-code : goal.emit_value-returns-in_ok-add-in-Both-2-clause-code
emit_value-returns-in_ok-add-in-Both-2-clause-code t c =
    both_emitted c.args.typed.now c.args.e.now c.args.into.now c.args.depth c.get-left-in-Both.result.now c.get-right-in-Both.result.now _ _ _ _ _ _
    (rw (← c.get-left-in-Both.ensures, ← c.get-right-in-Both.ensures) at c.in-Both.is)
    (omega (arith, c.place.ensures, c.test_size.ensures, c.value_size.ensures, c.truth_size.ensures))
    c.in_ok-emit_test-in-Both.ensures.code c.in_ok-emit_test-in-Both.ensures.grows c.in_ok-emit_value-in-Both.ensures.code
    c.in_ok-add_truth-in-Both.ensures.code c.in_ok-add-in-Both.ensures.code c.in_ok-add-in-Both-2.ensures.code

pub emit_value-returns-in_ok-add_truth-in-Either-clause-code : goal.emit_value-returns-in_ok-add_truth-in-Either-clause-code
emit_value-returns-in_ok-add_truth-in-Either-clause-code t c =
    either_emitted c.args.typed.now c.args.e.now c.args.into.now c.args.depth c.get-left-in-Either.result.now c.get-right-in-Either.result.now _ _ _ _ _ _ _
    (rw (← c.get-left-in-Either.ensures, ← c.get-right-in-Either.ensures) at c.in-Either.is)
    (omega (arith, c.place-in-Either.ensures, c.test_size-in-Either.ensures))
    (omega (arith, c.value_size-in-Either.ensures, c.truth_size-in-Either.ensures))
    c.in_ok-emit_test-in-Either.ensures.code c.in_ok-add-in-Either.ensures.code c.in_ok-add-in-Either-2.ensures.code
    (omega (arith, c.in_ok-emit_test-in-Either.ensures.grows, c.in_ok-add-in-Either.ensures.grows, c.in_ok-add-in-Either-2.ensures.grows))
    c.in_ok-emit_value-in-Either.ensures.code c.in_ok-add_truth-in-Either.ensures.code

pub emit_value-returns-in_ok-emit_value-in-Cond-2-clause-code : goal.emit_value-returns-in_ok-emit_value-in-Cond-2-clause-code
emit_value-returns-in_ok-emit_value-in-Cond-2-clause-code t c =
    choice_emitted c.args.typed.now c.args.e.now c.args.into.now c.args.depth c.get-test.result.now c.get-yes.result.now c.get-no.result.now _ _ _ _ _ _
    (rw (← c.get-test.ensures, ← c.get-yes.ensures, ← c.get-no.ensures) at c.in-Cond.is)
    (omega (arith, c.place-in-Cond.ensures, c.test_size-in-Cond.ensures, c.value_size-in-Cond.ensures))
    (omega (arith, c.value_size-in-Cond-2.ensures))
    c.in_ok-emit_test-in-Cond.ensures.code c.in_ok-emit_test-in-Cond.ensures.grows c.in_ok-emit_value-in-Cond.ensures.code
    c.in_ok-add-in-Cond.ensures.code
    (omega (arith, c.in_ok-emit_test-in-Cond.ensures.grows, c.in_ok-emit_value-in-Cond.ensures.grows, c.in_ok-add-in-Cond.ensures.grows))
    c.in_ok-emit_value-in-Cond-2.ensures.code

pub emit_value-returns-in_ok-add-in-Convert-clause-code : goal.emit_value-returns-in_ok-add-in-Convert-clause-code
emit_value-returns-in_ok-add-in-Convert-clause-code t c =
    convert_emitted c.args.typed.now c.args.e.now c.args.into.now c.args.depth c.in-Convert.kind c.get-inner-in-Convert.result.now _ _
    (rw (← c.get-inner-in-Convert.ensures) at c.in-Convert.is) c.in_ok-emit_value-in-Convert.ensures.code c.in_ok-add-in-Convert.ensures.code

pub emit_value-returns-in_ok-add-in-Call-clause-grows : goal.emit_value-returns-in_ok-add-in-Call-clause-grows
emit_value-returns-in_ok-add-in-Call-clause-grows t c =
    let size = call_size c.args.typed.now c.args.e.now c.in-Call.function c.in-Call.args c.in-Call.is in
    let same = ap (sum_by (value_size c.args.typed.now)) c.as_slice.ensures in
    omega (arith, size, same, ap length c.params_of.ensures, c.in_ok-emit_values-in-Call.ensures.grows, c.in_ok-add_params-in-Call.ensures.grows, c.in_ok-add-in-Call.ensures.grows)

pub emit_value-returns-in_ok-add-in-Call-clause-code : goal.emit_value-returns-in_ok-add-in-Call-clause-code
emit_value-returns-in_ok-add-in-Call-clause-code t c =
    call_emitted c.args.typed.now c.args.e.now c.args.into.now c.args.depth c.in-Call.function c.in-Call.args _ _ _ c.in-Call.is
    (rw c.as_slice.ensures at c.in_ok-emit_values-in-Call.ensures.code)
    (rw c.params_of.ensures at c.in_ok-add_params-in-Call.ensures.code) c.in_ok-add-in-Call.ensures.code

pub emit_values-overflow_add-below : goal.emit_values-overflow_add-below
emit_values-overflow_add-below t c =
    let typed = c.args.typed.now in
    let e = c.e-item.result in
    let rest = sum_by-drop_more (value_size typed) c.args.all.now c.loop-e.e-index e (omega arith) in
    omega (arith, rest, ap (value_size typed) c.e-item.is, value_some typed e, c.loop-e.invariant.below, c.requires.depth)

pub emit_values-loop-e-preserved : goal.emit_values-loop-e-preserved
emit_values-loop-e-preserved t c =
    let typed = c.args.typed.now in
    let all = c.args.all.now in
    let e = c.e-item.result in
    let within : c.loop-e.e-index < length all = omega arith in
    let rest = sum_by-drop_more (value_size typed) all c.loop-e.e-index e within in
    let same = ap (value_size typed) c.e-item.is in
    record {
      below = omega (arith, rest, same, value_some typed e, c.loop-e.invariant.below);
      grown = omega (arith, rest, same, c.in_ok-emit_value.ensures.grows, c.loop-e.invariant.grown);
      code = values_next typed all c.loop-e.e-index e c.loop-e.below _ _ within c.e-item.is c.in_ok-emit_value.ensures.code c.in_ok-emit_value.ensures.grows ∙
          c.loop-e.invariant.code;
    }
