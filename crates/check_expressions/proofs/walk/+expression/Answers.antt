-- Each form has the sort of its rule, and notes what its parts and it by itself break.
use Rattle.std.proofs.Common.{◌≡◌, ◌∙◌, Some, ap, slice_get, sym}
use Rattle.std.specs.Prelude.{flat_map}
use Rattle.std.proofs.lemmas.Option.{slice_get-get_or}
use Rattle.capl_meaning.specs.ExpressionRules.{offences}
use Rattle.capl_meaning.specs.Names.{callee}
use Rattle.capl_meaning.specs.Sort.{sort_of_call}
use Rattle.check_names.specs.First.{noted}
use Rattle.check_sorts.specs.Scope.{scope_in}
use Rattle.check_expressions.specs.Judged.{text_in_first}
use Rattle.check_expressions.proofs.FormLemmas.{assign_noted, assign_of, assign_sort, binary_noted, binary_of, binary_sort, bytes_noted, bytes_of, bytes_sort, call_noted, call_of, call_sort, cast_noted, cast_of, cast_sort, cond_noted, cond_of, cond_sort, index_is, index_noted, index_of, member_noted, member_of, member_sort, paren_noted, paren_of, paren_sort, post_noted, post_of, post_sort, unary_noted, unary_of, unary_sort}
use Rattle.check_expressions.proofs.NotedLemmas.{noted_turn, sorts_turn}
use Rattle.check_expressions.proofs.walk.+expression.Goals as goal

pub judge_whole-returns-in_ok-sort-in-Paren-clause-sort : goal.judge_whole-returns-in_ok-sort-in-Paren-clause-sort
judge_whole-returns-in_ok-sort-in-Paren-clause-sort t c =
    paren_sort (scope_in c.args.scope) c.args.e.now c.get.result.now c.in-Paren.at c.in_ok-sort-in-Paren.sort
    c.in_ok-sort-in-Paren.ensures.sort (paren_of c.args.e.now c.in-Paren.inner c.get.result.now c.in-Paren.at c.in-Paren.is c.get.ensures)

pub judge_whole-returns-in_ok-sort-in-Paren-clause-noted : goal.judge_whole-returns-in_ok-sort-in-Paren-clause-noted
judge_whole-returns-in_ok-sort-in-Paren-clause-noted t c =
    paren_noted (scope_in c.args.scope) c.args.e.now c.get.result.now c.in-Paren.at c.args.first.now c.judge.new.first
    c.in_ok-sort-in-Paren.ensures.noted (paren_of c.args.e.now c.in-Paren.inner c.get.result.now c.in-Paren.at c.in-Paren.is c.get.ensures)

pub judge_whole-returns-in_ok-sort-in-Call-clause-sort : goal.judge_whole-returns-in_ok-sort-in-Call-clause-sort
judge_whole-returns-in_ok-sort-in-Call-clause-sort t c =
    let s = scope_in c.args.scope in
    let args = c.as_slice-args.result.now in
    let sorts = c.as_slice.ensures.value ∙ c.in_ok-sorts-in-Call.ensures.sorts in
    let given = c.in_ok-sort-in-Call.ensures.sort
    ∙ ap (λ ks. sort_of_call s (callee s.names c.bytes-name.result.now) (text_in_first args) ks) sorts in
    call_sort s c.args.e.now c.bytes-name.result.now args c.in-Call.at c.in_ok-sort-in-Call.sort given
    (call_of c.args.e.now c.in-Call.name c.in-Call.args c.in-Call.at c.bytes-name.result.now c.as_slice-args.result.now c.in-Call.is
    c.bytes-name.ensures c.as_slice-args.ensures)

pub judge_whole-returns-in_ok-sort-in-Call-clause-noted : goal.judge_whole-returns-in_ok-sort-in-Call-clause-noted
judge_whole-returns-in_ok-sort-in-Call-clause-noted t c =
    call_noted (scope_in c.args.scope) c.args.e.now c.bytes-name.result.now c.as_slice-args.result.now c.in-Call.at
    c.args.first.now c.judge_row.new.first c.judge_call.new.first c.in_ok-sorts-in-Call.ensures.noted
    c.in_ok-sort-in-Call.ensures.noted (call_of c.args.e.now c.in-Call.name c.in-Call.args c.in-Call.at c.bytes-name.result.now c.as_slice-args.result.now c.in-Call.is
    c.bytes-name.ensures c.as_slice-args.ensures)

pub judge_whole-returns-in_ok-index_sort-in-Index-clause-sort : goal.judge_whole-returns-in_ok-index_sort-in-Index-clause-sort
judge_whole-returns-in_ok-index_sort-in-Index-clause-sort t c =
    index_is (scope_in c.args.scope) c.args.e.now c.get-base.result.now c.get-index.result.now c.in-Index.at c.judge_element.result
    c.judge_element.ensures.sort (index_of c.args.e.now c.in-Index.base c.in-Index.index c.get-base.result.now c.get-index.result.now c.in-Index.at c.in-Index.is
    c.get-base.ensures c.get-index.ensures)

pub judge_whole-returns-in_ok-index_sort-in-Index-clause-noted : goal.judge_whole-returns-in_ok-index_sort-in-Index-clause-noted
judge_whole-returns-in_ok-index_sort-in-Index-clause-noted t c =
    index_noted (scope_in c.args.scope) c.args.e.now c.get-base.result.now c.get-index.result.now c.in-Index.at c.args.first.now
    c.judge-in-Index.new.first c.judge-in-Index-2.new.first c.judge_element.new.first c.in_ok-base_sort-in-Index.ensures.noted
    c.in_ok-index_sort-in-Index.ensures.noted c.judge_element.ensures.noted (index_of c.args.e.now c.in-Index.base c.in-Index.index c.get-base.result.now c.get-index.result.now c.in-Index.at c.in-Index.is
    c.get-base.ensures c.get-index.ensures)

pub judge_whole-returns-in_ok-index-in-Member-clause-sort : goal.judge_whole-returns-in_ok-index-in-Member-clause-sort
judge_whole-returns-in_ok-index-in-Member-clause-sort t c =
    member_sort (scope_in c.args.scope) c.args.e.now c.get-base-in-Member.result.now c.in-Member.field c.in-Member.at c.judge_member.result
    c.judge_member.ensures.sort (member_of c.args.e.now c.in-Member.base c.get-base-in-Member.result.now c.in-Member.field c.in-Member.at c.in-Member.is
    c.get-base-in-Member.ensures)

pub judge_whole-returns-in_ok-index-in-Member-clause-noted : goal.judge_whole-returns-in_ok-index-in-Member-clause-noted
judge_whole-returns-in_ok-index-in-Member-clause-noted t c =
    member_noted (scope_in c.args.scope) c.args.e.now c.get-base-in-Member.result.now c.in-Member.field c.in-Member.at c.args.first.now
    c.judge-in-Member.new.first c.judge_field.new.first c.judge_member.new.first c.in_ok-base_sort-in-Member.ensures.noted
    c.in_ok-index-in-Member.ensures.noted c.judge_member.ensures.noted (member_of c.args.e.now c.in-Member.base c.get-base-in-Member.result.now c.in-Member.field c.in-Member.at c.in-Member.is
    c.get-base-in-Member.ensures)

pub judge_whole-returns-in_ok-sort-in-Cast-clause-sort : goal.judge_whole-returns-in_ok-sort-in-Cast-clause-sort
judge_whole-returns-in_ok-sort-in-Cast-clause-sort t c =
    cast_sort (scope_in c.args.scope) c.args.e.now c.in-Cast.kind c.get-inner.result.now c.in-Cast.at c.judge_cast.result c.judge_cast.ensures.sort
    (cast_of c.args.e.now c.in-Cast.kind c.in-Cast.inner c.get-inner.result.now c.in-Cast.at c.in-Cast.is c.get-inner.ensures)

pub judge_whole-returns-in_ok-sort-in-Cast-clause-noted : goal.judge_whole-returns-in_ok-sort-in-Cast-clause-noted
judge_whole-returns-in_ok-sort-in-Cast-clause-noted t c =
    cast_noted (scope_in c.args.scope) c.args.e.now c.in-Cast.kind c.get-inner.result.now c.in-Cast.at c.args.first.now c.judge-in-Cast.new.first
    c.judge_cast.new.first c.in_ok-sort-in-Cast.ensures.noted c.judge_cast.ensures.noted
    (cast_of c.args.e.now c.in-Cast.kind c.in-Cast.inner c.get-inner.result.now c.in-Cast.at c.in-Cast.is c.get-inner.ensures)

pub judge_whole-returns-in_ok-target-in-Unary-clause-sort : goal.judge_whole-returns-in_ok-target-in-Unary-clause-sort
judge_whole-returns-in_ok-target-in-Unary-clause-sort t c =
    unary_sort (scope_in c.args.scope) c.args.e.now c.in-Unary.op c.get-inner-in-Unary.result.now c.in-Unary.at c.judge_prefix.result c.judge_prefix.ensures.sort
    (unary_of c.args.e.now c.in-Unary.op c.in-Unary.inner c.get-inner-in-Unary.result.now c.in-Unary.at c.in-Unary.is c.get-inner-in-Unary.ensures)

pub judge_whole-returns-in_ok-target-in-Unary-clause-noted : goal.judge_whole-returns-in_ok-target-in-Unary-clause-noted
judge_whole-returns-in_ok-target-in-Unary-clause-noted t c =
    unary_noted (scope_in c.args.scope) c.args.e.now c.in-Unary.op c.get-inner-in-Unary.result.now c.in-Unary.at c.args.first.now c.judge_target.new.first
    c.judge_prefix.new.first c.in_ok-target-in-Unary.ensures.noted c.judge_prefix.ensures.noted
    (unary_of c.args.e.now c.in-Unary.op c.in-Unary.inner c.get-inner-in-Unary.result.now c.in-Unary.at c.in-Unary.is c.get-inner-in-Unary.ensures)

pub judge_whole-returns-in_ok-target-in-Post-clause-sort : goal.judge_whole-returns-in_ok-target-in-Post-clause-sort
judge_whole-returns-in_ok-target-in-Post-clause-sort t c =
    post_sort (scope_in c.args.scope) c.args.e.now c.in-Post.up c.get-inner-in-Post.result.now c.in-Post.at c.judge_step.result c.judge_step.ensures.sort
    (post_of c.args.e.now c.in-Post.up c.in-Post.inner c.get-inner-in-Post.result.now c.in-Post.at c.in-Post.is c.get-inner-in-Post.ensures)

pub judge_whole-returns-in_ok-target-in-Post-clause-noted : goal.judge_whole-returns-in_ok-target-in-Post-clause-noted
judge_whole-returns-in_ok-target-in-Post-clause-noted t c =
    post_noted (scope_in c.args.scope) c.args.e.now c.in-Post.up c.get-inner-in-Post.result.now c.in-Post.at c.args.first.now c.judge_target-in-Post.new.first
    c.judge_step.new.first c.in_ok-target-in-Post.ensures.noted c.judge_step.ensures.noted
    (post_of c.args.e.now c.in-Post.up c.in-Post.inner c.get-inner-in-Post.result.now c.in-Post.at c.in-Post.is c.get-inner-in-Post.ensures)

pub judge_whole-returns-in_ok-right_sort-in-Binary-clause-sort : goal.judge_whole-returns-in_ok-right_sort-in-Binary-clause-sort
judge_whole-returns-in_ok-right_sort-in-Binary-clause-sort t c =
    binary_sort (scope_in c.args.scope) c.args.e.now c.in-Binary.op c.get-left.result.now c.get-right.result.now c.in-Binary.at c.judge_binary.result
    c.judge_binary.ensures.sort (binary_of c.args.e.now c.in-Binary.op c.in-Binary.left c.in-Binary.right c.get-left.result.now c.get-right.result.now c.in-Binary.at c.in-Binary.is
    c.get-left.ensures c.get-right.ensures)

pub judge_whole-returns-in_ok-right_sort-in-Binary-clause-noted : goal.judge_whole-returns-in_ok-right_sort-in-Binary-clause-noted
judge_whole-returns-in_ok-right_sort-in-Binary-clause-noted t c =
    binary_noted (scope_in c.args.scope) c.args.e.now c.in-Binary.op c.get-left.result.now c.get-right.result.now c.in-Binary.at c.args.first.now
    c.judge-in-Binary.new.first c.judge-in-Binary-2.new.first c.judge_binary.new.first c.in_ok-left_sort-in-Binary.ensures.noted
    c.in_ok-right_sort-in-Binary.ensures.noted c.judge_binary.ensures.noted (binary_of c.args.e.now c.in-Binary.op c.in-Binary.left c.in-Binary.right c.get-left.result.now c.get-right.result.now c.in-Binary.at c.in-Binary.is
    c.get-left.ensures c.get-right.ensures)

pub judge_whole-returns-in_ok-no_sort-in-Cond-clause-sort : goal.judge_whole-returns-in_ok-no_sort-in-Cond-clause-sort
judge_whole-returns-in_ok-no_sort-in-Cond-clause-sort t c =
    cond_sort (scope_in c.args.scope) c.args.e.now c.get-test.result.now c.get-yes.result.now c.get-no.result.now c.in-Cond.at
    c.judge_choice.result c.judge_choice.ensures.sort (cond_of c.args.e.now c.in-Cond.test c.in-Cond.yes c.in-Cond.no c.get-test.result.now c.get-yes.result.now c.get-no.result.now
    c.in-Cond.at c.in-Cond.is c.get-test.ensures c.get-yes.ensures c.get-no.ensures)

pub judge_whole-returns-in_ok-no_sort-in-Cond-clause-noted : goal.judge_whole-returns-in_ok-no_sort-in-Cond-clause-noted
judge_whole-returns-in_ok-no_sort-in-Cond-clause-noted t c =
    cond_noted (scope_in c.args.scope) c.args.e.now c.get-test.result.now c.get-yes.result.now c.get-no.result.now c.in-Cond.at
    c.args.first.now c.judge-in-Cond.new.first c.judge-in-Cond-2.new.first c.judge-in-Cond-3.new.first c.judge_choice.new.first
    c.in_ok-test_sort-in-Cond.ensures.noted c.in_ok-yes_sort-in-Cond.ensures.noted c.in_ok-no_sort-in-Cond.ensures.noted
    c.judge_choice.ensures.noted (cond_of c.args.e.now c.in-Cond.test c.in-Cond.yes c.in-Cond.no c.get-test.result.now c.get-yes.result.now c.get-no.result.now
    c.in-Cond.at c.in-Cond.is c.get-test.ensures c.get-yes.ensures c.get-no.ensures)

pub judge_whole-returns-in_ok-right_sort-in-Assign-clause-sort : goal.judge_whole-returns-in_ok-right_sort-in-Assign-clause-sort
judge_whole-returns-in_ok-right_sort-in-Assign-clause-sort t c =
    assign_sort (scope_in c.args.scope) c.args.e.now c.in-Assign.op c.get-left-in-Assign.result.now c.get-right-in-Assign.result.now c.in-Assign.at c.judge_assignment.result
    c.judge_assignment.ensures.sort (assign_of c.args.e.now c.in-Assign.op c.in-Assign.left c.in-Assign.right c.get-left-in-Assign.result.now c.get-right-in-Assign.result.now c.in-Assign.at c.in-Assign.is
    c.get-left-in-Assign.ensures c.get-right-in-Assign.ensures)

pub judge_whole-returns-in_ok-right_sort-in-Assign-clause-noted : goal.judge_whole-returns-in_ok-right_sort-in-Assign-clause-noted
judge_whole-returns-in_ok-right_sort-in-Assign-clause-noted t c =
    assign_noted (scope_in c.args.scope) c.args.e.now c.in-Assign.op c.get-left-in-Assign.result.now c.get-right-in-Assign.result.now c.in-Assign.at c.args.first.now
    c.judge_target-in-Assign.new.first c.judge-in-Assign.new.first c.judge_assignment.new.first c.in_ok-target-in-Assign.ensures.noted
    c.in_ok-right_sort-in-Assign.ensures.noted c.judge_assignment.ensures.noted (assign_of c.args.e.now c.in-Assign.op c.in-Assign.left c.in-Assign.right c.get-left-in-Assign.result.now c.get-right-in-Assign.result.now c.in-Assign.at c.in-Assign.is
    c.get-left-in-Assign.ensures c.get-right-in-Assign.ensures)

pub judge_field-returns-in_ok-sort-in-Bytes-clause-sort : goal.judge_field-returns-in_ok-sort-in-Bytes-clause-sort
judge_field-returns-in_ok-sort-in-Bytes-clause-sort t c =
    bytes_sort (scope_in c.args.scope) c.args.field.now c.in-Bytes.kind c.get.result.now c.in-Bytes.at c.in_ok-sort-in-Bytes.sort
    c.in_ok-sort-in-Bytes.ensures.sort (bytes_of c.args.field.now c.in-Bytes.kind c.in-Bytes.index c.get.result.now c.in-Bytes.at c.in-Bytes.is c.get.ensures)

pub judge_field-returns-in_ok-sort-in-Bytes-clause-noted : goal.judge_field-returns-in_ok-sort-in-Bytes-clause-noted
judge_field-returns-in_ok-sort-in-Bytes-clause-noted t c =
    bytes_noted (scope_in c.args.scope) c.args.field.now c.in-Bytes.kind c.get.result.now c.in-Bytes.at c.args.first.now c.judge.new.first
    c.in_ok-sort-in-Bytes.ensures.noted (bytes_of c.args.field.now c.in-Bytes.kind c.in-Bytes.index c.get.result.now c.in-Bytes.at c.in-Bytes.is c.get.ensures)

pub judge_row-loop-e-preserved : goal.judge_row-loop-e-preserved
judge_row-loop-e-preserved t c =
    let s = scope_in c.args.scope in
    let all = c.args.all.now in
    let i = c.loop-e.e-index in
    let at : slice_get all i ≡ Some c.e-item.result =
    slice_get-get_or all i c.e-item.result c.loop-e-test.true ∙ ap (λ x. Some x) (sym c.e-item.is) in (
      sorts_turn s all i c.e-item.result c.in_ok-sort.sort c.loop-e.sorts.items c.push.new.self.items c.loop-e-test.true
          c.e-item.is c.loop-e.invariant.0 c.in_ok-sort.ensures.sort c.in_ok-push.ensures.items,
      noted_turn (offences s) all i c.e-item.result c.loop-e.first c.judge.new.first (noted c.args.first.now (flat_map (offences s) all))
          at c.in_ok-sort.ensures.noted c.loop-e.invariant.1,
    )
