-- The loop over the first statements, and what the forms that hold statements note.
use Rattle.std.proofs.Common.{◌≡◌, ◌+◌, ◌-◌, ◌^◌, ◌<◌, ◌++◌, [], ◌∷◌, ap, sym, ◌∙◌, arith}
use Rattle.std.specs.Prelude.{min, sum_by, true}
use Rattle.typed_tree.specs.Shape.{body_goes_on}
use Rattle.typed_tree.specs.Size.{stmt_size}
use Rattle.code_size.specs.Notes.{all_notes}
use Rattle.code_size.proofs.Noted.{all_taken, first_goes, first_notes, first_size, for_noted, if_noted}
use Rattle.code_size.proofs.Notes.{block_notes}
use Rattle.code_size.proofs.Rows.{block_goes, block_size}
use Rattle.code_size.proofs.statement.+sizes.Goals as goal

pub note_first-loop-left-preserved : goal.note_first-loop-left-preserved
note_first-loop-left-preserved t c =
    let all = c.args.all.now in
    let count = c.args.count in
    let left = c.loop-left.left in
    let s = c.index-all-left.result in
    let before = c.loop-left.invariant in
    let next : left ≡ left - 1 + 1 = omega (arith, c.loop-left-test.true) in
    let there : left - 1 < count = omega (arith, c.loop-left-test.true, before.within) in
    let is = c.index-all-left.is in
    record {
      within = omega (arith, before.within);
      size = omega (arith, c.joined-whole.ensures.size, c.in_ok-s.ensures.size, before.size, first_size all count (left - 1) left s c.requires there is next c.args.typed.now);
      goes_on = c.joined-whole.ensures.goes_on ∙ first_goes all count (left - 1) left s c.requires there is next _ _ c.in_ok-s.ensures.goes_on before.goes_on;
      noted = first_notes all count (left - 1) left s c.requires there is next c.args.typed.now _ _ _ before.noted c.in_ok-s.ensures.noted;
    }

pub note_inside-returns-in_ok-extent-in-Block-clause-size : goal.note_inside-returns-in_ok-extent-in-Block-clause-size
note_inside-returns-in_ok-extent-in-Block-clause-size t c =
    let typed = c.args.typed.now in
    c.in_ok-extent-in-Block.ensures.size ∙
    ap (λ l. min (sum_by (stmt_size typed) l) (2 ^ 64 - 1)) (all_taken _ _ c.as_slice-all.ensures) ∙
    ap (λ k. min k (2 ^ 64 - 1)) (sym (block_size typed c.args.s.now c.in-Block.all c.in-Block.is))

pub note_inside-returns-in_ok-extent-in-Block-clause-goes_on : goal.note_inside-returns-in_ok-extent-in-Block-clause-goes_on
note_inside-returns-in_ok-extent-in-Block-clause-goes_on t c =
    c.in_ok-extent-in-Block.ensures.goes_on ∙ ap (body_goes_on true) (all_taken _ _ c.as_slice-all.ensures) ∙
    sym (block_goes c.args.s.now c.in-Block.all c.in-Block.is)

pub note_inside-returns-in_ok-extent-in-Block-clause-noted : goal.note_inside-returns-in_ok-extent-in-Block-clause-noted
note_inside-returns-in_ok-extent-in-Block-clause-noted t c =
    let typed = c.args.typed.now in
    let old = c.args.notes.now.items in
    c.in_ok-extent-in-Block.ensures.noted ∙ ap (λ l. old ++ all_notes typed l) (all_taken _ _ c.as_slice-all.ensures) ∙
    ap (λ l. old ++ l) (sym (block_notes typed c.args.s.now c.in-Block.all c.in-Block.is))

pub note_inside-returns-in_ok-extent-in-If-clause-noted : goal.note_inside-returns-in_ok-extent-in-If-clause-noted
note_inside-returns-in_ok-extent-in-If-clause-noted t c =
    if_noted c.args.typed.now c.args.s.now c.in-If.arms c.as_slice.result.now c.in-If.other _ _ _ c.in-If.is c.as_slice.ensures
    c.in_ok-other-in-If.ensures.noted c.in_ok-extent-in-If.ensures.noted

pub note_inside-returns-in_ok-push-in-For-clause-noted : goal.note_inside-returns-in_ok-push-in-For-clause-noted
note_inside-returns-in_ok-push-in-For-clause-noted t c =
    let pushed = c.in_ok-push-in-For.ensures.items ∙ ap (λ e. c.note_part-in-For-2.new.notes.items ++ e ∷ []) c.going_on-in-For.ensures in
    for_noted c.args.typed.now c.args.s.now c.in-For.init c.in-For.test c.in-For.step c.get-in-For.result.now c.in_ok-step-in-For.step.size
    _ _ _ _ _ (rw (← c.get-in-For.ensures) at c.in-For.is) c.in_ok-step-in-For.ensures.size c.in_ok-step-in-For.ensures.noted
    c.in_ok-body-in-For.ensures.noted c.in_ok-init-in-For.ensures.noted pushed
