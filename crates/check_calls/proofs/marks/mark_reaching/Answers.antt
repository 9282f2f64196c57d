-- The root, and what is marked by a row.
use Rattle.std.proofs.Common.{◌≡◌, ◌∙◌, ℕ, Bool, List, Some, ap, subst, sym, true}
use Rattle.std.specs.Prelude.{slice_get}
use Rattle.std.specs.Global.{Vec}
use Rattle.check_calls.specs.Graph.{AreReaching, rows_of}
use Rattle.check_calls.proofs.ComponentLemmas.{reaching_root, reaching_row}
use Rattle.check_calls.proofs.SearchLemmas.{row_at}
use Rattle.check_calls.proofs.marks.mark_reaching.Goals as goal
use Rattle.check_calls.proofs.marks.mark_reaching.Goals.{then-root-place, else-root-place}

pub returns-then-has_marked : goal.returns-then-has_marked
returns-then-has_marked c = λ are.
    let rows = rows_of c.args.rows.now in
    let roots = c.args.roots.now in
    let place = c.args.place in
    let root = c.number_at-root.result in
    let before = c.args.marks.now.items in
    let Goal : Vec Bool → Type 0 = λ v. AreReaching rows roots v.items in
    let middle : Goal c.if-root-place.marks = elim c.if-root-place.branch [
      | then-root-place w ↦
          subst Goal (sym w.marks-is)
          (reaching_root rows roots before w.mark.new.marks.items place root c.number_at-root.ensures w.if-root-place.true w.mark.ensures are)
      | else-root-place w ↦ subst Goal (sym w.marks-is) are
    ] in
    let row = c.as_slice.result.now in
    let there : slice_get rows place ≡ Some row =
    row_at c.args.rows.now place c.index-rows-at.result c.if-at-rows.true c.index-rows-at.is
    ∙ ap (λ (l : List ℕ). Some l) (sym c.as_slice.ensures.value) in
    let to = c.has_marked.ensures c.if-has_marked.true in
    let at : slice_get c.if-root-place.marks.items to.0 ≡ Some true =
    ap (λ (l : List Bool). slice_get l to.0) (sym c.as_slice-then-at-rows.ensures.value) ∙ to.3 in
    reaching_row rows roots c.if-root-place.marks.items c.mark-then-has_marked.new.marks.items place root to.0 row
    c.number_at-root.ensures there to.1 to.2 at c.mark-then-has_marked.ensures middle

pub returns-else-at-rows : goal.returns-else-at-rows
returns-else-at-rows c = λ are.
    let rows = rows_of c.args.rows.now in
    let roots = c.args.roots.now in
    let place = c.args.place in
    let root = c.number_at-root.result in
    let before = c.args.marks.now.items in
    let Goal : Vec Bool → Type 0 = λ v. AreReaching rows roots v.items in
    let middle : Goal c.if-root-place.marks = elim c.if-root-place.branch [
      | then-root-place w ↦
          subst Goal (sym w.marks-is)
          (reaching_root rows roots before w.mark.new.marks.items place root c.number_at-root.ensures w.if-root-place.true w.mark.ensures are)
      | else-root-place w ↦ subst Goal (sym w.marks-is) are
    ] in
    middle
