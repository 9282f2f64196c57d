-- One more place.
use Rattle.std.proofs.Common.{◌∙◌, Bool, get_or, subst, sym, take, ◌+◌}
use Rattle.std.specs.Global.{Vec}
use Rattle.check_calls.proofs.ComponentLemmas.{OfRoot, marked_none, marked_one}
use Rattle.check_calls.proofs.SearchLemmas.{read_same}
use Rattle.check_calls.proofs.marks.mark_all.Goals as goal
use Rattle.check_calls.proofs.marks.mark_all.Goals.{then-number_at-root, else-number_at-root}
use Rattle.check_calls.specs.Inside.Marks.{IsMarked}

pub loop-place-preserved : goal.loop-place-preserved
loop-place-preserved c =
    let roots = c.args.roots.now in
    let places = c.args.places.now in
    let root = c.args.root in
    let i = c.loop-place.place-index in
    let x = get_or places i 0 in
    let first = c.args.marks.now.items in
    let before = c.loop-place.marks.items in
    let is = read_same places i c.loop-place-test.true in
    let Goal : Vec Bool → Type 0 = λ v. IsMarked first v.items (OfRoot roots root (take (i + 1) places)) in
    elim c.if-number_at-root.branch [
      | then-number_at-root w ↦
          subst Goal (sym w.marks-is)
          (marked_one roots places root i x first before w.mark.new.marks.items c.loop-place-test.true is
          (sym c.number_at.ensures ∙ w.if-number_at-root.true) c.loop-place.invariant w.mark.ensures)
      | else-number_at-root w ↦
          subst Goal (sym w.marks-is)
          (marked_none roots places root i x first before c.loop-place-test.true is c.loop-place.invariant)
    ]
