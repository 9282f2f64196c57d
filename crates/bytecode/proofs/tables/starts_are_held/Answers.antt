-- One more initial value is held, and in the end all are.
use Rattle.std.proofs.Common.{refl, rules, get_or, subst}
use Rattle.std.specs.Prelude.{pos}
use Rattle.std.proofs.lemmas.Int.{to_z-of_z}
use Rattle.std.proofs.lemmas.List.{get_or_default}
use mir.Syntax.{w128}
use mir.Val.{SFits}
use Rattle.message_cells.specs.Cells.{IsHeldStart}
use Rattle.bytecode.proofs.ListPairs.{All-take_more, All-taken}
use Rattle.bytecode.proofs.tables.starts_are_held.Goals as goal

pub loop-cell-preserved : goal.loop-cell-preserved
loop-cell-preserved c =
    let z = (get_or c.args.starts.now c.loop-cell.cell-index (0, pos 0)).1 in
    let fits : SFits w128 z = search rules in
    let held : IsHeldStart c.args.kinds.now (get_or c.args.starts.now c.loop-cell.cell-index (0, pos 0)) = simp to_z-of_z at (c.is_held.ensures.0 c.if-not-is_held.false) in
    All-take_more (IsHeldStart c.args.kinds.now) c.args.starts.now c.loop-cell.cell-index c.loop-cell-test.true c.loop-cell.invariant
    (λ d. subst (IsHeldStart c.args.kinds.now) (get_or_default c.args.starts.now c.loop-cell.cell-index (0, pos 0) d c.loop-cell-test.true) held)

pub returns : goal.returns
returns c = (λ _. All-taken (IsHeldStart c.args.kinds.now) c.args.starts.now c.loop-cell.cell-index c.loop-cell-test.false c.loop-cell.invariant, λ _. refl)
