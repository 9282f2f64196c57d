-- One note more, and all.
use Rattle.std.proofs.Common.{◌∙◌, arith}
use Rattle.sys_vars.proofs.TableLemmas.{all_forgotten, forgotten_step}
use Rattle.sys_vars.proofs.table.forget.Goals as goal

pub loop-number-preserved : goal.loop-number-preserved
loop-number-preserved c =
    let step = forgotten_step c.args.notes.now.items c.loop-number.notes.items c.loop-number.number c.loop-number.invariant.taken c.loop-number.invariant.count (omega arith) in
    record { taken = step.0; count = step.1 }

pub returns : goal.returns
returns c =
    c.loop-number.invariant.taken
    ∙ all_forgotten c.loop-number.number c.args.notes.now.items (omega arith)
