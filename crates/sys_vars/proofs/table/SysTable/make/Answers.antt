-- All items are there.
use Rattle.std.proofs.Common.{subst, sym, take}
use Rattle.std.proofs.lemmas.List.{take_all}
use Rattle.sys_vars.specs.Table.{IsShared}
use Rattle.sys_vars.proofs.TableLemmas.{made_is, made_shared}
use Rattle.sys_vars.proofs.table.SysTable.make.Goals as goal

pub returns : goal.returns
returns c =
    let all = take_all c.loop-item.item-index c.args.items.now c.loop-item-test.false in
    made_is c.args.items.now (take c.loop-item.item-index c.args.items.now) c.loop-item.values.items c.loop-item.notes.items c.loop-item.last.items all
    c.loop-item.invariant.values c.loop-item.invariant.notes c.loop-item.invariant.last

pub invariant_of-result : goal.invariant_of-result
invariant_of-result c =
    let all = take_all c.loop-item.item-index c.args.items.now c.loop-item-test.false in
    subst IsShared
    (sym (made_is c.args.items.now (take c.loop-item.item-index c.args.items.now) c.loop-item.values.items c.loop-item.notes.items c.loop-item.last.items all
    c.loop-item.invariant.values c.loop-item.invariant.notes c.loop-item.invariant.last))
    (made_shared c.args.items.now c.requires)
