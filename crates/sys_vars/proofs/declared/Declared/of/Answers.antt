-- One more variable.
use Rattle.std.proofs.Common.{◌∙◌, ◌+◌, [], ◌∷◌, ◌++◌, take, sym, ap}
use Rattle.std.proofs.lemmas.List.{take_more}
use Rattle.sys_vars.specs.declared.item.SysItem.{SysItem}
use Rattle.sys_vars.proofs.NameLemmas.{declared_more}
use Rattle.sys_vars.proofs.declared.Declared.of.Goals as goal

pub loop-item-preserved : goal.loop-item-preserved
loop-item-preserved c = λ space name.
    let items = c.args.items.now in
    let i = c.loop-item.item-index in
    declared_more space name c.loop-item.names.keys c.insert.new.self.keys (c.bytes.result, c.bytes-in-loop-item.result) (take i items) (take (i + 1) items) c.item-item.result
    c.in_ok-insert.ensures.keys c.bytes.ensures c.bytes-in-loop-item.ensures
    (take_more items i c.item-item.result c.loop-item-test.true ∙ ap (λ (item : SysItem). take i items ++ item ∷ []) (sym c.item-item.is))
    (c.loop-item.invariant space name)
