-- The values so far are those of the items, and no note is there.
use Rattle.std.proofs.Common.{◌≡◌, map, take, None}
use Rattle.sys_vars.specs.declared.item.SysItem.{SysItem}
use Rattle.sys_vars.proofs.table.SysTable.make.Given as goal

abbrev pub invariant-loop-item : goal.invariant-loop-item
invariant-loop-item l = record {
  values : l.values.items ≡ map (λ (item : SysItem). item.value) (take l.item-index l.items);
  notes : l.notes.items ≡ map (λ (item : SysItem). None) (take l.item-index l.items);
  last : l.last.items ≡ map (λ (item : SysItem). None) (take l.item-index l.items);
}
