-- The table has the names of the items so far.
use Rattle.std.proofs.Common.{◌≡◌, ℕ, List, take}
use Rattle.sys_vars.specs.Name.{is_declared}
use Rattle.sys_vars.specs.Inside.Declared.{has}
use Rattle.sys_vars.proofs.declared.Declared.of.Given as goal

abbrev pub invariant-loop-item : goal.invariant-loop-item
invariant-loop-item l = (space name : List ℕ) → has l.names space name ≡ is_declared (take l.item-index l.items) space name
