-- The notes so far are taken away.
use Rattle.std.proofs.Common.{◌≡◌, length}
use Rattle.sys_vars.proofs.TableLemmas.{forgotten}
use Rattle.sys_vars.proofs.table.forget.Given as goal

abbrev pub invariant-loop-number : goal.invariant-loop-number
invariant-loop-number l = record {
  taken : l.notes.items ≡ forgotten l.number l.fn.notes.items;
  count : length l.notes.items ≡ length l.fn.notes.items;
}
