-- What is laid and what is left are all variables, and so are their cells.
use Rattle.std.proofs.Common.{◌≡◌, ◌+◌, ◌≤◌, ◌++◌, drop}
use Rattle.type_expressions.specs.Layout.{laid_from, size_in}
use Rattle.type_expressions.proofs.layout.Layout.build.Given as goal

abbrev pub invariant-loop-number : goal.invariant-loop-number
invariant-loop-number l = record {
  laid : l.all.items ++ laid_from l.names l.next.cell l.next.timers (drop l.number l.names.variables)
      ≡ laid_from l.names 15 0 l.names.variables;
  size : l.size + size_in l.names (drop l.number l.names.variables) ≡ size_in l.names l.names.variables;
  room : l.next.cell + l.next.timers ≡ 15 + l.size;
  most : l.size ≤ 1000000;
}
