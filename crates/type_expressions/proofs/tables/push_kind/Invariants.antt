-- So many were appended.
use Rattle.std.proofs.Common.{◌≡◌, ◌++◌}
use Rattle.std.specs.Prelude.{replicate}
use Rattle.type_expressions.proofs.tables.push_kind.Given as goal

abbrev pub invariant-loop-turn : goal.invariant-loop-turn
invariant-loop-turn l = l.into.items ≡ l.fn.into.items ++ replicate l._turn l.kind
