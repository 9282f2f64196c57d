-- New tables have no names.
use Rattle.std.proofs.Common.{◌≡◌, ◌+◌, ◌-◌, ℕ, List, length}
use Rattle.check_names.specs.Inside.Table.{number_at}
use Rattle.check_names.proofs.scope.open.Given as goal

abbrev pub invariant-loop-alloc : goal.invariant-loop-alloc
invariant-loop-alloc l = (other : ℕ) (name : List ℕ) →
    number_at l.tables.items other name ≡ number_at l.fn.tables.items other name

abbrev pub decreases-loop-alloc : goal.decreases-loop-alloc
decreases-loop-alloc l = l.owner + 1 - length l.tables.items
