-- From the start on there are runs that end at the ends that are left, and no selector before it holds the key.
use Rattle.std.proofs.Common.{length, drop}
use Rattle.std.specs.List.{AllWithin}
use Rattle.msg_select.specs.Selection.{Holds}
use Rattle.msg_select.specs.Inside.Selectors.{AreRuns}
use Rattle.msg_select.proofs.selectors.first_holder.Given as goal

abbrev pub invariant-loop-end : goal.invariant-loop-end
invariant-loop-end l =
    AreRuns l.list l.start (length l.list) (drop l.end-index l.ends)
    × AllWithin (λ selector. Holds l.key selector → ⊥) l.list 0 l.start
