-- The requests so far have their ranks.
use Rattle.std.proofs.Common.{◌≡◌, ◌++◌, eqb, map, take, drop}
use Rattle.std.specs.Prelude.{count_by}
use Rattle.can_bus.specs.Ranks.{with_rank_in}
use Rattle.arbitration.proofs.ranks.set_ranks.Given as goal

abbrev pub invariant-loop-request : goal.invariant-loop-request
invariant-loop-request l =
    (l.waiting ≡ map (with_rank_in l.initial.waiting l.wire l.node) (take l.request-index l.initial.waiting) ++ drop l.request-index l.initial.waiting)
    × (l.count ≡ count_by (λ r. eqb r.node l.node) (take l.request-index l.initial.waiting))
