-- What stands between two entries.
use Rattle.std.proofs.Common.{◌≡◌, ◌==◌, drop}
use Rattle.std.specs.Map.{lookup}
use Rattle.sim_outside.proofs.mem_sink.find.Given as goal

-- the entries that are left give what all entries give
abbrev pub invariant-loop-number : goal.invariant-loop-number
invariant-loop-number l =
    lookup (λ number. number == l.call) (drop l.number-index l.failing) ≡ lookup (λ number. number == l.call) l.failing
