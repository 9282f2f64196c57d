-- What stands between two rows.
use Rattle.std.proofs.Common.{◌≡◌, take}
use Rattle.std.specs.List.{sum_by}
use Rattle.sim_play.specs.Show.{capped}
use Rattle.sim_play.proofs.summary.turns_in.Given as goal

-- the turns of the rows that were passed
abbrev pub invariant-loop-number : goal.invariant-loop-number
invariant-loop-number l = l.turns ≡ capped (sum_by (λ row. row.turns) (take l.number l.meter))
