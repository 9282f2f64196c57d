-- The fields of `Selectors`.
use Rattle.std.specs.Prelude.{length}
use Rattle.msg_select.specs.declared.selectors.Selectors.TheInside.{Inside}
use Rattle.msg_select.specs.Inside.Selectors.{AreByRank, AreRuns}

-- the selectors stand by rank, and beside them where their runs end
pub record AreSelectors (s : Inside) : Type 0 where
  pub by_rank : AreByRank s.list.items
  pub runs : AreRuns s.list.items 0 (length s.list.items) s.ends.items
