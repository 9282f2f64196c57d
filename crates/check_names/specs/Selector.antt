-- What all selectors are.
use Rattle.std.specs.Prelude.{◌≢◌, ◌≤◌, ◌<◌}
use Rattle.run_effects.specs.declared.event.Selector.{Selector}

-- a selector is of a rank that there is, and has a key; where it is not `*`, its keys are identifiers, which
-- leave room for the mark of a channel
pub record IsProper (s : Selector) : Type 0 where
  pub rank : s.rank ≤ 2
  pub some_key : s.low ≤ s.high
  pub room : s.rank ≢ 2 → s.high < 0xA0000000
