-- When two scenarios are the same: a list is its items.
use Rattle.std.specs.Prelude.{◌≡◌}
use Rattle.scenario.specs.declared.scenario.Scenario.{Scenario}

-- two scenarios say the same
pub record SayTheSame (one other : Scenario) : Type 0 where
  pub database : one.database ≡ other.database
  pub nodes : one.nodes.items ≡ other.nodes.items
  pub bit : one.bit ≡ other.bit
  pub until : one.until ≡ other.until
  pub turns : one.turns ≡ other.turns
  pub epoch : one.epoch ≡ other.epoch
  pub interface : one.interface ≡ other.interface
  pub picks : one.picks.items ≡ other.picks.items
  pub keys : one.keys.items ≡ other.keys.items
  pub replay : one.replay ≡ other.replay
