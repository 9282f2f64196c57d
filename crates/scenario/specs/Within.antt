-- How large the numbers of a scenario are at most, and that its interface is one.
use Rattle.std.specs.Prelude.{◌≡◌, ◌≤◌, ℕ, true, All, ⊤}
use Rattle.std.specs.List.Sorted.{IsNonDecreasingBy}
use Rattle.scenario.specs.Item.{is_interface}
use Rattle.scenario.specs.declared.scenario.Epoch.{Epoch}
use Rattle.scenario.specs.declared.scenario.Epoch.TheVariants.{At, First}
use Rattle.scenario.specs.declared.scenario.KeyItem.{KeyItem}
use Rattle.scenario.specs.declared.scenario.Scenario.{Scenario}

-- a day in microseconds
abbrev pub day : ℕ
day = 86400000000

-- an epoch in seconds is a number of 32 bits
abbrev pub IsEpochWithin : Epoch → Type 0
IsEpochWithin (At seconds) = seconds ≤ 4294967295
IsEpochWithin First = ⊤

-- a key is a byte that can be printed, and is pressed within a day
pub record IsKeyWithin (key : KeyItem) : Type 0 where
  pub at : key.at ≤ day
  pub least : 33 ≤ key.key
  pub greatest : key.key ≤ 126

-- The numbers of a scenario are within their bounds, its interface is one, and its keys stand by moment.
pub record IsWithin (scenario : Scenario) : Type 0 where
  pub some_bit : 1 ≤ scenario.bit
  pub bit : scenario.bit ≤ 100
  pub until : scenario.until ≤ day
  pub some_turn : 1 ≤ scenario.turns
  pub turns : scenario.turns ≤ 10000000
  pub epoch : IsEpochWithin scenario.epoch
  pub interface : is_interface scenario.interface ≡ true
  pub keys : All IsKeyWithin scenario.keys.items
  pub by_moment : IsNonDecreasingBy (λ key. key.at) scenario.keys.items
