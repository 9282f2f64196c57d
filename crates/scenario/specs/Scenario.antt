-- What a scenario file says, and what is wrong with a text that is none. The form is this project's own.
use Rattle.std.specs.Prelude.{◌≡◌, ◌<◌, ℕ, List, [], ◌∷◌, codes, length, slice_get, Some, unwrap_or}
use Rattle.std.specs.Option.{option_to_list}
use Rattle.std.specs.List.{flat_map}
use Rattle.std.specs.List.Sorted.{IsPermutation, IsSortedByKey, IsStableByKey}
use Rattle.std.specs.Ordering.{nat_cmp}
use Rattle.std.specs.Str.Lines.{lines}
use Rattle.scenario.specs.declared.item.Item.{Item}
use Rattle.scenario.specs.declared.item.Item.TheVariants as item
use Rattle.scenario.specs.declared.scenario.Epoch.{Epoch}
use Rattle.scenario.specs.declared.scenario.Epoch.TheVariants.{At}
use Rattle.scenario.specs.declared.scenario.KeyItem.{KeyItem}
use Rattle.scenario.specs.declared.scenario.Scenario.{Scenario}
use Rattle.scenario.specs.declared.refusal.ScenarioRefusal.{ScenarioRefusal}
use Rattle.scenario.specs.declared.refusal.ScenarioRefusal.TheVariants as refusal
use Rattle.scenario.specs.Item.{items_of}
use Rattle.scenario.specs.Rule.{AreRightBefore, nodes_of, IsBroken}

-- the file of a `database` item
abbrev pub database_in : Item → List (List ℕ)
database_in (item.Database file) = file ∷ []
database_in _ = []

-- the length of a bit by a `bitrate` item, in microseconds
abbrev pub bit_in : Item → List ℕ
bit_in (item.Bitrate bit) = option_to_list bit
bit_in _ = []

-- the end moment of an `until` item, in microseconds
abbrev pub until_in : Item → List ℕ
until_in (item.Until moment) = option_to_list moment
until_in _ = []

-- the turn limit of a `turns` item
abbrev pub turns_in : Item → List ℕ
turns_in (item.Turns turns) = option_to_list turns
turns_in _ = []

-- the epoch of an `epoch` item
abbrev pub epoch_in : Item → List Epoch
epoch_in (item.Epoch epoch) = option_to_list epoch
epoch_in _ = []

-- the interface of an `interface` item
abbrev pub interface_in : Item → List (List ℕ)
interface_in (item.Interface name) = name ∷ []
interface_in _ = []

-- the picks of a `picks` item
abbrev pub picks_in : Item → List ℕ
picks_in (item.Picks (Some picks)) = picks
picks_in _ = []

-- the key of a `key` item
abbrev pub key_in : Item → List KeyItem
key_in (item.Key key) = option_to_list key
key_in _ = []

-- the file of a `replay` item
abbrev pub replay_in : Item → List (List ℕ)
replay_in (item.Replay file) = file ∷ []
replay_in _ = []

-- the keys by moment, and those of one moment in the order in which they stand in the file
pub record AreByMoment (keys ordered : List KeyItem) : Type 0 where
  pub same : IsPermutation keys ordered
  pub by_moment : IsSortedByKey (λ key. key.at) nat_cmp ordered
  pub in_file_order : IsStableByKey (λ key. key.at) nat_cmp keys ordered

-- the scenario of these items: what each says, or its default
pub record IsSaidBy (items : List Item) (scenario : Scenario) : Type 0 where
  pub database : scenario.database ≡ slice_get (flat_map database_in items) 0
  pub nodes : scenario.nodes.items ≡ nodes_of items
  pub bit : scenario.bit ≡ unwrap_or (slice_get (flat_map bit_in items) 0) 2
  pub until : scenario.until ≡ unwrap_or (slice_get (flat_map until_in items) 0) 10000000
  pub turns : scenario.turns ≡ unwrap_or (slice_get (flat_map turns_in items) 0) 100000
  pub epoch : scenario.epoch ≡ unwrap_or (slice_get (flat_map epoch_in items) 0) (At 0)
  pub interface : scenario.interface ≡ unwrap_or (slice_get (flat_map interface_in items) 0) (codes "can0")
  pub picks : scenario.picks.items ≡ flat_map picks_in items
  pub keys : AreByMoment (flat_map key_in items) scenario.keys.items
  pub replay : scenario.replay ≡ slice_get (flat_map replay_in items) 0

-- no line of the text breaks a rule, it has a node, and this is what its items say
pub record IsScenario (text : List ℕ) (scenario : Scenario) : Type 0 where
  pub right : AreRightBefore (lines text) (length (lines text))
  pub some_node : 0 < length (nodes_of (items_of (lines text)))
  pub said : IsSaidBy (items_of (lines text)) scenario

-- the refusal shows the line and the rule of group S that the text breaks
abbrev pub IsScenarioRefusal : List ℕ → ScenarioRefusal → Type 0
IsScenarioRefusal text (refusal.Broken line rule) = (rule.group ≡ 83) × IsBroken (lines text) line rule.number
IsScenarioRefusal text refusal.NoMemory = Unit {0}
