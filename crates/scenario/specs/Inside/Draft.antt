-- What the items so far say, and what one more item adds.
use Rattle.std.specs.Prelude.{◌≡◌, ℕ, Bool, true, false, not, List, [], ◌∷◌, ◌++◌, ◌&&◌, if◌then◌else◌, codes, Option, Some, None, is_some, slice_get, unwrap_or}
use Rattle.std.specs.List.{list_any, flat_map}
use Rattle.scenario.specs.declared.item.Item.{Item}
use Rattle.scenario.specs.declared.item.Item.TheVariants as item
use Rattle.scenario.specs.declared.scenario.Epoch.{Epoch}
use Rattle.scenario.specs.declared.scenario.Epoch.TheVariants.{At}
use Rattle.scenario.specs.declared.scenario.KeyItem.{KeyItem}
use Rattle.scenario.specs.declared.scenario.NodeItem.{NodeItem}
use Rattle.scenario.specs.declared.scenario.Scenario.{Scenario}
use Rattle.scenario.specs.Item.{is_passed_over, fields_of, item_of}
use Rattle.scenario.specs.Rule.{nodes_of, rule_by_kind}
use Rattle.scenario.specs.Scenario.{database_in, bit_in, until_in, turns_in, epoch_in, interface_in, picks_in, key_in, replay_in, AreByMoment}

-- what some items say
pub record Said : Type 0 where
  pub is_started : Bool
  pub database : Option (List ℕ)
  pub nodes : List NodeItem
  pub bit : Option ℕ
  pub until : Option ℕ
  pub turns : Option ℕ
  pub epoch : Option Epoch
  pub interface : Option (List ℕ)
  pub picks : List ℕ
  pub keys : List KeyItem
  pub replay : Option (List ℕ)

-- the item is `scenario`
abbrev pub is_scenario : Item → Bool
is_scenario (item.Scenario _) = true
is_scenario _ = false

-- what these items say
abbrev pub said_by : List Item → Said
said_by items =
    record {
      is_started = list_any is_scenario items;
      database = slice_get (flat_map database_in items) 0;
      nodes = nodes_of items;
      bit = slice_get (flat_map bit_in items) 0;
      until = slice_get (flat_map until_in items) 0;
      turns = slice_get (flat_map turns_in items) 0;
      epoch = slice_get (flat_map epoch_in items) 0;
      interface = slice_get (flat_map interface_in items) 0;
      picks = flat_map picks_in items;
      keys = flat_map key_in items;
      replay = slice_get (flat_map replay_in items) 0;
    }

-- the item begins a scenario
abbrev pub is_start : Item → Bool
is_start (item.Scenario is_version_1) = is_version_1
is_start _ = false

-- the item stands at most once, and stood before
abbrev pub is_said : Said → Item → Bool
is_said s (item.Scenario _) = s.is_started
is_said s (item.Database _) = is_some s.database
is_said s (item.Bitrate _) = is_some s.bit
is_said s (item.Until _) = is_some s.until
is_said s (item.Turns _) = is_some s.turns
is_said s (item.Epoch _) = is_some s.epoch
is_said s (item.Interface _) = is_some s.interface
is_said s (item.Replay _) = is_some s.replay
is_said s _ = false

-- the least rule that the item breaks behind what was said
abbrev pub rule_behind : Said → Item → Option ℕ
rule_behind s here =
    if not s.is_started && not (is_start here) then Some 1
    else if is_said s here then Some 3
    else rule_by_kind s.nodes here

-- whether a `scenario` item stood, with one more item
abbrev pub started_with : Bool → Item → Bool
started_with is_started (item.Scenario _) = true
started_with is_started _ = is_started

-- the database with one more item
abbrev pub database_with : Option (List ℕ) → Item → Option (List ℕ)
database_with database (item.Database file) = Some file
database_with database _ = database

-- the nodes with one more item
abbrev pub nodes_with : List NodeItem → Item → List NodeItem
nodes_with nodes (item.Node node) = nodes ++ node ∷ []
nodes_with nodes _ = nodes

-- the length of a bit with one more item
abbrev pub bit_with : Option ℕ → Item → Option ℕ
bit_with bit (item.Bitrate value) = value
bit_with bit _ = bit

-- the end moment with one more item
abbrev pub until_with : Option ℕ → Item → Option ℕ
until_with until (item.Until value) = value
until_with until _ = until

-- the turn limit with one more item
abbrev pub turns_with : Option ℕ → Item → Option ℕ
turns_with turns (item.Turns value) = value
turns_with turns _ = turns

-- the epoch with one more item
abbrev pub epoch_with : Option Epoch → Item → Option Epoch
epoch_with epoch (item.Epoch value) = value
epoch_with epoch _ = epoch

-- the interface with one more item
abbrev pub interface_with : Option (List ℕ) → Item → Option (List ℕ)
interface_with interface (item.Interface name) = Some name
interface_with interface _ = interface

-- the picks with one more item
abbrev pub picks_with : List ℕ → Item → List ℕ
picks_with picks (item.Picks (Some more)) = picks ++ more
picks_with picks _ = picks

-- the keys with one more item
abbrev pub keys_with : List KeyItem → Item → List KeyItem
keys_with keys (item.Key (Some key)) = keys ++ key ∷ []
keys_with keys _ = keys

-- the replay with one more item
abbrev pub replay_with : Option (List ℕ) → Item → Option (List ℕ)
replay_with replay (item.Replay file) = Some file
replay_with replay _ = replay

-- what was said, with one more item
abbrev pub with_item : Said → Item → Said
with_item s here =
    record {
      is_started = started_with s.is_started here;
      database = database_with s.database here;
      nodes = nodes_with s.nodes here;
      bit = bit_with s.bit here;
      until = until_with s.until here;
      turns = turns_with s.turns here;
      epoch = epoch_with s.epoch here;
      interface = interface_with s.interface here;
      picks = picks_with s.picks here;
      keys = keys_with s.keys here;
      replay = replay_with s.replay here;
    }

-- the least rule that the line breaks behind what was said
abbrev pub rule_of_next : Said → List ℕ → Option ℕ
rule_of_next s line = if is_passed_over line then None else rule_behind s (item_of (fields_of line))

-- what was said, with one more line
abbrev pub with_line : Said → List ℕ → Said
with_line s line = if is_passed_over line then s else with_item s (item_of (fields_of line))

-- the scenario is what was said, with the defaults
pub record IsScenarioOf (s : Said) (scenario : Scenario) : Type 0 where
  pub database : scenario.database ≡ s.database
  pub nodes : scenario.nodes.items ≡ s.nodes
  pub bit : scenario.bit ≡ unwrap_or s.bit 2
  pub until : scenario.until ≡ unwrap_or s.until 10000000
  pub turns : scenario.turns ≡ unwrap_or s.turns 100000
  pub epoch : scenario.epoch ≡ unwrap_or s.epoch (At 0)
  pub interface : scenario.interface ≡ unwrap_or s.interface (codes "can0")
  pub picks : scenario.picks.items ≡ s.picks
  pub keys : AreByMoment s.keys scenario.keys.items
  pub replay : scenario.replay ≡ s.replay
