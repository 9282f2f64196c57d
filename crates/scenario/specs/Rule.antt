-- The rules of scenario files, S01 to S12. They are this project's own.
use Rattle.std.specs.Prelude.{◌≡◌, ◌≢◌, ◌<◌, ◌+◌, ℕ, Bool, true, false, not, List, [], ◌∷◌, ◌==◌, ◌||◌, ◌⊎◌, if◌then◌else◌, length, take, slice_index_or, Option, Some, None}
use Rattle.std.specs.List.{list_any, flat_map}
use Rattle.std.specs.Str.{bytes_eq}
use Rattle.scenario.specs.declared.item.Item.{Item}
use Rattle.scenario.specs.declared.item.Item.TheVariants as item
use Rattle.scenario.specs.declared.scenario.NodeItem.{NodeItem}
use Rattle.scenario.specs.Item.{is_interface, is_file_name, is_node_name, is_passed_over, fields_of, item_of, items_of}

-- S01: the first item is not `scenario 1`
abbrev pub breaks_S01 : List Item → Item → Bool
breaks_S01 [] (item.Scenario is_version_1) = not is_version_1
breaks_S01 [] _ = true
breaks_S01 (first ∷ before) _ = false

-- both items are `scenario`, `database`, `bitrate`, `until`, `turns`, `epoch`, `interface` or `replay`
abbrev pub is_repeated : Item → Item → Bool
is_repeated (item.Scenario _) (item.Scenario _) = true
is_repeated (item.Database _) (item.Database _) = true
is_repeated (item.Bitrate _) (item.Bitrate _) = true
is_repeated (item.Until _) (item.Until _) = true
is_repeated (item.Turns _) (item.Turns _) = true
is_repeated (item.Epoch _) (item.Epoch _) = true
is_repeated (item.Interface _) (item.Interface _) = true
is_repeated (item.Replay _) (item.Replay _) = true
is_repeated _ _ = false

-- the node of an item that is one
abbrev pub node_in : Item → List NodeItem
node_in (item.Node node) = node ∷ []
node_in _ = []

-- the nodes of some items
abbrev pub nodes_of : List Item → List NodeItem
nodes_of items = flat_map node_in items

-- the least rule that a node breaks by itself or behind other nodes: S04, its name is no CAPL name of at most
-- 32 bytes, is `replay`, or was used; S05, it is the 65th node; S10, its file name is not one
abbrev pub rule_of_node : List NodeItem → NodeItem → Option ℕ
rule_of_node before node =
    if not (is_node_name node.name) || list_any (λ other. bytes_eq node.name other.name) before then Some 4
    else if length before == 64 then Some 5
    else if is_file_name node.file then None
    else Some 10

-- the least rule but S01 and S03 that an item breaks behind these nodes: S02, the line is no item, or has a
-- wrong number of fields; S06 to S09 and S11, a value is none that the item may have; S10, an interface or a
-- file name is not one
abbrev pub rule_by_kind : List NodeItem → Item → Option ℕ
rule_by_kind before item.Unknown = Some 2
rule_by_kind before (item.Node node) = rule_of_node before node
rule_by_kind before (item.Bitrate None) = Some 6
rule_by_kind before (item.Until None) = Some 7
rule_by_kind before (item.Turns None) = Some 8
rule_by_kind before (item.Epoch None) = Some 9
rule_by_kind before (item.Interface name) = if is_interface name then None else Some 10
rule_by_kind before (item.Database file) = if is_file_name file then None else Some 10
rule_by_kind before (item.Replay file) = if is_file_name file then None else Some 10
rule_by_kind before (item.Picks None) = Some 11
rule_by_kind before (item.Key None) = Some 11
rule_by_kind before _ = None

-- the least rule that an item breaks behind other items: S03, it stands for the second time; what breaks S02
-- never breaks S03
abbrev pub rule_of_item : List Item → Item → Option ℕ
rule_of_item before here =
    if breaks_S01 before here then Some 1
    else if list_any (is_repeated here) before then Some 3
    else rule_by_kind (nodes_of before) here

-- the least rule that a line breaks behind the lines before it
abbrev pub rule_of_line : List (List ℕ) → List ℕ → Option ℕ
rule_of_line before line =
    if is_passed_over line then None else rule_of_item (items_of before) (item_of (fields_of line))

-- the least rule that the line at a place breaks, the first line's place being 0
abbrev pub rule_at : List (List ℕ) → ℕ → Option ℕ
rule_at lines place = rule_of_line (take place lines) (slice_index_or lines place [])

-- no line before this place breaks a rule
abbrev pub AreRightBefore : List (List ℕ) → ℕ → Type 0
AreRightBefore lines place = (earlier : ℕ) → earlier < place → rule_at lines earlier ≡ None

-- the line of this number, from 1, is the first that breaks a rule, and this is the least that it breaks
pub record IsFirstBroken (lines : List (List ℕ)) (line rule : ℕ) : Type 0 where
  pub place : ℕ
  pub number : line ≡ place + 1
  pub within : place < length lines
  pub right_before : AreRightBefore lines place
  pub broken : rule_at lines place ≡ Some rule

-- S01 at line 1: no line breaks a rule, and each is passed over
pub record HasNoItem (lines : List (List ℕ)) (line rule : ℕ) : Type 0 where
  pub right : AreRightBefore lines (length lines)
  pub no_item : items_of lines ≡ []
  pub number : line ≡ 1
  pub broken : rule ≡ 1

-- S12 at the number of lines plus 1: no line breaks a rule, there are items, and none is a node
pub record HasNoNode (lines : List (List ℕ)) (line rule : ℕ) : Type 0 where
  pub right : AreRightBefore lines (length lines)
  pub some_item : items_of lines ≢ []
  pub no_node : nodes_of (items_of lines) ≡ []
  pub number : line ≡ length lines + 1
  pub broken : rule ≡ 12

-- the line and the rule that are shown of a text that is no scenario
abbrev pub IsBroken : List (List ℕ) → ℕ → ℕ → Type 0
IsBroken lines line rule =
    IsFirstBroken lines line rule ⊎ HasNoItem lines line rule ⊎ HasNoNode lines line rule
