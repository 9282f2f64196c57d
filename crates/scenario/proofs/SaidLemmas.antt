-- What items say, against what is said so far and one more item.
use Rattle.std.proofs.Common.{◌≡◌, ℕ, Bool, true, false, not, ◌&&◌, ◌||◌, List, [], ◌∷◌, ◌++◌, Option, Some, None, refl, sym, ap, ◌∙◌, All}
use Rattle.std.specs.Prelude.{if◌then◌else◌, is_some, slice_get}
use Rattle.std.specs.Option.{option_to_list}
use Rattle.std.specs.List.{list_any, flat_map}
use Rattle.std.proofs.lemmas.Bool.{false≢true}
use Rattle.std.proofs.lemmas.Grind.{flat_map-append}
use Rattle.std.proofs.lemmas.List.{append-nil}
use Rattle.std.proofs.lemmas.List.Folds.{list_any-append}
use Rattle.std.proofs.lemmas.List.Elements.{All-nil, All-cons, All-head, All-tail}
use Rattle.scenario.specs.declared.item.Item.{Item}
use Rattle.scenario.specs.declared.item.Item.TheVariants as item
use Rattle.scenario.specs.declared.scenario.Epoch.{Epoch}
use Rattle.scenario.specs.declared.scenario.NodeItem.{NodeItem}
use Rattle.scenario.specs.Rule.{breaks_S01, is_repeated, node_in, nodes_of, rule_by_kind, rule_of_item}
use Rattle.scenario.specs.Scenario.{database_in, bit_in, until_in, turns_in, epoch_in, interface_in, picks_in, key_in, replay_in}
use Rattle.scenario.specs.Inside.Draft.{said_by, is_scenario, is_start, is_said, rule_behind, with_item, started_with, database_with, nodes_with, bit_with, until_with, turns_with, epoch_with, interface_with, picks_with, keys_with, replay_with}
use Rattle.scenario.proofs.ChoiceLemmas.{none_told}

-- the item has a value, where it may lack one
abbrev pub has_value : Item → Bool
has_value (item.Bitrate value) = is_some value
has_value (item.Until value) = is_some value
has_value (item.Turns value) = is_some value
has_value (item.Epoch value) = is_some value
has_value _ = true

-- each item has its value, and the first is `scenario`
pub record IsSound (items : List Item) : Type 0 where
  pub valued : All (λ here. has_value here ≡ true) items
  pub begun : is_some (slice_get items 0) ≡ list_any is_scenario items

-- a list without a first is empty
pub none_first : {X : Type 0} (xs : List X) → is_some (slice_get xs 0) ≡ false → xs ≡ []
none_first [] none = refl
none_first (x ∷ xs) none = absurd (false≢true (sym none))

first_of_either : {X : Type 0} (xs ys : List X) → (is_some (slice_get xs 0) || is_some (slice_get ys 0)) ≡ is_some (slice_get (xs ++ ys) 0)
first_of_either [] ys = refl
first_of_either (x ∷ xs) ys = refl

-- an item is among others where one of them gives what such an item says
any_is_some : {X : Type 0} (p : Item → Bool) (f : Item → List X) → ((here : Item) → has_value here ≡ true → p here ≡ is_some (slice_get (f here) 0))
    → (items : List Item) → All (λ here. has_value here ≡ true) items → list_any p items ≡ is_some (slice_get (flat_map f items) 0)
any_is_some p f told [] valued = refl
any_is_some p f told (here ∷ items) valued =
    ap (λ b. b || list_any p items) (told here (All-head (λ i. has_value i ≡ true) here items valued))
    ∙ ap (λ b. is_some (slice_get (f here) 0) || b) (any_is_some p f told items (All-tail (λ i. has_value i ≡ true) here items valued))
    ∙ first_of_either (f here) (flat_map f items)

any_same : (p q : Item → Bool) → ((here : Item) → p here ≡ q here) → (items : List Item) → list_any p items ≡ list_any q items
any_same p q same [] = refl
any_same p q same (here ∷ items) = ap (λ b. b || list_any p items) (same here) ∙ ap (λ b. q here || b) (any_same p q same items)

any_never : (p : Item → Bool) → ((here : Item) → p here ≡ false) → (items : List Item) → list_any p items ≡ false
any_never p never [] = refl
any_never p never (here ∷ items) = ap (λ b. b || list_any p items) (never here) ∙ any_never p never items

scenario_same : (version : Bool) (here : Item) → is_repeated (item.Scenario version) here ≡ is_scenario here
scenario_same version (item.Scenario other) = refl
scenario_same version _ = refl

database_told : (file : List ℕ) (here : Item) → has_value here ≡ true → is_repeated (item.Database file) here ≡ is_some (slice_get (database_in here) 0)
database_told file (item.Database other) ok = refl
database_told file _ ok = refl

bit_told : (value : Option ℕ) (here : Item) → has_value here ≡ true → is_repeated (item.Bitrate value) here ≡ is_some (slice_get (bit_in here) 0)
bit_told value (item.Bitrate (Some other)) ok = refl
bit_told value (item.Bitrate None) ok = absurd (false≢true ok)
bit_told value _ ok = refl

until_told : (value : Option ℕ) (here : Item) → has_value here ≡ true → is_repeated (item.Until value) here ≡ is_some (slice_get (until_in here) 0)
until_told value (item.Until (Some other)) ok = refl
until_told value (item.Until None) ok = absurd (false≢true ok)
until_told value _ ok = refl

turns_told : (value : Option ℕ) (here : Item) → has_value here ≡ true → is_repeated (item.Turns value) here ≡ is_some (slice_get (turns_in here) 0)
turns_told value (item.Turns (Some other)) ok = refl
turns_told value (item.Turns None) ok = absurd (false≢true ok)
turns_told value _ ok = refl

epoch_told : (value : Option Epoch) (here : Item) → has_value here ≡ true → is_repeated (item.Epoch value) here ≡ is_some (slice_get (epoch_in here) 0)
epoch_told value (item.Epoch (Some other)) ok = refl
epoch_told value (item.Epoch None) ok = absurd (false≢true ok)
epoch_told value _ ok = refl

interface_told : (name : List ℕ) (here : Item) → has_value here ≡ true → is_repeated (item.Interface name) here ≡ is_some (slice_get (interface_in here) 0)
interface_told name (item.Interface other) ok = refl
interface_told name _ ok = refl

replay_told : (file : List ℕ) (here : Item) → has_value here ≡ true → is_repeated (item.Replay file) here ≡ is_some (slice_get (replay_in here) 0)
replay_told file (item.Replay other) ok = refl
replay_told file _ ok = refl

-- S03 is broken where the item was said
said_told : (items : List Item) → IsSound items → (here : Item) → list_any (is_repeated here) items ≡ is_said (said_by items) here
said_told items sound (item.Scenario version) = any_same (is_repeated (item.Scenario version)) is_scenario (scenario_same version) items
said_told items sound (item.Database file) = any_is_some (is_repeated (item.Database file)) database_in (database_told file) items sound.valued
said_told items sound (item.Bitrate value) = any_is_some (is_repeated (item.Bitrate value)) bit_in (bit_told value) items sound.valued
said_told items sound (item.Until value) = any_is_some (is_repeated (item.Until value)) until_in (until_told value) items sound.valued
said_told items sound (item.Turns value) = any_is_some (is_repeated (item.Turns value)) turns_in (turns_told value) items sound.valued
said_told items sound (item.Epoch value) = any_is_some (is_repeated (item.Epoch value)) epoch_in (epoch_told value) items sound.valued
said_told items sound (item.Interface name) = any_is_some (is_repeated (item.Interface name)) interface_in (interface_told name) items sound.valued
said_told items sound (item.Replay file) = any_is_some (is_repeated (item.Replay file)) replay_in (replay_told file) items sound.valued
said_told items sound (item.Node node) = any_never (is_repeated (item.Node node)) (λ here. refl) items
said_told items sound (item.Picks picks) = any_never (is_repeated (item.Picks picks)) (λ here. refl) items
said_told items sound (item.Key key) = any_never (is_repeated (item.Key key)) (λ here. refl) items
said_told items sound item.Unknown = any_never (is_repeated item.Unknown) (λ here. refl) items

behind_first : (started start : Bool) → true ≡ started → false ≡ (not started && start)
behind_first true start is = refl
behind_first false start is = absurd (false≢true (sym is))

-- S01 is broken where no `scenario` stood and this is no `scenario 1`
first_told : (items : List Item) → is_some (slice_get items 0) ≡ list_any is_scenario items → (here : Item)
    → breaks_S01 items here ≡ (not (list_any is_scenario items) && not (is_start here))
first_told [] begun (item.Scenario version) = refl
first_told [] begun _ = refl
first_told (first ∷ items) begun here = behind_first (list_any is_scenario (first ∷ items)) (not (is_start here)) begun

-- the rule that an item breaks behind others is that which it breaks behind what they say
pub rule_told : (items : List Item) → IsSound items → (here : Item) → rule_of_item items here ≡ rule_behind (said_by items) here
rule_told items sound here =
    λ i.
    if first_told items sound.begun here i then Some 1
    else if said_told items sound here i then Some 3
    else rule_by_kind (nodes_of items) here

-- an item that says nothing of a kind adds nothing
more_none : {X : Type 0} (f : Item → List X) (items : List Item) (here : Item) → f here ≡ [] → flat_map f (items ++ here ∷ []) ≡ flat_map f items
more_none f items here none =
    flat_map-append f items (here ∷ []) ∙ ap (λ xs. flat_map f items ++ (xs ++ [])) none ∙ append-nil (flat_map f items)

-- an item behind others that say nothing of a kind
more_first : {X : Type 0} (f : Item → List X) (items : List Item) (here : Item) → flat_map f items ≡ [] → flat_map f (items ++ here ∷ []) ≡ f here
more_first f items here none =
    flat_map-append f items (here ∷ []) ∙ ap (λ xs. xs ++ (f here ++ [])) none ∙ append-nil (f here)

first_of_option : {X : Type 0} (o : Option X) → slice_get (option_to_list o) 0 ≡ o
first_of_option None = refl
first_of_option (Some x) = refl

-- an item that is said for the first time, from the rule S03
unsaid : {X : Type 0} (p : Item → Bool) (f : Item → List X) → ((here : Item) → has_value here ≡ true → p here ≡ is_some (slice_get (f here) 0))
    → (items : List Item) → IsSound items → list_any p items ≡ false → flat_map f items ≡ []
unsaid p f told items sound once = none_first (flat_map f items) (sym (any_is_some p f told items sound.valued) ∙ once)

or_true : (b : Bool) → (b || true) ≡ true
or_true true = refl
or_true false = refl

or_false : (b : Bool) → (b || false) ≡ b
or_false true = refl
or_false false = refl

started_more : (items : List Item) (here : Item) → list_any is_scenario (items ++ here ∷ []) ≡ started_with (list_any is_scenario items) here
started_more items (item.Scenario version) = list_any-append is_scenario items (item.Scenario version ∷ []) ∙ or_true (list_any is_scenario items)
started_more items other = list_any-append is_scenario items (other ∷ []) ∙ or_false (list_any is_scenario items)

database_more : (items : List Item) → IsSound items → (here : Item) → list_any (is_repeated here) items ≡ false
    → slice_get (flat_map database_in (items ++ here ∷ [])) 0 ≡ database_with (slice_get (flat_map database_in items) 0) here
database_more items sound (item.Database file) once =
    ap (λ xs. slice_get xs 0) (more_first database_in items (item.Database file) (unsaid (is_repeated (item.Database file)) database_in (database_told file) items sound once))
database_more items sound other once = ap (λ xs. slice_get xs 0) (more_none database_in items other refl)

nodes_more : (items : List Item) (here : Item) → nodes_of (items ++ here ∷ []) ≡ nodes_with (nodes_of items) here
nodes_more items (item.Node node) = flat_map-append node_in items (item.Node node ∷ [])
nodes_more items other = more_none node_in items other refl

bit_more : (items : List Item) → IsSound items → (here : Item) → list_any (is_repeated here) items ≡ false
    → slice_get (flat_map bit_in (items ++ here ∷ [])) 0 ≡ bit_with (slice_get (flat_map bit_in items) 0) here
bit_more items sound (item.Bitrate value) once =
    ap (λ xs. slice_get xs 0) (more_first bit_in items (item.Bitrate value) (unsaid (is_repeated (item.Bitrate value)) bit_in (bit_told value) items sound once)) ∙ first_of_option value
bit_more items sound other once = ap (λ xs. slice_get xs 0) (more_none bit_in items other refl)

until_more : (items : List Item) → IsSound items → (here : Item) → list_any (is_repeated here) items ≡ false
    → slice_get (flat_map until_in (items ++ here ∷ [])) 0 ≡ until_with (slice_get (flat_map until_in items) 0) here
until_more items sound (item.Until value) once =
    ap (λ xs. slice_get xs 0) (more_first until_in items (item.Until value) (unsaid (is_repeated (item.Until value)) until_in (until_told value) items sound once)) ∙ first_of_option value
until_more items sound other once = ap (λ xs. slice_get xs 0) (more_none until_in items other refl)

turns_more : (items : List Item) → IsSound items → (here : Item) → list_any (is_repeated here) items ≡ false
    → slice_get (flat_map turns_in (items ++ here ∷ [])) 0 ≡ turns_with (slice_get (flat_map turns_in items) 0) here
turns_more items sound (item.Turns value) once =
    ap (λ xs. slice_get xs 0) (more_first turns_in items (item.Turns value) (unsaid (is_repeated (item.Turns value)) turns_in (turns_told value) items sound once)) ∙ first_of_option value
turns_more items sound other once = ap (λ xs. slice_get xs 0) (more_none turns_in items other refl)

epoch_more : (items : List Item) → IsSound items → (here : Item) → list_any (is_repeated here) items ≡ false
    → slice_get (flat_map epoch_in (items ++ here ∷ [])) 0 ≡ epoch_with (slice_get (flat_map epoch_in items) 0) here
epoch_more items sound (item.Epoch value) once =
    ap (λ xs. slice_get xs 0) (more_first epoch_in items (item.Epoch value) (unsaid (is_repeated (item.Epoch value)) epoch_in (epoch_told value) items sound once)) ∙ first_of_option value
epoch_more items sound other once = ap (λ xs. slice_get xs 0) (more_none epoch_in items other refl)

interface_more : (items : List Item) → IsSound items → (here : Item) → list_any (is_repeated here) items ≡ false
    → slice_get (flat_map interface_in (items ++ here ∷ [])) 0 ≡ interface_with (slice_get (flat_map interface_in items) 0) here
interface_more items sound (item.Interface name) once =
    ap (λ xs. slice_get xs 0) (more_first interface_in items (item.Interface name) (unsaid (is_repeated (item.Interface name)) interface_in (interface_told name) items sound once))
interface_more items sound other once = ap (λ xs. slice_get xs 0) (more_none interface_in items other refl)

picks_more : (items : List Item) (here : Item) → flat_map picks_in (items ++ here ∷ []) ≡ picks_with (flat_map picks_in items) here
picks_more items (item.Picks (Some picks)) =
    flat_map-append picks_in items (item.Picks (Some picks) ∷ []) ∙ ap (λ more. flat_map picks_in items ++ more) (append-nil picks)
picks_more items (item.Picks None) = more_none picks_in items (item.Picks None) refl
picks_more items other = more_none picks_in items other refl

keys_more : (items : List Item) (here : Item) → flat_map key_in (items ++ here ∷ []) ≡ keys_with (flat_map key_in items) here
keys_more items (item.Key (Some key)) = flat_map-append key_in items (item.Key (Some key) ∷ [])
keys_more items (item.Key None) = more_none key_in items (item.Key None) refl
keys_more items other = more_none key_in items other refl

replay_more : (items : List Item) → IsSound items → (here : Item) → list_any (is_repeated here) items ≡ false
    → slice_get (flat_map replay_in (items ++ here ∷ [])) 0 ≡ replay_with (slice_get (flat_map replay_in items) 0) here
replay_more items sound (item.Replay file) once =
    ap (λ xs. slice_get xs 0) (more_first replay_in items (item.Replay file) (unsaid (is_repeated (item.Replay file)) replay_in (replay_told file) items sound once))
replay_more items sound other once = ap (λ xs. slice_get xs 0) (more_none replay_in items other refl)

-- an item that breaks no rule keeps S01 and S03, and the rules of its kind
pub rules_kept : (items : List Item) (here : Item) → rule_of_item items here ≡ None
    → (breaks_S01 items here ≡ false) × (list_any (is_repeated here) items ≡ false) × (rule_by_kind (nodes_of items) here ≡ None)
rules_kept items here none = none_told (breaks_S01 items here) (list_any (is_repeated here) items) 1 3 (rule_by_kind (nodes_of items) here) none

-- what items and one more say, where that one breaks no rule
pub said_more : (items : List Item) → IsSound items → (here : Item) → rule_of_item items here ≡ None
    → said_by (items ++ here ∷ []) ≡ with_item (said_by items) here
said_more items sound here none =
    let once = (rules_kept items here none).1 in
    λ i.
    record {
      is_started = started_more items here i;
      database = database_more items sound here once i;
      nodes = nodes_more items here i;
      bit = bit_more items sound here once i;
      until = until_more items sound here once i;
      turns = turns_more items sound here once i;
      epoch = epoch_more items sound here once i;
      interface = interface_more items sound here once i;
      picks = picks_more items here i;
      keys = keys_more items here i;
      replay = replay_more items sound here once i;
    }

valued_here : (nodes : List NodeItem) (here : Item) → rule_by_kind nodes here ≡ None → has_value here ≡ true
valued_here nodes (item.Bitrate None) none = absurd (cc)
valued_here nodes (item.Bitrate (Some value)) none = refl
valued_here nodes (item.Until None) none = absurd (cc)
valued_here nodes (item.Until (Some value)) none = refl
valued_here nodes (item.Turns None) none = absurd (cc)
valued_here nodes (item.Turns (Some value)) none = refl
valued_here nodes (item.Epoch None) none = absurd (cc)
valued_here nodes (item.Epoch (Some value)) none = refl
valued_here nodes _ none = refl

all_more : (items : List Item) (here : Item) → All (λ i. has_value i ≡ true) items → has_value here ≡ true → All (λ i. has_value i ≡ true) (items ++ here ∷ [])
all_more [] here all last = All-cons (λ i. has_value i ≡ true) here [] last (All-nil (λ i. has_value i ≡ true))
all_more (first ∷ items) here all last =
    All-cons (λ i. has_value i ≡ true) first (items ++ here ∷ []) (All-head (λ i. has_value i ≡ true) first items all)
    (all_more items here (All-tail (λ i. has_value i ≡ true) first items all) last)

begins_here : (here : Item) → breaks_S01 [] here ≡ false → true ≡ list_any is_scenario (here ∷ [])
begins_here (item.Scenario version) right = refl
begins_here _ right = absurd (false≢true (sym right))

started_stays : (started : Bool) (here : Item) → true ≡ started → true ≡ started_with started here
started_stays started (item.Scenario version) is = refl
started_stays started _ is = is

begun_more : (items : List Item) (here : Item) → is_some (slice_get items 0) ≡ list_any is_scenario items → breaks_S01 items here ≡ false
    → is_some (slice_get (items ++ here ∷ []) 0) ≡ list_any is_scenario (items ++ here ∷ [])
begun_more [] here begun right = begins_here here right
begun_more (first ∷ items) here begun right = started_stays (list_any is_scenario (first ∷ items)) here begun ∙ sym (started_more (first ∷ items) here)

-- items stay sound with one that breaks no rule
pub sound_more : (items : List Item) → IsSound items → (here : Item) → rule_of_item items here ≡ None → IsSound (items ++ here ∷ [])
sound_more items sound here none =
    let kept = rules_kept items here none in
    record {
      valued = all_more items here sound.valued (valued_here (nodes_of items) here kept.2);
      begun = begun_more items here sound.begun kept.0;
    }
