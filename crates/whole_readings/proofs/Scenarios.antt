-- Each text is a scenario, or breaks a rule.
use Rattle.std.proofs.Common.{◌≡◌, ◌≢◌, ◌<◌, ◌≤◌, ◌+◌, ◌-◌, ◌^◌, ℕ, zero, suc, Bool, true, false, not, cond, List, [], ◌∷◌, length, take, filter, Option, Some, None, unwrap_or, inl, inr, refl, ap, ◌∙◌, arith, le_refl, length-append, flat_map}
use Rattle.std.specs.Prelude.{◌⊎◌, ◌==◌, if◌then◌else◌, codes, slice_get, slice_index}
use Rattle.std.specs.List.{slice_split, onto_first}
use Rattle.std.specs.Option.{option_map, option_and_then, option_to_list}
use Rattle.std.specs.Str.{bytes_eq}
use Rattle.std.specs.Str.Lines.{lines, lines_of_parts, strip_carriage_return}
use Rattle.std.specs.Global.{Vec}
use Rattle.std.proofs.lemmas.Bool.{cases_lt}
use Rattle.std.proofs.lemmas.Bool.Decides.{nat_tests}
use Rattle.std.proofs.lemmas.Grind.{flat_map-append}
use Rattle.std.proofs.lemmas.List.{length-take-le}
use denote.RawPtr.{null_ptr}
use Rattle.texts.specs.declared.blame.Rule.{Rule}
use Rattle.scenario.specs.declared.scenario.Epoch.TheVariants.{At}
use Rattle.scenario.specs.declared.scenario.KeyItem.{KeyItem}
use Rattle.scenario.specs.declared.scenario.Scenario.{Scenario}
use Rattle.scenario.specs.declared.refusal.ScenarioRefusal.TheVariants.{Broken}
use Rattle.scenario.specs.Item.{is_passed_over, is_gap, fields_of, item_of, item_of_one, item_of_two, item_of_picks, item_of_values, items_in, items_of, picks_of, number_of, key_of}
use Rattle.scenario.specs.Rule.{nodes_of, node_in, rule_at, AreRightBefore, IsFirstBroken, IsBroken}
use Rattle.scenario.specs.Scenario.{database_in, bit_in, until_in, turns_in, epoch_in, interface_in, picks_in, key_in, replay_in, IsScenario, IsScenarioRefusal}
use Rattle.whole_readings.proofs.Sorting.{sort_by, sort_same, sort_sorted, sort_stable, sort_long}

-- ---- a list in memory

-- the list of these items, where memory could have them
pub vec_of : {X : Type 0} (xs : List X) → length xs < 2 ^ 63 → Vec X
vec_of xs small =
    record {
      ptr = null_ptr;
      len = length xs;
      cap = length xs;
      alloc = record { memory = record { seal = tt } };
      items = xs;
      ok = (refl, le_refl (length xs));
      small = small;
    }

-- ---- how much a text says

-- the bytes of some lines
abbrev total : List (List ℕ) → ℕ
total [] = 0
total (line ∷ lines) = length line + total lines

onto_total : (byte : ℕ) (parts : List (List ℕ)) → total (onto_first byte parts) ≤ suc (total parts)
onto_total byte [] = omega arith
onto_total byte (part ∷ parts) = omega arith

chosen_total : (told : Bool) (byte : ℕ) (parts : List (List ℕ)) (most : ℕ) → total parts ≤ most → total (cond told ([] ∷ parts) (onto_first byte parts)) ≤ suc most
chosen_total true byte parts most within = omega (arith, within)
chosen_total false byte parts most within = let one = onto_total byte parts in omega (arith, within, one)

split_total : (test : ℕ → Bool) (text : List ℕ) → total (slice_split test text) ≤ length text
split_total test [] = omega arith
split_total test (byte ∷ text) = chosen_total (test byte) byte (slice_split test text) (length text) (split_total test text)

either : {X : Type 0} (P : X → Type 0) (told : Bool) (one other : X) → P one → P other → P (if told then one else other)
either P true one other is also = is
either P false one other is also = also

strip_long : (line : List ℕ) → length (strip_carriage_return line) ≤ length line
strip_long line =
    let short : length (take (length line - 1) line) ≡ length line - 1 = length-take-le (length line - 1) line (omega arith) in
    either (λ l. length l ≤ length line) (slice_index line (length line - 1) == 13) (take (length line - 1) line) line (omega (arith, short)) (omega arith)

lines_total : (parts : List (List ℕ)) → total (lines_of_parts parts) ≤ total parts
lines_total [] = omega arith
lines_total (line ∷ []) = either (λ l. total l ≤ total (line ∷ [])) (length line == 0) [] (line ∷ []) (omega arith) (omega arith)
lines_total (line ∷ next ∷ more) =
    let rest = lines_total (next ∷ more) in let one = strip_long line in omega (arith, rest, one)

text_total : (text : List ℕ) → total (lines text) ≤ length text
text_total text =
    let parts = lines_total (slice_split (λ b. b == 10) text) in let all = split_total (λ b. b == 10) text in omega (arith, parts, all)

filled_long : (parts : List (List ℕ)) → length (filter (λ field. not (length field == 0)) parts) ≤ total parts
filled_long [] = omega arith
filled_long ([] ∷ parts) = let rest = filled_long parts in omega (arith, rest)
filled_long ((byte ∷ part) ∷ parts) =
    let some : (length (byte ∷ part) == 0) ≡ false = grind (arith, nat_tests) in
    let rest = filled_long parts in rw some (omega (arith, rest))

fields_long : (line : List ℕ) → length (fields_of line) ≤ length line
fields_long line =
    let parts = filled_long (slice_split is_gap line) in
    let all = split_total is_gap line in
    either (λ l. length l ≤ length line) _ [] (filter (λ field. not (length field == 0)) (slice_split is_gap line)) (omega arith) (omega (arith, parts, all))

-- an option has one at most
option_long : {X : Type 0} (o : Option X) → length (option_to_list o) ≤ 1
option_long None = omega arith
option_long (Some x) = omega arith

-- ---- what one item adds to the nodes, the keys and the picks

said_by_one : (word value : List ℕ) → length (node_in (item_of_one word value)) + (length (key_in (item_of_one word value)) + length (picks_in (item_of_one word value))) ≤ 1
said_by_one word value =
    either (λ i. length (node_in i) + (length (key_in i) + length (picks_in i)) ≤ 1) (bytes_eq word (codes "scenario")) _ _ (omega arith)
    (either (λ i. length (node_in i) + (length (key_in i) + length (picks_in i)) ≤ 1) (bytes_eq word (codes "database")) _ _ (omega arith)
    (either (λ i. length (node_in i) + (length (key_in i) + length (picks_in i)) ≤ 1) (bytes_eq word (codes "bitrate")) _ _ (omega arith)
    (either (λ i. length (node_in i) + (length (key_in i) + length (picks_in i)) ≤ 1) (bytes_eq word (codes "until")) _ _ (omega arith)
    (either (λ i. length (node_in i) + (length (key_in i) + length (picks_in i)) ≤ 1) (bytes_eq word (codes "turns")) _ _ (omega arith)
    (either (λ i. length (node_in i) + (length (key_in i) + length (picks_in i)) ≤ 1) (bytes_eq word (codes "epoch")) _ _ (omega arith)
    (either (λ i. length (node_in i) + (length (key_in i) + length (picks_in i)) ≤ 1) (bytes_eq word (codes "interface")) _ _ (omega arith)
    (either (λ i. length (node_in i) + (length (key_in i) + length (picks_in i)) ≤ 1) (bytes_eq word (codes "replay")) _ _ (omega arith) (omega arith))))))))

said_by_two : (word first second : List ℕ) → length (node_in (item_of_two word first second)) + (length (key_in (item_of_two word first second)) + length (picks_in (item_of_two word first second))) ≤ 1
said_by_two word first second =
    let key = option_long (key_of first second) in
    either (λ i. length (node_in i) + (length (key_in i) + length (picks_in i)) ≤ 1) (bytes_eq word (codes "node")) _ _ (omega arith)
    (either (λ i. length (node_in i) + (length (key_in i) + length (picks_in i)) ≤ 1) (bytes_eq word (codes "key")) _ _ (omega (arith, key)) (omega arith))

said_by_values : (word : List ℕ) (values : List (List ℕ))
    → length (node_in (item_of_values word values)) + (length (key_in (item_of_values word values)) + length (picks_in (item_of_values word values))) ≤ 1
said_by_values word [] = omega arith
said_by_values word (value ∷ []) = said_by_one word value
said_by_values word (first ∷ second ∷ []) = said_by_two word first second
said_by_values word (first ∷ second ∷ third ∷ values) = omega arith

-- so many picks at most, if there are any
abbrev HasAtMost : ℕ → Option (List ℕ) → Type 0
HasAtMost most None = Unit {0}
HasAtMost most (Some picks) = length picks ≤ most

picks_onto : (pick most : ℕ) (more : Option (List ℕ)) → HasAtMost most more → HasAtMost (suc most) (option_map (λ picks. pick ∷ picks) more)
picks_onto pick most None few = tt
picks_onto pick most (Some picks) few = omega (arith, few)

picks_then : (first : Option ℕ) (most : ℕ) (more : Option (List ℕ)) → HasAtMost most more
    → HasAtMost (suc most) (option_and_then (λ pick. option_map (λ picks. pick ∷ picks) more) first)
picks_then None most more few = tt
picks_then (Some pick) most more few = picks_onto pick most more few

picks_long : (values : List (List ℕ)) → HasAtMost (length values) (picks_of values)
picks_long [] = omega arith
picks_long (value ∷ values) = picks_then (number_of 4294967295 value) (length values) (picks_of values) (picks_long values)

said_by_picks : (values : List (List ℕ)) → length (node_in (item_of_picks values)) + (length (key_in (item_of_picks values)) + length (picks_in (item_of_picks values))) ≤ length values
said_by_picks [] = omega arith
said_by_picks (value ∷ values) = by (picks_of (value ∷ values)) refl (picks_long (value ∷ values))
  where
    by : (picks : Option (List ℕ)) → picks_of (value ∷ values) ≡ picks → HasAtMost (length (value ∷ values)) picks
        → length (node_in (item_of_picks (value ∷ values))) + (length (key_in (item_of_picks (value ∷ values))) + length (picks_in (item_of_picks (value ∷ values)))) ≤ length (value ∷ values)
    by None is few = rw is (omega arith)
    by (Some picks) is few = rw is (omega (arith, few))

said_by_fields : (fields : List (List ℕ)) → length (node_in (item_of fields)) + (length (key_in (item_of fields)) + length (picks_in (item_of fields))) ≤ length fields
said_by_fields [] = omega arith
said_by_fields (word ∷ values) =
    let picked = said_by_picks values in
    let valued = said_by_values word values in
    either (λ i. length (node_in i) + (length (key_in i) + length (picks_in i)) ≤ length (word ∷ values)) (bytes_eq word (codes "picks")) _ _
    (omega (arith, picked)) (omega (arith, valued))

-- ---- what all add

said_by_line : (line : List ℕ) → length (flat_map node_in (items_in line)) + (length (flat_map key_in (items_in line)) + length (flat_map picks_in (items_in line))) ≤ length line
said_by_line line =
    let fields = fields_of line in
    let one = said_by_fields fields in
    let few = fields_long line in
    either (λ l. length (flat_map node_in l) + (length (flat_map key_in l) + length (flat_map picks_in l)) ≤ length line) (is_passed_over line) [] (item_of fields ∷ []) (omega arith)
    (omega (arith, one, few, length-append (node_in (item_of fields)) [], length-append (key_in (item_of fields)) [], length-append (picks_in (item_of fields)) []))

said_by_lines : (all : List (List ℕ)) → length (flat_map node_in (items_of all)) + (length (flat_map key_in (items_of all)) + length (flat_map picks_in (items_of all))) ≤ total all
said_by_lines [] = omega arith
said_by_lines (line ∷ all) =
    let here = items_in line in
    let more = items_of all in
    let one = said_by_line line in
    let rest = said_by_lines all in
    let nodes = ap length (flat_map-append node_in here more) ∙ length-append (flat_map node_in here) (flat_map node_in more) in
    let keys = ap length (flat_map-append key_in here more) ∙ length-append (flat_map key_in here) (flat_map key_in more) in
    let picks = ap length (flat_map-append picks_in here more) ∙ length-append (flat_map picks_in here) (flat_map picks_in more) in
    omega (arith, one, rest, nodes, keys, picks)

-- ---- the scenario

-- a text without a line that breaks a rule, in which there is a node, is a scenario
scenario_of : (text : List ℕ) → length text < 2 ^ 63 → AreRightBefore (lines text) (length (lines text)) → 0 < length (nodes_of (items_of (lines text)))
    → (scenario : Scenario) × IsScenario text scenario
unfolding vec_of
scenario_of text small right some =
    let items = items_of (lines text) in
    let all = said_by_lines (lines text) in
    let few = text_total text in
    let keys = flat_map key_in items in (
      record {
        database = slice_get (flat_map database_in items) 0;
        nodes = vec_of (nodes_of items) (omega (arith, all, few, small));
        bit = unwrap_or (slice_get (flat_map bit_in items) 0) 2;
        until = unwrap_or (slice_get (flat_map until_in items) 0) 10000000;
        turns = unwrap_or (slice_get (flat_map turns_in items) 0) 100000;
        epoch = unwrap_or (slice_get (flat_map epoch_in items) 0) (At 0);
        interface = unwrap_or (slice_get (flat_map interface_in items) 0) (codes "can0");
        picks = vec_of (flat_map picks_in items) (omega (arith, all, few, small));
        keys = vec_of (sort_by (λ (key : KeyItem). key.at) keys) (let long = sort_long (λ (key : KeyItem). key.at) keys in omega (arith, all, few, small, long));
        replay = slice_get (flat_map replay_in items) 0;
      },
      record {
        right = right;
        some_node = some;
        said = record {
          database = refl;
          nodes = refl;
          bit = refl;
          until = refl;
          turns = refl;
          epoch = refl;
          interface = refl;
          picks = refl;
          keys = record {
            same = sort_same (λ (key : KeyItem). key.at) keys;
            by_moment = sort_sorted (λ (key : KeyItem). key.at) keys;
            in_file_order = sort_stable (λ (key : KeyItem). key.at) keys;
          };
          replay = refl;
        };
      },
    )

-- the first of some lines that breaks a rule, or none does
abbrev HasBroken : List (List ℕ) → Type 0
HasBroken all = (line rule : ℕ) × IsFirstBroken all line rule

broken_at : (all : List (List ℕ)) (place : ℕ) (rule : Option ℕ) → place < length all → AreRightBefore all place → rule_at all place ≡ rule
    → HasBroken all ⊎ AreRightBefore all (suc place)
broken_at all place (Some rule) within right is =
    inl (place + 1, rule, record { place = place; number = refl; within = within; right_before = right; broken = is })
broken_at all place None within right is =
    inr (λ earlier before. elim (cases_lt earlier place) [
      | inl low ↦ right earlier low
      | inr at ↦ let same : earlier ≡ place = omega (arith, before, at) in ap (rule_at all) same ∙ is
    ])

first_broken : (all : List (List ℕ)) (place : ℕ) → place ≤ length all → HasBroken all ⊎ AreRightBefore all place
first_broken all zero within = inr (λ earlier before. absurd (omega (arith, before)))
first_broken all (suc place) within =
    elim (first_broken all place (omega (arith, within))) [
      | inl broken ↦ inl broken
      | inr right ↦ broken_at all place (rule_at all place) (omega (arith, within)) right refl
    ]

-- a text is a scenario, or a line breaks a rule
abbrev IsEither : List ℕ → Type 0
IsEither text =
    ((scenario : Scenario) × IsScenario text scenario)
    ⊎ ((line : ℕ) × (rule : Rule) × IsScenarioRefusal text (Broken line rule))

refused : (text : List ℕ) (line rule : ℕ) → IsBroken (lines text) line rule → IsEither text
refused text line rule is = inr (line, record { group = 83; number = rule }, (refl, is))

nothing_said : {X : Type 0} (items : List X) → length items ≡ 0 → items ≡ []
nothing_said [] none = refl
nothing_said (x ∷ xs) none = absurd (omega (arith, none))

something_said : {X : Type 0} (items : List X) → 0 < length items → items ≢ []
something_said items some none = let long = ap length none in omega (arith, some, long)

by_items : (text : List ℕ) → length text < 2 ^ 63 → AreRightBefore (lines text) (length (lines text)) → IsEither text
by_items text small right =
    let all = lines text in
    elim (cases_lt 0 (length (nodes_of (items_of all)))) [
      | inl some ↦ inl (scenario_of text small right some)
      | inr none ↦ elim (cases_lt 0 (length (items_of all))) [
        | inl items ↦ refused text (length all + 1) 12 (inr (inr (record {
          right = right;
          some_item = something_said (items_of all) items;
          no_node = nothing_said (nodes_of (items_of all)) (omega (arith, none));
          number = refl;
          broken = refl;
        })))
        | inr empty ↦ refused text 1 1 (inr (inl (record {
          right = right;
          no_item = nothing_said (items_of all) (omega (arith, empty));
          number = refl;
          broken = refl;
        })))
      ]
    ]

-- each text that memory could hold is a scenario, or a line breaks a rule
pub scenario_or_refusal : (text : List ℕ) → length text < 2 ^ 63 → IsEither text
scenario_or_refusal text small =
    elim (first_broken (lines text) (length (lines text)) (omega arith)) [
      | inl (line, rule, is) ↦ refused text line rule (inl is)
      | inr right ↦ by_items text small right
    ]
