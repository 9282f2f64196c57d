-- A scenario has at most 64 nodes.
use Rattle.std.proofs.Common.{◌≡◌, ◌≤◌, ◌+◌, ◌==◌, ◌||◌, ℕ, zero, suc, Bool, true, false, not, List, [], ◌∷◌, ◌++◌, length, take, get_or, Option, Some, None, refl, sym, ap, subst, ◌∙◌, arith, add-one, length-append}
use Rattle.std.specs.Prelude.{if◌then◌else◌, codes}
use Rattle.std.specs.List.{list_any}
use Rattle.std.specs.Str.{bytes_eq}
use Rattle.std.specs.Str.Lines.{lines}
use Rattle.std.proofs.lemmas.Bool.Decides.{nat_tests}
use Rattle.std.proofs.lemmas.Grind.{flat_map-append}
use Rattle.std.proofs.lemmas.List.{take_all, take_more}
use Rattle.scenario.specs.Item.{fields_of, is_passed_over, item_of, item_of_one, item_of_picks, item_of_two, item_of_values, items_in, items_of, is_file_name, is_node_name}
use Rattle.scenario.specs.Rule.{AreRightBefore, breaks_S01, is_repeated, node_in, nodes_of, rule_by_kind, rule_of_item, rule_of_node}
use Rattle.scenario.specs.Scenario.{IsScenario}
use Rattle.scenario.specs.declared.scenario.NodeItem.{NodeItem}
use Rattle.scenario.specs.declared.scenario.Scenario.{Scenario}

-- ---- rules

-- where an item breaks no rule, neither test holds, and it breaks no other
others_kept : (first second : Bool) (one two : ℕ) (other : Option ℕ) → (if first then Some one else if second then Some two else other) ≡ None → other ≡ None
others_kept true second one two other none = absurd (cc)
others_kept false true one two other none = absurd (cc)
others_kept false false one two other none = none

-- a node that breaks no rule is not the 65th
second_kept : (first second : Bool) (one two : ℕ) (other : Option ℕ) → (if first then Some one else if second then Some two else other) ≡ None → second ≡ false
second_kept true second one two other none = absurd (cc)
second_kept false true one two other none = absurd (cc)
second_kept false false one two other none = refl

-- behind at most 64 nodes, with which no rule on what stands there is broken, there is room for more
abbrev HasRoom : (List NodeItem → Option ℕ) → List NodeItem → Type 0
HasRoom rule more = (before : List NodeItem) → length before ≤ 64 → rule before ≡ None → length before + length more ≤ 64

room_for_none : (rule : List NodeItem → Option ℕ) (more : List NodeItem) → more ≡ [] → HasRoom rule more
room_for_none rule more none before few kept = let sized : length more ≡ 0 = ap length none in omega arith

room_for_one : (node : NodeItem) → HasRoom (λ before. rule_of_node before node) (node ∷ [])
room_for_one node before few none =
    let kept : (length before == 64) ≡ false =
    second_kept (not (is_node_name node.name) || list_any (λ other. bytes_eq node.name other.name) before) (length before == 64) 4 5 (if is_file_name node.file then None else Some 10) none in
    grind (arith, nat_tests)

either : {X : Type 0} (P : X → Type 0) (b : Bool) (one other : X) → P one → P other → P (if b then one else other)
either P true one other is also = is
either P false one other is also = also

-- ---- items, each of which is a node or none

one_value : (word value : List ℕ) → node_in (item_of_one word value) ≡ []
one_value word value =
    either (λ i. node_in i ≡ []) (bytes_eq word (codes "scenario")) _ _ refl
    (either (λ i. node_in i ≡ []) (bytes_eq word (codes "database")) _ _ refl
    (either (λ i. node_in i ≡ []) (bytes_eq word (codes "bitrate")) _ _ refl
    (either (λ i. node_in i ≡ []) (bytes_eq word (codes "until")) _ _ refl
    (either (λ i. node_in i ≡ []) (bytes_eq word (codes "turns")) _ _ refl
    (either (λ i. node_in i ≡ []) (bytes_eq word (codes "epoch")) _ _ refl
    (either (λ i. node_in i ≡ []) (bytes_eq word (codes "interface")) _ _ refl
    (either (λ i. node_in i ≡ []) (bytes_eq word (codes "replay")) _ _ refl refl)))))))

two_values : (word first second : List ℕ) → HasRoom (λ before. rule_by_kind before (item_of_two word first second)) (node_in (item_of_two word first second))
two_values word first second =
    either (λ i. HasRoom (λ before. rule_by_kind before i) (node_in i)) (bytes_eq word (codes "node")) _ _ (room_for_one (record { name = first; file = second }))
    (room_for_none _ _ (either (λ i. node_in i ≡ []) (bytes_eq word (codes "key")) _ _ refl refl))

some_values : (word : List ℕ) (values : List (List ℕ)) → HasRoom (λ before. rule_by_kind before (item_of_values word values)) (node_in (item_of_values word values))
some_values word [] = room_for_none _ _ refl
some_values word (value ∷ []) = room_for_none _ _ (one_value word value)
some_values word (first ∷ second ∷ []) = two_values word first second
some_values word (first ∷ second ∷ third ∷ values) = room_for_none _ _ refl

picks : (values : List (List ℕ)) → node_in (item_of_picks values) ≡ []
picks [] = refl
picks (value ∷ values) = refl

item_room : (fields : List (List ℕ)) → HasRoom (λ before. rule_by_kind before (item_of fields)) (node_in (item_of fields))
item_room [] = room_for_none _ _ refl
item_room (word ∷ values) =
    either (λ i. HasRoom (λ before. rule_by_kind before i) (node_in i)) (bytes_eq word (codes "picks")) _ _ (room_for_none _ _ (picks values)) (some_values word values)

-- ---- lines

line_more : (before : List (List ℕ)) (passed : Bool) (fields : List (List ℕ)) → length (nodes_of (items_of before)) ≤ 64 →
    (if passed then None else rule_of_item (items_of before) (item_of fields)) ≡ None →
    length (nodes_of (items_of before)) + length (nodes_of (if passed then [] else item_of fields ∷ [])) ≤ 64
line_more before true fields few right = omega arith
line_more before false fields few right =
    let here = item_of fields in
    let kept = others_kept (breaks_S01 (items_of before) here) (list_any (is_repeated here) (items_of before)) 1 3 (rule_by_kind (nodes_of (items_of before)) here) right in
    let more = item_room fields (nodes_of (items_of before)) few kept in
    let alone = length-append (node_in (item_of fields)) [] in
    omega arith

nodes_split : (before : List (List ℕ)) (line : List ℕ) → length (nodes_of (items_of (before ++ line ∷ []))) ≡ length (nodes_of (items_of before)) + length (nodes_of (items_in line))
nodes_split before line =
    let items : items_of (before ++ line ∷ []) ≡ items_of before ++ (items_in line ++ []) = flat_map-append items_in before (line ∷ []) in
    let nodes : nodes_of (items_of before ++ (items_in line ++ [])) ≡ nodes_of (items_of before) ++ (nodes_of (items_in line) ++ nodes_of []) =
    flat_map-append node_in (items_of before) (items_in line ++ []) ∙ ap (λ (rest : List NodeItem). nodes_of (items_of before) ++ rest) (flat_map-append node_in (items_in line) []) in
    ap (λ all. length (nodes_of all)) items ∙ ap length nodes
    ∙ length-append (nodes_of (items_of before)) (nodes_of (items_in line) ++ nodes_of [])
    ∙ ap (λ n. length (nodes_of (items_of before)) + n) (length-append (nodes_of (items_in line)) [] ∙ (omega arith))

few_before : (all : List (List ℕ)) (place : ℕ) → place ≤ length all → AreRightBefore all place → length (nodes_of (items_of (take place all))) ≤ 64
few_before all zero within right = omega arith
few_before all (suc place) within right =
    let few = few_before all place (omega arith) (λ earlier below. right earlier (omega arith)) in
    let line = get_or all place [] in
    let more = line_more (take place all) (is_passed_over line) (fields_of line) few (right place (omega arith)) in
    let split = nodes_split (take place all) line in
    subst (λ (some : List (List ℕ)). length (nodes_of (items_of some)) ≤ 64) (sym (ap (λ n. take n all) (sym (add-one place)) ∙ take_more all place [] (omega arith))) (omega arith)

-- a scenario has at most 64 nodes
pub few_nodes : (text : List ℕ) (scenario : Scenario) → IsScenario text scenario → length scenario.nodes.items ≤ 64
few_nodes text scenario is =
    let few = few_before (lines text) (length (lines text)) (omega arith) is.right in
    subst (λ (nodes : List NodeItem). length nodes ≤ 64) (sym is.said.nodes)
    (subst (λ (some : List (List ℕ)). length (nodes_of (items_of some)) ≤ 64) (take_all (length (lines text)) (lines text) (omega arith)) few)

-- and one at least
pub some_node : (text : List ℕ) (scenario : Scenario) → IsScenario text scenario → 1 ≤ length scenario.nodes.items
some_node text scenario is =
    let some = is.some_node in
    subst (λ (nodes : List NodeItem). 1 ≤ length nodes) (sym is.said.nodes) (omega arith)
