-- The interface of a scenario is one, since no line breaks the rule on interfaces.
use Rattle.std.proofs.Common.{◌≡◌, ◌<◌, ℕ, suc, Bool, true, false, List, [], ◌∷◌, length, take, refl, sym, subst, arith}
use Rattle.std.specs.Prelude.{All, None, Some, codes, if◌then◌else◌, slice_get, slice_index_or, unwrap_or}
use Rattle.std.specs.List.{flat_map}
use Rattle.std.specs.Str.Lines.{lines}
use Rattle.std.proofs.lemmas.List.Elements.{All-append, All-cons, All-head, All-nil, All-tail}
use Rattle.scenario.specs.Item.{fields_of, is_passed_over, item_of, items_in, items_of, is_interface}
use Rattle.scenario.specs.Rule.{nodes_of, rule_by_kind, rule_of_item, rule_of_line}
use Rattle.scenario.specs.Scenario.{IsScenario, interface_in}
use Rattle.scenario.specs.declared.item.Item.{Item}
use Rattle.scenario.specs.declared.item.Item.TheVariants as item
use Rattle.scenario.specs.declared.scenario.Scenario.{Scenario}
use Rattle.scenario.specs.declared.scenario.NodeItem.{NodeItem}
use Rattle.scenario.proofs.SaidLemmas.{rules_kept}

-- ---- no line breaks the rule

-- it is one
abbrev IsOne : List ℕ → Type 0
IsOne name = is_interface name ≡ true

-- the interface of an item is one
abbrev IsKept : Item → Type 0
IsKept here = All IsOne (interface_in here)

kept : (b : Bool) (rule : ℕ) → (if b then None else Some rule) ≡ None → b ≡ true
kept true rule none = refl
kept false rule none = absurd (cc)

item_kept : (nodes : List NodeItem) (here : Item) → rule_by_kind nodes here ≡ None → IsKept here
item_kept nodes (item.Interface name) none = All-cons IsOne name [] (kept (is_interface name) 10 none) (All-nil _)
item_kept nodes _ none = All-nil _

line_kept : (before : List (List ℕ)) (line : List ℕ) → rule_of_line before line ≡ None → All IsKept (items_in line)
line_kept before line = go (is_passed_over line) (item_of (fields_of line))
  where
    go : (passed : Bool) (here : Item) → (if passed then None else rule_of_item (items_of before) here) ≡ None → All IsKept (if passed then [] else here ∷ [])
    go true here none = All-nil _
    go false here none =
        All-cons IsKept here [] (item_kept (nodes_of (items_of before)) here (rules_kept (items_of before) here none).2) (All-nil _)

lines_kept : (all : List (List ℕ)) → ((k : ℕ) → k < length all → (before : List (List ℕ)) × (rule_of_line before (slice_index_or all k []) ≡ None)) → All IsKept (items_of all)
lines_kept [] right = All-nil _
lines_kept (line ∷ all) right =
    let first = right 0 (omega arith) in
    All-append IsKept (items_in line) (items_of all) (line_kept first.0 line first.1) (lines_kept all (λ k within. right (suc k) (omega (arith, within))))

-- ---- the interface

interfaces : (items : List Item) → All IsKept items → All IsOne (flat_map interface_in items)
interfaces [] all = All-nil _
interfaces (here ∷ items) all =
    All-append IsOne (interface_in here) (flat_map interface_in items) (All-head IsKept here items all) (interfaces items (All-tail IsKept here items all))

first_one : (names : List (List ℕ)) (default : List ℕ) → All IsOne names → IsOne default → IsOne (unwrap_or (slice_get names 0) default)
first_one [] default all holds = holds
first_one (name ∷ names) default all holds = All-head IsOne name names all

-- the interface of a scenario
pub scenario_interface : (text : List ℕ) (scenario : Scenario) → IsScenario text scenario → is_interface scenario.interface ≡ true
scenario_interface text scenario is =
    let all = lines_kept (lines text) (λ k within. (take k (lines text), is.right k within)) in
    subst IsOne (sym is.said.interface) (first_one (flat_map interface_in (items_of (lines text))) (codes "can0") (interfaces (items_of (lines text)) all) refl)
