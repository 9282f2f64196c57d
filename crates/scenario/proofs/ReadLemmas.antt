-- How far a text was read, line by line.
use Rattle.std.proofs.Common.{◌≡◌, ◌<◌, ◌≤◌, ◌+◌, ℕ, zero, suc, Bool, true, false, not, ◌||◌, ◌==◌, List, [], ◌∷◌, ◌++◌, length, take, drop, get_or, Some, None, refl, sym, ap, subst, ◌∙◌, arith, inl, inr}
use Rattle.std.specs.Prelude.{if◌then◌else◌, filter, nat_lt, ◌⊎◌, codes}
use Rattle.std.specs.Str.{bytes_eq}
use Rattle.std.specs.Str.Lines.{lines}
use Rattle.std.proofs.lemmas.Bool.{false≢true, cases_lt}
use Rattle.std.proofs.lemmas.Bool.Decides.{nat_tests}
use Rattle.std.proofs.lemmas.Grind.{flat_map-append}
use Rattle.std.proofs.lemmas.List.{append-nil, take_more, take_all}
use Rattle.scenario.specs.declared.item.Item.{Item}
use Rattle.scenario.specs.declared.item.Item.TheVariants as item
use Rattle.scenario.specs.declared.scenario.Scenario.{Scenario}
use Rattle.scenario.specs.Item.{is_passed_over, is_gap, fields_of, item_of, items_in, items_of}
use Rattle.scenario.specs.Rule.{nodes_of, rule_of_item, rule_of_line, rule_at, AreRightBefore, IsFirstBroken, HasNoItem, HasNoNode}
use Rattle.scenario.specs.Scenario.{IsScenario}
use Rattle.scenario.specs.Inside.Draft.{Said, said_by, is_scenario, rule_of_next, with_item, with_line, IsScenarioOf}
use Rattle.scenario.proofs.SaidLemmas.{IsSound, none_first, rule_told, said_more, sound_more}

-- the rest of a text is left, after so many lines that break no rule and say this
pub record Reached (text rest : List ℕ) (place : ℕ) (s : Said) : Type 0 where
  pub left : lines rest ≡ drop place (lines text)
  pub within : place ≤ length (lines text)
  pub right : AreRightBefore (lines text) place
  pub said : s ≡ said_by (items_of (take place (lines text)))
  pub sound : IsSound (items_of (take place (lines text)))

-- nothing was read
pub reached_none : (text : List ℕ) → Reached text text 0 (said_by [])
reached_none text =
    record {
      left = refl;
      within = omega arith;
      right = λ earlier below. absurd (omega (arith, below));
      said = refl;
      sound = record { valued = λ k d below. absurd (omega (arith, below)); begun = refl };
    }

-- the first of what is left of a list
dropped : {X : Type 0} (xs : List X) (k : ℕ) (x d : X) (more : List X) → drop k xs ≡ x ∷ more → (k < length xs) × (get_or xs k d ≡ x) × (drop (suc k) xs ≡ more)
dropped [] zero x d more is = absurd (cc)
dropped [] (suc k) x d more is = absurd (cc)
dropped (y ∷ ys) zero x d more is = (omega arith, cc, cc)
dropped (y ∷ ys) (suc k) x d more is =
    let rest = dropped ys k x d more is in
    (omega (arith, rest.0), rest.1, rest.2)

-- nothing is left
dropped_none : {X : Type 0} (xs : List X) (k : ℕ) → drop k xs ≡ [] → k ≤ length xs → k ≡ length xs
dropped_none [] k is within = omega (arith, within)
dropped_none (x ∷ xs) zero is within = absurd (cc)
dropped_none (x ∷ xs) (suc k) is within = let rest = dropped_none xs k is (omega (arith, within)) in omega (arith, rest)

-- the rule that the next line breaks, by what was said
next_rule : (text rest : List ℕ) (place : ℕ) (s : Said) (line : List ℕ) → Reached text rest place s → get_or (lines text) place [] ≡ line
    → rule_at (lines text) place ≡ rule_of_next s line
next_rule text rest place s line reached is =
    let items = items_of (take place (lines text)) in
    ap (rule_of_line (take place (lines text))) is
    ∙ ap (λ rule. if is_passed_over line then None else rule) (rule_told items reached.sound (item_of (fields_of line)))
    ∙ ap (λ s. rule_of_next s line) (sym reached.said)

-- what one more line says, where it breaks no rule
line_more : (b : Bool) (items : List Item) (here : Item) → IsSound items → (if b then None else rule_of_item items here) ≡ None
    → (said_by (items ++ (if b then [] else here ∷ [])) ≡ (if b then said_by items else with_item (said_by items) here))
    × IsSound (items ++ (if b then [] else here ∷ []))
line_more true items here sound none = (ap said_by (append-nil items), subst IsSound (sym (append-nil items)) sound)
line_more false items here sound none = (said_more items sound here none, sound_more items sound here none)

items_more : (all : List (List ℕ)) (place : ℕ) (line : List ℕ) → place < length all → get_or all place [] ≡ line
    → items_of (take (place + 1) all) ≡ items_of (take place all) ++ items_in line
items_more all place line within is =
    ap items_of (take_more all place [] within) ∙ flat_map-append items_in (take place all) (get_or all place [] ∷ [])
    ∙ ap (λ l. items_of (take place all) ++ (items_in l ++ [])) is ∙ ap (λ more. items_of (take place all) ++ more) (append-nil (items_in line))

-- one more line was read, which breaks no rule
pub reached_more : (text rest behind : List ℕ) (place : ℕ) (s : Said) (line : List ℕ) → Reached text rest place s → lines rest ≡ line ∷ lines behind
    → rule_of_next s line ≡ None → Reached text behind (place + 1) (with_line s line)
reached_more text rest behind place s line reached cut none =
    let all = lines text in
    let items = items_of (take place all) in
    let parts = dropped all place line [] (lines behind) (sym reached.left ∙ cut) in
    let rule : rule_at all place ≡ None = next_rule text rest place s line reached parts.1 ∙ none in
    let behind_items : rule_of_line (take place all) line ≡ None = sym (ap (rule_of_line (take place all)) parts.1) ∙ rule in
    let more = line_more (is_passed_over line) items (item_of (fields_of line)) reached.sound behind_items in
    let read = items_more all place line parts.0 parts.1 in
    let one : suc place ≡ place + 1 = omega arith in
    record {
      left = sym (subst (λ (n : ℕ). drop n all ≡ lines behind) one parts.2);
      within = omega (arith, parts.0);
      right = λ earlier below. elim (cases_lt earlier place) [
        | inl before ↦ reached.right earlier before
        | inr after ↦ let same : earlier ≡ place = omega (arith, below, after) in ap (rule_at all) same ∙ rule
      ];
      said = ap (λ s. with_line s line) reached.said ∙ sym more.0 ∙ ap said_by (sym read);
      sound = subst IsSound (sym read) more.1;
    }

-- the next line breaks a rule
pub reached_broken : (text rest behind : List ℕ) (place : ℕ) (s : Said) (line : List ℕ) (rule : ℕ) → Reached text rest place s → lines rest ≡ line ∷ lines behind
    → rule_of_next s line ≡ Some rule → IsFirstBroken (lines text) (place + 1) rule
reached_broken text rest behind place s line rule reached cut broken =
    let parts = dropped (lines text) place line [] (lines behind) (sym reached.left ∙ cut) in
    record {
      place = place;
      number = refl;
      within = parts.0;
      right_before = reached.right;
      broken = next_rule text rest place s line reached parts.1 ∙ broken;
    }

-- the whole text was read
pub record IsRead (text : List ℕ) (place : ℕ) (s : Said) : Type 0 where
  pub end : place ≡ length (lines text)
  pub right : AreRightBefore (lines text) (length (lines text))
  pub said : s ≡ said_by (items_of (lines text))
  pub sound : IsSound (items_of (lines text))

-- where no text is left, all lines were read
pub reached_end : (text rest : List ℕ) (place : ℕ) (s : Said) → Reached text rest place s → rest ≡ [] → IsRead text place s
reached_end text rest place s reached none =
    let all = lines text in
    let left : drop place all ≡ [] = sym reached.left ∙ ap lines none in
    let end : place ≡ length all = dropped_none all place left reached.within in
    let whole : take place all ≡ all = take_all place all (omega (arith, end)) in
    record {
      end = end;
      right = subst (AreRightBefore all) end reached.right;
      said = reached.said ∙ ap (λ l. said_by (items_of l)) whole;
      sound = subst (λ l. IsSound (items_of l)) whole reached.sound;
    }

-- no item was read
pub no_item : (text : List ℕ) (place : ℕ) (s : Said) → IsRead text place s → s.is_started ≡ false → HasNoItem (lines text) 1 1
no_item text place s read none =
    record {
      right = read.right;
      no_item = none_first (items_of (lines text)) (read.sound.begun ∙ sym (ap (λ (t : Said). t.is_started) read.said) ∙ none);
      number = refl;
      broken = refl;
    }

-- no node was read
pub no_node : (text : List ℕ) (place : ℕ) (s : Said) → IsRead text place s → s.is_started ≡ true → nat_lt 0 (length s.nodes) ≡ false
    → HasNoNode (lines text) (place + 1) 12
no_node text place s read started none =
    record {
      right = read.right;
      some_item = λ empty.
          let lost : s.is_started ≡ false = ap (λ (t : Said). t.is_started) (read.said ∙ ap said_by empty) in
          false≢true (sym lost ∙ started);
      no_node = empty_nodes (nodes_of (items_of (lines text))) (ap (λ (t : Said). nat_lt 0 (length t.nodes)) (sym read.said) ∙ none);
      number = ap (λ n. n + 1) read.end;
      broken = refl;
    }
  where
    empty_nodes : {X : Type 0} (xs : List X) → nat_lt 0 (length xs) ≡ false → xs ≡ []
    empty_nodes [] few = refl
    empty_nodes (x ∷ xs) few = absurd (grind (arith, nat_tests))

-- what was read is a scenario
pub scenario_read : (text : List ℕ) (place : ℕ) (s : Said) (scenario : Scenario) → IsRead text place s → nat_lt 0 (length s.nodes) ≡ true → IsScenarioOf s scenario
    → IsScenario text scenario
scenario_read text place s scenario read some is =
    let said : IsScenarioOf (said_by (items_of (lines text))) scenario = subst (λ (t : Said). IsScenarioOf t scenario) read.said is in
    let nodes : nat_lt 0 (length (nodes_of (items_of (lines text)))) ≡ true = ap (λ (t : Said). nat_lt 0 (length t.nodes)) (sym read.said) ∙ some in
    record {
      right = read.right;
      some_node = grind (arith, nat_tests, nodes);
      said = record {
        database = said.database;
        nodes = said.nodes;
        bit = said.bit;
        until = said.until;
        turns = said.turns;
        epoch = said.epoch;
        interface = said.interface;
        picks = said.picks;
        keys = said.keys;
        replay = said.replay;
      };
    }

same_choice : {X : Type 0} (b : Bool) (x : X) → (if b then x else x) ≡ x
same_choice true x = refl
same_choice false x = refl

-- a line of one byte is no `scenario` item
one_byte : (byte : ℕ) → is_scenario (item_of (fields_of (byte ∷ []))) ≡ false
one_byte byte = by (is_gap byte)
  where
    by : (b : Bool) → is_scenario (item_of (if b || b then [] else filter (λ field. not (length field == 0)) (if b then [] ∷ [] ∷ [] else (byte ∷ []) ∷ []))) ≡ false
    by true = refl
    by false = ap is_scenario (same_choice (bytes_eq (byte ∷ []) (codes "picks")) item.Unknown)

-- a `scenario` item has two bytes at least
pub started_line : (line : List ℕ) (s : Said) → (with_line s line).is_started ≡ true → (s.is_started ≡ true) ⊎ (2 ≤ length line)
started_line [] s started = inl started
started_line (byte ∷ next ∷ line) s started = inr (omega arith)
started_line (byte ∷ []) s started = by (is_passed_over (byte ∷ [])) (item_of (fields_of (byte ∷ []))) (one_byte byte) started
  where
    by : (b : Bool) (here : Item) → is_scenario here ≡ false → (if b then s else with_item s here).is_started ≡ true → (s.is_started ≡ true) ⊎ (2 ≤ length (byte ∷ []))
    by true here other started = inl started
    by false (item.Scenario version) other started = absurd (false≢true (sym other))
    by false _ other started = inl started
