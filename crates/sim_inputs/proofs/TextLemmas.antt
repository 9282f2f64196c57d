-- A file is one scenario or one database, or has one blame.
use Rattle.std.proofs.Common.{◌≡◌, ◌≢◌, ◌<◌, ◌+◌, ℕ, List, [], length, Option, Some, None, inl, inr, sym, ap, subst, ◌∙◌, arith}
use Rattle.std.proofs.lemmas.Bool.{cases_order}
use Rattle.std.specs.Prelude.{◌⊎◌}
use Rattle.texts.specs.declared.blame.Blame.{Blame}
use Rattle.capl_include.specs.Expansion.{Contents}
use Rattle.dbc_reader.specs.Database.{IsDatabase}
use Rattle.dbc_reader.specs.declared.message.DbcMessage.{DbcMessage}
use Rattle.dbc_reader.specs.declared.refusal.DbcRefusal.TheVariants as database_refusal
use Rattle.dbc_reader.proofs.OneReading.{one_database, no_refusal, one_refusal}
use Rattle.scenario.specs.Item.{items_of}
use Rattle.scenario.specs.Rule.{IsBroken, IsFirstBroken, nodes_of, rule_at}
use Rattle.scenario.specs.Scenario.{IsScenario}
use Rattle.scenario.specs.declared.scenario.Scenario.{Scenario}
use Rattle.std.specs.Str.Lines.{lines}
use Rattle.sim_inputs.specs.Accepted.{Holds, IsFileBlame, statement_rule, twice_rule, BaseAt, IsBaseBlame, IsDatabaseBlame, IsStatementBlame, database_limit, IsLineBlame, IsScenarioBlame, ScenarioAt, scenario_limit}
use Rattle.input_refusals.specs.Blame.{line_blame}

-- ---- files

-- a name holds one text
pub one_text : (contents : Contents) (limit : ℕ) (name text other : List ℕ) → Holds contents limit name text → Holds contents limit name other → text ≡ other
one_text contents limit name text other is also = let same : Some text ≡ Some other = sym is.0 ∙ also.0 in cc

-- a file that is held is not to blame
pub held_or_blamed : (contents : Contents) (limit : ℕ) (name text : List ℕ) (blame : Blame) → Holds contents limit name text → IsFileBlame contents limit name blame → ⊥
held_or_blamed contents limit name text blame is (inl (missing, also)) = let none : Some text ≡ None = sym is.0 ∙ missing in cc
held_or_blamed contents limit name text blame is (inr (other, held, long, also)) =
    let some : Some text ≡ Some other = sym is.0 ∙ held in
    let same : text ≡ other = cc in
    let sized : length text ≡ length other = ap length same in
    let short = is.1 in
    absurd (omega arith)

-- a file has one blame
pub one_file_blame : (contents : Contents) (limit : ℕ) (name : List ℕ) (blame other : Blame) → IsFileBlame contents limit name blame → IsFileBlame contents limit name other → blame ≡ other
one_file_blame contents limit name blame other (inl (missing, is)) (inl (missing_too, also)) = is ∙ sym also
one_file_blame contents limit name blame other (inl (missing, is)) (inr (text, held, long, also)) = let none : Some text ≡ None = sym held ∙ missing in absurd cc
one_file_blame contents limit name blame other (inr (text, held, long, is)) (inl (missing, also)) = let none : Some text ≡ None = sym held ∙ missing in absurd cc
one_file_blame contents limit name blame other (inr (text, held, long, is)) (inr (text_too, held_too, long_too, also)) = is ∙ sym also

-- ---- scenarios

first_at : (lines : List (List ℕ)) (line rule other third : ℕ) → (one : IsFirstBroken lines line rule) (two : IsFirstBroken lines other third) →
    (one.place ≡ two.place) ⊎ ((one.place < two.place) ⊎ (two.place < one.place)) → (line ≡ other) × (rule ≡ third)
first_at lines line rule other third one two (inl same) = (
  one.number ∙ ap (λ n. n + 1) same ∙ sym two.number,
  let both : Some rule ≡ Some third = sym one.broken ∙ ap (rule_at lines) same ∙ two.broken in cc,
)
first_at lines line rule other third one two (inr (inl before)) =
    let none : Some rule ≡ None = sym one.broken ∙ two.right_before one.place before in absurd cc
first_at lines line rule other third one two (inr (inr before)) =
    let none : Some third ≡ None = sym two.broken ∙ one.right_before two.place before in absurd cc

one_first : (lines : List (List ℕ)) (line rule other third : ℕ) → IsFirstBroken lines line rule → IsFirstBroken lines other third → (line ≡ other) × (rule ≡ third)
one_first lines line rule other third one two = first_at lines line rule other third one two (cases_order one.place two.place)

first_or_right : (lines : List (List ℕ)) (line rule : ℕ) → IsFirstBroken lines line rule → ((earlier : ℕ) → earlier < length lines → rule_at lines earlier ≡ None) → ⊥
first_or_right lines line rule one right = let none : Some rule ≡ None = sym one.broken ∙ right one.place one.within in cc

one_broken : (lines : List (List ℕ)) (line rule other third : ℕ) → IsBroken lines line rule → IsBroken lines other third → (line ≡ other) × (rule ≡ third)
one_broken lines line rule other third (inl one) (inl two) = one_first lines line rule other third one two
one_broken lines line rule other third (inl one) (inr (inl two)) = absurd (first_or_right lines line rule one two.right)
one_broken lines line rule other third (inl one) (inr (inr two)) = absurd (first_or_right lines line rule one two.right)
one_broken lines line rule other third (inr (inl one)) (inl two) = absurd (first_or_right lines other third two one.right)
one_broken lines line rule other third (inr (inr one)) (inl two) = absurd (first_or_right lines other third two one.right)
one_broken lines line rule other third (inr (inl one)) (inr (inl two)) = (one.number ∙ sym two.number, one.broken ∙ sym two.broken)
one_broken lines line rule other third (inr (inl one)) (inr (inr two)) = absurd (two.some_item one.no_item)
one_broken lines line rule other third (inr (inr one)) (inr (inl two)) = absurd (one.some_item two.no_item)
one_broken lines line rule other third (inr (inr one)) (inr (inr two)) = (one.number ∙ sym two.number, one.broken ∙ sym two.broken)

scenario_or_broken : (text : List ℕ) (scenario : Scenario) (line rule : ℕ) → IsScenario text scenario → IsBroken (lines text) line rule → ⊥
scenario_or_broken text scenario line rule is (inl one) = first_or_right (lines text) line rule one is.right
scenario_or_broken text scenario line rule is (inr (inl one)) =
    let none : length (nodes_of (items_of (lines text))) ≡ length (nodes_of []) = ap (λ items. length (nodes_of items)) one.no_item in
    let some = is.some_node in
    absurd (omega arith)
scenario_or_broken text scenario line rule is (inr (inr one)) =
    let none : length (nodes_of (items_of (lines text))) ≡ 0 = ap length one.no_node in
    let some = is.some_node in
    absurd (omega arith)

-- a text that is a scenario breaks no line's rule
pub scenario_or_line : (text name : List ℕ) (scenario : Scenario) (blame : Blame) → IsScenario text scenario → IsLineBlame text name blame → ⊥
scenario_or_line text name scenario blame is (line, rule, refused, also) = scenario_or_broken text scenario line rule.number is refused.1

one_line_blame : (text name : List ℕ) (blame other : Blame) → IsLineBlame text name blame → IsLineBlame text name other → blame ≡ other
one_line_blame text name blame other (line, rule, refused, is) (line_too, rule_too, refused_too, also) =
    let same = one_broken (lines text) line rule.number line_too rule_too.number refused.1 refused_too.1 in
    let groups : rule.group ≡ rule_too.group = refused.0 ∙ sym refused_too.0 in
    let rules : rule ≡ rule_too = λ i. record { group = groups i; number = same.1 i } in
    is ∙ (λ i. line_blame name (same.0 i) (rules i)) ∙ sym also

-- a name that stands for a scenario has no blame
pub scenario_or_blame : (contents : Contents) (name : List ℕ) (scenario : Scenario) (blame : Blame) → ScenarioAt contents name scenario → IsScenarioBlame contents name blame → ⊥
scenario_or_blame contents name scenario blame at (inl file) = held_or_blamed contents scenario_limit name at.text blame at.held file
scenario_or_blame contents name scenario blame at (inr (text, held, line)) =
    let same = one_text contents scenario_limit name at.text text at.held held in
    scenario_or_line text name scenario blame (subst (λ t. IsScenario t scenario) same at.is) line

-- the scenario of a name has one blame
pub one_scenario_blame : (contents : Contents) (name : List ℕ) (blame other : Blame) → IsScenarioBlame contents name blame → IsScenarioBlame contents name other → blame ≡ other
one_scenario_blame contents name blame other (inl file) (inl file_too) = one_file_blame contents scenario_limit name blame other file file_too
one_scenario_blame contents name blame other (inl file) (inr (text, held, is)) = absurd (held_or_blamed contents scenario_limit name text blame held file)
one_scenario_blame contents name blame other (inr (text, held, is)) (inl file) = absurd (held_or_blamed contents scenario_limit name text other held file)
one_scenario_blame contents name blame other (inr (text, held, is)) (inr (text_too, held_too, also)) =
    let same = one_text contents scenario_limit name text text_too held held_too in
    one_line_blame text_too name blame other (subst (λ t. IsLineBlame t name blame) same is) also

-- ---- databases

-- a name stands for one database
pub one_base : (contents : Contents) (name : List ℕ) (database : Option (List ℕ)) (base other : List DbcMessage) → BaseAt contents name database base → BaseAt contents name database other → base ≡ other
one_base contents name None base other is also = is ∙ sym also
one_base contents name (Some file) base other (text, held, is) (text_too, held_too, also) =
    let same = one_text contents database_limit _ text text_too held held_too in
    one_database text_too base other (subst (λ t. IsDatabase t base) same is) also

database_or_statement : (text name : List ℕ) (base : List DbcMessage) (blame : Blame) → IsDatabase text base → IsStatementBlame text name blame → ⊥
database_or_statement text name base blame is (inl (line, refused, also)) =
    let none = no_refusal text base (database_refusal.Text line) is refused in cc
database_or_statement text name base blame is (inr (line, refused, also)) =
    let none = no_refusal text base (database_refusal.Twice line) is refused in cc

-- a name that stands for a database has no blame
pub base_or_blame : (contents : Contents) (name : List ℕ) (database : Option (List ℕ)) (base : List DbcMessage) (blame : Blame) → BaseAt contents name database base → IsBaseBlame contents name database blame → ⊥
base_or_blame contents name None base blame at first = first
base_or_blame contents name (Some file) base blame (text, held, is) (inl first) = held_or_blamed contents database_limit _ text blame held first
base_or_blame contents name (Some file) base blame (text, held, is) (inr (text_too, held_too, first)) =
    let same = one_text contents database_limit _ text text_too held held_too in
    database_or_statement text_too _ base blame (subst (λ t. IsDatabase t base) same is) first

text_is_some : (line : ℕ) → database_refusal.Text line ≢ database_refusal.NoMemory
text_is_some line is = cc

twice_is_some : (line : ℕ) → database_refusal.Twice line ≢ database_refusal.NoMemory
twice_is_some line is = cc

one_statement : (text name : List ℕ) (blame other : Blame) → IsStatementBlame text name blame → IsStatementBlame text name other → blame ≡ other
one_statement text name blame other (inl (line, refused, is)) (inl (line_too, refused_too, also)) =
    let same = one_refusal text (database_refusal.Text line) (database_refusal.Text line_too) refused refused_too (text_is_some line) (text_is_some line_too) in
    let lined : line ≡ line_too = cc in
    is ∙ ap (λ n. line_blame name n statement_rule) lined ∙ sym also
one_statement text name blame other (inl (line, refused, is)) (inr (line_too, refused_too, also)) =
    let same = one_refusal text (database_refusal.Text line) (database_refusal.Twice line_too) refused refused_too (text_is_some line) (twice_is_some line_too) in absurd cc
one_statement text name blame other (inr (line, refused, is)) (inl (line_too, refused_too, also)) =
    let same = one_refusal text (database_refusal.Twice line) (database_refusal.Text line_too) refused refused_too (twice_is_some line) (text_is_some line_too) in absurd cc
one_statement text name blame other (inr (line, refused, is)) (inr (line_too, refused_too, also)) =
    let same = one_refusal text (database_refusal.Twice line) (database_refusal.Twice line_too) refused refused_too (twice_is_some line) (twice_is_some line_too) in
    let lined : line ≡ line_too = cc in
    is ∙ ap (λ n. line_blame name n twice_rule) lined ∙ sym also

one_database_blame : (contents : Contents) (name : List ℕ) (blame other : Blame) → IsDatabaseBlame contents name blame → IsDatabaseBlame contents name other → blame ≡ other
one_database_blame contents name blame other (inl file) (inl file_too) = one_file_blame contents database_limit name blame other file file_too
one_database_blame contents name blame other (inl file) (inr (text, held, is)) = absurd (held_or_blamed contents database_limit name text blame held file)
one_database_blame contents name blame other (inr (text, held, is)) (inl file) = absurd (held_or_blamed contents database_limit name text other held file)
one_database_blame contents name blame other (inr (text, held, is)) (inr (text_too, held_too, also)) =
    let same = one_text contents database_limit name text text_too held held_too in
    one_statement text_too name blame other (subst (λ t. IsStatementBlame t name blame) same is) also

-- the database of a name has one blame
pub one_base_blame : (contents : Contents) (name : List ℕ) (database : Option (List ℕ)) (blame other : Blame) → IsBaseBlame contents name database blame → IsBaseBlame contents name database other → blame ≡ other
one_base_blame contents name None blame other first also = absurd first
one_base_blame contents name (Some file) blame other first also = one_database_blame contents _ blame other first also
