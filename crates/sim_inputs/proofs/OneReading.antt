-- A name leads to one scenario with one program for each node, or has one first blame.
use Rattle.std.proofs.Common.{◌≡◌, ◌≤◌, ◌+◌, ℕ, List, [], ◌∷◌, Option, inl, inr, refl, sym, ap, subst, ◌∙◌, arith}
use Rattle.std.specs.Prelude.{◌⊎◌}
use Rattle.std.specs.List.{flat_map, sum_by}
use Rattle.std.proofs.lemmas.List.Sums.{sum_by-cons}
use Rattle.std.specs.Str.Lines.{lines}
use Rattle.sim_outside.specs.Files.{beside}
use Rattle.texts.specs.declared.blame.Blame.{Blame}
use Rattle.scenario.specs.Item.{items_of}
use Rattle.scenario.specs.Scenario.{IsScenario, key_in}
use Rattle.scenario.specs.declared.scenario.NodeItem.{NodeItem}
use Rattle.scenario.specs.declared.scenario.Scenario.{Scenario}
use Rattle.dbc_reader.specs.declared.message.DbcMessage.{DbcMessage}
use Rattle.capl_tree.specs.Weight.{weight}
use Rattle.capl_tree.specs.declared.file.Program.{Program}
use Rattle.capl_include.proofs.UniqueLemmas.{visit-unique}
use Rattle.capl_include.specs.Expansion.{Contents, Expansion, Outcome, Went, Stopped, IsExpansion, file_limit, nothing_met}
use Rattle.capl_include.specs.declared.expanded.SourceFile.{SourceFile}
use Rattle.capl_meaning.specs.Offences.{offences_of}
use Rattle.capl_meaning.specs.Store.{cells_of_program}
use Rattle.replay_node.specs.declared.replay.Replay.{Replay}
use Rattle.sim_inputs.specs.Accepted.{AreAccepted, AreNodes, IsFirstBlame, IsLastBlame, IsLaterBlame, BaseAt, IsBaseBlame, AreWithin, IsNodesBlame, IsSumBlame, NodeSource, cells_in, weight_in, IsReplayBlame, ScenarioAt, scenario_limit}
use Rattle.source_compiler.specs.Source.{IsProgramBlame, IsSource, IsSourceBlame, AreTreesOf, FilesAt, IsOffenceBlame, IsSizeBlame, most}
use Rattle.sim_inputs.specs.Law.{SayTheSame}
use Rattle.sim_inputs.specs.Inside.Codes.{AreSources}
use Rattle.source_compiler.proofs.FileLemmas.{one_parse_blame, one_program, one_screen_blame, parsed_or_blame, screened_or_blame}
use Rattle.sim_inputs.proofs.KeyLemmas.{one_order}
use Rattle.source_compiler.proofs.OffenceLemmas.{offence_or_none, one_offence_blame}
use Rattle.sim_inputs.proofs.ReplayLemmas.{NotBadToo, OneBadLine, OneReplay, moved_replay, one_replay_at, one_replay_blame, replay_or_blame}
use Rattle.sim_inputs.proofs.TextLemmas.{base_or_blame, one_base, one_base_blame, one_scenario_blame, one_text, scenario_or_blame}

-- ---- the scenario

say_the_same : (text : List ℕ) (scenario other : Scenario) → IsScenario text scenario → IsScenario text other → SayTheSame scenario other
say_the_same text scenario other is also = record {
  database = is.said.database ∙ sym also.said.database;
  nodes = is.said.nodes ∙ sym also.said.nodes;
  bit = is.said.bit ∙ sym also.said.bit;
  until = is.said.until ∙ sym also.said.until;
  turns = is.said.turns ∙ sym also.said.turns;
  epoch = is.said.epoch ∙ sym also.said.epoch;
  interface = is.said.interface ∙ sym also.said.interface;
  picks = is.said.picks ∙ sym also.said.picks;
  keys = one_order (flat_map key_in (items_of (lines text))) scenario.keys.items other.keys.items is.said.keys also.said.keys;
  replay = is.said.replay ∙ sym also.said.replay;
}

one_scenario : (contents : Contents) (name : List ℕ) (scenario other : Scenario) → ScenarioAt contents name scenario → ScenarioAt contents name other → SayTheSame scenario other
one_scenario contents name scenario other at also =
    let same = one_text contents scenario_limit name at.text also.text at.held also.held in
    say_the_same also.text scenario other (subst (λ t. IsScenario t scenario) same at.is) also.is

-- ---- the source of one node

one_outcome : (contents : Contents) (name : List ℕ) (one other : Outcome) → IsExpansion contents name one → IsExpansion contents name other → one ≡ other
one_outcome contents name one other is also = visit-unique contents name file_limit name nothing_met one other is also

one_files : (contents : Contents) (name : List ℕ) (files others : List SourceFile) → FilesAt contents name files → FilesAt contents name others → files ≡ others
one_files contents name files others (end, went, is) (end_too, went_too, also) =
    let same = one_outcome contents name (Went end) (Went end_too) went went_too in
    let ends : end ≡ end_too = cc in
    is ∙ ap (λ (e : Expansion). e.files) ends ∙ sym also

files_or_blame : (contents : Contents) (name : List ℕ) (files : List SourceFile) (blame : Blame) → FilesAt contents name files → IsExpansion contents name (Stopped blame) → ⊥
files_or_blame contents name files blame (end, went, is) stopped =
    let same = one_outcome contents name (Went end) (Stopped blame) went stopped in cc

one_files_blame : (contents : Contents) (name : List ℕ) (blame other : Blame) → IsExpansion contents name (Stopped blame) → IsExpansion contents name (Stopped other) → blame ≡ other
one_files_blame contents name blame other stopped stopped_too =
    let same = one_outcome contents name (Stopped blame) (Stopped other) stopped stopped_too in cc

-- what is wrong with the program of files that spell it
abbrev IsMeaningBlame : List DbcMessage → List ℕ → List SourceFile → Program → Blame → Type 0
IsMeaningBlame base name files program blame = IsOffenceBlame base files program blame ⊎ IsSizeBlame base name program blame

one_meaning_blame : (base : List DbcMessage) (name : List ℕ) (files : List SourceFile) (program : Program) (blame other : Blame) →
    IsMeaningBlame base name files program blame → IsMeaningBlame base name files program other → blame ≡ other
one_meaning_blame base name files program blame other (inl offence) (inl offence_too) = one_offence_blame base files program blame other offence offence_too
one_meaning_blame base name files program blame other (inl offence) (inr (none, large, is)) = absurd (offence_or_none base files program blame none offence)
one_meaning_blame base name files program blame other (inr (none, large, is)) (inl offence) = absurd (offence_or_none base files program other none offence)
one_meaning_blame base name files program blame other (inr (none, large, is)) (inr (none_too, large_too, also)) = is ∙ sym also

one_program_blame : (base : List DbcMessage) (name : List ℕ) (files : List SourceFile) (blame other : Blame) → IsProgramBlame base name files blame → IsProgramBlame base name files other → blame ≡ other
one_program_blame base name files blame other (inl one) (inl two) = one_screen_blame files blame other one two
one_program_blame base name files blame other (inl one) (inr (inl (right, two))) = absurd (screened_or_blame files blame right one)
one_program_blame base name files blame other (inl one) (inr (inr (right, two))) = absurd (screened_or_blame files blame right one)
one_program_blame base name files blame other (inr (inl (right, one))) (inl two) = absurd (screened_or_blame files other right two)
one_program_blame base name files blame other (inr (inr (right, one))) (inl two) = absurd (screened_or_blame files other right two)
one_program_blame base name files blame other (inr (inl (right, one))) (inr (inl (right_too, two))) = one_parse_blame files blame other one two
one_program_blame base name files blame other (inr (inl (right, one))) (inr (inr (right_too, (program, trees, two)))) = absurd (parsed_or_blame files program blame trees one)
one_program_blame base name files blame other (inr (inr (right, (program, trees, one)))) (inr (inl (right_too, two))) = absurd (parsed_or_blame files program other trees two)
one_program_blame base name files blame other (inr (inr (right, (program, trees, one)))) (inr (inr (right_too, (third, trees_too, two)))) =
    let same = one_program files program third trees trees_too in
    one_meaning_blame base name files third blame other (subst (λ (p : Program). IsMeaningBlame base name files p blame) same one) two

one_source_blame : (contents : Contents) (name : List ℕ) (base : List DbcMessage) (blame other : Blame) → IsSourceBlame contents name base blame → IsSourceBlame contents name base other → blame ≡ other
one_source_blame contents name base blame other (inl one) (inl two) = one_files_blame contents name blame other one two
one_source_blame contents name base blame other (inl one) (inr (files, at, two)) = absurd (files_or_blame contents name files blame at one)
one_source_blame contents name base blame other (inr (files, at, one)) (inl two) = absurd (files_or_blame contents name files other at two)
one_source_blame contents name base blame other (inr (files, at, one)) (inr (others, at_too, two)) =
    let same = one_files contents name files others at at_too in
    one_program_blame base name others blame other (subst (λ (f : List SourceFile). IsProgramBlame base name f blame) same one) two

meaning_or_blame : (base : List DbcMessage) (name : List ℕ) (files : List SourceFile) (program : Program) (blame : Blame) →
    offences_of base program ≡ [] → cells_of_program base program ≤ most → weight program ≤ most → IsMeaningBlame base name files program blame → ⊥
meaning_or_blame base name files program blame none few light (inl offence) = offence_or_none base files program blame none offence
meaning_or_blame base name files program blame none few light (inr (none_too, inl large, is)) = absurd (omega arith)
meaning_or_blame base name files program blame none few light (inr (none_too, inr heavy, is)) = absurd (omega arith)

program_or_blame : (contents : Contents) (name : List ℕ) (base : List DbcMessage) (files : List SourceFile) (program : Program) (blame : Blame) →
    IsSource contents name base files program → IsProgramBlame base name files blame → ⊥
program_or_blame contents name base files program blame source (inl first) = screened_or_blame files blame source.screened first
program_or_blame contents name base files program blame source (inr (inl (right, first))) = parsed_or_blame files program blame source.trees first
program_or_blame contents name base files program blame source (inr (inr (right, (third, trees, first)))) =
    let same = one_program files third program trees source.trees in
    meaning_or_blame base name files program blame source.no_offence source.few_cells source.light
    (subst (λ (p : Program). IsMeaningBlame base name files p blame) same first)

source_or_blame : (contents : Contents) (name : List ℕ) (base : List DbcMessage) (files : List SourceFile) (program : Program) (blame : Blame) →
    IsSource contents name base files program → IsSourceBlame contents name base blame → ⊥
source_or_blame contents name base files program blame source (inl first) = files_or_blame contents name files blame source.files_at first
source_or_blame contents name base files program blame source (inr (others, at, first)) =
    let same = one_files contents name others files at source.files_at in
    program_or_blame contents name base files program blame source (subst (λ (f : List SourceFile). IsProgramBlame base name f blame) same first)

-- a file has one source
one_source : (contents : Contents) (name : List ℕ) (base : List DbcMessage) (source other : NodeSource) →
    IsSource contents name base source.files source.program → IsSource contents name base other.files other.program → source ≡ other
one_source contents name base source other is also =
    let files = one_files contents name source.files other.files is.files_at also.files_at in
    let trees = subst (λ (f : List SourceFile). AreTreesOf f source.program) files is.trees in
    let programs = one_program other.files source.program other.program trees also.trees in
    (λ i. record { files = files i; program = programs i })

-- ---- the sources of all nodes

one_sources : (contents : Contents) (name : List ℕ) (base : List DbcMessage) (nodes : List NodeItem) (sources others : List NodeSource) →
    AreSources contents name base nodes sources → AreSources contents name base nodes others → sources ≡ others
one_sources contents name base [] [] [] are also = refl
one_sources contents name base [] [] (y ∷ others) are also = absurd also
one_sources contents name base [] (x ∷ sources) others are also = absurd are
one_sources contents name base (node ∷ nodes) [] others are also = absurd are
one_sources contents name base (node ∷ nodes) (x ∷ sources) [] are also = absurd also
one_sources contents name base (node ∷ nodes) (x ∷ sources) (y ∷ others) are also =
    let head = one_source contents (beside name node.file) base x y are.0 also.0 in
    let tail = one_sources contents name base nodes sources others are.1 also.1 in
    (λ i. head i ∷ tail i)

-- the blame of a node with a source, or of those behind it
abbrev IsBlameBehind : Contents → List ℕ → List DbcMessage → ℕ → ℕ → NodeItem → List NodeItem → Blame → NodeSource → Type 0
IsBlameBehind contents name base cells weights node nodes blame source =
    IsSumBlame (beside name node.file) (cells + cells_in base source) (weights + weight_in source) blame
    ⊎ (AreWithin (cells + cells_in base source) (weights + weight_in source)
    × IsNodesBlame contents name base (cells + cells_in base source) (weights + weight_in source) nodes blame)

sum_or_within : (name : List ℕ) (cells weights : ℕ) (blame : Blame) → AreWithin cells weights → IsSumBlame name cells weights blame → ⊥
sum_or_within name cells weights blame within (inl many, is) = absurd (omega arith)
sum_or_within name cells weights blame within (inr heavy, is) = absurd (omega arith)

one_nodes_blame : (contents : Contents) (name : List ℕ) (base : List DbcMessage) (cells weights : ℕ) (nodes : List NodeItem) (blame other : Blame) →
    IsNodesBlame contents name base cells weights nodes blame → IsNodesBlame contents name base cells weights nodes other → blame ≡ other
one_nodes_blame contents name base cells weights [] blame other one two = absurd one
one_nodes_blame contents name base cells weights (node ∷ nodes) blame other (inl one) (inl two) = one_source_blame contents (beside name node.file) base blame other one two
one_nodes_blame contents name base cells weights (node ∷ nodes) blame other (inl one) (inr (source, is, two)) =
    absurd (source_or_blame contents (beside name node.file) base source.files source.program blame is one)
one_nodes_blame contents name base cells weights (node ∷ nodes) blame other (inr (source, is, one)) (inl two) =
    absurd (source_or_blame contents (beside name node.file) base source.files source.program other is two)
one_nodes_blame contents name base cells weights (node ∷ nodes) blame other (inr (source, is, one)) (inr (third, also, two)) =
    let same = one_source contents (beside name node.file) base source third is also in
    let moved = subst (λ (s : NodeSource). IsBlameBehind contents name base cells weights node nodes blame s) same one in
    elim moved as (λ _. blame ≡ other) [
      | inl sum ↦ elim two as (λ _. blame ≡ other) [
        | inl sum_too ↦ sum.1 ∙ sym sum_too.1
        | inr (within, later) ↦ absurd (sum_or_within (beside name node.file) _ _ blame within sum)
      ]
      | inr (within, later) ↦ elim two as (λ _. blame ≡ other) [
        | inl sum ↦ absurd (sum_or_within (beside name node.file) _ _ other within sum)
        | inr (within_too, later_too) ↦ one_nodes_blame contents name base (cells + cells_in base third) (weights + weight_in third) nodes blame other later later_too
      ]
    ]

-- sources that fit together have no blame
nodes_or_blame : (contents : Contents) (name : List ℕ) (base : List DbcMessage) (cells weights : ℕ) (nodes : List NodeItem) (sources : List NodeSource) (blame : Blame) →
    AreSources contents name base nodes sources → AreWithin (cells + sum_by (cells_in base) sources) (weights + sum_by weight_in sources) →
    IsNodesBlame contents name base cells weights nodes blame → ⊥
nodes_or_blame contents name base cells weights [] sources blame are fit first = first
nodes_or_blame contents name base cells weights (node ∷ nodes) [] blame are fit first = absurd are
nodes_or_blame contents name base cells weights (node ∷ nodes) (source ∷ sources) blame are fit (inl own) =
    source_or_blame contents (beside name node.file) base source.files source.program blame are.0 own
nodes_or_blame contents name base cells weights (node ∷ nodes) (source ∷ sources) blame are fit (inr (other, is, behind)) =
    let same = one_source contents (beside name node.file) base other source is are.0 in
    let moved = subst (λ (s : NodeSource). IsBlameBehind contents name base cells weights node nodes blame s) same behind in
    let cells_split = sum_by-cons (cells_in base) source sources in
    let weights_split = sum_by-cons weight_in source sources in
    elim moved as (λ _. ⊥) [
      | inl sum ↦ sum_or_within (beside name node.file) (cells + cells_in base source) (weights + weight_in source) blame (omega arith, omega arith) sum
      | inr (within, later) ↦ nodes_or_blame contents name base (cells + cells_in base source) (weights + weight_in source) nodes sources blame are.1 (omega arith, omega arith) later
    ]

all_or_blame : (contents : Contents) (name : List ℕ) (base : List DbcMessage) (scenario : Scenario) (sources : List NodeSource) (blame : Blame) →
    AreNodes contents name base scenario sources → IsNodesBlame contents name base 0 0 scenario.nodes.items blame → ⊥
all_or_blame contents name base scenario sources blame are wrong =
    let fit = are.fit in
    nodes_or_blame contents name base 0 0 scenario.nodes.items sources blame are.sources_at (omega arith, omega arith) wrong

-- ---- all inputs

one_last_blame : OneBadLine → (contents : Contents) (name : List ℕ) (scenario : Scenario) (base : List DbcMessage) (blame other : Blame) →
    IsLastBlame contents name scenario base blame → IsLastBlame contents name scenario base other → blame ≡ other
one_last_blame bad contents name scenario base blame other (inl one) (inl two) = one_nodes_blame contents name base 0 0 scenario.nodes.items blame other one two
one_last_blame bad contents name scenario base blame other (inl one) (inr (sources, are, two)) = absurd (all_or_blame contents name base scenario sources blame are one)
one_last_blame bad contents name scenario base blame other (inr (sources, are, one)) (inl two) = absurd (all_or_blame contents name base scenario sources other are two)
one_last_blame bad contents name scenario base blame other (inr (sources, are, one)) (inr (sources_too, are_too, two)) = one_replay_blame bad contents name scenario.replay blame other one two

one_later_blame : OneBadLine → (contents : Contents) (name : List ℕ) (scenario : Scenario) (blame other : Blame) → IsLaterBlame contents name scenario blame → IsLaterBlame contents name scenario other → blame ≡ other
one_later_blame bad contents name scenario blame other (inl one) (inl two) = one_base_blame contents name scenario.database blame other one two
one_later_blame bad contents name scenario blame other (inl one) (inr (base, at, two)) = absurd (base_or_blame contents name scenario.database base blame at one)
one_later_blame bad contents name scenario blame other (inr (base, at, one)) (inl two) = absurd (base_or_blame contents name scenario.database base other at two)
one_later_blame bad contents name scenario blame other (inr (base, at, one)) (inr (more, at_too, two)) =
    let same = one_base contents name scenario.database base more at at_too in
    one_last_blame bad contents name scenario more blame other (subst (λ (b : List DbcMessage). IsLastBlame contents name scenario b blame) same one) two

moved_nodes : (contents : Contents) (name : List ℕ) (base : List DbcMessage) (scenario other : Scenario) (sources : List NodeSource) → SayTheSame scenario other → AreNodes contents name base scenario sources → AreNodes contents name base other sources
moved_nodes contents name base scenario other sources same are = record {
  sources_at = subst (λ (n : List NodeItem). AreSources contents name base n sources) same.nodes are.sources_at;
  fit = are.fit;
}

moved_last : (contents : Contents) (name : List ℕ) (scenario other : Scenario) (base : List DbcMessage) (blame : Blame) → SayTheSame scenario other → IsLastBlame contents name scenario base blame → IsLastBlame contents name other base blame
moved_last contents name scenario other base blame same (inl nodes) = inl (subst (λ (n : List NodeItem). IsNodesBlame contents name base 0 0 n blame) same.nodes nodes)
moved_last contents name scenario other base blame same (inr (sources, are, log)) =
    inr (sources, moved_nodes contents name base scenario other sources same are, subst (λ (f : Option (List ℕ)). IsReplayBlame contents name f blame) same.replay log)

moved_later : (contents : Contents) (name : List ℕ) (scenario other : Scenario) (blame : Blame) → SayTheSame scenario other → IsLaterBlame contents name scenario blame → IsLaterBlame contents name other blame
moved_later contents name scenario other blame same (inl database) = inl (subst (λ (d : Option (List ℕ)). IsBaseBlame contents name d blame) same.database database)
moved_later contents name scenario other blame same (inr (base, at, last)) =
    inr (base, subst (λ (d : Option (List ℕ)). BaseAt contents name d base) same.database at, moved_last contents name scenario other base blame same last)

-- one blame is the first
pub one_blame : OneBadLine → (contents : Contents) (name : List ℕ) (blame other : Blame) → IsFirstBlame contents name blame → IsFirstBlame contents name other → blame ≡ other
one_blame bad contents name blame other (inl one) (inl two) = one_scenario_blame contents name blame other one two
one_blame bad contents name blame other (inl one) (inr (scenario, at, two)) = absurd (scenario_or_blame contents name scenario blame at one)
one_blame bad contents name blame other (inr (scenario, at, one)) (inl two) = absurd (scenario_or_blame contents name scenario other at two)
one_blame bad contents name blame other (inr (scenario, at, one)) (inr (scenario_too, at_too, two)) =
    one_later_blame bad contents name scenario_too blame other
    (moved_later contents name scenario scenario_too blame (one_scenario contents name scenario scenario_too at at_too) one) two

last_or_accepted : NotBadToo → (contents : Contents) (name : List ℕ) (scenario : Scenario) (base : List DbcMessage) (sources : List NodeSource) (replay : Replay) (blame : Blame) →
    AreAccepted contents name scenario base sources replay → IsLastBlame contents name scenario base blame → ⊥
last_or_accepted good contents name scenario base sources replay blame is (inl nodes) = all_or_blame contents name base scenario sources blame is.nodes_at nodes
last_or_accepted good contents name scenario base sources replay blame is (inr (others, are, log)) = replay_or_blame good contents name scenario replay blame is.replay_at log

later_or_accepted : NotBadToo → (contents : Contents) (name : List ℕ) (scenario : Scenario) (base : List DbcMessage) (sources : List NodeSource) (replay : Replay) (blame : Blame) →
    AreAccepted contents name scenario base sources replay → IsLaterBlame contents name scenario blame → ⊥
later_or_accepted good contents name scenario base sources replay blame is (inl first) = base_or_blame contents name scenario.database base blame is.base_at first
later_or_accepted good contents name scenario base sources replay blame is (inr (more, at, last)) =
    let same = one_base contents name scenario.database more base at is.base_at in
    last_or_accepted good contents name scenario base sources replay blame is (subst (λ (b : List DbcMessage). IsLastBlame contents name scenario b blame) same last)

-- accepted inputs have no blame
pub not_both : NotBadToo → (contents : Contents) (name : List ℕ) (scenario : Scenario) (base : List DbcMessage) (sources : List NodeSource) (replay : Replay) (blame : Blame) →
    AreAccepted contents name scenario base sources replay → IsFirstBlame contents name blame → ⊥
not_both good contents name scenario base sources replay blame is (inl first) = scenario_or_blame contents name scenario blame is.scenario_at first
not_both good contents name scenario base sources replay blame is (inr (other, at, first)) =
    later_or_accepted good contents name scenario base sources replay blame is
    (moved_later contents name other scenario blame (one_scenario contents name other scenario at is.scenario_at) first)

-- accepted inputs are one scenario, with one database, one program of files for each node, and one replay
pub one_accepted : OneReplay → (contents : Contents) (name : List ℕ) (scenario other : Scenario) (base more : List DbcMessage) (sources others : List NodeSource) (replay third : Replay) →
    AreAccepted contents name scenario base sources replay → AreAccepted contents name other more others third →
    SayTheSame scenario other × (base ≡ more) × (sources ≡ others) × (replay ≡ third)
one_accepted one contents name scenario other base more sources others replay third is also =
    let same = one_scenario contents name scenario other is.scenario_at also.scenario_at in
    let bases = one_base contents name other.database base more (subst (λ d. BaseAt contents name d base) same.database is.base_at) also.base_at in
    let nodes = subst (λ (n : List NodeItem). AreSources contents name base n sources) same.nodes is.nodes_at.sources_at in
    let moved = subst (λ (b : List DbcMessage). AreSources contents name b other.nodes.items sources) bases nodes in
    let replays = one_replay_at one contents name other replay third (moved_replay contents name scenario other replay same is.replay_at) also.replay_at in
    (same, bases, one_sources contents name more other.nodes.items sources others moved also.nodes_at.sources_at, replays)
