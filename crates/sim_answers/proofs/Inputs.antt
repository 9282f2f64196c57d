-- The inputs of each name are accepted, or have a first blame.
use Rattle.std.proofs.Common.{◌≡◌, ◌+◌, ℕ, List, [], ◌∷◌, ◌++◌, length, Option, Some, None, inl, inr, refl, ap, arith, length-append}
use Rattle.std.specs.Prelude.{◌⊎◌}
use Rattle.std.specs.List.{AllZip, sum_by}
use Rattle.std.proofs.lemmas.Bool.{cases_lt}
use Rattle.std.proofs.lemmas.List.Sums.{sum_by-cons}
use Rattle.sim_outside.specs.Files.{beside}
use Rattle.texts.specs.declared.blame.Blame.{Blame}
use Rattle.texts.specs.declared.blame.Rule.{Rule}
use Rattle.scenario.specs.Scenario.{IsScenario, IsScenarioRefusal}
use Rattle.scenario.specs.declared.refusal.ScenarioRefusal.TheVariants.{Broken}
use Rattle.scenario.specs.declared.scenario.NodeItem.{NodeItem}
use Rattle.scenario.specs.declared.scenario.Scenario.{Scenario}
use Rattle.dbc_reader.specs.Database.{IsDatabase}
use Rattle.dbc_reader.specs.Database.{IsDatabaseRefusal as IsWrongDatabase}
use Rattle.dbc_reader.specs.declared.message.DbcMessage.{DbcMessage}
use Rattle.dbc_reader.specs.declared.refusal.DbcRefusal.TheVariants as refusal
use Rattle.capl_include.specs.Blame.{file_blame, too_long_rule}
use Rattle.capl_include.specs.Expansion.{Contents}
use Rattle.input_refusals.specs.Blame.{line_blame}
use Rattle.replay_node.specs.Replay.{IsBadLine, IsReplay}
use Rattle.replay_node.specs.declared.replay.Replay.{Replay}
use Rattle.sim_inputs.specs.Accepted.{Holds, IsFileBlame, log_rule, missing_rule, statement_rule, too_large_rule, twice_rule, ScenarioAt, IsScenarioBlame, scenario_limit, BaseAt, IsBaseBlame, database_limit, NodeSource, AreWithin, IsNodeSource, IsNodesBlame, cells_in, most_together, weight_in, LogAt, IsReplayBlame, log_limit, AreNodes, AreAccepted, IsLaterBlame, IsFirstBlame}
use Rattle.whole_readings.proofs.Databases.{database_or_refusal}
use Rattle.whole_readings.proofs.Logs.{replay_or_bad_line}
use Rattle.whole_readings.proofs.Scenarios.{scenario_or_refusal}
use Rattle.sim_answers.proofs.Sources.{IsAcceptedOrBlamed, source_or_blame}

-- ---- files

-- the file of a name is held, or to blame
abbrev IsHeldOrBlamed : Contents → ℕ → List ℕ → Type 0
IsHeldOrBlamed contents limit name =
    ((text : List ℕ) × Holds contents limit name text) ⊎ ((blame : Blame) × IsFileBlame contents limit name blame)

held_by : (contents : Contents) (limit : ℕ) (name : List ℕ) (held : Option (List ℕ)) → contents name ≡ held → IsHeldOrBlamed contents limit name
held_by contents limit name None is = inr (file_blame name missing_rule, inl (is, refl))
held_by contents limit name (Some text) is =
    elim (cases_lt limit (length text)) [
      | inl long ↦ inr (file_blame name too_long_rule, inr (text, is, long, refl))
      | inr short ↦ inl (text, (is, short))
    ]

held_or_blamed : (contents : Contents) (limit : ℕ) (name : List ℕ) → IsHeldOrBlamed contents limit name
held_or_blamed contents limit name = held_by contents limit name (contents name) refl

-- ---- the scenario

scenario_by : (contents : Contents) (name text : List ℕ) → Holds contents scenario_limit name text
    → ((scenario : Scenario) × IsScenario text scenario) ⊎ ((line : ℕ) × (rule : Rule) × IsScenarioRefusal text (Broken line rule))
    → ((scenario : Scenario) × ScenarioAt contents name scenario) ⊎ ((blame : Blame) × IsScenarioBlame contents name blame)
scenario_by contents name text held (inl (scenario, is)) = inl (scenario, record { text = text; held = held; is = is })
scenario_by contents name text held (inr (line, rule, is)) = inr (line_blame name line rule, inr (text, held, (line, rule, is, refl)))

scenario_or_blame : (contents : Contents) (name : List ℕ) → ((scenario : Scenario) × ScenarioAt contents name scenario) ⊎ ((blame : Blame) × IsScenarioBlame contents name blame)
scenario_or_blame contents name =
    elim (held_or_blamed contents scenario_limit name) [
      | inl (text, held) ↦ scenario_by contents name text held (scenario_or_refusal text (let short = held.1 in omega (arith, short)))
      | inr (blame, is) ↦ inr (blame, inl is)
    ]

-- ---- the database

-- a database's messages, or its blame
abbrev IsBasedOrBlamed : Contents → List ℕ → Option (List ℕ) → Type 0
IsBasedOrBlamed contents name file = ((base : List DbcMessage) × BaseAt contents name file base) ⊎ ((blame : Blame) × IsBaseBlame contents name file blame)

base_by : (contents : Contents) (name file text : List ℕ) → Holds contents database_limit (beside name file) text
    → ((messages : List DbcMessage) × IsDatabase text messages)
    ⊎ ((line : ℕ) × IsWrongDatabase text (refusal.Text line)) ⊎ ((line : ℕ) × IsWrongDatabase text (refusal.Twice line))
    → IsBasedOrBlamed contents name (Some file)
base_by contents name file text held (inl (messages, is)) = inl (messages, (text, held, is))
base_by contents name file text held (inr (inl (line, is))) = inr (line_blame (beside name file) line statement_rule, inr (text, held, inl (line, is, refl)))
base_by contents name file text held (inr (inr (line, is))) = inr (line_blame (beside name file) line twice_rule, inr (text, held, inr (line, is, refl)))

base_or_blame : (contents : Contents) (name : List ℕ) (file : Option (List ℕ)) → IsBasedOrBlamed contents name file
base_or_blame contents name None = inl ([], refl)
base_or_blame contents name (Some file) =
    elim (held_or_blamed contents database_limit (beside name file)) [
      | inl (text, held) ↦ base_by contents name file text held (database_or_refusal text)
      | inr (blame, is) ↦ inr (blame, inl is)
    ]

-- ---- the nodes

-- the sources of nodes, behind programs that have so many cells and so great a weight together, or their blame
abbrev AreTakenOrBlamed : Contents → List ℕ → List DbcMessage → ℕ → ℕ → List NodeItem → Type 0
AreTakenOrBlamed contents name base cells weights nodes =
    ((sources : List NodeSource) × AllZip (IsNodeSource contents name base) nodes sources
    × AreWithin (cells + sum_by (cells_in base) sources) (weights + sum_by weight_in sources))
    ⊎ ((blame : Blame) × IsNodesBlame contents name base cells weights nodes blame)

module _ (contents : Contents) (name : List ℕ) (base : List DbcMessage) where
  nodes_behind : (cells weights : ℕ) (node : NodeItem) (nodes : List NodeItem) (source : NodeSource) → IsNodeSource contents name base node source
      → AreWithin (cells + cells_in base source) (weights + weight_in source)
      → AreTakenOrBlamed contents name base (cells + cells_in base source) (weights + weight_in source) nodes
      → AreTakenOrBlamed contents name base cells weights (node ∷ nodes)
  nodes_behind cells weights node nodes source is within (inl (sources, are, fit)) =
      let few = fit.0 in
      let light = fit.1 in
      inl (
        source ∷ sources,
        (is, are),
        (omega (arith, few, sum_by-cons (cells_in base) source sources), omega (arith, light, sum_by-cons weight_in source sources)),
      )
  nodes_behind cells weights node nodes source is within (inr (blame, more)) = inr (blame, inr (source, is, inr (within, more)))

  node_by : (cells weights : ℕ) (node : NodeItem) (nodes : List NodeItem) → IsAcceptedOrBlamed contents (beside name node.file) base
      → ((all_cells all_weights : ℕ) → AreWithin all_cells all_weights → AreTakenOrBlamed contents name base all_cells all_weights nodes)
      → AreTakenOrBlamed contents name base cells weights (node ∷ nodes)
  node_by cells weights node nodes (inr (blame, is)) further = inr (blame, inl is)
  node_by cells weights node nodes (inl (files, program, is)) further =
      let source : NodeSource = record { files = files; program = program } in
      elim (cases_lt most_together (cells + cells_in base source)) [
        | inl large ↦ inr (file_blame (beside name node.file) too_large_rule, inr (source, is, inl (inl large, refl)))
        | inr few ↦ elim (cases_lt most_together (weights + weight_in source)) [
          | inl heavy ↦ inr (file_blame (beside name node.file) too_large_rule, inr (source, is, inl (inr heavy, refl)))
          | inr light ↦ nodes_behind cells weights node nodes source is (few, light) (further (cells + cells_in base source) (weights + weight_in source) (few, light))
        ]
      ]

  nodes_by : (cells weights : ℕ) (nodes : List NodeItem) → AreWithin cells weights → AreTakenOrBlamed contents name base cells weights nodes
  nodes_by cells weights [] within =
      let few = within.0 in let light = within.1 in inl ([], tt, (omega (arith, few), omega (arith, light)))
  nodes_by cells weights (node ∷ nodes) within =
      node_by cells weights node nodes (source_or_blame contents (beside name node.file) base)
      (λ all_cells all_weights fit. nodes_by all_cells all_weights nodes fit)

  nodes_or_blame : (scenario : Scenario) → ((sources : List NodeSource) × AreNodes contents name base scenario sources)
      ⊎ ((blame : Blame) × IsNodesBlame contents name base 0 0 scenario.nodes.items blame)
  nodes_or_blame scenario =
      elim (nodes_by 0 0 scenario.nodes.items (omega arith, omega arith)) [
        | inl (sources, are, fit) ↦ inl (sources, record { sources_at = are; fit = (let few = fit.0 in omega (arith, few), let light = fit.1 in omega (arith, light)) })
        | inr blamed ↦ inr blamed
      ]

-- ---- the replay

-- a replay, or its blame
abbrev IsReplayedOrBlamed : Contents → List ℕ → Scenario → Option (List ℕ) → Type 0
IsReplayedOrBlamed contents name scenario file =
    ((log : List ℕ) × (replay : Replay) × LogAt contents name file log × IsReplay log scenario.interface scenario.bit scenario.epoch replay)
    ⊎ ((blame : Blame) × IsReplayBlame contents name file blame)

no_bad_line : (number : ℕ) → IsBadLine [] number → ⊥
no_bad_line number bad =
    let long : 0 ≡ length (bad.lines ++ bad.line ∷ bad.behind) = ap length bad.are in
    omega (arith, long, length-append bad.lines (bad.line ∷ bad.behind))

replay_by : (contents : Contents) (name : List ℕ) (scenario : Scenario) (file log : List ℕ) → Holds contents log_limit (beside name file) log
    → ((replay : Replay) × IsReplay log scenario.interface scenario.bit scenario.epoch replay) ⊎ ((number : ℕ) × IsBadLine log number)
    → IsReplayedOrBlamed contents name scenario (Some file)
replay_by contents name scenario file log held (inl (replay, is)) = inl (log, replay, held, is)
replay_by contents name scenario file log held (inr (number, bad)) =
    inr (line_blame (beside name file) number log_rule, inr (log, held, (number, bad, refl)))

none_by : (contents : Contents) (name : List ℕ) (scenario : Scenario)
    → ((replay : Replay) × IsReplay [] scenario.interface scenario.bit scenario.epoch replay) ⊎ ((number : ℕ) × IsBadLine [] number)
    → IsReplayedOrBlamed contents name scenario None
none_by contents name scenario (inl (replay, is)) = inl ([], replay, refl, is)
none_by contents name scenario (inr (number, bad)) = absurd (no_bad_line number bad)

replay_or_blame : (contents : Contents) (name : List ℕ) (scenario : Scenario) (file : Option (List ℕ)) → IsReplayedOrBlamed contents name scenario file
replay_or_blame contents name scenario None = none_by contents name scenario (replay_or_bad_line [] scenario.interface scenario.bit scenario.epoch)
replay_or_blame contents name scenario (Some file) =
    elim (held_or_blamed contents log_limit (beside name file)) [
      | inl (log, held) ↦ replay_by contents name scenario file log held (replay_or_bad_line log scenario.interface scenario.bit scenario.epoch)
      | inr (blame, is) ↦ inr (blame, inl is)
    ]

-- ---- all inputs

-- the inputs of a name are accepted, or have a first blame
abbrev pub IsTakenOrBlamed : Contents → List ℕ → Type 0
IsTakenOrBlamed contents name =
    ((scenario : Scenario) × (base : List DbcMessage) × (sources : List NodeSource) × (replay : Replay)
    × AreAccepted contents name scenario base sources replay)
    ⊎ ((blame : Blame) × IsFirstBlame contents name blame)

module _ (contents : Contents) (name : List ℕ) (scenario : Scenario) (at : ScenarioAt contents name scenario) where
  later : (blame : Blame) → IsLaterBlame contents name scenario blame → IsTakenOrBlamed contents name
  later blame is = inr (blame, inr (scenario, at, is))

  by_replay : (base : List DbcMessage) → BaseAt contents name scenario.database base → (sources : List NodeSource) → AreNodes contents name base scenario sources
      → IsReplayedOrBlamed contents name scenario scenario.replay → IsTakenOrBlamed contents name
  by_replay base based sources nodes (inl (log, replay, held, is)) =
      inl (scenario, base, sources, replay, record { scenario_at = at; base_at = based; nodes_at = nodes; replay_at = record { log = log; log_at = held; is = is } })
  by_replay base based sources nodes (inr (blame, is)) = later blame (inr (base, based, inr (sources, nodes, is)))

  by_nodes : (base : List DbcMessage) → BaseAt contents name scenario.database base → IsTakenOrBlamed contents name
  by_nodes base based =
      elim (nodes_or_blame contents name base scenario) [
        | inl (sources, nodes) ↦ by_replay base based sources nodes (replay_or_blame contents name scenario scenario.replay)
        | inr (blame, is) ↦ later blame (inr (base, based, inl is))
      ]

  by_base : IsTakenOrBlamed contents name
  by_base =
      elim (base_or_blame contents name scenario.database) [
        | inl (base, based) ↦ by_nodes base based
        | inr (blame, is) ↦ later blame (inl is)
      ]

-- the inputs of each name are accepted, or have a first blame
pub inputs_or_blame : (contents : Contents) (name : List ℕ) → IsTakenOrBlamed contents name
inputs_or_blame contents name =
    elim (scenario_or_blame contents name) [
      | inl (scenario, at) ↦ by_base contents name scenario at
      | inr (blame, is) ↦ inr (blame, inl is)
    ]
