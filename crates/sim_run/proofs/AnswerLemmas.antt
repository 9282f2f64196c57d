-- Words have at most one answer, accepted inputs have one, and what was written of it.
use Rattle.std.proofs.Common.{◌≡◌, ℕ, List, [], ◌∷◌, ◌++◌, All, Option, None, Some, inl, inr, length, map, refl, sym, ap, subst, ◌∙◌}
use Rattle.std.specs.Prelude.{codes}
use Rattle.std.specs.List.{AllZip}
use Rattle.std.proofs.lemmas.List.Elements.{All-cons, All-nil}
use Rattle.texts.specs.declared.blame.Blame.{Blame}
use Rattle.can_bus.specs.Bus.{BitTakesTime, BusState, new_bus, next_moment, one_channel}
use Rattle.stack_vm.specs.declared.meter.MeterRow.{MeterRow}
use Rattle.scenario.proofs.WithinLemmas.{scenario_within}
use Rattle.scenario.specs.declared.scenario.KeyItem.{KeyItem}
use Rattle.scenario.specs.declared.scenario.NodeItem.{NodeItem}
use Rattle.scenario.specs.declared.scenario.Scenario.{Scenario}
use Rattle.replay_node.specs.declared.replay.Replay.{Replay}
use Rattle.replay_node.specs.declared.replay.Request.{Request}
use Rattle.dbc_reader.specs.declared.message.DbcMessage.{DbcMessage}
use Rattle.capl_include.specs.Expansion.{Contents}
use Rattle.capl_meaning.specs.Offences.{offences_of}
use Rattle.capl_tree.specs.declared.file.Program.{Program}
use Rattle.node_rounds.specs.Reaction.{NodeState}
use Rattle.run_laws.specs.Sources.{first_source_nodes}
use Rattle.run_meaning.specs.Counts.{row_then}
use Rattle.run_meaning.specs.Run.{IsRun, Passed, RunState, new_run}
use Rattle.run_meaning.specs.Steps.{Step, entries, steps}
use Rattle.sim_inputs.specs.Accepted.{AreAccepted, IsFirstBlame, IsNodeSource, NodeSource}
use Rattle.sim_inputs.specs.Law.{SayTheSame}
use Rattle.sim_play.specs.Show.{shown, shown_first, summary_of}
use Rattle.sim_play.specs.declared.labels.Labels.{Labels}
use Rattle.sim_play.specs.declared.labels.Show.{Show}
use Rattle.sim_play.specs.declared.labels.Show.TheVariants as show
use Rattle.sim_text.specs.Lines.{blame_line}
use Rattle.source_laws.specs.Reaction.{SourceMemory, by_source_reaction}
use Rattle.sim_run.proofs.CommandLemmas.{AsksSame, asked_or_none, one_asked}
use Rattle.sim_run.proofs.LoadedLemmas.{nothing_due}
use Rattle.sim_run.proofs.SourceLemmas.{nodes_of_programs}
use Rattle.sim_run.specs.Inside.Sources.{first_nodes}
use Rattle.sim_run.specs.Answer.{IsAnswer, IsAnswerOf, IsAnswerOn, IsAnsweredOn, IsRefused, IsShown}
use Rattle.sim_run.specs.Command.{IsAsked}
use Rattle.sim_run.specs.Run.{IsRunOf, first_rows, rows_in, labels_of, node_lines, shown_last, shown_of}
use Rattle.sim_run.specs.declared.status.Status.{Status}
use Rattle.sim_run.specs.declared.status.Status.TheVariants.{Done, Refused, Usage, ReadFault, WriteFault, OutOfMemory}

-- ---- laws of what this stands on

-- two accepted scenarios of a name say the same, with equal messages, equal sources and equal replays
abbrev pub AcceptedLaw : Type 0
AcceptedLaw = (contents : Contents) (name : List ℕ) (scenario other : Scenario) (base more : List DbcMessage) (sources others : List NodeSource) (replay third : Replay) →
    AreAccepted contents name scenario base sources replay → AreAccepted contents name other more others third →
    SayTheSame scenario other × (base ≡ more) × (sources ≡ others) × (replay ≡ third)

-- a name has one first blame
abbrev pub BlameLaw : Type 0
BlameLaw = (contents : Contents) (name : List ℕ) (one other : Blame) → IsFirstBlame contents name one → IsFirstBlame contents name other → one ≡ other

-- accepted inputs have none
abbrev pub NotBothLaw : Type 0
NotBothLaw = (contents : Contents) (name : List ℕ) (scenario : Scenario) (base : List DbcMessage) (sources : List NodeSource) (replay : Replay) (one : Blame) →
    AreAccepted contents name scenario base sources replay → IsFirstBlame contents name one → ⊥

-- sources have one run at most
abbrev pub OneRunLaw : Type 0
OneRunLaw = (until : ℕ) (before after end : RunState (NodeState SourceMemory) BusState) (rounds others : List Passed) →
    IsRun by_source_reaction one_channel until before rounds after → IsRun by_source_reaction one_channel until before others end → (rounds ≡ others) × (after ≡ end)

-- sources that break no rule have a run
abbrev pub SomeRunLaw : Type 0
SomeRunLaw = (base : List DbcMessage) (turns : ℕ) (programs : List Program) → All (λ program. offences_of base program ≡ []) programs →
    (until : ℕ) (b : BusState) (keys : List KeyItem) (requests : List Request) → BitTakesTime b → next_moment b ≡ None →
    (rounds : List Passed) × (after : RunState (NodeState SourceMemory) BusState)
    × IsRun by_source_reaction one_channel until (new_run (first_source_nodes base turns programs) b keys requests) rounds after

-- ---- scenarios that say the same

-- a run by the numbers of its scenario
abbrev IsRunWith : List DbcMessage → List NodeSource → List Request → ℕ → ℕ → ℕ → List KeyItem → List Passed → Type 0
IsRunWith base sources requests until turns bit keys rounds =
    (end : RunState (NodeState SourceMemory) BusState)
    × IsRun by_source_reaction one_channel until (new_run (first_nodes base turns sources) (new_bus bit) keys requests) rounds end

moved_run : (scenario other : Scenario) (base : List DbcMessage) (sources : List NodeSource) (replay : Replay) (rounds : List Passed) → SayTheSame scenario other →
    IsRunOf scenario base sources replay rounds → IsRunOf other base sources replay rounds
moved_run scenario other base sources replay rounds same run =
    let there : IsRunWith base sources replay.list other.until other.turns other.bit other.keys.items rounds =
    subst (λ k. IsRunWith base sources replay.list other.until other.turns other.bit k rounds) same.keys
    (subst (λ b. IsRunWith base sources replay.list other.until other.turns b scenario.keys.items rounds) same.bit
    (subst (λ t. IsRunWith base sources replay.list other.until t scenario.bit scenario.keys.items rounds) same.turns
    (subst (λ u. IsRunWith base sources replay.list u scenario.turns scenario.bit scenario.keys.items rounds) same.until (run.end, run.is)))) in
    record { end = there.0; is = there.1 }

same_labels : (scenario other : Scenario) (sources : List NodeSource) (replay : Replay) → SayTheSame scenario other → labels_of scenario sources replay ≡ labels_of other sources replay
same_labels scenario other sources replay same =
    let nodes = same.nodes in
    let interface = same.interface in
    let made : List NodeItem → List ℕ → Labels = λ items name. record (labels_of other sources replay) { names = map (λ node. node.name) items; interface = name; second = name } in
    (λ i. made (nodes i) (interface i))

same_last : (show : Show) (scenario other : Scenario) (base : List DbcMessage) (sources : List NodeSource) (replay : Replay) (list : List Step) → SayTheSame scenario other →
    shown_last show scenario base sources replay list ≡ shown_last show other base sources replay list
same_last show.Window scenario other base sources replay list same = refl
same_last show.Log scenario other base sources replay list same = refl
same_last show.Both scenario other base sources replay list same = refl
same_last show.Profile scenario other base sources replay list same =
    let nodes = same.nodes in (λ i. node_lines base (row_then (first_rows base 0 sources) list) 0 (nodes i) sources)
same_last show.Summary scenario other base sources replay list same =
    ap (λ l. summary_of l (length sources) (entries list) (rows_in base sources list)) (same_labels scenario other sources replay same)

-- what is shown rests on what the scenario says
same_shown : (show : Show) (scenario other : Scenario) (base : List DbcMessage) (sources : List NodeSource) (replay : Replay) (list : List Step) → SayTheSame scenario other →
    shown_of show scenario base sources replay list ≡ shown_of show other base sources replay list
same_shown show scenario other base sources replay list same =
    let labels = same_labels scenario other sources replay same in
    let last = same_last show scenario other base sources replay list same in
    (λ i. shown_first show (labels i) ++ (shown show (labels i) (entries list) ++ last i))

-- and so does all that is shown of a run
pub moved_shown : (show : Show) (scenario other : Scenario) (base : List DbcMessage) (sources : List NodeSource) (replay : Replay) (bytes : List ℕ) (rows : List MeterRow) → SayTheSame scenario other →
    IsShown show scenario base sources replay bytes rows → IsShown show other base sources replay bytes rows
moved_shown show scenario other base sources replay bytes rows same is =
    let picks = ap (λ p. steps is.rounds p) same.picks in
    record {
      rounds = is.rounds;
      run = moved_run scenario other base sources replay is.rounds same is.run;
      shows = is.shows ∙ same_shown show scenario other base sources replay (steps is.rounds scenario.picks.items) same ∙ ap (shown_of show other base sources replay) picks;
      counts = is.counts ∙ ap (rows_in base sources) picks;
    }

-- ---- one answer

one_shown : OneRunLaw → (show : Show) (scenario : Scenario) (base : List DbcMessage) (sources : List NodeSource) (replay : Replay) (bytes more : List ℕ) (rows others : List MeterRow) →
    IsShown show scenario base sources replay bytes rows → IsShown show scenario base sources replay more others → (bytes ≡ more) × (rows ≡ others)
one_shown law show scenario base sources replay bytes more rows others is also =
    let first = new_run (first_nodes base scenario.turns sources) (new_bus scenario.bit) scenario.keys.items replay.list in
    let rounds = (law scenario.until first is.run.end also.run.end is.rounds also.rounds is.run.is also.run.is).0 in
    let list = ap (λ r. steps r scenario.picks.items) rounds in
    (is.shows ∙ ap (shown_of show scenario base sources replay) list ∙ sym also.shows, is.counts ∙ ap (rows_in base sources) list ∙ sym also.counts)

one_of : OneRunLaw → (what : Option Show) (scenario other : Scenario) (base : List DbcMessage) (sources : List NodeSource) (replay : Replay) (bytes more : List ℕ) (rows others : List MeterRow) →
    SayTheSame scenario other → IsAnswerOf what scenario base sources replay bytes rows → IsAnswerOf what other base sources replay more others → (bytes ≡ more) × (rows ≡ others)
one_of law None scenario other base sources replay bytes more rows others same is also = (is.0 ∙ sym also.0, is.1 ∙ sym also.1)
one_of law (Some show) scenario other base sources replay bytes more rows others same is also =
    one_shown law show other base sources replay bytes more rows others (moved_shown show scenario other base sources replay bytes rows same is) also

-- what is shown of one accepted scenario has one list of bytes, and counts one list of rows
one_done : AcceptedLaw → OneRunLaw → (what : Option Show) (held : Contents) (name : List ℕ) (bytes more : List ℕ) (rows others : List MeterRow) → IsAnsweredOn what held name bytes rows → IsAnsweredOn what held name more others →
    (bytes ≡ more) × (rows ≡ others)
one_done accepted law what held name bytes more rows others is also =
    let inputs = accepted held name is.scenario also.scenario is.base also.base is.sources also.sources is.replay also.replay is.accepted also.accepted in
    let by_base = subst (λ b. IsAnswerOf what is.scenario b is.sources is.replay bytes rows) inputs.1 is.answers in
    let by_sources = subst (λ s. IsAnswerOf what is.scenario also.base s is.replay bytes rows) inputs.2 by_base in
    let by_replay = subst (λ (r : Replay). IsAnswerOf what is.scenario also.base also.sources r bytes rows) inputs.3 by_sources in
    one_of law what is.scenario also.scenario also.base also.sources also.replay bytes more rows others inputs.0 by_replay also.answers

-- the line of a refusal is one, and it has no rows
one_refused : BlameLaw → (held : Contents) (name : List ℕ) (bytes more : List ℕ) (rows others : List MeterRow) → IsRefused held name bytes rows → IsRefused held name more others →
    (bytes ≡ more) × (rows ≡ others)
one_refused law held name bytes more rows others is also =
    (is.line ∙ ap blame_line (law held name is.blame also.blame is.first also.first) ∙ sym also.line, is.no_rows ∙ sym also.no_rows)

-- no inputs are both accepted and refused
pub done_or_refused : NotBothLaw → (what : Option Show) (held : Contents) (name : List ℕ) (bytes more : List ℕ) (rows others : List MeterRow) → IsAnsweredOn what held name bytes rows → IsRefused held name more others → ⊥
done_or_refused law what held name bytes more rows others is also = law held name is.scenario is.base is.sources is.replay also.blame is.accepted also.first

-- two answers over the inputs of a name are one
one_on : AcceptedLaw → BlameLaw → NotBothLaw → OneRunLaw → (what : Option Show) (held : Contents) (name : List ℕ) (status other : Status) (bytes more : List ℕ) (rows others : List MeterRow) →
    IsAnswerOn what held name status bytes rows → IsAnswerOn what held name other more others → (status ≡ other) × (bytes ≡ more) × (rows ≡ others)
one_on accepted blame not_both law what held name Done Done bytes more rows others is also = let same = one_done accepted law what held name bytes more rows others is also in (refl, same.0, same.1)
one_on accepted blame not_both law what held name Done Refused bytes more rows others is also = absurd (done_or_refused not_both what held name bytes more rows others is also)
one_on accepted blame not_both law what held name Done Usage bytes more rows others is also = absurd also
one_on accepted blame not_both law what held name Done ReadFault bytes more rows others is also = absurd also
one_on accepted blame not_both law what held name Done WriteFault bytes more rows others is also = absurd also
one_on accepted blame not_both law what held name Done OutOfMemory bytes more rows others is also = absurd also
one_on accepted blame not_both law what held name Refused Done bytes more rows others is also = absurd (done_or_refused not_both what held name more bytes others rows also is)
one_on accepted blame not_both law what held name Refused Refused bytes more rows others is also = let same = one_refused blame held name bytes more rows others is also in (refl, same.0, same.1)
one_on accepted blame not_both law what held name Refused Usage bytes more rows others is also = absurd also
one_on accepted blame not_both law what held name Refused ReadFault bytes more rows others is also = absurd also
one_on accepted blame not_both law what held name Refused WriteFault bytes more rows others is also = absurd also
one_on accepted blame not_both law what held name Refused OutOfMemory bytes more rows others is also = absurd also
one_on accepted blame not_both law what held name Usage other bytes more rows others is also = absurd is
one_on accepted blame not_both law what held name ReadFault other bytes more rows others is also = absurd is
one_on accepted blame not_both law what held name WriteFault other bytes more rows others is also = absurd is
one_on accepted blame not_both law what held name OutOfMemory other bytes more rows others is also = absurd is

-- an answer over the inputs of a name that is asked for is one over those of each that is
pub moved_answer : (contents : Contents) (words : List (List ℕ)) (what other : Option Show) (held third : Contents) (name fourth : List ℕ) (status : Status) (bytes : List ℕ) (rows : List MeterRow) →
    AsksSame what other held third name fourth → IsAnswerOn what held name status bytes rows → IsAnswerOn other third fourth status bytes rows
moved_answer contents words what other held third name fourth status bytes rows same is =
    subst (λ (n : List ℕ). IsAnswerOn other third n status bytes rows) same.names
    (subst (λ (h : Contents). IsAnswerOn other h name status bytes rows) same.holds
    (subst (λ (w : Option Show). IsAnswerOn w held name status bytes rows) same.shows is))

-- two answers are one
pub one_answer : AcceptedLaw → BlameLaw → NotBothLaw → OneRunLaw → (contents : Contents) (words : List (List ℕ)) (status other : Status) (bytes more : List ℕ) (rows others : List MeterRow) →
    IsAnswer contents words status bytes rows → IsAnswer contents words other more others → (status ≡ other) × (bytes ≡ more) × (rows ≡ others)
one_answer accepted blame not_both law contents words status other bytes more rows others (inl is) (inl also) =
    let same = one_asked contents words is.what also.what is.held also.held is.name also.name is.asked also.asked in
    one_on accepted blame not_both law also.what also.held also.name status other bytes more rows others
    (moved_answer contents words is.what also.what is.held also.held is.name also.name status bytes rows same is.answer) also.answer
one_answer accepted blame not_both law contents words status other bytes more rows others (inl is) (inr (none, usage, empty, no_rows)) =
    absurd (asked_or_none contents words is.what is.held is.name is.asked none)
one_answer accepted blame not_both law contents words status other bytes more rows others (inr (none, usage, empty, no_rows)) (inl also) =
    absurd (asked_or_none contents words also.what also.held also.name also.asked none)
one_answer accepted blame not_both law contents words status other bytes more rows others (inr (none, usage, empty, no_rows)) (inr (none_too, usage_too, empty_too, no_rows_too)) =
    (usage ∙ sym usage_too, empty ∙ sym empty_too, no_rows ∙ sym no_rows_too)

-- ---- an answer is there

-- the programs of accepted sources break no rule
none_offends : (contents : Contents) (name : List ℕ) (base : List DbcMessage) (nodes : List NodeItem) (sources : List NodeSource) → AllZip (IsNodeSource contents name base) nodes sources →
    All (λ (program : Program). offences_of base program ≡ []) (map (λ source. source.program) sources)
none_offends contents name base [] [] zip = All-nil (λ (program : Program). offences_of base program ≡ [])
none_offends contents name base [] (source ∷ sources) zip = elim zip [ ]
none_offends contents name base (node ∷ nodes) [] zip = elim zip [ ]
none_offends contents name base (node ∷ nodes) (source ∷ sources) zip =
    All-cons (λ (program : Program). offences_of base program ≡ []) source.program (map (λ s. s.program) sources) (zip.0).no_offence (none_offends contents name base nodes sources zip.1)

run_of : SomeRunLaw → (contents : Contents) (name : List ℕ) (scenario : Scenario) (base : List DbcMessage) (sources : List NodeSource) (replay : Replay) →
    AreAccepted contents name scenario base sources replay → (rounds : List Passed) × IsRunOf scenario base sources replay rounds
run_of law contents name scenario base sources replay accepted =
    let within = scenario_within accepted.scenario_at.text scenario accepted.scenario_at.is in
    let ran =
    law base scenario.turns (map (λ source. source.program) sources) (none_offends contents name base scenario.nodes.items sources accepted.nodes_at.sources_at)
    scenario.until (new_bus scenario.bit) scenario.keys.items replay.list within.some_bit (nothing_due scenario.bit) in
    let is = subst (λ (nodes : List (NodeState SourceMemory)). IsRun by_source_reaction one_channel scenario.until (new_run nodes (new_bus scenario.bit) scenario.keys.items replay.list) ran.0 ran.1)
    (nodes_of_programs base scenario.turns sources) ran.2 in
    (ran.0, record { end = ran.1; is = is })

-- a run is shown in some bytes
shown_by : (show : Show) (scenario : Scenario) (base : List DbcMessage) (sources : List NodeSource) (replay : Replay) (rounds : List Passed) → IsRunOf scenario base sources replay rounds →
    IsShown show scenario base sources replay (shown_of show scenario base sources replay (steps rounds scenario.picks.items)) (rows_in base sources (steps rounds scenario.picks.items))
shown_by show scenario base sources replay rounds run = record { rounds = rounds; run = run; shows = refl; counts = refl }

answer_of : SomeRunLaw → (contents : Contents) (name : List ℕ) (what : Option Show) (scenario : Scenario) (base : List DbcMessage) (sources : List NodeSource) (replay : Replay) →
    AreAccepted contents name scenario base sources replay → (bytes : List ℕ) × (rows : List MeterRow) × IsAnswerOf what scenario base sources replay bytes rows
answer_of law contents name None scenario base sources replay accepted = (codes "ok\n", [], (refl, refl))
answer_of law contents name (Some show) scenario base sources replay accepted =
    let ran = run_of law contents name scenario base sources replay accepted in
    let list : List Step = steps ran.0 scenario.picks.items in
    (shown_of show scenario base sources replay list, rows_in base sources list, shown_by show scenario base sources replay ran.0 ran.1)

-- accepted inputs of which something is asked have an answer
pub answer_there : SomeRunLaw → (contents held : Contents) (words : List (List ℕ)) (what : Option Show) (name : List ℕ) (scenario : Scenario) (base : List DbcMessage) (sources : List NodeSource) (replay : Replay) →
    IsAsked contents words what held name → AreAccepted held name scenario base sources replay → (bytes : List ℕ) × (rows : List MeterRow) × IsAnswer contents words Done bytes rows
answer_there law contents held words what name scenario base sources replay asked accepted =
    let own = answer_of law held name what scenario base sources replay accepted in (
      own.0,
      own.1,
      inl (record {
        what = what;
        held = held;
        name = name;
        asked = asked;
        answer = record {
          scenario = scenario;
          base = base;
          sources = sources;
          replay = replay;
          accepted = accepted;
          answers = own.2;
        };
      }),
    )
