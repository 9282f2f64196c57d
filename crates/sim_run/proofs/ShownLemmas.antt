-- What is shown of the run of codes is what is shown of the run of their sources.
use Rattle.std.proofs.Common.{◌≡◌, ℕ, suc, ◌+◌, ◌<◌, ◌≤◌, Option, Some, List, [], ◌∷◌, ◌++◌, get_or, length, map, append_assoc, arith, refl, ap, subst, sym, ◌∙◌}
use Rattle.std.specs.Prelude.{replicate, slice_get, take}
use Rattle.std.specs.List.{AllZip, range_with_len, sum_by}
use Rattle.std.proofs.lemmas.List.{ext_get_or, get_or-replicate, length-replicate}
use Rattle.std.proofs.lemmas.List.FromFn.{get_or-map-range_with_len, length-map-range_with_len}
use Rattle.std.proofs.lemmas.List.Sums.{sum_by-cons}
use Rattle.std.proofs.lemmas.Option.{get_or_from_slice_get, slice_get-get_or, slice_get_within}
use Rattle.std.proofs.lemmas.Slice.Zip.{AllZip-long}
use Rattle.bytecode.specs.declared.code.Code.{Code}
use Rattle.bytecode.specs.declared.code.Handler as coded
use Rattle.can_bus.specs.Bus.{BusState, new_bus, one_channel}
use Rattle.capl_meaning.specs.Statement.{Handler, handlers_in}
use Rattle.capl_tree.specs.declared.file.Program.{Program}
use Rattle.dbc_reader.specs.declared.message.DbcMessage.{DbcMessage}
use Rattle.node_rounds.specs.Reaction.{NodeState}
use Rattle.node_run.specs.Code.{CodeMemory, code_reaction}
use Rattle.node_run.specs.Node.{NodeInRound, loaded}
use Rattle.run_laws.specs.Nodes.{AreLoadedFor, states_of}
use Rattle.run_laws.specs.Sources.{first_source_nodes}
use Rattle.run_meaning.specs.Counts.{row_then, row_with}
use Rattle.run_meaning.specs.Done.{AddsAtMost}
use Rattle.run_meaning.specs.Run.{IsRun, Passed, RunState, new_run, with_nodes}
use Rattle.run_meaning.specs.Steps.{Step, entries, steps}
use Rattle.replay_node.specs.declared.replay.Replay.{Replay}
use Rattle.replay_node.specs.declared.replay.Request.{Request}
use Rattle.scenario.specs.declared.scenario.KeyItem.{KeyItem}
use Rattle.scenario.specs.declared.scenario.NodeItem.{NodeItem}
use Rattle.scenario.specs.declared.scenario.Scenario.{Scenario}
use Rattle.sim_core.specs.Core.{CoreState, new_core, rows_of}
use Rattle.sim_inputs.specs.Answer.{AreCodesFor}
use Rattle.sim_inputs.specs.Accepted.{NodeSource, file_names}
use Rattle.sim_outside.specs.Sink.{GrowsBy, GrowsByPrefix}
use Rattle.sim_play.proofs.RowLemmas.{row_from_none}
use Rattle.sim_play.specs.Play as play
use Rattle.sim_play.specs.Play.{HasPlayed, IsPlayedInPart, procedures_of, rows_then, shown_run}
use Rattle.sim_play.specs.Show.{file_of, shown, shown_first, summary_of}
use Rattle.sim_play.specs.Profile.{handler_lines, profile_of}
use Rattle.sim_play.specs.declared.labels.Labels.{Labels}
use Rattle.sim_play.specs.declared.labels.Show.{Show}
use Rattle.sim_play.specs.declared.labels.Show.TheVariants.{Window, Log, Both, Profile, Summary}
use Rattle.sim_text.specs.Lines.{profile_line}
use Rattle.source_compiler.proofs.LineLemmas.{line_told}
use Rattle.source_compiler.specs.Source.{lines_of}
use Rattle.source_laws.specs.Code.{IsEntryOf, HasSourceTables}
use Rattle.source_laws.specs.Reaction.{SourceMemory, by_source_reaction}
use Rattle.stack_vm.specs.declared.meter.MeterRow.{MeterRow}
use Rattle.sim_run.proofs.LoadedLemmas.{TablesLaw}
use Rattle.sim_run.proofs.SourceLemmas.{nodes_of_programs}
use Rattle.sim_run.specs.Inside.Loaded.{AreLoaded, loaded_nodes, no_run, rows_of_code}
use Rattle.sim_run.specs.Inside.Played.{IsCut, IsPlayed, labels_with}
use Rattle.sim_run.specs.Run.{IsRunOf, first_rows, procedures_in, rows_in, labels_of, node_lines, procedure_lines, shown_last, shown_of}

-- ---- a node

tables_of : TablesLaw → (base : List DbcMessage) (source : NodeSource) (sources : List NodeSource) (code : Code) (codes : List Code) → AreCodesFor base (source ∷ sources) (code ∷ codes) →
    HasSourceTables base source.program (lines_of source.files) code
tables_of law base source sources code codes codes_are =
    let own = codes_are.0 in
    law base source.program (lines_of source.files) code (record { typed = own.0; accepted = own.1; code_is = own.2 })

-- a code has as many rows as its source has event procedures
rows_of_source : TablesLaw → (base : List DbcMessage) (source : NodeSource) (sources : List NodeSource) (code : Code) (codes : List Code) → AreCodesFor base (source ∷ sources) (code ∷ codes) →
    rows_of_code code ≡ procedures_in base source
rows_of_source law base source sources code codes codes_are =
    AllZip-long (IsEntryOf (lines_of source.files)) (handlers_in base source.program) code.handlers (tables_of law base source sources code codes codes_are).handlers

-- ---- all nodes

-- the nodes are loaded for the sources
all_loaded_for : (base : List DbcMessage) (turns number : ℕ) (sources : List NodeSource) (codes : List Code) → AreCodesFor base sources codes →
    AreLoadedFor base turns (map (λ source. source.program) sources) (loaded_nodes turns number codes)
all_loaded_for base turns number [] [] codes_are = tt
all_loaded_for base turns number [] (code ∷ codes) codes_are = elim codes_are [ ]
all_loaded_for base turns number (source ∷ sources) [] codes_are = elim codes_are [ ]
all_loaded_for base turns number (source ∷ sources) (code ∷ codes) codes_are =
    let own = codes_are.0 in (
      record {
        lines = lines_of source.files;
        code = code;
        first_row = number;
        code_is = record { typed = own.0; accepted = own.1; code_is = own.2 };
        is_loaded = refl;
      },
      all_loaded_for base turns (number + rows_of_code code) sources codes codes_are.1,
    )

-- their first rows are those of the sources
rows_first : TablesLaw → (base : List DbcMessage) (turns number : ℕ) (sources : List NodeSource) (codes : List Code) → AreCodesFor base sources codes →
    rows_of (loaded_nodes turns number codes) ≡ first_rows base number sources
rows_first law base turns number [] [] codes_are = refl
rows_first law base turns number [] (code ∷ codes) codes_are = elim codes_are [ ]
rows_first law base turns number (source ∷ sources) [] codes_are = elim codes_are [ ]
rows_first law base turns number (source ∷ sources) (code ∷ codes) codes_are =
    ap (λ l. number ∷ l) (rows_first law base turns (number + rows_of_code code) sources codes codes_are.1
    ∙ ap (λ n. first_rows base (number + n) sources) (rows_of_source law base source sources code codes codes_are))

-- and there are as many rows
rows_together : TablesLaw → (base : List DbcMessage) (sources : List NodeSource) (codes : List Code) → AreCodesFor base sources codes → sum_by rows_of_code codes ≡ sum_by (procedures_in base) sources
rows_together law base [] [] codes_are = refl
rows_together law base [] (code ∷ codes) codes_are = elim codes_are [ ]
rows_together law base (source ∷ sources) [] codes_are = elim codes_are [ ]
rows_together law base (source ∷ sources) (code ∷ codes) codes_are =
    let one = rows_of_source law base source sources code codes codes_are in
    let rest = rows_together law base sources codes codes_are.1 in
    let sum = sum_by-cons rows_of_code code codes in
    let other = sum_by-cons (procedures_in base) source sources in
    omega (arith, one, rest, sum, other)

-- ---- the profile

lines_same : (name : List ℕ) (of : NodeSource) (row : ℕ → MeterRow) (number : ℕ) (handlers : List Handler) (entries : List coded.Handler) → AllZip (IsEntryOf (lines_of of.files)) handlers entries →
    handler_lines name (file_names of) row number entries ≡ procedure_lines name of row number handlers
lines_same name of row number [] [] zip = refl
lines_same name of row number [] (entry ∷ entries) zip = elim zip [ ]
lines_same name of row number (handler ∷ handlers) [] zip = elim zip [ ]
lines_same name of row number (handler ∷ handlers) (entry ∷ entries) zip =
    let is : IsEntryOf (lines_of of.files) handler entry = zip.0 in
    let file = is.file in
    let line = is.line ∙ line_told of.files handler.file handler.token in
    let event = is.event in
    let rest = lines_same name of row (number + 1) handlers entries zip.1 in
    (λ i. profile_line name (file_of (file_names of) (file i)) (line i) (event i) (row number) ++ rest i)

profile_same : TablesLaw → (base : List DbcMessage) (row : ℕ → MeterRow) (turns number : ℕ) (nodes : List NodeItem) (sources : List NodeSource) (codes : List Code) → AreCodesFor base sources codes →
    profile_of (map (λ node. node.name) nodes) (map file_names sources) row (loaded_nodes turns number codes) ≡ node_lines base row number nodes sources
profile_same law base row turns number [] sources codes codes_are = refl
profile_same law base row turns number (node ∷ nodes) [] codes codes_are = refl
profile_same law base row turns number (node ∷ nodes) (source ∷ sources) [] codes_are = elim codes_are [ ]
profile_same law base row turns number (node ∷ nodes) (source ∷ sources) (code ∷ codes) codes_are =
    let own = lines_same node.name source row number (handlers_in base source.program) code.handlers (tables_of law base source sources code codes codes_are).handlers in
    let rest =
    profile_same law base row turns (number + rows_of_code code) nodes sources codes codes_are.1
    ∙ ap (λ n. node_lines base row (number + n) nodes sources) (rows_of_source law base source sources code codes codes_are) in
    (λ i. own i ++ rest i)

as_many_sources : (base : List DbcMessage) (turns number : ℕ) (sources : List NodeSource) (codes : List Code) → AreCodesFor base sources codes → length (loaded_nodes turns number codes) ≡ length sources
as_many_sources base turns number [] [] codes_are = refl
as_many_sources base turns number [] (code ∷ codes) codes_are = elim codes_are [ ]
as_many_sources base turns number (source ∷ sources) [] codes_are = elim codes_are [ ]
as_many_sources base turns number (source ∷ sources) (code ∷ codes) codes_are =
    ap suc (as_many_sources base turns (number + rows_of_code code) sources codes codes_are.1)

-- nodes have as many event procedures as their sources
procedures_same : TablesLaw → (base : List DbcMessage) (turns number : ℕ) (sources : List NodeSource) (codes : List Code) → AreCodesFor base sources codes →
    procedures_of (loaded_nodes turns number codes) ≡ sum_by (procedures_in base) sources
procedures_same law base turns number [] [] codes_are = refl
procedures_same law base turns number [] (code ∷ codes) codes_are = elim codes_are [ ]
procedures_same law base turns number (source ∷ sources) [] codes_are = elim codes_are [ ]
procedures_same law base turns number (source ∷ sources) (code ∷ codes) codes_are =
    let behind : List NodeInRound = loaded_nodes turns (number + rows_of_code code) codes in
    let one = rows_of_source law base source sources code codes codes_are in
    let rest = procedures_same law base turns (number + rows_of_code code) sources codes codes_are.1 in
    let sum = sum_by-cons (λ (node : NodeInRound). length node.doing.node.memory.code.handlers) (loaded code number turns) behind in
    let other = sum_by-cons (procedures_in base) source sources in
    omega (arith, one, rest, sum, other)

-- so they have the same rows
rows_same : TablesLaw → (base : List DbcMessage) (turns : ℕ) (sources : List NodeSource) (codes : List Code) (list : List Step) → AreCodesFor base sources codes →
    rows_then (loaded_nodes turns 0 codes) list ≡ rows_in base sources list
rows_same law base turns sources codes list codes_are =
    let first = rows_first law base turns 0 sources codes codes_are in
    let many = procedures_same law base turns 0 sources codes codes_are in
    (λ i. map (row_then (first i) list) (range_with_len 0 (many i)))

last_same : TablesLaw → (show : Show) (scenario : Scenario) (base : List DbcMessage) (sources : List NodeSource) (replay : Replay) (codes : List Code) (list : List Step) → AreCodesFor base sources codes →
    play.shown_last show (labels_of scenario sources replay) (loaded_nodes scenario.turns 0 codes) list ≡ shown_last show scenario base sources replay list
last_same law Window scenario base sources replay codes list codes_are = refl
last_same law Log scenario base sources replay codes list codes_are = refl
last_same law Both scenario base sources replay codes list codes_are = refl
last_same law Profile scenario base sources replay codes list codes_are =
    ap (λ rows. profile_of (map (λ node. node.name) scenario.nodes.items) (map file_names sources) (row_then rows list) (loaded_nodes scenario.turns 0 codes))
    (rows_first law base scenario.turns 0 sources codes codes_are)
    ∙ profile_same law base (row_then (first_rows base 0 sources) list) scenario.turns 0 scenario.nodes.items sources codes codes_are
last_same law Summary scenario base sources replay codes list codes_are =
    let many = as_many_sources base scenario.turns 0 sources codes codes_are in
    let rows = rows_same law base scenario.turns sources codes list codes_are in
    (λ i. summary_of (labels_of scenario sources replay) (many i) (entries list) (rows i))

-- all that is shown of codes is shown of their sources
all_same : TablesLaw → (show : Show) (scenario : Scenario) (base : List DbcMessage) (sources : List NodeSource) (replay : Replay) (codes : List Code) (list : List Step) → AreCodesFor base sources codes →
    shown_run show (labels_of scenario sources replay) (loaded_nodes scenario.turns 0 codes) list ≡ shown_of show scenario base sources replay list
all_same law show scenario base sources replay codes list codes_are =
    let labels : Labels = labels_of scenario sources replay in
    let nodes : List NodeInRound = loaded_nodes scenario.turns 0 codes in
    append_assoc (shown_first show labels) (shown show labels (entries list)) (play.shown_last show labels nodes list)
    ∙ ap (λ l. shown_first show labels ++ (shown show labels (entries list) ++ l)) (last_same law show scenario base sources replay codes list codes_are)

-- ---- the run

-- a run of nodes that are loaded for programs is one of the programs
abbrev pub RunsLaw : Type 0
RunsLaw = (base : List DbcMessage) (turns : ℕ) (programs : List Program) (nodes : List NodeInRound) → AreLoadedFor base turns programs nodes → (until : ℕ) (b : BusState) (keys : List KeyItem)
    (requests : List Request) (rounds : List Passed) (after : RunState (NodeState CodeMemory) BusState) →
    IsRun code_reaction one_channel until (new_run (states_of nodes) b keys requests) rounds after →
    (end : List (NodeState SourceMemory)) × IsRun by_source_reaction one_channel until (new_run (first_source_nodes base turns programs) b keys requests) rounds (with_nodes after end)

-- the simulation of a scenario whose nodes have these codes
abbrev pub core_with : Scenario → List Code → Replay → CoreState BusState
core_with scenario codes replay = new_core (loaded_nodes scenario.turns 0 codes) (new_bus scenario.bit) scenario.keys.items replay.list scenario.picks.items scenario.until

run_there : RunsLaw → (scenario : Scenario) (base : List DbcMessage) (sources : List NodeSource) (replay : Replay) (codes : List Code) (rounds : List Passed) (end : RunState (NodeState CodeMemory) BusState) →
    AreCodesFor base sources codes → IsRun code_reaction one_channel scenario.until (new_run (states_of (loaded_nodes scenario.turns 0 codes)) (new_bus scenario.bit) scenario.keys.items replay.list) rounds end →
    IsRunOf scenario base sources replay rounds
run_there runs scenario base sources replay codes rounds end codes_are run =
    let own =
    runs base scenario.turns (map (λ source. source.program) sources) (loaded_nodes scenario.turns 0 codes) (all_loaded_for base scenario.turns 0 sources codes codes_are)
    scenario.until (new_bus scenario.bit) scenario.keys.items replay.list rounds end run in
    let last = with_nodes end own.0 in
    let is = subst (λ (nodes : List (NodeState SourceMemory)). IsRun by_source_reaction one_channel scenario.until (new_run nodes (new_bus scenario.bit) scenario.keys.items replay.list) rounds last)
    (nodes_of_programs base scenario.turns sources) own.1 in
    record { end = last; is = is }

-- ---- the rows

rows_counted : (base : List DbcMessage) (sources : List NodeSource) (list : List Step) (rows : List MeterRow) → length rows ≡ sum_by (procedures_in base) sources →
    ((number : ℕ) → number < length rows → slice_get rows number ≡ Some (row_then (first_rows base 0 sources) list number)) → rows ≡ rows_in base sources list
rows_counted base sources list rows long counts =
    let runs_of : ℕ → MeterRow = row_then (first_rows base 0 sources) list in
    let many : ℕ = sum_by (procedures_in base) sources in
    let made : length (map runs_of (range_with_len 0 many)) ≡ many = length-map-range_with_len runs_of 0 many in
    ext_get_or no_run rows (rows_in base sources list) (long ∙ sym made)
    (λ number within. get_or_from_slice_get rows number (runs_of number) no_run (counts number within)
    ∙ sym (get_or-map-range_with_len runs_of 0 many number number no_run (omega (arith, within, long)) (omega arith)))

-- ---- a run that was played

-- whole
pub played_whole : TablesLaw → RunsLaw → (show : Show) (scenario : Scenario) (base : List DbcMessage) (sources : List NodeSource) (replay : Replay) (codes : List Code) (old new : Option (List ℕ)) (rows : List MeterRow) →
    AreCodesFor base sources codes → length rows ≡ sum_by rows_of_code codes → HasPlayed one_channel show (labels_of scenario sources replay) (core_with scenario codes replay) old new rows →
    IsPlayed show scenario base sources replay old new rows
played_whole law runs show scenario base sources replay codes old new rows codes_are long played =
    let list : List Step = steps played.rounds scenario.picks.items in
    let first = rows_first law base scenario.turns 0 sources codes codes_are in
    record {
      bytes = shown_of show scenario base sources replay list;
      shown = record {
        rounds = played.rounds;
        run = run_there runs scenario base sources replay codes played.rounds played.end codes_are played.is_run;
        shows = refl;
        counts = rows_counted base sources list rows (long ∙ rows_together law base sources codes codes_are)
            (λ number within. played.counts number within ∙ ap (λ l. Some (row_then l list number)) first);
      };
      grows = subst (GrowsBy old new) (all_same law show scenario base sources replay codes list codes_are) played.grows;
    }

-- the row of a number in a meter that had zeros
zeros_at : (before : List MeterRow) (number : ℕ) → before ≡ replicate (length before) no_run → number < length before → slice_get before number ≡ Some no_run
zeros_at before number zeros within =
    slice_get-get_or before number no_run within
    ∙ ap (λ (row : MeterRow). Some row) (ap (λ l. get_or l number no_run) zeros ∙ get_or-replicate (length before) number no_run no_run within)

-- in part
pub played_in_part : TablesLaw → RunsLaw → (show : Show) (scenario : Scenario) (base : List DbcMessage) (sources : List NodeSource) (replay : Replay) (codes : List Code) (old new : Option (List ℕ))
    (before rows : List MeterRow) → AreCodesFor base sources codes → before ≡ replicate (length before) no_run →
    IsPlayedInPart one_channel show (labels_of scenario sources replay) (core_with scenario codes replay) old new before rows → IsCut show scenario base sources replay old new rows
played_in_part law runs show scenario base sources replay codes old new before rows codes_are zeros played =
    let list : List Step = steps played.rounds scenario.picks.items in
    let first = rows_first law base scenario.turns 0 sources codes codes_are in
    let done : List Step = played.front ++ take 1 played.rest in
    record {
      part = record {
        rounds = played.rounds;
        run = run_there runs scenario base sources replay codes played.rounds played.end codes_are played.is_run;
        front = played.front;
        rest = played.rest;
        are = played.are;
        whole = played.whole;
        at_most = λ number row there. runs_at_most before rows done (first_rows base 0 sources) (subst (λ l. AddsAtMost l done before rows) first played.metered) zeros number row there;
      };
      begins = subst (GrowsByPrefix old new) (all_same law show scenario base sources replay codes list codes_are) played.begins;
    }
  where
    runs_at_most : (before rows : List MeterRow) (done : List Step) (first : List ℕ) → AddsAtMost first done before rows → before ≡ replicate (length before) no_run →
        (number : ℕ) (row : MeterRow) → slice_get rows number ≡ Some row → row.runs ≤ (row_then first done number).runs
    runs_at_most before rows done first adds zeros number row there =
        let long = adds.as_many in
        let within = slice_get_within rows number row there in
        let grown = adds.at_most number no_run (zeros_at before number zeros (omega (arith, long, within))) (omega arith) in
        let same : Some grown.0 ≡ Some row = sym grown.1 ∙ there in
        let own : grown.0 ≡ row = cc in
        subst (λ (r : MeterRow). row.runs ≤ r.runs) (row_from_none first number done) (subst (λ (r : MeterRow). r.runs ≤ (row_with first number no_run done).runs) own grown.2)

-- ---- what was made of inputs

-- the simulation is that of a scenario with codes
core_is : (scenario : Scenario) (replay : Replay) (codes : List Code) (nodes : List NodeInRound) (before : List MeterRow) (core : CoreState BusState) → AreLoaded scenario.turns codes nodes before →
    core ≡ new_core nodes (new_bus scenario.bit) scenario.keys.items replay.list scenario.picks.items scenario.until → core ≡ core_with scenario codes replay
core_is scenario replay codes nodes before core are is =
    is ∙ ap (λ (l : List NodeInRound). new_core l (new_bus scenario.bit) scenario.keys.items replay.list scenario.picks.items scenario.until) are.are

-- its run was shown whole
pub shown_whole : TablesLaw → RunsLaw → (show : Show) (scenario : Scenario) (replay : Replay) (files : List (List (List ℕ))) (codes : List Code) (nodes : List NodeInRound) (labels : Labels) (core : CoreState BusState)
    (old new : Option (List ℕ)) (before rows : List MeterRow) → AreLoaded scenario.turns codes nodes before → labels ≡ labels_with scenario files replay →
    core ≡ new_core nodes (new_bus scenario.bit) scenario.keys.items replay.list scenario.picks.items scenario.until → length rows ≡ length before → HasPlayed one_channel show labels core old new rows →
    (base : List DbcMessage) (sources : List NodeSource) → AreCodesFor base sources codes → files ≡ map file_names sources → IsPlayed show scenario base sources replay old new rows
shown_whole law runs show scenario replay files codes nodes labels core old new before rows are labels_are core_are long played base sources codes_are files_are =
    let own = subst (λ (k : CoreState BusState). HasPlayed one_channel show labels k old new rows) (core_is scenario replay codes nodes before core are core_are) played in
    let named = subst (λ (l : Labels). HasPlayed one_channel show l (core_with scenario codes replay) old new rows) (labels_are ∙ ap (λ f. labels_with scenario f replay) files_are) own in
    played_whole law runs show scenario base sources replay codes old new rows codes_are (long ∙ ap length are.rows ∙ length-replicate (sum_by rows_of_code codes) no_run) named

-- or in part
pub shown_in_part : TablesLaw → RunsLaw → (show : Show) (scenario : Scenario) (replay : Replay) (files : List (List (List ℕ))) (codes : List Code) (nodes : List NodeInRound) (labels : Labels) (core : CoreState BusState)
    (old new : Option (List ℕ)) (before rows : List MeterRow) → AreLoaded scenario.turns codes nodes before → labels ≡ labels_with scenario files replay →
    core ≡ new_core nodes (new_bus scenario.bit) scenario.keys.items replay.list scenario.picks.items scenario.until → IsPlayedInPart one_channel show labels core old new before rows →
    (base : List DbcMessage) (sources : List NodeSource) → AreCodesFor base sources codes → files ≡ map file_names sources → IsCut show scenario base sources replay old new rows
shown_in_part law runs show scenario replay files codes nodes labels core old new before rows are labels_are core_are played base sources codes_are files_are =
    let own = subst (λ (k : CoreState BusState). IsPlayedInPart one_channel show labels k old new before rows) (core_is scenario replay codes nodes before core are core_are) played in
    let named = subst (λ (l : Labels). IsPlayedInPart one_channel show l (core_with scenario codes replay) old new before rows) (labels_are ∙ ap (λ f. labels_with scenario f replay) files_are) own in
    let long : length before ≡ sum_by rows_of_code codes = ap length are.rows ∙ length-replicate (sum_by rows_of_code codes) no_run in
    played_in_part law runs show scenario base sources replay codes old new before rows codes_are (are.rows ∙ ap (λ n. replicate n no_run) (sym long)) named
