-- The nodes that are loaded, and the simulation of them.
use Rattle.std.proofs.Common.{◌≡◌, ℕ, ◌+◌, ◌<◌, ◌^◌, None, Some, List, [], ◌∷◌, ◌++◌, All, length, map, arith, inr, refl, ap, subst, sym, ◌∙◌}
use Rattle.std.specs.Prelude.{replicate, ◌==◌, if◌then◌else◌}
use Rattle.std.specs.FinMap.{len-empty}
use Rattle.std.specs.List.{sum_by}
use Rattle.std.proofs.lemmas.List.Elements.{All-cons, All-head, All-nil, All-push, All-tail, All-weaker}
use Rattle.std.proofs.lemmas.List.{length-map, length-replicate, replicate-append-replicate}
use Rattle.std.proofs.lemmas.List.Sums.{sum_by-append, sum_by-cons}
use Rattle.bytecode.specs.declared.code.Code.{Code}
use Rattle.can_bus.specs.Bus.{Carries, new_bus, next_moment}
use Rattle.can_bus.specs.Waiting.{name_cmp}
use Rattle.can_bus.proofs.FramesCome.{new_bus-carries_none}
use Rattle.can_frame.specs.Frame.{FrameFields, IsFrame}
use Rattle.capl_tree.specs.declared.file.Program.{Program}
use Rattle.dbc_reader.specs.declared.message.DbcMessage.{DbcMessage}
use Rattle.node_run.specs.Node.{NodeInRound, loaded}
use Rattle.node_run.specs.Sound.{IsSound}
use Rattle.scenario.specs.declared.scenario.NodeItem.{NodeItem}
use Rattle.log_line.specs.Written.{IsLoggable}
use Rattle.replay_node.specs.declared.replay.Replay.{Replay}
use Rattle.replay_node.specs.declared.replay.Request.{Request}
use Rattle.sim_inputs.specs.Answer.{IsPlayable}
use Rattle.scenario.specs.declared.scenario.Scenario.{Scenario}
use Rattle.sim_core.specs.Core.{IsLoaded}
use Rattle.sim_inputs.specs.Answer.{AreCodesFor}
use Rattle.sim_inputs.specs.Accepted.{NodeSource, file_names}
use Rattle.sim_play.specs.Play.{AreLabelsOf, AreNewRows, HaveFiles, StandInOrder}
use Rattle.source_compiler.specs.Source.{AreTreesOf, lines_of}
use Rattle.source_laws.specs.Code.{HasSourceTables, IsSourceCode}
use Rattle.stack_vm.specs.declared.meter.MeterRow.{MeterRow}
use Rattle.sim_run.proofs.FileLemmas.{files_number_entries}
use Rattle.sim_run.specs.Inside.Loaded.{AreLoaded, loaded_nodes, no_run, rows_of_code}
use Rattle.sim_run.specs.Inside.Played.{labels_with}

-- ---- one node more

loaded_push : (turns number : ℕ) (codes : List Code) (code : Code) →
    loaded_nodes turns number (codes ++ code ∷ []) ≡ loaded_nodes turns number codes ++ loaded code (number + sum_by rows_of_code codes) turns ∷ []
loaded_push turns number [] code = ap (λ n. loaded code n turns ∷ []) (omega arith)
loaded_push turns number (first ∷ codes) code =
    let sum = sum_by-cons rows_of_code first codes in
    let behind : number + rows_of_code first + sum_by rows_of_code codes ≡ number + sum_by rows_of_code (first ∷ codes) = omega (arith, sum) in
    ap (λ l. loaded first number turns ∷ l)
    (loaded_push turns (number + rows_of_code first) codes code ∙ ap (λ n. loaded_nodes turns (number + rows_of_code first) codes ++ loaded code n turns ∷ []) behind)

-- before the first node
pub none_loaded : (turns : ℕ) (meter : List MeterRow) → meter ≡ [] → AreLoaded turns [] [] meter
none_loaded turns meter none = record { are = refl; sound = All-nil (λ (node : NodeInRound). IsSound node.doing.node); rows = none }

-- one node more, with its rows behind the others
pub one_more_loaded : (turns : ℕ) (codes : List Code) (nodes : List NodeInRound) (before : List MeterRow) (code : Code) (node : NodeInRound) (after : List MeterRow) →
    AreLoaded turns codes nodes before → node ≡ loaded code (length before) turns → IsSound node.doing.node → after ≡ before ++ replicate (rows_of_code code) no_run →
    AreLoaded turns (codes ++ code ∷ []) (nodes ++ node ∷ []) after
one_more_loaded turns codes nodes before code node after are is sound rows =
    let sum : ℕ = sum_by rows_of_code codes in
    let long : length before ≡ 0 + sum = ap length are.rows ∙ length-replicate sum no_run ∙ omega arith in
    let sum_more = sum_by-append rows_of_code codes (code ∷ []) in
    let last = sum_by-cons rows_of_code code [] in
    let all : sum + rows_of_code code ≡ sum_by rows_of_code (codes ++ code ∷ []) = omega (arith, sum_more, last) in
    record {
      are = ap (λ l. l ++ node ∷ []) are.are ∙ ap (λ (n : NodeInRound). loaded_nodes turns 0 codes ++ n ∷ []) (is ∙ ap (λ n. loaded code n turns) long) ∙ sym (loaded_push turns 0 codes code);
      sound = All-push (λ (n : NodeInRound). IsSound n.doing.node) nodes node are.sound sound;
      rows = rows ∙ ap (λ l. l ++ replicate (rows_of_code code) no_run) are.rows ∙ replicate-append-replicate sum (rows_of_code code) no_run ∙ ap (λ n. replicate n no_run) all;
    }

-- ---- what holds of all of them

-- a node is as it was loaded
abbrev IsNew : NodeInRound → Type 0
IsNew node = node ≡ loaded node.doing.node.memory.code node.first_row node.doing.node.memory.turns

all_new : (turns number : ℕ) (codes : List Code) → All IsNew (loaded_nodes turns number codes)
all_new turns number [] = All-nil IsNew
all_new turns number (code ∷ codes) = All-cons IsNew (loaded code number turns) (loaded_nodes turns (number + rows_of_code code) codes) refl (all_new turns (number + rows_of_code code) codes)

-- so are all nodes that were loaded
pub all_loaded : (turns : ℕ) (codes : List Code) (nodes : List NodeInRound) (meter : List MeterRow) → AreLoaded turns codes nodes meter → All IsLoaded nodes
all_loaded turns codes nodes meter are =
    let new = subst (All IsNew) (sym are.are) (all_new turns 0 codes) in
    λ k d within. record { is_new = new k d within; is_sound = are.sound k d within }

as_many_loaded : (turns number : ℕ) (codes : List Code) → length (loaded_nodes turns number codes) ≡ length codes
as_many_loaded turns number [] = refl
as_many_loaded turns number (code ∷ codes) = let rest = as_many_loaded turns (number + rows_of_code code) codes in omega (arith, rest)

-- there are as many nodes as codes
pub as_many_nodes : (turns : ℕ) (codes : List Code) (nodes : List NodeInRound) (meter : List MeterRow) → AreLoaded turns codes nodes meter → length nodes ≡ length codes
as_many_nodes turns codes nodes meter are = ap length are.are ∙ as_many_loaded turns 0 codes

stand : (turns number : ℕ) (codes : List Code) → StandInOrder number (loaded_nodes turns number codes) (number + sum_by rows_of_code codes)
stand turns number [] = omega arith
stand turns number (code ∷ codes) =
    let sum = sum_by-cons rows_of_code code codes in
    let behind : number + rows_of_code code + sum_by rows_of_code codes ≡ number + sum_by rows_of_code (code ∷ codes) = omega (arith, sum) in
    (refl, subst (StandInOrder (number + rows_of_code code) (loaded_nodes turns (number + rows_of_code code) codes)) behind (stand turns (number + rows_of_code code) codes))

-- the meter has their rows, all of zeros
pub new_rows : (turns : ℕ) (codes : List Code) (nodes : List NodeInRound) (meter : List MeterRow) → AreLoaded turns codes nodes meter → AreNewRows nodes meter
new_rows turns codes nodes meter are =
    let sum : ℕ = sum_by rows_of_code codes in
    let long : length meter ≡ sum = ap length are.rows ∙ length-replicate sum no_run in
    let end : 0 + sum ≡ length meter = omega (arith, long) in
    record {
      in_order = subst (λ (l : List NodeInRound). StandInOrder 0 l (length meter)) (sym are.are) (subst (StandInOrder 0 (loaded_nodes turns 0 codes)) end (stand turns 0 codes));
      zeros = are.rows ∙ ap (λ n. replicate n no_run) (sym long);
    }

-- ---- under which names they are shown

-- the tables of the code of a source are the source's
abbrev pub TablesLaw : Type 0
TablesLaw = (base : List DbcMessage) (program : Program) (lines : List (List ℕ)) (code : Code) → IsSourceCode base program lines code → HasSourceTables base program lines code

-- a program has the trees of a source's files
abbrev HasTrees : NodeSource → Type 0
HasTrees source = AreTreesOf source.files source.program

files_there : TablesLaw → (base : List DbcMessage) (turns number : ℕ) (sources : List NodeSource) (codes : List Code) → AreCodesFor base sources codes → All HasTrees sources →
    HaveFiles (map file_names sources) (loaded_nodes turns number codes)
files_there law base turns number [] [] codes_are trees = tt
files_there law base turns number [] (code ∷ codes) codes_are trees = elim codes_are [ ]
files_there law base turns number (source ∷ sources) [] codes_are trees = elim codes_are [ ]
files_there law base turns number (source ∷ sources) (code ∷ codes) codes_are trees =
    let own = codes_are.0 in
    let tables = law base source.program (lines_of source.files) code (record { typed = own.0; accepted = own.1; code_is = own.2 }) in (
      inr (files_number_entries base source (lines_of source.files) code.handlers (All-head HasTrees source sources trees) tables.handlers),
      files_there law base turns (number + rows_of_code code) sources codes codes_are.1 (All-tail HasTrees source sources trees),
    )

-- they are shown under these names
pub labels_fit : TablesLaw → (scenario : Scenario) (base : List DbcMessage) (sources : List NodeSource) (turns : ℕ) (codes : List Code) (nodes : List NodeInRound) (meter : List MeterRow)
    (files : List (List (List ℕ))) (replay : Replay) → AreLoaded turns codes nodes meter → length codes ≡ length scenario.nodes.items → replay.epoch < 2 ^ 32 → AreCodesFor base sources codes →
    All HasTrees sources → files ≡ map file_names sources → AreLabelsOf (labels_with scenario files replay) nodes
labels_fit law scenario base sources turns codes nodes meter files replay are one_each epoch codes_are trees files_are = record {
  names = length-map scenario.nodes.items (λ (node : NodeItem). node.name) ∙ sym one_each ∙ sym (as_many_nodes turns codes nodes meter are);
  files = subst (HaveFiles files) (sym are.are) (subst (λ f. HaveFiles f (loaded_nodes turns 0 codes)) (sym files_are) (files_there law base turns 0 sources codes codes_are trees));
  in_range = epoch;
}

-- ---- on a new bus

-- nothing is due on a new bus
pub nothing_due : (bit : ℕ) → next_moment (new_bus bit) ≡ None
nothing_due bit = ap (λ n. if n == 0 then None else Some 0) (len-empty name_cmp FrameFields)

-- and each frame that it carries is one, as it carries none
pub carries_none : (bit : ℕ) (frame : FrameFields) → Carries (new_bus bit) frame → IsFrame frame
carries_none bit frame carries = absurd (new_bus-carries_none bit frame carries)

-- ---- the replay

-- what a replay that can be played asks for are frames
pub frames_of : (replay : Replay) → IsPlayable replay → All (λ (request : Request). IsFrame request.frame) replay.list
frames_of replay playable = All-weaker (λ (request : Request). IsLoggable request.frame) (λ (request : Request). IsFrame request.frame) (λ request can. can.valid) replay.list playable.frames
