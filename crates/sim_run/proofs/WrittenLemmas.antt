-- What was written of the answer to words, once their inputs were read.
use Rattle.std.proofs.Common.{◌≡◌, ℕ, List, [], Option, None, Some, Result, Ok, Err, refl, sym, ap, subst, inl, inr, ⊎_elim, arith}
use Rattle.std.specs.Prelude.{◌⊎◌, codes}
use Rattle.sim_outside.specs.Sink.{GrowsBy, GrowsByPrefix, Writes}
use Rattle.texts.specs.Fault.{HasRisen}
use Rattle.texts.specs.declared.blame.Blame.{Blame}
use Rattle.sim_outside.specs.declared.sink.SinkRefusal.{SinkRefusal}
use Rattle.sim_outside.specs.declared.sink.SinkRefusal.TheVariants.{Failed, NoMemory}
use Rattle.stack_vm.specs.declared.meter.MeterRow.{MeterRow}
use Rattle.scenario.specs.declared.scenario.Scenario.{Scenario}
use Rattle.replay_node.specs.declared.replay.Replay.{Replay}
use Rattle.dbc_reader.specs.declared.message.DbcMessage.{DbcMessage}
use Rattle.capl_include.specs.Expansion.{Contents}
use Rattle.run_meaning.specs.Steps.{Step, steps}
use Rattle.sim_gen.specs.Generated.{made_contents, scenario_name, generated}
use Rattle.sim_gen.specs.declared.generated.Made.{Made}
use Rattle.sim_inputs.specs.Accepted.{AreAccepted, IsFirstBlame, NodeSource}
use Rattle.sim_inputs.specs.Answer.{AreInputsOf}
use Rattle.sim_inputs.specs.declared.inputs.Inputs.{Inputs}
use Rattle.sim_play.specs.declared.labels.Show.{Show}
use Rattle.sim_play.specs.declared.labels.Show.TheVariants.{Summary}
use Rattle.sim_text.specs.Lines.{blame_line}
use Rattle.sim_run.specs.Answer.{IsAnswer, IsAnswerOf, IsAnswerOn, IsAnsweredInPart, IsBegun, IsShown}
use Rattle.sim_run.specs.Command.{IsAsked, IsGenerated}
use Rattle.sim_run.specs.Inside.Answer.{IsBegunOn, status_after}
use Rattle.sim_run.specs.Inside.Played.{AnswersInputs, IsCut}
use Rattle.sim_run.specs.Run.{rows_in, shown_of}
use Rattle.sim_run.specs.declared.status.Status.{Status}
use Rattle.sim_run.specs.declared.status.Status.TheVariants.{Done, Refused, WriteFault, OutOfMemory}
use Rattle.sim_run.proofs.AnswerLemmas.{moved_answer}
use Rattle.sim_run.proofs.CommandLemmas.{one_asked}

-- ---- inputs that were read

-- an answer of accepted inputs is one over them
done_by : (what : Option Show) (held : Contents) (name : List ℕ) (inputs : Inputs) (are : AreInputsOf held name inputs) (bytes : List ℕ) (rows : List MeterRow) →
    IsAnswerOf what inputs.scenario are.base are.sources inputs.replay bytes rows → IsAnswerOn what held name Done bytes rows
done_by what held name inputs are bytes rows answers = record {
  scenario = inputs.scenario;
  base = are.base;
  sources = are.sources;
  replay = inputs.replay;
  accepted = are.accepted;
  answers = answers;
}

-- what was answered whole
answered : (what : Option Show) (held : Contents) (name : List ℕ) (inputs : Inputs) (are : AreInputsOf held name inputs) (done : Unit {0}) (old new : Option (List ℕ)) (rows : List MeterRow) →
    AnswersInputs {A = Unit {0}} what inputs old new rows (Ok done) → (bytes : List ℕ) × IsAnswerOf what inputs.scenario are.base are.sources inputs.replay bytes rows × GrowsBy old new bytes
answered None held name inputs are done old new rows answers = (codes "ok\n", (refl, answers.1), answers.0)
answered (Some show) held name inputs are done old new rows answers =
    let played = answers are.base are.sources are.codes are.files in
    (played.bytes, played.shown, played.grows)

-- a beginning of what is shown of a run is one of its answer
cut_begun : (show : Show) (scenario : Scenario) (base : List DbcMessage) (sources : List NodeSource) (replay : Replay) (old new : Option (List ℕ)) (rows : List MeterRow) →
    IsCut show scenario base sources replay old new rows → (bytes : List ℕ) × (counted : List MeterRow) × IsShown show scenario base sources replay bytes counted × GrowsByPrefix old new bytes
cut_begun show scenario base sources replay old new rows cut =
    let list : List Step = steps cut.part.rounds scenario.picks.items in (
      shown_of show scenario base sources replay list,
      rows_in base sources list,
      record { rounds = cut.part.rounds; run = cut.part.run; shows = refl; counts = refl },
      cut.begins,
    )

-- what was answered in part
partly_answered : (what : Option Show) (held : Contents) (name : List ℕ) (inputs : Inputs) (are : AreInputsOf held name inputs) (refusal : SinkRefusal) (old new : Option (List ℕ)) (rows : List MeterRow) →
    AnswersInputs {A = Unit {0}} what inputs old new rows (Err refusal) →
    (new ≡ old) ⊎ ((bytes : List ℕ) × (counted : List MeterRow) × IsAnswerOf what inputs.scenario are.base are.sources inputs.replay bytes counted × GrowsByPrefix old new bytes)
partly_answered None held name inputs are refusal old new rows answers = inr (codes "ok\n", [], (refl, refl), answers.0)
partly_answered (Some show) held name inputs are Failed old new rows answers =
    inr (cut_begun show inputs.scenario are.base are.sources inputs.replay old new rows (answers are.base are.sources are.codes are.files))
partly_answered (Some show) held name inputs are NoMemory old new rows answers =
    ⊎_elim (λ same. inl same) (λ cut. inr (cut_begun show inputs.scenario are.base are.sources inputs.replay old new rows cut)) (answers are.base are.sources are.codes are.files)

-- an answer that was written to its end
pub inputs_whole : (what : Option Show) (held : Contents) (name : List ℕ) (inputs : Inputs) (result : Result (Unit {0}) SinkRefusal) (old new : Option (List ℕ)) (rows : List MeterRow) →
    AreInputsOf held name inputs → AnswersInputs what inputs old new rows result → (status_after Done result ≡ Done) ⊎ (status_after Done result ≡ Refused) →
    (bytes : List ℕ) × IsAnswerOn what held name (status_after Done result) bytes rows × GrowsBy old new bytes
inputs_whole what held name inputs (Ok done) old new rows are answers ended =
    let own = answered what held name inputs are done old new rows answers in
    (own.0, done_by what held name inputs are own.0 rows own.1, own.2)
inputs_whole what held name inputs (Err Failed) old new rows are answers ended = absurd (⊎_elim (λ same. cc) (λ same. cc) ended)
inputs_whole what held name inputs (Err NoMemory) old new rows are answers ended = absurd (⊎_elim (λ same. cc) (λ same. cc) ended)

-- one that a fault ended
pub inputs_partly : (what : Option Show) (held : Contents) (name : List ℕ) (inputs : Inputs) (result : Result (Unit {0}) SinkRefusal) (old new : Option (List ℕ)) (rows : List MeterRow) →
    AreInputsOf held name inputs → AnswersInputs what inputs old new rows result → (status_after Done result ≡ WriteFault) ⊎ (status_after Done result ≡ OutOfMemory) → IsBegunOn what held name old new
inputs_partly what held name inputs (Ok done) old new rows are answers ended = absurd (⊎_elim (λ same. cc) (λ same. cc) ended)
inputs_partly what held name inputs (Err refusal) old new rows are answers ended =
    ⊎_elim (λ same. inl same)
    (λ own. inr (Done, own.0, own.1, done_by what held name inputs are own.0 own.1 own.2, own.3))
    (partly_answered what held name inputs are refusal old new rows answers)

-- one that a failed write ended, where a run is shown
pub inputs_as_it_happens : (what : Option Show) (held : Contents) (name : List ℕ) (inputs : Inputs) (result : Result (Unit {0}) SinkRefusal) (old new : Option (List ℕ)) (rows : List MeterRow) (show : Show) →
    AreInputsOf held name inputs → AnswersInputs what inputs old new rows result → what ≡ Some show → status_after Done result ≡ WriteFault → IsAnsweredInPart show held name old new rows
inputs_as_it_happens what held name inputs (Ok done) old new rows show are answers shows ended = absurd (cc)
inputs_as_it_happens what held name inputs (Err NoMemory) old new rows show are answers shows ended = absurd (cc)
inputs_as_it_happens what held name inputs (Err Failed) old new rows show are answers shows ended =
    let by_show = subst (λ (w : Option Show). AnswersInputs {A = Unit {0}} w inputs old new rows (Err Failed)) shows answers in
    record {
      scenario = inputs.scenario;
      base = are.base;
      sources = are.sources;
      replay = inputs.replay;
      accepted = are.accepted;
      part = (by_show are.base are.sources are.codes are.files).part;
    }

-- ---- a blame

-- the answer of a blame
pub answer_of_blame : (what : Option Show) (held : Contents) (name : List ℕ) (blame : Blame) (rows : List MeterRow) → IsFirstBlame held name blame → rows ≡ [] →
    IsAnswerOn what held name Refused (blame_line blame) rows
answer_of_blame what held name blame rows first none = record { blame = blame; first = first; line = refl; no_rows = none }

-- a blame whose line was written to its end
pub blame_whole : (what : Option Show) (held : Contents) (name : List ℕ) (result : Result (Unit {0}) SinkRefusal) (old new : Option (List ℕ)) (bytes : List ℕ) (rows : List MeterRow) →
    IsAnswerOn what held name Refused bytes rows → Writes old new bytes result → (status_after Refused result ≡ Done) ⊎ (status_after Refused result ≡ Refused) →
    (more : List ℕ) × IsAnswerOn what held name (status_after Refused result) more rows × GrowsBy old new more
blame_whole what held name (Ok done) old new bytes rows answer writes ended = (bytes, answer, writes)
blame_whole what held name (Err Failed) old new bytes rows answer writes ended = absurd (⊎_elim (λ same. cc) (λ same. cc) ended)
blame_whole what held name (Err NoMemory) old new bytes rows answer writes ended = absurd (⊎_elim (λ same. cc) (λ same. cc) ended)

-- a blame whose writing ended before
pub blame_partly : (what : Option Show) (held : Contents) (name : List ℕ) (result : Result (Unit {0}) SinkRefusal) (old new : Option (List ℕ)) (bytes : List ℕ) (rows : List MeterRow) →
    IsAnswerOn what held name Refused bytes rows → Writes old new bytes result → (status_after Refused result ≡ WriteFault) ⊎ (status_after Refused result ≡ OutOfMemory) →
    IsBegunOn what held name old new
blame_partly what held name (Ok done) old new bytes rows answer writes ended = absurd (⊎_elim (λ same. cc) (λ same. cc) ended)
blame_partly what held name (Err refusal) old new bytes rows answer writes ended = inr (Refused, bytes, rows, answer, writes)

-- ---- the answer to words

-- what was begun over the inputs that the words ask for was begun of their answer
pub begun_of : (contents : Contents) (words : List (List ℕ)) (what : Option Show) (held : Contents) (name : List ℕ) (old new : Option (List ℕ)) → IsAsked contents words what held name →
    IsBegunOn what held name old new → IsBegun contents words old new
begun_of contents words what held name old new asked (inl same) = inl same
begun_of contents words what held name old new asked (inr (status, bytes, rows, answer, begins)) =
    inr (status, bytes, rows, inl (record { what = what; held = held; name = name; asked = asked; answer = answer }), begins)

-- the answer to words is that over the inputs that they ask for
pub answer_over : (contents : Contents) (words : List (List ℕ)) (what : Option Show) (held : Contents) (name : List ℕ) (bytes : List ℕ) (rows : List MeterRow) → IsAsked contents words what held name →
    IsAnswer contents words Done bytes rows → IsAnswerOn what held name Done bytes rows
answer_over contents words what held name bytes rows asked (inl is) =
    moved_answer contents words is.what what is.held held is.name name Done bytes rows (one_asked contents words is.what what is.held held is.name name is.asked asked) is.answer
answer_over contents words what held name bytes rows asked (inr (none, usage, empty, no_rows)) = absurd (cc)

-- an answer over the inputs that the words ask for is one to them
pub answer_by : (contents : Contents) (words : List (List ℕ)) (what : Option Show) (held : Contents) (name : List ℕ) (status : Status) (old new : Option (List ℕ)) (rows : List MeterRow) → IsAsked contents words what held name →
    (bytes : List ℕ) × IsAnswerOn what held name status bytes rows × GrowsBy old new bytes → (bytes : List ℕ) × IsAnswer contents words status bytes rows × GrowsBy old new bytes
answer_by contents words what held name status old new rows asked (bytes, answer, grows) =
    (bytes, inl (record { what = what; held = held; name = name; asked = asked; answer = answer }), grows)

-- what was shown in part of the inputs that the words ask for was shown so of each that they ask for
pub part_over : (contents : Contents) (words : List (List ℕ)) (show : Show) (what : Option Show) (held third : Contents) (name fourth : List ℕ) (scenario : Scenario) (base : List DbcMessage) (sources : List NodeSource)
    (replay : Replay) (old new : Option (List ℕ)) (rows : List MeterRow) → IsAsked contents words (Some show) third fourth → IsAsked contents words what held name → AreAccepted third fourth scenario base sources replay →
    (what ≡ Some show → AreAccepted held name scenario base sources replay → IsAnsweredInPart show held name old new rows) → IsAnsweredInPart show third fourth old new rows
part_over contents words show what held third name fourth scenario base sources replay old new rows other asked accepted part =
    let same = one_asked contents words what (Some show) held third name fourth asked other in
    let here = subst (λ (h : Contents). AreAccepted h name scenario base sources replay) (sym same.holds) (subst (λ (n : List ℕ). AreAccepted third n scenario base sources replay) (sym same.names) accepted) in
    subst (λ (n : List ℕ). IsAnsweredInPart show third n old new rows) same.names
    (subst (λ (h : Contents). IsAnsweredInPart show h name old new rows) same.holds (part same.shows here))

-- ---- the files of a generated scenario

-- what `gen` asks for
pub asks_generated : (contents : Contents) (words : List (List ℕ)) (count : ℕ) (made : Made) (name : List ℕ) → IsGenerated words count → made ≡ generated count → name ≡ scenario_name →
    IsAsked contents words (Some Summary) (made_contents made) name
asks_generated contents words count made name is made_is name_is = inr (count, is, refl, ap made_contents made_is, name_is)

-- no read of them fails
pub none_fails : ¬ HasRisen 0 0
none_fails risen = ⊎_elim (λ less. omega (arith, less)) (λ most. omega (arith, most)) risen
