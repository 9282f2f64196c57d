-- Each input is one of three, and has an answer.
use Rattle.std.proofs.Common.{ℕ, List, [], Option, inl, inr, refl, subst}
use Rattle.std.specs.Prelude.{◌⊎◌}
use Rattle.stack_vm.specs.declared.meter.MeterRow.{MeterRow}
use Rattle.scenario.specs.declared.scenario.Scenario.{Scenario}
use Rattle.replay_node.specs.declared.replay.Replay.{Replay}
use Rattle.dbc_reader.specs.declared.message.DbcMessage.{DbcMessage}
use Rattle.capl_include.specs.Expansion.{Contents}
use Rattle.sim_inputs.specs.Accepted.{AreAccepted, IsFirstBlame, NodeSource}
use Rattle.sim_play.specs.declared.labels.Show.{Show}
use Rattle.sim_text.specs.Lines.{blame_line}
use Rattle.sim_run.proofs.AnswerLemmas.{NotBothLaw}
use Rattle.sim_run.proofs.CommandLemmas.{asked_or_none, one_asked}
use Rattle.sim_run.specs.Answer.{IsAnswer}
use Rattle.sim_run.specs.Command.{IsAsked, IsNoCommand}
use Rattle.sim_run.specs.declared.status.Status.{Status}
use Rattle.sim_run.specs.declared.status.Status.TheVariants.{Done, Refused, Usage}
use Rattle.sim_answers.specs.Cases.{FindsAccepted, FindsBlame}
use Rattle.sim_answers.proofs.Commands.{asking_or_none}
use Rattle.sim_answers.proofs.Inputs.{IsTakenOrBlamed, inputs_or_blame}

-- ---- one of three

-- the words are no command, or find accepted inputs, or find a blame
abbrev IsOneOfThree : Contents → List (List ℕ) → Type 0
IsOneOfThree contents words = IsNoCommand words ⊎ FindsAccepted contents words ⊎ FindsBlame contents words

asked_finds : (contents : Contents) (words : List (List ℕ)) (what : Option Show) (held : Contents) (name : List ℕ) → IsAsked contents words what held name
    → IsTakenOrBlamed held name → IsOneOfThree contents words
asked_finds contents words what held name asked (inl (scenario, base, sources, replay, accepted)) =
    inr (inl (record {
      what = what;
      held = held;
      name = name;
      asked = asked;
      scenario = scenario;
      base = base;
      sources = sources;
      replay = replay;
      accepted = accepted;
    }))
asked_finds contents words what held name asked (inr (blame, first)) =
    inr (inr (record { what = what; held = held; name = name; asked = asked; blame = blame; first = first }))

-- each input is one of three
pub one_of_three : (contents : Contents) (words : List (List ℕ)) → IsOneOfThree contents words
one_of_three contents words =
    elim (asking_or_none contents words) [
      | inl (what, held, name, asked) ↦ asked_finds contents words what held name asked (inputs_or_blame held name)
      | inr none ↦ inl none
    ]

-- what finds accepted inputs is a command
pub accepted_asks : (contents : Contents) (words : List (List ℕ)) → IsNoCommand words → FindsAccepted contents words → ⊥
accepted_asks contents words none finds = asked_or_none contents words finds.what finds.held finds.name finds.asked none

-- what finds a blame is a command
pub blamed_asks : (contents : Contents) (words : List (List ℕ)) → IsNoCommand words → FindsBlame contents words → ⊥
blamed_asks contents words none finds = asked_or_none contents words finds.what finds.held finds.name finds.asked none

-- accepted inputs have no blame
pub accepted_or_blamed : NotBothLaw → (contents : Contents) (words : List (List ℕ)) → FindsAccepted contents words → FindsBlame contents words → ⊥
accepted_or_blamed law contents words accepted blamed =
    let same = one_asked contents words blamed.what accepted.what blamed.held accepted.held blamed.name accepted.name blamed.asked accepted.asked in
    let by_held : IsFirstBlame accepted.held blamed.name blamed.blame = subst (λ (held : Contents). IsFirstBlame held blamed.name blamed.blame) same.holds blamed.first in
    let by_name : IsFirstBlame accepted.held accepted.name blamed.blame = subst (λ name. IsFirstBlame accepted.held name blamed.blame) same.names by_held in
    law accepted.held accepted.name accepted.scenario accepted.base accepted.sources accepted.replay blamed.blame accepted.accepted by_name

-- ---- an answer

-- accepted inputs have an answer
abbrev pub AcceptedAnswers : Type 0
AcceptedAnswers = (contents held : Contents) (words : List (List ℕ)) (what : Option Show) (name : List ℕ) (scenario : Scenario) (base : List DbcMessage)
    (sources : List NodeSource) (replay : Replay) → IsAsked contents words what held name → AreAccepted held name scenario base sources replay →
    (bytes : List ℕ) × (rows : List MeterRow) × IsAnswer contents words Done bytes rows

-- an answer with some status
abbrev HasAnswer : Contents → List (List ℕ) → Type 0
HasAnswer contents words = (status : Status) × (bytes : List ℕ) × (rows : List MeterRow) × IsAnswer contents words status bytes rows

answer_by : AcceptedAnswers → (contents : Contents) (words : List (List ℕ)) → IsOneOfThree contents words → HasAnswer contents words
answer_by law contents words (inl none) = (Usage, [], [], inr (none, refl, refl, refl))
answer_by law contents words (inr (inl finds)) =
    let answer = law contents finds.held words finds.what finds.name finds.scenario finds.base finds.sources finds.replay finds.asked finds.accepted in
    (Done, answer.0, answer.1, answer.2)
answer_by law contents words (inr (inr finds)) = (
  Refused,
  blame_line finds.blame,
  [],
  inl (record {
    what = finds.what;
    held = finds.held;
    name = finds.name;
    asked = finds.asked;
    answer = record { blame = finds.blame; first = finds.first; line = refl; no_rows = refl };
  }),
)

-- any words have an answer over any contents
pub some_answer : AcceptedAnswers → (contents : Contents) (words : List (List ℕ)) → HasAnswer contents words
some_answer law contents words = answer_by law contents words (one_of_three contents words)

-- a command without a blame has one of status 0
pub whole_answer : AcceptedAnswers → (contents : Contents) (words : List (List ℕ)) → (IsNoCommand words → ⊥) → (FindsBlame contents words → ⊥)
    → (bytes : List ℕ) × (rows : List MeterRow) × IsAnswer contents words Done bytes rows
whole_answer law contents words command blameless = elim (one_of_three contents words) [
  | inl none ↦ absurd (command none)
  | inr (inl finds) ↦
      law contents finds.held words finds.what finds.name finds.scenario finds.base finds.sources finds.replay finds.asked finds.accepted
  | inr (inr finds) ↦ absurd (blameless finds)
]
