-- What private functions of the answer mean.
use Rattle.std.specs.Prelude.{◌≡◌, ◌⊎◌, ℕ, List, Option, Result, Ok, Err}
use Rattle.capl_include.specs.Expansion.{Contents}
use Rattle.stack_vm.specs.declared.meter.MeterRow.{MeterRow}
use Rattle.sim_outside.specs.Sink.{GrowsByPrefix}
use Rattle.sim_play.specs.declared.labels.Show.{Show}
use Rattle.sim_run.specs.Answer.{IsAnswerOn}
use Rattle.sim_run.specs.Command.{IsCommand, IsGenerated}
use Rattle.sim_run.specs.declared.command.Asked.{Asked}
use Rattle.sim_run.specs.declared.command.Asked.TheVariants.{Files, Generated}
use Rattle.sim_outside.specs.declared.sink.SinkRefusal.{SinkRefusal}
use Rattle.sim_outside.specs.declared.sink.SinkRefusal.TheVariants.{Failed, NoMemory}
use Rattle.sim_run.specs.declared.status.Status.{Status}
use Rattle.sim_run.specs.declared.status.Status.TheVariants.{WriteFault, OutOfMemory}

-- the status of the answer where it was written, else that of the refusal
abbrev pub status_after : Status → Result (Unit {0}) SinkRefusal → Status
status_after status (Ok done) = status
status_after status (Err Failed) = WriteFault
status_after status (Err NoMemory) = OutOfMemory

-- the words ask for this
abbrev pub AsksFor : List (List ℕ) → Asked → Type 0
AsksFor words (Files command name) = IsCommand words command name.now
AsksFor words (Generated count) = IsGenerated words count

-- nothing was written, or a beginning of the answer over the inputs of a name
abbrev pub IsBegunOn : Option Show → Contents → List ℕ → Option (List ℕ) → Option (List ℕ) → Type 0
IsBegunOn what held name old new =
    (new ≡ old)
    ⊎ ((status : Status) × (bytes : List ℕ) × (rows : List MeterRow)
    × IsAnswerOn what held name status bytes rows × GrowsByPrefix old new bytes)
