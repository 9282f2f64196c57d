-- How far the reading of a log has come.
use Rattle.std.specs.Prelude.{◌≡◌, ℕ, List, [], ◌∷◌, ◌++◌, max, Option, Some, None}
use Rattle.log_line.specs.declared.line.Entry as declared
use Rattle.log_line.specs.declared.line.Line.{Line}
use Rattle.replay_node.specs.Replay.{entries_on, skipped_on, second_before, epoch_seconds, start_of, requests_from}
use Rattle.scenario.specs.declared.scenario.Epoch.{Epoch}
use Rattle.scenario.specs.declared.scenario.Epoch.TheVariants.{At, First}
use Rattle.replay_node.specs.declared.progress.Progress.{Progress}

-- the epoch, where it is known after these entries
abbrev pub known_epoch : Epoch → List declared.Entry → Option ℕ
known_epoch (At seconds) entries = Some seconds
known_epoch First [] = None
known_epoch First (entry ∷ entries) = Some (second_before entry.seconds)

-- when the last of the entries asks
abbrev pub last_asked : ℕ → ℕ → ℕ → List declared.Entry → ℕ
last_asked bit epoch before [] = before
last_asked bit epoch before (entry ∷ entries) =
    last_asked bit epoch (max before (start_of bit epoch entry)) entries

-- what is known after these entries and so many lines that were passed over
pub record IsProgressOf
    (bit : ℕ) (epoch : Epoch) (skipped : ℕ) (entries : List declared.Entry) (progress : Progress)
    : Type 0 where
  pub epoch_is : progress.epoch ≡ known_epoch epoch entries
  pub skipped_is : progress.skipped ≡ skipped
  pub before_is : progress.before ≡ last_asked bit (epoch_seconds epoch entries) 0 entries
  pub list_is : progress.list.items ≡ requests_from bit (epoch_seconds epoch entries) 0 entries

-- what is known after these readings
abbrev pub IsProgress : List ℕ → ℕ → Epoch → List Line → Progress → Type 0
IsProgress interface bit epoch readings progress =
    IsProgressOf bit epoch (skipped_on interface readings) (entries_on interface readings) progress

-- the epoch for an entry, where it is the first if no epoch is known
abbrev pub epoch_for : Option ℕ → ℕ → ℕ
epoch_for (Some epoch) seconds = epoch
epoch_for None seconds = second_before seconds

-- one more entry asks
pub record Asks (bit : ℕ) (old : Progress) (entry : declared.Entry) (new : Progress) : Type 0 where
  pub epoch_is : new.epoch ≡ Some (epoch_for old.epoch entry.seconds)
  pub skipped_is : new.skipped ≡ old.skipped
  pub before_is : new.before ≡ max old.before (start_of bit (epoch_for old.epoch entry.seconds) entry)
  pub list_is : new.list.items ≡ old.list.items ++ record { at = new.before; frame = entry.frame } ∷ []
