-- What is known of a replay, after so much of its log.
use Rattle.std.proofs.Common.{◌≡◌, ◌≤◌, ◌+◌, ℕ, Bool, List, [], ◌∷◌, ◌++◌, arith}
use Rattle.log_line.specs.Reading.{Reads}
use Rattle.log_line.specs.declared.line.Line.{Line}
use Rattle.scenario.specs.declared.scenario.Epoch.{Epoch}
use Rattle.replay_node.specs.Inside.Progress.{IsProgress}
use Rattle.replay_node.specs.declared.progress.Progress.{Progress}
use Rattle.replay_node.proofs.LogLemmas.{HasRead, IsFirst, read_more, read_nothing}

-- so much of the log is left, and this is known after the lines before it
pub record HasTaken (log rest interface : List ℕ) (bit : ℕ) (epoch : Epoch) (number : ℕ) (progress : Progress) : Type 0 where
  pub readings : List Line
  pub has_read : HasRead log rest number readings
  pub skipped_room : progress.skipped ≤ number
  pub is : IsProgress interface bit epoch readings progress

-- nothing is known yet
pub taken_nothing : (log interface : List ℕ) (bit : ℕ) (epoch : Epoch) (progress : Progress) → progress.skipped ≡ 0 → IsProgress interface bit epoch [] progress
    → HasTaken log log interface bit epoch 0 progress
taken_nothing log interface bit epoch progress none is = record { readings = []; has_read = read_nothing log; skipped_room = omega (arith, none); is = is }

-- one more line that reads is taken
pub take_more : (log rest line after interface : List ℕ) (ended : Bool) (bit : ℕ) (epoch : Epoch) (number : ℕ) (old new : Progress) (reading : Line)
    → HasTaken log rest interface bit epoch number old → IsFirst rest line ended after → Reads line reading
    → ((readings : List Line) → IsProgress interface bit epoch readings old → IsProgress interface bit epoch (readings ++ reading ∷ []) new) → new.skipped ≤ old.skipped + 1
    → HasTaken log after interface bit epoch (number + 1) new
take_more log rest line after interface ended bit epoch number old new reading has first reads taken room =
    let old_room = has.skipped_room in
    record {
      readings = has.readings ++ reading ∷ [];
      has_read = read_more log rest line after ended number has.readings reading has.has_read first reads;
      skipped_room = omega (arith, room, old_room);
      is = taken has.readings has.is;
    }
