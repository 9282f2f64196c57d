-- What a refusal tells of its log.
use Rattle.std.specs.Prelude.{ℕ, List, ⊤}
use Rattle.replay_node.specs.Replay.{IsBadLine}
use Rattle.replay_node.specs.declared.replay.ReplayRefusal.{ReplayRefusal}
use Rattle.replay_node.specs.declared.replay.ReplayRefusal.TheVariants.{BadLine, NoMemory}

-- the line that it names, if it names one, is the bad line
abbrev pub IsRefusalOf : List ℕ → ReplayRefusal → Type 0
IsRefusalOf log (BadLine number) = IsBadLine log number
IsRefusalOf log NoMemory = ⊤
