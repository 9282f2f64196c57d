-- Files that are kept in memory.
use Rattle.std.specs.Prelude.{ℕ, List, Option}
use Rattle.std.specs.Map.{lookup}
use Rattle.std.specs.Str.{bytes_eq}

-- the entries, the numbers of the calls that fail, the number of the next call, and how many failed
pub record FilesInMemory : Type 0 where
  pub entries : List (List ℕ × List ℕ)
  pub failing : List ℕ
  pub next_call : ℕ
  pub faults : ℕ

-- what the first entry of a name holds
abbrev pub held_in : List (List ℕ × List ℕ) → List ℕ → Option (List ℕ)
held_in entries name = lookup (λ key. bytes_eq key name) entries
