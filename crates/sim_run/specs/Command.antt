-- The words of the command line, and what they ask for.
use Rattle.std.specs.Prelude.{◌≡◌, ◌⊎◌, ◌≤◌, ℕ, List, [], ◌∷◌, codes, decimal, Option, None, Some}
use Rattle.capl_include.specs.Expansion.{Contents}
use Rattle.sim_gen.specs.Generated.{generated_files, scenario_name}
use Rattle.sim_play.specs.declared.labels.Show.{Show}
use Rattle.sim_play.specs.declared.labels.Show.TheVariants as show
use Rattle.sim_run.specs.declared.command.Command.{Command}
use Rattle.sim_run.specs.declared.command.Command.TheVariants.{Check, Window, Log, Run, Profile}

-- the first word of a command
abbrev pub command_word : Command → List ℕ
command_word Check = codes "check"
command_word Window = codes "window"
command_word Log = codes "log"
command_word Run = codes "run"
command_word Profile = codes "profile"

-- what a command shows of a run; `check` runs nothing
abbrev pub show_of : Command → Option Show
show_of Check = None
show_of Window = Some show.Window
show_of Log = Some show.Log
show_of Run = Some show.Both
show_of Profile = Some show.Profile

-- the words are a command and the name of a scenario
abbrev pub IsCommand : List (List ℕ) → Command → List ℕ → Type 0
IsCommand words command name = words ≡ command_word command ∷ name ∷ []

-- the words are `gen` and a number of nodes from 1 to 64, in decimal digits
pub record IsGenerated (words : List (List ℕ)) (count : ℕ) : Type 0 where
  pub words_are : words ≡ codes "gen" ∷ decimal count ∷ []
  pub some : 1 ≤ count
  pub few : count ≤ 64

-- the words are neither
pub record IsNoCommand (words : List (List ℕ)) : Type 0 where
  pub no_command : (command : Command) → (name : List ℕ) → IsCommand words command name → ⊥
  pub no_count : (count : ℕ) → IsGenerated words count → ⊥

-- The words ask for this to be shown, or for nothing, of the inputs of a name among files that hold this: a
-- command, of the files that there are; `gen`, for the summary of a generated scenario, of its own.
abbrev pub IsAsked : Contents → List (List ℕ) → Option Show → Contents → List ℕ → Type 0
IsAsked contents words what held name =
    ((command : Command) × IsCommand words command name × (what ≡ show_of command) × (held ≡ contents))
    ⊎ ((count : ℕ) × IsGenerated words count × (what ≡ Some show.Summary) × (held ≡ generated_files count)
    × (name ≡ scenario_name))
