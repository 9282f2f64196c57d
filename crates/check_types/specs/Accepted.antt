-- What is known of a program that breaks no rule, and of its typed program.
use Rattle.std.specs.Prelude.{◌≡◌, ◌≢◌, ℕ, ◌<◌, ◌≤◌, List, [], AllPairs}
use Rattle.dbc_reader.specs.declared.message.DbcMessage.{DbcMessage}
use Rattle.capl_tree.specs.declared.file.Program.{Program}
use Rattle.typed_tree.specs.declared.program.Typed.{Typed}
use Rattle.typed_tree.specs.Sound.{IsSound}
use Rattle.capl_meaning.specs.Names.{names_of}
use Rattle.capl_meaning.specs.Offences.{offences_of}
use Rattle.capl_meaning.specs.Store.{cells_of_program}
use Rattle.typed_source.specs.Program.{HasEach, HasNoOther, typed_program}
use Rattle.check_types.specs.Lines.{line_in}

-- the most cells that a program may have
abbrev pub most_cells : ℕ
most_cells = 1000000

-- A program with a database breaks no rule and has few enough cells, and this is its typed program: its
-- functions stand in some order, each once, and the lines of its event procedures are those of these tokens.
pub record IsTypedOf (base : List DbcMessage) (program : Program) (lines : List (List ℕ)) (typed : Typed) :
    Type 0 where
  pub no_offence : offences_of base program ≡ []
  pub few_cells : cells_of_program base program ≤ most_cells
  pub order : List ℕ
  pub has_each : HasEach (names_of base program) order
  pub has_no_other : HasNoOther (names_of base program) order
  pub once : AllPairs (λ one other. one ≢ other) order
  pub typed_is : typed ≡ typed_program base program order (line_in lines)

-- a program with a database is accepted: this is its typed program, and it is sound
pub record IsAccepted (base : List DbcMessage) (program : Program) (lines : List (List ℕ)) (typed : Typed) :
    Type 0 where
  pub made : IsTypedOf base program lines typed
  pub sound : IsSound typed

-- a program breaks no rule, but has too many cells
pub record IsTooLarge (base : List DbcMessage) (program : Program) : Type 0 where
  pub no_offence : offences_of base program ≡ []
  pub many_cells : most_cells < cells_of_program base program
