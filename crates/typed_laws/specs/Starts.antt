-- What the cells of a typed program hold at first, and those of a source's variables.
use Rattle.std.specs.Prelude.{◌≡◌, ℕ, List, [], ◌∷◌, ◌++◌, fold, length, replicate, slice_set, ℤ, pos}
use Rattle.typed_tree.specs.declared.program.Typed.{Typed}
use Rattle.capl_meaning.specs.Variable.{Form, Number, Array, Message, Timer, Misfit, Variable}
use Rattle.capl_meaning.specs.Names.{Names}
use Rattle.capl_meaning.specs.Constant.{elements_of}
use Rattle.capl_meaning.specs.Initial.{element_of_form, first_store, message_of_form, number_of_form}
use Rattle.capl_meaning.specs.Store.{lay, message_cells, row}

-- cells once starts are put in them, one after another
abbrev pub started : List ℤ → List (ℕ × ℤ) → List ℤ
started cells starts = fold (λ cells start. slice_set cells start.0 start.1) cells starts

-- the first cells of a typed program: 0 where it has no start
abbrev pub first_cells : Typed → List ℤ
first_cells program = started (replicate (length program.cells) (pos 0)) program.starts

-- the first cells of a typed program are those that the first store of a source is laid out in, behind the
-- event's, which are 0
pub record StartsAs (names : Names) (program : Typed) : Type 0 where
  pub made : first_cells program ≡ replicate 15 (pos 0) ++ lay names (first_store names)

-- the first cells of a variable of a form, with so many elements
abbrev pub first_by_form : Names → Variable → ℕ → Form → List ℤ
first_by_form names v elements (Number k fixed) = number_of_form names v (Number k fixed) ∷ []
first_by_form names v elements (Array k fixed size) =
    row (λ i. element_of_form names v i (Array k fixed size)) 0 elements
first_by_form names v elements (Message type_) = message_cells (message_of_form names v (Message type_))
first_by_form names v elements (Timer unit) = []
first_by_form names v elements Misfit = []

-- the first cells of a variable
abbrev pub first_cells_of : Names → Variable → List ℤ
first_cells_of names v = first_by_form names v (elements_of names v) v.form
