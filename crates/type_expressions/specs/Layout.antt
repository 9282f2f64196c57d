-- Where the variables of a program lie: for each its first cell, its number of elements, and the number of a
-- timer.
use Rattle.std.specs.Prelude.{◌≡◌, ℕ, ◌+◌, ◌<◌, ◌≤◌, List, [], ◌∷◌, sum_by, Option, Some, None}
use Rattle.capl_meaning.specs.Variable.{Form, Timer, Variable}
use Rattle.capl_meaning.specs.Names.{Names}
use Rattle.capl_meaning.specs.Constant.{elements_of}
use Rattle.capl_meaning.specs.Store.{size_of_form}
use Rattle.typed_laws.specs.Laid.{cell_count}
use Rattle.type_expressions.specs.declared.layout.Laid.{Laid}
use Rattle.type_expressions.specs.declared.layout.Layout.{Layout}

-- the number of a variable of a form, where so many timers stand before it: that of a timer
abbrev pub timer_at : ℕ → Form → ℕ
timer_at before (Timer unit) = before
timer_at before _ = 0

-- how many timers there are, with a variable of a form
abbrev pub timers_with : ℕ → Form → ℕ
timers_with before (Timer unit) = before + 1
timers_with before _ = before

-- variables in order, the first of which lies at a cell and has so many timers before it
abbrev pub laid_from : Names → ℕ → ℕ → List Variable → List Laid
laid_from names cell timers [] = []
laid_from names cell timers (v ∷ vs) =
    record { slot = cell; elements = elements_of names v; timer = timer_at timers v.form }
    ∷ laid_from names (cell + cell_count names v) (timers_with timers v.form) vs

-- the layout of a program's variables: they lie behind the 15 cells of the event
pub record IsLayoutOf (names : Names) (layout : Layout) : Type 0 where
  pub laid : layout.all.items ≡ laid_from names 15 0 names.variables

-- the cells of variables, as they count towards the limit of a program
abbrev pub size_in : Names → List Variable → ℕ
size_in names vs = sum_by (λ v. size_of_form (elements_of names v) v.form) vs

-- variables are laid out, unless their cells are more than 1,000,000
abbrev pub IsLaidOut : Names → Option Layout → Type 0
IsLaidOut names None = 1000000 < size_in names names.variables
IsLaidOut names (Some layout) = (size_in names names.variables ≤ 1000000) × IsLayoutOf names layout
