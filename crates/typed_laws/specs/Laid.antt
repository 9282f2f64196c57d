-- How the memory of a source stands in the cells of its typed program: first the cells of the event, then
-- those of the variables in program order of their declarations.
use Rattle.std.specs.Prelude.{◌≡◌, ℕ, ◌+◌, ◌<◌, ◌≤◌, ◌⊎◌, Bool, true, false, if◌then◌else◌, List, [], ◌∷◌, ◌++◌, ⊤}
use Rattle.std.specs.List.{AllByRecursion}
use Rattle.message_cells.specs.Message.{size}
use Rattle.control_flow.specs.World.{World, Run, Gives, Fails}
use Rattle.capl_meaning.specs.declared.field.MessageField.{MessageField}
use Rattle.capl_meaning.specs.declared.field.MessageField.TheVariants.{Id, Dlc, Rtr, Can, Dir, Time}
use Rattle.capl_meaning.specs.Variable.{Form, Number, Array, Message, MessageType, Timer, Misfit, Variable}
use Rattle.capl_meaning.specs.Names.{Names}
use Rattle.capl_meaning.specs.Message.{Held, HeldFrame, HeldVariable, is_assignable_field, is_variable}
use Rattle.capl_meaning.specs.Constant.{elements_of}
use Rattle.capl_meaning.specs.Store.{Key, This, event_cells, variable_key, lay, same_key}
use Rattle.capl_meaning.specs.Expression.{InBytes, InElement, InField, InNumber, InSignal, Nowhere}
use Rattle.capl_meaning.specs.Expression as source
use Rattle.typed_tree.specs.Memory as typed

-- ---- variables and their cells

-- how many cells a variable of a form has, with so many elements
abbrev pub cells_by_form : ℕ → Form → ℕ
cells_by_form elements (Number k fixed) = 1
cells_by_form elements (Array k fixed size) = elements
cells_by_form elements (Message type_) = 14
cells_by_form elements (Timer unit) = 0
cells_by_form elements Misfit = 0

-- how many cells a variable has
abbrev pub cell_count : Names → Variable → ℕ
cell_count names v = cells_by_form (elements_of names v) v.form

-- how many cells the variables have that stand before the first with a key
abbrev pub cells_before : Names → List Variable → Key → ℕ
cells_before names [] k = 0
cells_before names (v ∷ vs) k =
    if same_key (variable_key v) k then 0 else cell_count names v + cells_before names vs k

-- the first cell of the variable with a key: behind the event's 15, and those of the variables before it
abbrev pub slot : Names → Key → ℕ
slot names k = 15 + cells_before names names.variables k

-- a thing is one of those in a list
abbrev pub IsAmong : {A : Type 0} → A → List A → Type 0
IsAmong x [] = ⊥
IsAmong x (y ∷ ys) = (y ≡ x) ⊎ IsAmong x ys

-- no two variables are of one procedure, or global, and have one name
abbrev pub AreDistinct : List Variable → Type 0
AreDistinct [] = ⊤
AreDistinct (v ∷ vs) =
    AllByRecursion (λ u. same_key (variable_key u) (variable_key v) ≡ false) vs × AreDistinct vs

-- ---- memories, worlds and runs

-- the memory of a typed program that a source's memory is laid out in, with the event's cells before it
abbrev pub laid_memory : Names → This → source.Memory → typed.Memory
laid_memory names this m = record { cells = event_cells this ++ lay names m.store; active = m.active }

-- the world, with its memory laid out
abbrev pub laid : Names → This → World source.Memory → World typed.Memory
laid names this w =
    record { memory = laid_memory names this w.memory; turns = w.turns; effects = w.effects }

-- a run, with the memory laid out that it ends with, and what it gives changed
abbrev pub mapped : {A B : Type 0} → Names → This → (A → B) → Run source.Memory A → Run typed.Memory B
mapped names this f (Gives a w) = Gives (f a) (laid names this w)
mapped names this f (Fails outcome w) = Fails outcome (laid names this w)

-- a run, with the memory laid out that it ends with
abbrev pub laid_run : {A : Type 0} → Names → This → Run source.Memory A → Run typed.Memory A
laid_run names this run = mapped names this (λ a. a) run

-- ---- places

-- the first cell of a message: of the frame that `this` is, or of a variable
abbrev pub message_slot : Names → Held → ℕ
message_slot names (HeldFrame signals) = 0
message_slot names (HeldVariable v signals) = slot names (variable_key v)

-- the place of a field of the message at a cell; direction and time, which have no write rule, are cells
abbrev pub laid_field : ℕ → MessageField → typed.Spot
laid_field at Id = typed.InField at 0
laid_field at Dlc = typed.InField at 1
laid_field at Rtr = typed.InField at 2
laid_field at Can = typed.InField at 3
laid_field at Dir = typed.InCell (at + 4)
laid_field at Time = typed.InCell (at + 5)

-- the place in cells of a place
abbrev pub laid_spot : Names → source.Spot → typed.Spot
laid_spot names Nowhere = typed.InCell 0
laid_spot names (InNumber k v) = typed.InCell (slot names (variable_key v))
laid_spot names (InElement k v i) = typed.InCell (slot names (variable_key v) + i)
laid_spot names (InField held f) = laid_field (message_slot names held) f
laid_spot names (InBytes held k i) = typed.InBytes (message_slot names held) k i
laid_spot names (InSignal held layout) = typed.InSignal (message_slot names held) layout

-- a variable of a program has this form
pub record HasForm (names : Names) (v : Variable) (form : Form) : Type 0 where
  pub among : IsAmong v names.variables
  pub form_is : v.form ≡ form

-- a held message is the frame, or a message variable of the program
abbrev pub IsHeld : Names → Held → Type 0
IsHeld names (HeldFrame signals) = ⊤
IsHeld names (HeldVariable v signals) = (type_ : MessageType) × HasForm names v (Message type_)

-- a place is there: the variable is declared so, and its index is in range
abbrev pub IsReal : Names → source.Spot → Type 0
IsReal names Nowhere = ⊥
IsReal names (InNumber k v) = (fixed : Bool) × HasForm names v (Number k fixed)
IsReal names (InElement k v i) =
    (fixed : Bool) × (size : _) × HasForm names v (Array k fixed size) × (i < elements_of names v)
IsReal names (InField held f) = IsHeld names held
IsReal names (InBytes held k i) = IsHeld names held × (i + size k ≤ 8)
IsReal names (InSignal held layout) = IsHeld names held

-- a place can be stored to: it is in no frame, and no direction or time
abbrev pub IsOpen : source.Spot → Type 0
IsOpen Nowhere = ⊥
IsOpen (InNumber k v) = ⊤
IsOpen (InElement k v i) = ⊤
IsOpen (InField held f) = (is_variable held ≡ true) × (is_assignable_field f ≡ true)
IsOpen (InBytes held k i) = is_variable held ≡ true
IsOpen (InSignal held layout) = is_variable held ≡ true

-- what a run gives, if it gives something, is so
abbrev pub GivesOnly : {A : Type 0} → (A → Type 0) → Run source.Memory A → Type 0
GivesOnly Holds (Gives a w) = Holds a
GivesOnly Holds (Fails outcome w) = ⊤
