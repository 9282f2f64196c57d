-- The variables that declarations declare, as they are listed.
use Rattle.std.specs.Prelude.{Bool, true, false, List, [], flat_map, map, Option, Some, None}
use Rattle.std.specs.Borrow.{Bor}
use Rattle.dbc_reader.specs.declared.message.DbcMessage.{DbcMessage}
use Rattle.capl_tree.specs.declared.declaration.Decl.{Decl}
use Rattle.capl_tree.specs.declared.statement.Arm.{Arm}
use Rattle.capl_tree.specs.declared.statement.Group.{Group}
use Rattle.capl_tree.specs.declared.statement.Stmt.{Stmt}
use Rattle.capl_meaning.specs.Variable.{Form, Misfit, Variable, declarations_in, form_of, variable_of_parameter}
use Rattle.check_names.specs.declared.variable.Declared.{Declared}
use Rattle.check_names.specs.declared.variable.Place.{Place}
use Rattle.check_names.specs.declared.variable.Source.{Source}
use Rattle.check_names.specs.declared.variable.Source.TheVariants as source

-- what references lend
abbrev pub lent : {X : Type 0} → List (Bor X) → List X
lent xs = map (λ x. x.now) xs

-- the declarations in statements
abbrev pub in_all : List Stmt → List Decl
in_all statements = flat_map declarations_in statements

-- those in arms of an `if`
abbrev pub in_arms : List Arm → List Decl
in_arms arms = flat_map (λ arm. declarations_in arm.body) arms

-- those behind a last `else`
abbrev pub in_else : Option Stmt → List Decl
in_else None = []
in_else (Some body) = declarations_in body

-- those in groups of a `switch`
abbrev pub in_groups : List Group → List Decl
in_groups groups = flat_map (λ group. in_all group.body) groups

-- the variable that something declares at a place
abbrev pub variable_by : List DbcMessage → Place → Source → Variable
variable_by base place (source.Item what item) = record {
  owner = place.owner;
  file = place.file;
  token = item.now.at;
  name = item.now.name;
  form = form_of base what.now item.now.size;
  init = item.now.init;
}
variable_by base place (source.Parameter parameter) =
    variable_of_parameter place.owner place.file parameter.now

-- the variable that is listed, where the database has these messages
abbrev pub variable_in : List DbcMessage → Declared → Variable
variable_in base d = variable_by base d.place d.source

-- the variables that are listed
abbrev pub variables_in : List DbcMessage → List Declared → List Variable
variables_in base ds = map (variable_in base) ds

-- a variable is an array of messages or timers, which there is not
abbrev pub is_misfit : Form → Bool
is_misfit Misfit = true
is_misfit _ = false
