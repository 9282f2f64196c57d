-- The timers of a source have the unit of seconds or milliseconds.
use Rattle.std.proofs.Common.{ℕ, inl, inr, List, [], ◌∷◌, ◌++◌, Option, Some, None, refl, subst}
use Rattle.std.specs.Prelude.{⊤, flat_map, map}
use Rattle.std.specs.List.{AllByRecursion}
use Rattle.run_effects.specs.Effect.{IsUnit}
use Rattle.dbc_reader.specs.declared.message.DbcMessage.{DbcMessage}
use Rattle.capl_tree.specs.declared.declaration.Decl.{Decl}
use Rattle.capl_tree.specs.declared.declaration.DeclType.{DeclType}
use Rattle.capl_tree.specs.declared.declaration.DeclType.TheVariants as decl_type
use Rattle.capl_tree.specs.declared.declaration.Declr.{Declr}
use Rattle.capl_tree.specs.declared.expr.Expr.{Expr}
use Rattle.capl_tree.specs.declared.file.Program.{Program}
use Rattle.capl_tree.specs.declared.procedure.Param.{Param}
use Rattle.capl_meaning.specs.Variable.{Form, Timer, Part, Globals, Procedure, Variable, declarations_in, form_of, parameters_of, parts_of, variable_of_parameter, variables_of_declaration, variables_of_part}
use Rattle.capl_meaning.specs.Names.{names_of}
use Rattle.typed_laws.specs.Laid.{IsAmong}
use Rattle.typed_source.specs.Sound.{HaveUnits}

-- the unit of a form is one, if it has one
abbrev HasUnit : Form → Type 0
HasUnit (Timer unit) = IsUnit unit
HasUnit _ = ⊤

abbrev VariableHasUnit : Variable → Type 0
VariableHasUnit v = HasUnit v.form

declared_unit : (base : List DbcMessage) (what : DeclType) (size : Option Expr) → HasUnit (form_of base what size)
declared_unit base (decl_type.Number k fixed) None = tt
declared_unit base (decl_type.Number k fixed) (Some size) = tt
declared_unit base decl_type.Any None = tt
declared_unit base decl_type.Any (Some size) = tt
declared_unit base (decl_type.ById value extended at) None = tt
declared_unit base (decl_type.ById value extended at) (Some size) = tt
declared_unit base (decl_type.ByName name at) None = tt
declared_unit base (decl_type.ByName name at) (Some size) = tt
declared_unit base decl_type.Seconds None = inr refl
declared_unit base decl_type.Seconds (Some size) = tt
declared_unit base decl_type.Millis None = inl refl
declared_unit base decl_type.Millis (Some size) = tt

all_append : {A : Type 0} (P : A → Type 0) (xs ys : List A) → AllByRecursion P xs → AllByRecursion P ys → AllByRecursion P (xs ++ ys)
all_append P [] ys f g = g
all_append P (x ∷ xs) ys f g = (f.0, all_append P xs ys f.1 g)

declarators_units : (base : List DbcMessage) (owner file : ℕ) (what : DeclType) (items : List Declr) → AllByRecursion VariableHasUnit (map (λ (d : Declr). record {
  owner = owner;
  file = file;
  token = d.at;
  name = d.name;
  form = form_of base what d.size;
  init = d.init;
}) items)
declarators_units base owner file what [] = tt
declarators_units base owner file what (d ∷ items) = (declared_unit base what d.size, declarators_units base owner file what items)

declarations_units : (base : List DbcMessage) (owner file : ℕ) (ds : List Decl) → AllByRecursion VariableHasUnit (flat_map (variables_of_declaration base owner file) ds)
declarations_units base owner file [] = tt
declarations_units base owner file (d ∷ ds) =
    all_append VariableHasUnit (variables_of_declaration base owner file d) _ (declarators_units base owner file d.what d.items) (declarations_units base owner file ds)

parameters_units : (owner file : ℕ) (ps : List Param) → AllByRecursion VariableHasUnit (map (variable_of_parameter owner file) ps)
parameters_units owner file [] = tt
parameters_units owner file (p ∷ ps) = (tt, parameters_units owner file ps)

part_units : (base : List DbcMessage) (part : Part) → AllByRecursion VariableHasUnit (variables_of_part base part)
part_units base (Globals file declarations) = declarations_units base 0 file declarations
part_units base (Procedure number file procedure) =
    all_append VariableHasUnit (map (variable_of_parameter number file) (parameters_of procedure.head)) _ (parameters_units number file (parameters_of procedure.head))
    (declarations_units base number file (flat_map declarations_in procedure.body))

parts_units : (base : List DbcMessage) (parts : List Part) → AllByRecursion VariableHasUnit (flat_map (variables_of_part base) parts)
parts_units base [] = tt
parts_units base (part ∷ parts) = all_append VariableHasUnit (variables_of_part base part) _ (part_units base part) (parts_units base parts)

among_all : (vs : List Variable) (v : Variable) → AllByRecursion VariableHasUnit vs → IsAmong v vs → VariableHasUnit v
among_all [] v all x = elim x [ ]
among_all (u ∷ us) v all (inl e) = subst VariableHasUnit e all.0
among_all (u ∷ us) v all (inr s) = among_all us v all.1 s

-- each timer of a source has a unit
pub have_units : (base : List DbcMessage) (program : Program) → HaveUnits (names_of base program)
have_units base program v unit real =
    subst HasUnit real.form_is (among_all (flat_map (variables_of_part base) (parts_of program)) v (parts_units base (parts_of program)) real.among)
