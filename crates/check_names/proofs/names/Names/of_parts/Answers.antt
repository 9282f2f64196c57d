-- The variables and functions are those of the program's parts: few, and with numbers that rise.
use Rattle.std.proofs.Common.{◌≡◌, ◌<◌, ◌^◌, ◌∷◌, ◌∙◌, List, [], ap, arith, length, rules, subst, sym}
use Rattle.std.specs.Prelude.{filter_map, flat_map, map}
use Rattle.std.specs.List.Sorted.{IsStrictlyIncreasing}
use Rattle.std.proofs.lemmas.List.{length-map}
use Rattle.dbc_reader.specs.declared.message.DbcMessage.{DbcMessage}
use Rattle.capl_tree.specs.declared.file.Program.{Program}
use Rattle.capl_meaning.specs.Names.{Function, function_of_part}
use Rattle.capl_meaning.specs.Variable.{Part, parts_of, variables_of, variables_of_part}
use Rattle.check_names.specs.declared.function.DeclaredFunction.{DeclaredFunction}
use Rattle.check_names.specs.declared.part.ProgramPart.{ProgramPart}
use Rattle.check_names.specs.declared.variable.Declared.{Declared}
use Rattle.check_names.specs.Few.{IsFew}
use Rattle.check_names.specs.Function.{functions_in}
use Rattle.check_names.specs.Names.{messages_of}
use Rattle.check_names.specs.Part.{parts_in}
use Rattle.check_names.specs.Variable.{variable_in, variables_in}
use Rattle.check_names.proofs.NumberLemmas.{functions_rise}
use Rattle.check_names.proofs.names.Names.of_parts.Goals as goal

-- the functions that are listed among the parts of a program rise
listed_rise : (base : List DbcMessage) (program : Program) (parts : List ProgramPart) (functions : List DeclaredFunction) →
    parts_in parts ≡ parts_of program → functions_in functions ≡ filter_map function_of_part (parts_in parts) →
    IsStrictlyIncreasing (0 ∷ map (λ f. f.number) (functions_in functions))
listed_rise base program parts functions all listed =
    let whole : functions_in functions ≡ filter_map function_of_part (parts_of program) =
    listed ∙ ap (λ (ps : List Part). filter_map function_of_part ps) all in
    subst (λ (fs : List Function). IsStrictlyIncreasing (0 ∷ map (λ f. f.number) fs)) (sym whole) (functions_rise base program)

-- the variables that are listed among the parts of a program are few
listed_few : (program : Program) (parts : List ProgramPart) (variables : List Declared) → parts_in parts ≡ parts_of program →
    ((base : List DbcMessage) → variables_in base variables ≡ flat_map (variables_of_part base) (parts_in parts)) →
    IsFew program → length variables < 2 ^ 32
listed_few program parts variables all listed few =
    let whole : variables_in [] variables ≡ variables_of [] program = listed [] ∙ ap (flat_map (variables_of_part [])) all in
    omega (arith, few.variables [], ap length whole, length-map variables (variable_in []))

pub tables_of-requires : goal.tables_of-requires
tables_of-requires c =
    subst (λ (vs : List Declared). length vs < 2 ^ 32) (sym c.as_slice-3.ensures.value)
    (listed_few c.requires.0 c.args.parts.now c.in_ok-variables.variables.items c.requires.1 c.in_ok-variables.ensures
    c.requires.2)

pub called_functions-requires : goal.called_functions-requires
called_functions-requires c =
    subst (λ (fs : List DeclaredFunction). IsStrictlyIncreasing (0 ∷ map (λ f. f.number) (functions_in fs))) (sym c.as_slice-6.ensures.value)
    (listed_rise (messages_of c.args.base) c.requires.0 c.args.parts.now c.in_ok-functions.functions.items c.requires.1
    c.in_ok-functions.ensures)

pub invariant_of-result : goal.invariant_of-result
invariant_of-result c = (
  search rules,
  (
    search rules,
    (
      search rules,
      (
        listed_few c.requires.0 c.args.parts.now c.in_ok-variables.variables.items c.requires.1 c.in_ok-variables.ensures
            c.requires.2,
        listed_rise (messages_of c.args.base) c.requires.0 c.args.parts.now c.in_ok-functions.functions.items c.requires.1
            c.in_ok-functions.ensures,
      ),
    ),
  ),
)
