-- The functions of a program, as they are listed.
use Rattle.std.specs.Prelude.{List, map}
use Rattle.capl_meaning.specs.Names.{Function}
use Rattle.check_names.specs.declared.function.DeclaredFunction.{DeclaredFunction}

-- the function that is listed
abbrev pub function_in : DeclaredFunction → Function
function_in f = record {
  number = f.number;
  file = f.file;
  token = f.token;
  name = f.name.now;
  gives = f.gives;
  parameters = f.parameters.now;
  body = f.body.now;
}

-- the functions that are listed
abbrev pub functions_in : List DeclaredFunction → List Function
functions_in fs = map function_in fs
