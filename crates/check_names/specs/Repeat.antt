-- Names that are declared, as they are listed.
use Rattle.std.specs.Prelude.{List, map}
use Rattle.capl_meaning.specs.ProcedureRules.{Declared}
use Rattle.check_names.specs.declared.repeats.NameAt.{NameAt}

-- a name that is listed
abbrev pub name_at : NameAt → Declared
name_at n = record { file = n.file; token = n.token; name = n.name.now }

-- the names that are listed
abbrev pub names_at : List NameAt → List Declared
names_at names = map name_at names
