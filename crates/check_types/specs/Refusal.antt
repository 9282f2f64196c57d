-- What a refusal tells of a program.
use Rattle.std.specs.Prelude.{List, ⊤}
use Rattle.dbc_reader.specs.declared.message.DbcMessage.{DbcMessage}
use Rattle.capl_tree.specs.declared.file.Program.{Program}
use Rattle.capl_meaning.specs.Offences.{IsFirstOffence}
use Rattle.check_types.specs.declared.checking.CheckRefusal.{CheckRefusal}
use Rattle.check_types.specs.declared.checking.CheckRefusal.TheVariants.{Offends, Size, NoMemory}
use Rattle.check_types.specs.Accepted.{IsTooLarge}

-- its first offence; or it breaks no rule and has too many cells
abbrev pub IsRefusalOf : List DbcMessage → Program → CheckRefusal → Type 0
IsRefusalOf base program (Offends offence) = IsFirstOffence base program offence
IsRefusalOf base program Size = IsTooLarge base program
IsRefusalOf base program NoMemory = ⊤
