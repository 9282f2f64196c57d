-- What tokens name, as the code has it.
use Rattle.std.specs.Prelude.{Option}
use Rattle.std.specs.Option.{option_map}
use Rattle.sys_vars.specs.declared.naming.Found.{Found}
use Rattle.sys_vars.specs.Lowering.{Named}

-- the variable that was found
abbrev pub named_by : Found → Named
named_by found = record { space = found.space.now; name = found.name.now; width = found.width }

-- the same, if any was found
abbrev pub found_in : Option Found → Option Named
found_in found = option_map named_by found
