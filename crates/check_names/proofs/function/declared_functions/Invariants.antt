-- What was listed and what is left are all functions.
use Rattle.std.proofs.Common.{◌≡◌, ◌++◌, drop}
use Rattle.std.specs.Prelude.{filter_map}
use Rattle.capl_meaning.specs.Names.{function_of_part}
use Rattle.check_names.specs.Function.{functions_in}
use Rattle.check_names.specs.Part.{parts_in}
use Rattle.check_names.proofs.function.declared_functions.Given as goal

abbrev pub invariant-loop-part : goal.invariant-loop-part
invariant-loop-part l =
    functions_in l.all.items ++ filter_map function_of_part (parts_in (drop l.part-index l.parts))
    ≡ filter_map function_of_part (parts_in l.parts)
