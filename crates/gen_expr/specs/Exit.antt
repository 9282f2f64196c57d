-- The exit of a test, as code has it.
use Rattle.gen_expr.specs.declared.exit.Exit.{Exit}
use Rattle.gen_expr.specs.declared.exit.Exit.TheVariants.{Forward, Backward}
use Rattle.code_listing.specs.Exit as defined

-- the exit, as the definition of the code has it
abbrev pub exit_of : Exit → defined.Exit
exit_of (Forward target) = defined.Forward target
exit_of (Backward target) = defined.Backward target
