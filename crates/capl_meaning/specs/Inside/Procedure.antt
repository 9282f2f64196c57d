-- Words for parts of what procedures mean.
use Rattle.std.specs.Prelude.{ℕ, Bool, List, [], flat_map}
use Rattle.std.specs.Option.{option_map_or}
use Rattle.control_flow.specs.Control.{Calls, Does}
use Rattle.capl_tree.specs.declared.file.Program.{Program}
use Rattle.capl_meaning.specs.Variable.{parts_of}
use Rattle.capl_meaning.specs.Names.{Function, Names, inside_function}
use Rattle.capl_meaning.specs.Calls.{function_numbered}
use Rattle.capl_meaning.specs.Store.{This}
use Rattle.capl_meaning.specs.Expression.{Memory, Setting}
use Rattle.capl_meaning.specs.Statement.{Handler, function_runs, handlers_of_part, runs}

-- the same setting in a function
abbrev pub in_function : Setting → Function → Setting
in_function s f = record s { scope = inside_function s.scope.names f }

-- what the body of the function of a number does; of a number that no function has nothing is done
abbrev pub runs_numbered : Setting → Calls Memory → ℕ → ℕ → Does Memory
runs_numbered s call n f =
    option_map_or (function_runs s call n) (function_numbered s.scope.names f) (runs s call n [])

-- the event procedures of a program, in program order
abbrev pub handlers_of : Names → Program → List Handler
handlers_of names program = flat_map (handlers_of_part names) (parts_of program)

-- where and when an event procedure runs: with `this`, after the measurement has ended or not, at a moment
abbrev pub setting_of : Handler → This → Bool → ℕ → Setting
setting_of handler this closed moment =
    record { scope = handler.scope; this = this; closed = closed; moment = moment }
