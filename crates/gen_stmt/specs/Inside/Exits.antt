-- Where `break` and `continue` lead, as code has it.
use Rattle.gen_stmt.specs.declared.exits.Exits.{Exits}
use Rattle.code_listing.specs.Statement as defined

-- the exits, as the definition of the code has them
abbrev pub exits_of : Exits → defined.Exits
exits_of exits = record { break_at = exits.break_at; continue_at = exits.continue_at }
