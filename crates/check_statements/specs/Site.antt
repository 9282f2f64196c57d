-- Where a part of a program stands, as the code has it.
use Rattle.check_calls.specs.Calls.{AreCallsOf}
use Rattle.capl_meaning.specs.Names as meant
use Rattle.check_sorts.specs.Constant.{AreConstantsOf}
use Rattle.check_sorts.specs.Scope.{scope_in}
use Rattle.check_statements.specs.declared.site.Site.{Site}

-- where it stands
abbrev pub place_of : Site → meant.Scope
place_of site = scope_in site.scope

-- the calls and const integers are those of the program
pub record IsReady (site : Site) : Type 0 where
  pub calls : AreCallsOf site.scope.names.now site.calls.now
  pub constants : AreConstantsOf site.scope.names.now site.constants.now
