-- What the names of the scope say.
use Rattle.std.proofs.Common.{refl}
use Rattle.check_sorts.specs.Scope.{scope_in}
use Rattle.check_sorts.proofs.scope.Scope.variable.Goals as goal

pub returns : goal.returns
returns c = c.means.ensures (scope_in c.args.self.now) refl refl
