-- The first function of the name.
use Rattle.std.proofs.Common.{◌∙◌, sym}
use Rattle.check_sorts.proofs.NameLemmas.{called}
use Rattle.check_sorts.proofs.scope.Scope.callee.Goals as goal

pub returns-in-Some-function : goal.returns-in-Some-function
returns-in-Some-function c =
    called c.args.self.now.names.now c.args.name.now _ (sym c.in_default.ensures) c.in-Some-function.ensures

pub returns-in-None : goal.returns-in-None
returns-in-None c = called c.args.self.now.names.now c.args.name.now _ (sym c.in_default.ensures) c.in-None.ensures
