-- What is evaluated by all values.
use Rattle.std.proofs.Common.{◌∙◌, ap}
use Rattle.std.specs.Option.{option_and_then}
use Rattle.check_sorts.specs.Constant.{held}
use Rattle.check_sorts.specs.Scope.{scope_in}
use Rattle.check_sorts.specs.declared.evaluation.Evaluated.{Evaluated}
use Rattle.check_sorts.proofs.ConstantLemmas.{constant_is}
use Rattle.check_sorts.proofs.constants.constant_among.Goals as goal

pub returns-in-None-clause-same : goal.returns-in-None-clause-same
returns-in-None-clause-same c = λ known are.
    ap (option_and_then (λ (v : Evaluated). v.value)) c.in-None.ensures.same
    ∙ constant_is (held c.args.table.now) known are (scope_in c.args.scope.now) c.args.e.now

pub returns-in-Some-clause-same : goal.returns-in-Some-clause-same
returns-in-Some-clause-same c = λ known are.
    ap (option_and_then (λ (v : Evaluated). v.value)) c.in-Some.ensures.same
    ∙ constant_is (held c.args.table.now) known are (scope_in c.args.scope.now) c.args.e.now
