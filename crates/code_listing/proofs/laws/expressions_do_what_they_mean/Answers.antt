-- Each sound expression, as a value, as a test and as a statement.
use Rattle.typed_tree.specs.Expression.{Setting}
use Rattle.typed_tree.specs.Sound.{IsSound}
use Rattle.code_listing.proofs.EveryExpression.{ParamsExist, alone_runs, every_means}
use Rattle.code_listing.proofs.laws.expressions_do_what_they_mean.Goals as goal

-- the parameters of a sound program exist
params_exist : (s : Setting) → IsSound s.typed → ParamsExist s.typed
params_exist s sound = λ f function there. (sound.functions f function there).params_exist

pub returns-clause-values : goal.returns-clause-values
returns-clause-values c = λ code s call most number e sound set is.
    (every_means code s set.cells call most number set.functions set.timers (params_exist s sound) e is).value

pub returns-clause-tests : goal.returns-clause-tests
returns-clause-tests c = λ code s call most number e sound set is.
    (every_means code s set.cells call most number set.functions set.timers (params_exist s sound) e is).test

pub returns-clause-alone : goal.returns-clause-alone
returns-clause-alone c = λ code s call most number e sound set is.
    alone_runs code s set.cells call most number set.functions set.timers (params_exist s sound) e is
