-- What is evaluated by the values before a place.
use Rattle.std.proofs.Common.{◌∙◌, ap, Some}
use Rattle.std.specs.Option.{option_and_then}
use Rattle.capl_meaning.specs.Constant.{constants_of, known_before}
use Rattle.check_sorts.specs.Constant.{known_at}
use Rattle.check_sorts.specs.Scope.{scope_in}
use Rattle.check_sorts.specs.declared.evaluation.Evaluated.{Evaluated}
use Rattle.check_sorts.proofs.ConstantLemmas.{constant_is}
use Rattle.check_sorts.proofs.KnownLemmas.{numbers_before, values_before}
use Rattle.check_sorts.proofs.constants.constant_before.Goals as goal

pub evaluate-requires : goal.evaluate-requires
evaluate-requires c = numbers_before c.args.table c.args.scope.now.file c.args.token c.requires.numbers

pub returns-in-None-clause-same : goal.returns-in-None-clause-same
returns-in-None-clause-same c =
    let s = c.args.scope.now in
    ap (option_and_then (λ (v : Evaluated). v.value)) c.in-None.ensures.same
    ∙ constant_is (known_at (record { table = c.args.table; before = Some (s.file, c.args.token) }))
    (known_before (scope_in s) c.args.token)
    (values_before c.args.table s.file c.args.token (constants_of s.names.now) c.requires.same) (scope_in s) c.args.e.now

pub returns-in-Some-clause-same : goal.returns-in-Some-clause-same
returns-in-Some-clause-same c =
    let s = c.args.scope.now in
    ap (option_and_then (λ (v : Evaluated). v.value)) c.in-Some.ensures.same
    ∙ constant_is (known_at (record { table = c.args.table; before = Some (s.file, c.args.token) }))
    (known_before (scope_in s) c.args.token)
    (values_before c.args.table s.file c.args.token (constants_of s.names.now) c.requires.same) (scope_in s) c.args.e.now
