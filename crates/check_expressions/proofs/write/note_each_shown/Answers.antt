-- Each pair of a code and an argument stands at its index.
use Rattle.std.proofs.Common.{◌≡◌, ◌∙◌, [], ap, arith, drop, length, sym}
use Rattle.std.specs.List.{zip}
use Rattle.std.specs.Prelude.{flat_map}
use Rattle.check_names.specs.First.{noted}
use Rattle.check_sorts.specs.Scope.{scope_in}
use Rattle.check_expressions.specs.Arguments.{shown_pair}
use Rattle.check_expressions.proofs.NotedLemmas.{noted_turn, zip_end, zip_get}
use Rattle.check_expressions.proofs.write.note_each_shown.Goals as goal

pub loop-i-preserved : goal.loop-i-preserved
loop-i-preserved c =
    let f = shown_pair (scope_in c.args.scope) in
    let codes = c.args.codes.now in
    let args = c.args.args.now in
    let all = zip codes args in
    let e = c.index-args-i.result in
    let code = c.in-Some.code.now in
    let at = zip_get codes args c.loop-i.i code e (omega arith) c.loop-i-test.true c.in-Some.ensures.lookup.1 c.index-args-i.is in
    noted_turn f all c.loop-i.i (code, e) c.loop-i.first c.note_shown.new.first (noted c.args.first.now (flat_map f all)) at
    c.note_shown.ensures c.loop-i.invariant

pub returns : goal.returns
returns c =
    let f = shown_pair (scope_in c.args.scope) in
    let all = zip c.args.codes.now c.args.args.now in
    let ends : c.loop-i.i ≡ length c.args.args.now = omega arith in
    let none : drop c.loop-i.i all ≡ [] = ap (λ i. drop i all) ends ∙ zip_end c.args.codes.now c.args.args.now in
    sym (ap (λ l. noted c.loop-i.first (flat_map f l)) none) ∙ c.loop-i.invariant
