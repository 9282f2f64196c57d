-- One more variable in order.
use Rattle.std.proofs.Common.{◌≡◌, ◌∙◌, List, Some, true, refl, ap, sym, arith, length}
use Rattle.std.specs.Prelude.{slice_get}
use Rattle.std.proofs.lemmas.List.{length-map}
use Rattle.std.proofs.lemmas.Option.{slice_get_read, slice_get_within}
use borrow.Author.Count.{below_more}
use Rattle.capl_meaning.specs.Variable.{Variable}
use Rattle.check_names.specs.Inside.Table.{is_in_order}
use Rattle.check_names.specs.Variable.{variable_in, variables_in}
use Rattle.check_names.proofs.NameLemmas.{slice_get-map}
use Rattle.check_names.proofs.scope.are_in_order.Goals as goal

pub loop-variable-preserved : goal.loop-variable-preserved
loop-variable-preserved c = λ base.
    let all = c.args.variables.now in
    let vs : List Variable = variables_in base all in
    let i = c.loop-variable.variable-index in
    let item = c.variable-item.result in
    below_more (λ k. (v : Variable) → slice_get vs k ≡ Some v → is_in_order vs v ≡ true) i
    (c.loop-variable.invariant base)
    (λ v at.
    let here = slice_get-map (variable_in base) i all item (slice_get_read all (length all) i item refl c.loop-variable-test.true c.variable-item.is) in
    let same : variable_in base item ≡ v = cc (here, at) in
    ap (is_in_order vs) (sym same) ∙ sym (c.is_in_order.ensures base) ∙ c.if-not-is_in_order.false)

pub returns : goal.returns
returns c = λ base is i v at.
    let inside = slice_get_within (variables_in base c.args.variables.now) i v at in
    c.loop-variable.invariant base i
    (omega (arith, inside, length-map c.args.variables.now (variable_in base))) v at
