-- One more element.
use Rattle.std.proofs.Common.{◌∙◌, arith}
use Rattle.std.specs.Option.{option_copied}
use Rattle.capl_meaning.specs.Initial.{first_element}
use Rattle.check_sorts.specs.Scope.{scope_in}
use Rattle.typed_laws.proofs.Lists.{row_long}
use Rattle.type_starts.proofs.VariableLemmas.{row_more}
use Rattle.type_starts.proofs.StartLemmas.{goes_more_raw, passed}
use Rattle.type_starts.proofs.variable.push_elements.Goals as goal

pub loop-index-preserved : goal.loop-index-preserved
loop-index-preserved c =
    goes_more_raw _ _ _ _ _ _ _ c.loop-index.invariant c.in_ok-push.ensures
    (passed c.first_element.result (record { sfits = c.first_element.type_inv }) ∙ c.first_element.ensures)
    (row_more (first_element (scope_in c.args.spot.now.scope) c.args.spot.now.token c.args.kind (option_copied c.args.init)) c.loop-index.index)

pub push-requires : goal.push-requires
push-requires c =
    let first = first_element (scope_in c.args.spot.now.scope) c.args.spot.now.token c.args.kind (option_copied c.args.init) in
    omega (arith, c.loop-index.invariant.cell, row_long first 0 c.loop-index.index)
