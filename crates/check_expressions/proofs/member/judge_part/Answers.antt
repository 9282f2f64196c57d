-- Payload bytes have the sort of their kind, where their index is a number.
use Rattle.check_sorts.specs.Form.{signals_in}
use Rattle.check_sorts.specs.Scope.{scope_in}
use Rattle.check_expressions.proofs.FormLemmas.{bytes_judged, bytes_rules_noted}
use Rattle.check_expressions.proofs.member.judge_part.Goals as goal

pub returns-in-Bytes-clause-sort : goal.returns-in-Bytes-clause-sort
returns-in-Bytes-clause-sort c =
    bytes_judged (scope_in c.args.scope) (signals_in c.args.signals) c.args.field.now c.in-Bytes.kind c.in-Bytes.index
    c.in-Bytes.at c.args.index c.unwrap_or.result c.number_from.result c.requires c.in-Bytes.is c.unwrap_or.ensures
    c.number_from.ensures

pub returns-in-Bytes-clause-noted : goal.returns-in-Bytes-clause-noted
returns-in-Bytes-clause-noted c =
    λ m _. bytes_rules_noted (scope_in c.args.scope) c.args.at m c.args.field.now c.in-Bytes.kind c.in-Bytes.index c.in-Bytes.at
    c.args.first.now c.in-Bytes.is
