-- The index of payload bytes has its sort.
use Rattle.check_sorts.specs.Scope.{scope_in}
use Rattle.check_expressions.proofs.FormLemmas.{index_judged, index_noted_needed}
use Rattle.check_expressions.proofs.member.note_index_needed.Goals as goal

pub note_integer_needed-requires : goal.note_integer_needed-requires
note_integer_needed-requires c =
    index_judged (scope_in c.args.scope) c.args.field.now c.in-Bytes.kind c.in-Bytes.e c.in-Bytes.at c.args.index
    c.unwrap_or-sort.result c.get.result.now c.requires c.in-Bytes.is c.unwrap_or-sort.ensures c.get.ensures

pub returns-in-Bytes : goal.returns-in-Bytes
returns-in-Bytes c =
    index_noted_needed (scope_in c.args.scope) c.args.field.now c.in-Bytes.kind c.in-Bytes.e c.in-Bytes.at c.get.result.now
    c.args.first.now c.note_integer_needed.new.first c.in-Bytes.is c.get.ensures c.note_integer_needed.ensures
