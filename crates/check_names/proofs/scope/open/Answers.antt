-- One more table.
use Rattle.std.proofs.Common.{◌∙◌, List, ap}
use Rattle.check_names.specs.declared.table.NameTable.{NameTable}
use Rattle.check_names.specs.Inside.Table.{number_at}
use Rattle.check_names.proofs.ScopeLemmas.{with_fresh}
use Rattle.check_names.proofs.scope.open.Goals as goal

pub loop-alloc-preserved : goal.loop-alloc-preserved
loop-alloc-preserved c = λ other name.
    ap (λ (tables : List NameTable). number_at tables other name) c.in_ok-push.ensures.items
    ∙ with_fresh c.loop-alloc.tables.items c.new.result c.new.ensures other name
    ∙ c.loop-alloc.invariant other name
