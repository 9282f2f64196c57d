-- There is room for the one format of a `write`.
use Rattle.check_sorts.specs.Scope.{scope_in}
use Rattle.statement_tests.proofs.AloneLemmas.{alone_room}
use Rattle.statement_tests.proofs.statements.check_write.Goals as goal

pub make_alone-requires-clause-room : goal.make_alone-requires-clause-room
make_alone-requires-clause-room g c =
    alone_room (scope_in c.outside.result) c.new-formats.result.items c.in_ok-write.write.now c.new-formats.ensures.items
