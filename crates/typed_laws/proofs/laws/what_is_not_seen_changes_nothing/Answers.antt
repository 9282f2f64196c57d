-- What a procedure does not see of `this` changes nothing.
use Rattle.typed_laws.proofs.EventCells.{some_event}
use Rattle.typed_laws.proofs.SeenStatements.{ending_seen}
use Rattle.typed_laws.proofs.laws.what_is_not_seen_changes_nothing.Goals as goal

pub returns-clause-endings : goal.returns-clause-endings
returns-clause-endings c = ending_seen

pub returns-clause-any_cells : goal.returns-clause-any_cells
returns-clause-any_cells c = some_event
