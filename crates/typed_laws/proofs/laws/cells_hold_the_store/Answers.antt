-- Places in cells are places.
use Rattle.std.proofs.Common.{ap, ◌∙◌}
use Rattle.message_cells.specs.Message.{with_message as with_message_at}
use Rattle.capl_meaning.specs.Store.{variable_key}
use Rattle.capl_meaning.specs.Expression.{held_message}
use Rattle.typed_laws.specs.Laid.{slot}
use Rattle.typed_laws.proofs.Cells.{all_cells, copy_laid, message_laid, read_laid, write_laid}
use Rattle.typed_laws.proofs.Starts.{first_laid}
use Rattle.typed_laws.proofs.laws.cells_hold_the_store.Goals as goal

pub returns-clause-reads : goal.returns-clause-reads
returns-clause-reads c = λ names distinct this s spot real. read_laid names distinct this s spot real

pub returns-clause-stores : goal.returns-clause-stores
returns-clause-stores c = λ names distinct this s spot n real stored. write_laid names distinct this s spot n real stored

pub returns-clause-copies : goal.returns-clause-copies
returns-clause-copies c = λ names distinct this s v type_ from form held.
    ap (λ cells. with_message_at (slot names (variable_key v)) cells (all_cells names this s)) (message_laid names distinct this s from held)
    ∙ copy_laid names distinct this s v type_ form (held_message this s from)

pub returns-clause-first : goal.returns-clause-first
returns-clause-first c = first_laid
