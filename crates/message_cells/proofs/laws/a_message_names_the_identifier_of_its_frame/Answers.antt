-- The identifier of a frame, by its number in a message's cell.
use Rattle.message_cells.proofs.Identifiers.{ident_of-written_id}
use Rattle.message_cells.proofs.laws.a_message_names_the_identifier_of_its_frame.Goals as goal

pub returns : goal.returns
returns c = ident_of-written_id
