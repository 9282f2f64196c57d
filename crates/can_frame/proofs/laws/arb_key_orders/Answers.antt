-- The law of the keys.
use Rattle.can_frame.proofs.Fields.{KeysOrderFields-all}
use Rattle.can_frame.proofs.laws.arb_key_orders.Goals as goal

pub returns : goal.returns
returns c = KeysOrderFields-all
