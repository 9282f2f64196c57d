-- Messages as the code has them.
use Rattle.std.specs.Prelude.{◌≡◌, map, pos}
use Rattle.capl_meaning.specs.Store.{MessageRecord, row}
use Rattle.type_starts.specs.declared.message.Message.{Message}

-- the message that is held: neither its direction nor its time was written
pub record IsMessage (message : Message) (m : MessageRecord) : Type 0 where
  pub id : m.id ≡ pos message.id
  pub dlc : m.dlc ≡ pos message.dlc
  pub rtr : m.rtr ≡ pos message.rtr
  pub can : m.can ≡ pos message.can
  pub dir : m.dir ≡ pos 0
  pub time : m.time ≡ pos 0
  pub bytes : row m.byte 0 8 ≡ map pos message.payload
