-- One byte, and then the others.
use Rattle.std.proofs.Common.{ℕ, sym, ap, ◌∙◌}
use Rattle.message_cells.specs.Message.{bytes_of_number}
use Rattle.type_starts.specs.Payload.{byte_put}
use Rattle.type_starts.proofs.PayloadLemmas.{put_none, put_number}
use Rattle.type_starts.proofs.payload.+put_bytes.Goals as goal

pub returns-then-count-eq0 : goal.returns-then-count-eq0
returns-then-count-eq0 t c = λ k less.
    sym (ap (λ (n : ℕ). byte_put c.args.from (bytes_of_number n c.args.n) c.args.payload.now k) c.if-count-eq0.true ∙ put_none c.args.from c.args.payload.now k)

pub returns : goal.returns
returns t c = λ k less.
    put_number c.args.from c.args.count c.args.n c.args.payload.now c.put_byte.new.payload _ k c.if-count-eq0.false (c.put_byte.ensures k less) (c.put_bytes.ensures k less)
