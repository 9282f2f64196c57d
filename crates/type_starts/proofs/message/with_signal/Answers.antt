-- The signal is put.
use Rattle.std.proofs.Common.{◌<◌, ◌∙◌, ap, get_or, subst}
use Rattle.std.specs.Prelude.{ℤ}
use Rattle.signal_codec.specs.Signal.{payload_with}
use Rattle.type_starts.proofs.MessageLemmas.{signal_held}
use Rattle.type_starts.proofs.StartLemmas.{passed}
use Rattle.type_starts.proofs.message.with_signal.Goals as goal

pub returns : goal.returns
returns c = λ m held.
    signal_held c.args.layout.now c.args.n c.args.message m c.put.new.payload held
    (λ k less. subst (λ l. get_or l k 0 < 256) c.as_slice.ensures (c.are_bytes.ensures k)) c.has_eight_bytes.ensures
    (c.put.ensures.payload ∙ ap (λ (z : ℤ). payload_with c.args.layout.now c.args.message.payload z) (passed c.args.n c.ranges.n))
