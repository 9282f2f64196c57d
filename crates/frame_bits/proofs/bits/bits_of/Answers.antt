-- Header, data and CRC are the unstuffed bits.
use Rattle.std.proofs.Common.{◌≡◌, ◌++◌, ◌∙◌, ap}
use Rattle.frame_bits.specs.Length.{covered_bits, crc_bits}
use Rattle.frame_bits.specs.Inside.Field.{bits_in}
use Rattle.can_frame.specs.Frame.{number_of}
use Rattle.frame_bits.proofs.Lengths.{covered-is, crc_piece}
use Rattle.frame_bits.proofs.bits.bits_of.Goals as goal

pub returns : goal.returns
returns c =
    let f = c.args.f.now in
    let header = c.in_ok-append.ensures ∙ ap (λ l. l ++ bits_in c.header.result) c.new-bits.ensures.items ∙ c.header.ensures in
    let covered : c.append_bytes.new.bits.items ≡ covered_bits f =
    c.in_ok-append_bytes.ensures ∙ covered-is f _ _ _ header c.data_len.ensures.value c.payload-payload.ensures.value in
    let crc = crc_piece (covered_bits f) _ _ c.new.ensures.width (c.new.ensures.number ∙ c.from.ensures ∙ c.crc15-crc.ensures ∙ ap (λ l. number_of (crc_bits l)) (c.as_slice.ensures.value ∙ covered)) in
    c.in_ok-append-2.ensures ∙ ap (λ l. l ++ bits_in c.new.result) covered ∙ ap (λ l. covered_bits f ++ l) crc
