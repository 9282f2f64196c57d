-- The walk over a whole frame counts its length.
use Rattle.std.proofs.Common.{◌+◌, ◌++◌, [], ◌∙◌, sym, ap, subst, arith}
use Rattle.frame_bits.specs.Length.{covered_bits, unstuffed_bits, IsFrameLength}
use Rattle.frame_bits.specs.Inside.Walk.{HasWalked}
use Rattle.frame_bits.proofs.Lengths.{covered-is, crc_piece, frame_length-is, IsFrameLength-frame_length, frame_length-least, frame_length-most}
use Rattle.frame_bits.proofs.length.stuffed_len.Goals as goal

pub returns-clause-value : goal.returns-clause-value
returns-clause-value c =
    let f = c.args.f.now in
    let covered : HasWalked c.push_bytes.new.self (covered_bits f) =
    subst (HasWalked c.push_bytes.new.self) (covered-is f _ _ _ c.header.ensures c.data_len.ensures.value c.payload-payload.ensures.value) (c.push_bytes.ensures.walked _ (c.push.ensures.walked [] c.new-walk.ensures.none)) in
    let crc = crc_piece (covered_bits f) _ _ c.new.ensures.width (c.new.ensures.number ∙ c.from.ensures ∙ c.value-crc.ensures.value (covered_bits f) covered.register) in
    let all : HasWalked c.push-2.new.self (unstuffed_bits f) =
    subst (λ l. HasWalked c.push-2.new.self (covered_bits f ++ l)) crc (c.push-2.ensures.walked _ covered) in
    ap (λ n. n + 10) (c.count.ensures.value (unstuffed_bits f) all.stuffing) ∙ sym (frame_length-is f)

pub returns-clause-length : goal.returns-clause-length
returns-clause-length c =
    subst (IsFrameLength c.args.f.now) (sym (returns-clause-value c)) (IsFrameLength-frame_length c.args.f.now)

pub returns-clause-at_least : goal.returns-clause-at_least
returns-clause-at_least c = omega (arith, returns-clause-value c, frame_length-least c.args.f.now)

pub returns-clause-at_most : goal.returns-clause-at_most
returns-clause-at_most c =
    omega (arith, returns-clause-value c, frame_length-most c.args.f.now c.payload-payload.ensures.valid)
