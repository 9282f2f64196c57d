-- One pair more, and the last.
use Rattle.std.proofs.Common.{◌≡◌, ◌/◌, length, refl, subst, take, arith}
use Rattle.log_line.specs.Reading.{SpellsBytes}
use Rattle.log_line.proofs.BytesLemmas.{taken_nothing, taken_all}
use Rattle.log_line.proofs.PlainBytes.{taken_pair, taken_whole}
use Rattle.log_line.proofs.frame_text.plain_bytes.Goals as goal

pub loop-place-init : goal.loop-place-init
loop-place-init c = taken_nothing c.args.digits.now _ refl

pub loop-place-preserved : goal.loop-place-preserved
loop-place-preserved c =
    taken_pair c.args.digits.now c.loop-place.place c.hex_value.result c.hex_value-in-loop-place.result c.loop-place.bytes c.requires.hexadecimal (omega arith) (omega arith) c.loop-place.invariant
    c.hex_value.ensures.value c.hex_value-in-loop-place.ensures.value

pub returns : goal.returns
returns c =
    let digits = c.args.digits.now in
    let whole = taken_whole digits c.loop-place.place c.loop-place.bytes (omega arith) c.loop-place.invariant in
    let at : c.loop-place.place ≡ length digits / 2 = omega arith in
    record {
      in_range = omega (arith, whole.in_range);
      eight = whole.eight;
      spelled = subst (λ count. SpellsBytes digits (take count c.loop-place.bytes)) at (taken_all digits c.loop-place.place c.loop-place.bytes whole);
    }
