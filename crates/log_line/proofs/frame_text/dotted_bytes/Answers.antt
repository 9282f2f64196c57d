-- One more byte, and the ends.
use Rattle.std.proofs.Common.{◌≡◌, [], subst, arith}
use Rattle.std.proofs.lemmas.Grind.{common_steps}
use Rattle.log_line.proofs.BytesLemmas.{HasTaken, taken_more, taken_all, taken_none, empty_is, some_is}
use Rattle.log_line.proofs.frame_text.dotted_bytes.Goals as goal

pub returns-in_err-byte : goal.returns-in_err-byte
returns-in_err-byte c =
    rw c.from_residual.ensures
    (λ bytes spells. absurd (taken_none c.args.text.now c.loop-rest.rest.now c.loop-rest.count c.loop-rest.bytes bytes c.loop-rest.invariant
    (some_is c.loop-rest.rest.now (grind (arith, common_steps, c.is_empty.ensures, c.loop-rest-test.true))) c.in_err-byte.ensures spells))

pub loop-rest-preserved : goal.loop-rest-preserved
loop-rest-preserved c =
    taken_more c.args.text.now c.loop-rest.rest.now c.in_ok-byte.behind.now c.loop-rest.count c.in_ok-byte.byte c.loop-rest.bytes c.loop-rest.invariant
    (let most = c.loop-rest.invariant.in_range in let other = c.if-count-eq8.false in omega (arith, most, other))
    (some_is c.loop-rest.rest.now (grind (arith, common_steps, c.is_empty.ensures, c.loop-rest-test.true))) c.in_ok-byte.ensures

pub returns : goal.returns
returns c =
    let none : c.loop-rest.rest.now ≡ [] = empty_is c.loop-rest.rest.now (grind (arith, common_steps, c.is_empty.ensures, c.loop-rest-test.false)) in
    record {
      in_range = c.loop-rest.invariant.in_range;
      eight = c.loop-rest.invariant.eight;
      spelled = taken_all c.args.text.now c.loop-rest.count c.loop-rest.bytes
          (subst (λ r. HasTaken c.args.text.now r c.loop-rest.count c.loop-rest.bytes) none c.loop-rest.invariant);
    }
