-- The first byte that is none.
use Rattle.std.proofs.Common.{◌≡◌, false, length, get_or, sym, ◌∙◌, arith}
use Rattle.std.proofs.lemmas.List.Sums.{prefix_len_is}
use Rattle.write_format.specs.Reading.{is_flag}
use Rattle.write_format.proofs.code.flag_count.Goals as goal

pub returns-then-not-is_flag : goal.returns-then-not-is_flag
returns-then-not-is_flag c =
    let bytes = c.args.bytes.now in
    let place = c.loop-place.place in
    let stops : is_flag (get_or bytes place 0) ≡ false = let told = c.is_flag.ensures in let not_one = c.if-not-is_flag.true in grind (arith, told, not_one) in
    sym (prefix_len_is is_flag bytes place 0 (omega arith) c.loop-place.invariant (λ _. stops))

pub returns : goal.returns
returns c =
    let bytes = c.args.bytes.now in
    let whole : c.loop-place.place ≡ length bytes = omega arith in
    sym whole ∙ sym (prefix_len_is is_flag bytes c.loop-place.place 0 (omega arith) c.loop-place.invariant (λ more. absurd (omega (arith, more, whole))))
