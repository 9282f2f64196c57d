-- The length code of a remote frame, in one digit.
use Rattle.std.proofs.Common.{◌≡◌, ◌+◌, ◌++◌, ◌∷◌, [], ap, sym, ◌∙◌, arith, append_assoc}
use Rattle.std.specs.Prelude.{codes, decimal, true, false, ◌==◌}
use Rattle.std.proofs.lemmas.Bool.Decides.{nat_tests}
use Rattle.std.proofs.lemmas.Fmt.{decimal_digit}
use Rattle.log_line.proofs.writing.append_data.Goals as goal

pub returns-in_ok-push : goal.returns-in_ok-push
returns-in_ok-push c =
    let frame = c.args.frame.now in
    let before = c.args.line.now.items in
    let dlc_is = c.dlc-dlc.ensures.value in
    let range = c.dlc-dlc.ensures.valid.dlc_in_range in
    let is_remote : frame.remote ≡ true = sym c.if-rtr.ensures.value in
    let is_some : (frame.dlc == 0) ≡ false = grind (arith, nat_tests, c.if-dlc-ne0.true, dlc_is) in
    let digit : decimal frame.dlc ≡ (48 + frame.dlc) ∷ [] = decimal_digit frame.dlc (omega (arith, range)) in
    let written : c.push.new.self.items ≡ before ++ (codes "#R" ++ (48 + frame.dlc) ∷ []) =
    c.in_ok-push.ensures.items ∙ ap (λ d. c.extend_from_slice.new.self.items ++ (48 + d) ∷ []) dlc_is
    ∙ ap (λ l. l ++ (48 + frame.dlc) ∷ []) c.in_ok-extend_from_slice.ensures.items ∙ append_assoc before (codes "#R") ((48 + frame.dlc) ∷ []) in
    rw (is_remote, is_some, digit) written
