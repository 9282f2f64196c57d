-- The digits of a rule.
use Rattle.std.proofs.Common.{◌++◌, ◌∷◌, [], refl, ap, ◌∙◌, append_assoc}
use Rattle.std.specs.Prelude.{decimal}
use Rattle.text_parts.specs.Number.{zero_filled}
use Rattle.text_parts.proofs.DigitLemmas.{decimal_is}
use Rattle.sim_text.proofs.blame.append_rule.Goals as goal

pub returns : goal.returns
returns c =
    let rule = c.args.rule in
    let line = c.args.line.now.items in
    let digits = c.as_bytes.ensures.value ∙ c.in_ok-format.ensures.ok ∙ decimal_is _ 2 rule.number refl c.laid_out.ensures in
    c.in_ok-extend_from_slice.ensures.items ∙ ap (λ l. l ++ c.as_bytes.result.now) c.in_ok-push.ensures.items
    ∙ ap (λ d. (line ++ rule.group ∷ []) ++ d) digits
    ∙ append_assoc line (rule.group ∷ []) (zero_filled 2 (decimal rule.number))
