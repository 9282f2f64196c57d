-- The front before a code.
use Rattle.std.proofs.Common.{rules}
use Rattle.std.specs.Prelude.{codes}
use Rattle.std.proofs.lemmas.Bool.Decides.{Decides-eqb}
use Rattle.std.proofs.lemmas.Slice.Eq.{strip_suffix_is}
use Rattle.text_parts.specs.Number.{IsHexDigit}
use Rattle.log_line.proofs.FrameFieldLemmas.{code_behind}
use Rattle.log_line.proofs.frame_text.without_code.Goals as goal

pub returns : goal.returns
returns c =
    let digit : IsHexDigit c.in_ok-digit.digit.now = search (rules, c.is_hex_digit.ensures, c.if-not-is_hex_digit.false) in
    code_behind c.args.behind.now c.in_ok-digit.rest.now c.in_ok-digit.digit.now c.strip_suffix.result c.in_ok-digit.ensures.cases.0 digit
    (strip_suffix_is Decides-eqb c.in_ok-digit.rest.now (codes "_") c.strip_suffix.result c.strip_suffix.ensures.cases)
