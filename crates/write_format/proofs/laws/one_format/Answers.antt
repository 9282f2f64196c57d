-- One text, one reading.
use Rattle.std.proofs.Common.{◌≡◌, sym, ap, ◌∙◌}
use Rattle.write_format.specs.Line.{format_elements}
use Rattle.write_format.proofs.ReadingLemmas.{one_reading}
use Rattle.write_format.proofs.laws.one_format.Goals as goal

pub returns : goal.returns
returns c text arguments format other is also =
    let same = one_reading text is.pieces also.pieces (is.matched).spelled (also.matched).spelled in
    let parts : other.elements ≡ format.elements = also.elements ∙ ap (λ pieces. format_elements pieces arguments) same ∙ sym is.elements in
    let texts : other.text ≡ format.text = also.text_is ∙ sym is.text_is in
    let given : other.arguments ≡ format.arguments = also.arguments_are ∙ sym is.arguments_are in
    ap (λ text. record { text = text; arguments = other.arguments; elements = other.elements }) texts
    ∙ ap (λ arguments. record { text = format.text; arguments = arguments; elements = other.elements }) given
    ∙ ap (λ elements. record { text = format.text; arguments = format.arguments; elements = elements }) parts
