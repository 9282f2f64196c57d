-- Few pieces, and short texts.
use Rattle.std.proofs.Common.{rules, All, IsTrue, arith, subst, sym}
use Rattle.write_format.specs.Line.{IsFormatOf, IsShort}
use Rattle.write_format.specs.Inside.Shown.{IsShownShort}
use Rattle.write_format.specs.Reading.{AreSpelled}
use Rattle.write_format.proofs.ShortLemmas.{pieces_short, short_pieces}
use Rattle.write_format.proofs.ShownLemmas.{held_is}
use Rattle.write_format.proofs.format.Format.is_short.Goals as goal

pub returns-then-has_few_pieces : goal.returns-then-has_few_pieces
returns-then-has_few_pieces c =
    let text = c.self.inside.text in
    let arguments = c.self.inside.args in
    let is : IsFormatOf text arguments c.args.self.now = subst (IsFormatOf text arguments) c.self.view_is (held_is text arguments (c.self.invariant).0) in
    let spelled = subst (λ l. AreSpelled l is.pieces) (sym c.bytes.ensures) (is.matched).spelled in
    let few = (c.has_few_pieces.ensures is.pieces spelled).0 (subst IsTrue (sym c.if-has_few_pieces.true) (search rules)) in
    let all = subst (λ l. (IsTrue c.are_shown_short.result → All IsShownShort l) × (All IsShownShort l → IsTrue c.are_shown_short.result)) c.as_slice.ensures c.are_shown_short.ensures in
    (λ yes. pieces_short text arguments c.args.self.now is few (all.0 yes), λ short. all.1 (short_pieces text arguments c.args.self.now is short).1)

pub returns-else-has_few_pieces : goal.returns-else-has_few_pieces
returns-else-has_few_pieces c =
    let text = c.self.inside.text in
    let arguments = c.self.inside.args in
    let is : IsFormatOf text arguments c.args.self.now = subst (IsFormatOf text arguments) c.self.view_is (held_is text arguments (c.self.invariant).0) in
    let spelled = subst (λ l. AreSpelled l is.pieces) (sym c.bytes.ensures) (is.matched).spelled in
    let few : IsShort c.args.self.now → IsTrue c.has_few_pieces.result = λ short. (c.has_few_pieces.ensures is.pieces spelled).1 (short_pieces text arguments c.args.self.now is short).0 in (
      λ yes. absurd (let told = yes in grind (arith, told)),
      λ short. absurd (let told = few short in let no = c.if-has_few_pieces.false in grind (arith, told, no)),
    )
