-- Nothing is wrong with a format that fits.
use Rattle.std.proofs.Common.{Err, ap, ◌∙◌}
use Rattle.write_format.specs.declared.refusal.FormatRefusal.{FormatRefusal}
use Rattle.type_alone.proofs.FormatLemmas.{never_wrong}
use Rattle.type_alone.proofs.write.read_format.Goals as goal

pub unreachable-requires : goal.unreachable-requires
unreachable-requires c =
    never_wrong c.args.text.now c.args.kinds.now c.requires c.pieces_are_found.ensures.found c.pieces_are_found.ensures.spelled c.in-Err-Wrong.field-0-0
    (λ none. c.in-Err-Wrong.ensures.wrong.0 (ap (λ e. Err e) (c.in-Err-Wrong.field-0-is ∙ ap FormatRefusal.Wrong none)))
    (λ n is. (c.in-Err-Wrong.ensures.unfit n).0 (ap (λ e. Err e) (c.in-Err-Wrong.field-0-is ∙ ap FormatRefusal.Wrong is)))
