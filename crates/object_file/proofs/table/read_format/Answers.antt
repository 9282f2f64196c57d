-- Where the text and the arguments are wrong, they make no format.
use Rattle.std.proofs.Common.{Err, ap, ◌∙◌}
use Rattle.write_format.specs.declared.refusal.FormatRefusal.{FormatRefusal}
use Rattle.object_file.proofs.FormatLemmas.{no_format}
use Rattle.object_file.proofs.table.read_format.Goals as goal

pub returns-in-Err-Wrong-clause-bad : goal.returns-in-Err-Wrong-clause-bad
returns-in-Err-Wrong-clause-bad c bad =
    no_format c.pieces_are_found.ensures.found c.pieces_are_found.ensures.spelled c.args.own c.args.args c.in-Err-Wrong.field-0-0
    (λ none. c.in-Err-Wrong.ensures.wrong.0 (ap (λ e. Err e) (c.in-Err-Wrong.field-0-is ∙ ap FormatRefusal.Wrong none)))
    (λ n is. (c.in-Err-Wrong.ensures.unfit n).0 (ap (λ e. Err e) (c.in-Err-Wrong.field-0-is ∙ ap FormatRefusal.Wrong is)))
