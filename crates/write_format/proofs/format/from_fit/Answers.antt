-- What holds a fit text and its arguments.
use Rattle.std.proofs.Common.{ap, sym, ◌∙◌}
use Rattle.std.specs.Prelude.{count_by}
use Rattle.write_format.specs.Inside.Shown.{format_held, is_number}
use Rattle.write_format.proofs.ShownLemmas.{format_numbers, held_is}
use Rattle.write_format.proofs.format.from_fit.Goals as goal

pub invariant_of-result : goal.invariant_of-result
invariant_of-result c =
    let text = c.args.text in
    let arguments = c.args.args in (
      c.requires,
      c.count_numbers-numbers.ensures ∙ ap (count_by is_number) c.as_slice.ensures
          ∙ sym (format_numbers text arguments (format_held text arguments) (held_is text arguments c.requires)),
    )

pub returns-clause-format : goal.returns-clause-format
returns-clause-format c = held_is c.args.text c.args.args c.requires
