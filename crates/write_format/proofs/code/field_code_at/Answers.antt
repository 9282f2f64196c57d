-- Flags and digits are found within the text.
use Rattle.std.proofs.Common.{◌≡◌, true, subst, sym, ap, ◌∙◌, arith, take, All}
use Rattle.std.proofs.lemmas.List.Sums.{prefix_len-le-length}
use Rattle.text_parts.specs.Number.{is_digit}
use Rattle.write_format.specs.Reading.{is_flag}
use Rattle.write_format.proofs.FieldLemmas.{passes_found}
use Rattle.write_format.proofs.code.field_code_at.Goals as goal

pub split_at-requires : goal.split_at-requires
split_at-requires c = omega (arith, c.flag_count.ensures, prefix_len-le-length is_flag c.args.bytes.now)

pub split_at-requires-2 : goal.split_at-requires-2
split_at-requires-2 c = omega (arith, c.digit_count.ensures, prefix_len-le-length is_digit c.split_at.result.1.now)

pub field_of-requires : goal.field_of-requires
field_of-requires c =
    let behind = c.split_at.result.1.now in
    subst (All (λ byte. is_digit byte ≡ true)) (sym (c.split_at-2.ensures.front ∙ ap (λ n. take n behind) c.digit_count.ensures)) (passes_found is_digit behind)
