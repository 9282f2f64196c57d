-- The name and the text of a source.
use Rattle.std.proofs.Common.{◌≡◌, ◌∙◌, ◌++◌, ap}
use Rattle.sim_gen.specs.Generated.{procedures, source_name, variables_line}
use Rattle.sim_gen.proofs.generated.source_of.Goals as goal

pub returns : goal.returns
returns c =
    let number = c.args.number in
    let name : c.in_ok-make.field-0 ≡ source_name number =
    c.in_ok-make.ensures ∙ (c.as_bytes.ensures.value ∙ c.in_ok-name.ensures.ok) in
    let text : c.in_ok-make-2.field-0 ≡ variables_line number ++ procedures =
    c.in_ok-make-2.ensures ∙ (c.as_bytes-2.ensures.value
    ∙ (c.in_ok-push_str.ensures.bytes ∙ ap (λ front. front ++ procedures) c.in_ok-text.ensures.ok)) in
    λ i. record { name = name i; text = text i }
