-- As many are listed as there are.
use Rattle.std.proofs.Common.{◌∙◌, ap, arith, length, sym}
use Rattle.std.proofs.lemmas.List.{length-map}
use Rattle.capl_meaning.specs.Names.{Names}
use Rattle.check_names.specs.Names.{messages_of}
use Rattle.check_names.specs.Variable.{variable_in}
use Rattle.check_names.proofs.names.Names.variable_count.Goals as goal

pub overflow_cast-result : goal.overflow_cast-result
overflow_cast-result c =
    omega (arith, ap length c.as_slice.ensures.value, c.self.invariant.1.1.1.0)

pub returns : goal.returns
returns c =
    let names = c.self.inside in
    ap length c.as_slice.ensures.value
    ∙ sym (length-map names.variables.items (variable_in (messages_of names.base)))
    ∙ ap (λ (n : Names). length n.variables) c.self.view_is
