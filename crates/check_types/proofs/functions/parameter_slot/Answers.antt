-- The variable of that name is the parameter.
use Rattle.std.proofs.Common.{◌≡◌, ◌∙◌, ℕ, List, None, ap, sym}
use Rattle.std.specs.Prelude.{position}
use Rattle.capl_meaning.specs.Variable.{Variable}
use Rattle.capl_meaning.specs.Variable.{variable_of_parameter}
use Rattle.typed_laws.specs.Laid.{slot}
use Rattle.check_types.proofs.NameLemmas.{is_named, named_at, named_somewhere}
use Rattle.check_types.proofs.functions.parameter_slot.Goals as goal

pub returns : goal.returns
returns c =
    let names = c.args.names.now in
    let cell : List ℕ → ℕ = λ n. slot names (record { owner = c.args.function.now.number; name = n }) in
    let at = named_at names c.args.function.now.number c.bytes.result.now c.in-Some.number (sym c.first_named.ensures ∙ c.in-Some.is) in
    c.slot.ensures names at.0 c.requires.layout c.requires.distinct at.1 ∙ ap (slot names) at.2 ∙ ap cell c.bytes.ensures

pub unreachable-requires : goal.unreachable-requires
unreachable-requires c =
    let v : Variable = variable_of_parameter c.args.function.now.number c.args.function.now.file c.args.parameter.now in
    let none : position (is_named v.owner c.bytes.result.now) c.args.names.now.variables ≡ None = sym c.first_named.ensures ∙ c.in-None.is in
    named_somewhere c.args.names.now v c.requires.declared
    (ap (λ (n : List ℕ). position (is_named v.owner n) c.args.names.now.variables) (sym c.bytes.ensures) ∙ none)
