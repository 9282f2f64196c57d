-- The variable of the number, and what it is.
use Rattle.std.proofs.Common.{◌∙◌, ◌<◌, ◌≡◌, ◌≤◌, length, ℕ, Option, refl, arith, ap, sym}
use Rattle.std.specs.Prelude.{slice_get}
use Rattle.std.specs.Option.{option_and_then}
use Rattle.check_sorts.specs.Scope.{scope_in}
use Rattle.check_sorts.proofs.MeaningLemmas.{listed, past, within}
use Rattle.check_sorts.proofs.scope.Scope.meaning.Goals as goal

pub returns-in_default : goal.returns-in_default
returns-in_default c =
    sym (c.means.ensures (scope_in c.args.self.now) refl refl)
    ∙ ap (λ (o : Option ℕ). option_and_then (slice_get c.args.self.now.names.now.variables) o) c.in_default.is

pub returns-then-number-variables : goal.returns-then-number-variables
returns-then-number-variables c =
    let names = c.args.self.now.names.now in
    let many = listed names.base c.variables.result.now names.variables c.variables.ensures in
    let over : length names.variables ≤ c.in-Some.number = omega (arith, many) in
    past names.variables c.in-Some.number _ (c.in-Some.ensures (scope_in c.args.self.now) refl refl) over

pub returns : goal.returns
returns c =
    let names = c.args.self.now.names.now in
    let many = listed names.base c.variables.result.now names.variables c.variables.ensures in
    let below : c.in-Some.number < length names.variables = omega (arith, many) in
    within names c.in-Some.number _ c.form_of-form.result (c.in-Some.ensures (scope_in c.args.self.now) refl refl)
    below c.form_of-form.ensures
