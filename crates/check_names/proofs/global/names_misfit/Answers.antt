-- The global of the name, by its number.
use Rattle.std.proofs.Common.{◌∙◌, Option, ℕ, ap, sym, false}
use Rattle.std.specs.Prelude.{slice_get}
use Rattle.std.specs.Option.{option_and_then, option_map_or}
use Rattle.capl_meaning.specs.Variable.{Variable}
use Rattle.capl_meaning.specs.Inside.Names.{is_global}
use Rattle.check_names.specs.Variable.{is_misfit}
use Rattle.check_names.proofs.PositionLemmas.{find_position}
use Rattle.check_names.proofs.global.names_misfit.Goals as goal

pub returns-in-None : goal.returns-in-None
returns-in-None c =
    let vs = c.args.names.now.variables in
    ap (λ (o : Option ℕ). option_map_or (λ (v : Variable). is_misfit v.form) (option_and_then (slice_get vs) o) false) (sym c.in-None.is ∙ c.global.ensures)
    ∙ ap (λ (o : Option Variable). option_map_or (λ (v : Variable). is_misfit v.form) o false) (find_position (is_global c.args.name.now) vs)

pub returns-in-Some : goal.returns-in-Some
returns-in-Some c =
    let vs = c.args.names.now.variables in
    c.is_misfit.ensures
    ∙ ap (λ (o : Option ℕ). option_map_or (λ (v : Variable). is_misfit v.form) (option_and_then (slice_get vs) o) false) (sym c.in-Some.is ∙ c.global.ensures)
    ∙ ap (λ (o : Option Variable). option_map_or (λ (v : Variable). is_misfit v.form) o false) (find_position (is_global c.args.name.now) vs)
