-- The local, else the global.
use Rattle.std.proofs.Common.{◌∙◌, Option, ℕ, ap, sym}
use Rattle.std.specs.Prelude.{slice_get}
use Rattle.std.specs.Option.{option_and_then}
use Rattle.check_names.proofs.NameLemmas.{means_global, means_local}
use Rattle.check_names.proofs.names.Names.means.Goals as goal

pub returns-in-Some : goal.returns-in-Some
returns-in-Some c = λ s same owner.
    means_local s c.args.self.now c.args.procedure c.args.name.now c.args.token c.in-Some.number same owner
    (sym c.local.ensures ∙ c.in-Some.is)

pub returns-in-None : goal.returns-in-None
returns-in-None c = λ s same owner.
    ap (λ (o : Option ℕ). option_and_then (slice_get c.args.self.now.variables) o) c.global.ensures
    ∙ means_global s c.args.self.now c.args.procedure c.args.name.now c.args.token same owner
    (sym c.local.ensures ∙ c.in-None.is)
