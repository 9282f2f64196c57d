-- One more has passed: of what was still to come, all but the first is left.
use Rattle.std.proofs.Common.{ap, drop, sym, ◌∙◌}
use Rattle.std.proofs.lemmas.List.{drop-drop}
use Rattle.sim_core.proofs.upcoming.Upcoming.pass.Goals as goal

pub returns-then-self-len : goal.returns-then-self-len
returns-then-self-len g c =
    sym (drop-drop 1 c.self.inside.passed c.self.inside.list.items) ∙ ap (λ list. drop 1 list) c.self.view_is
