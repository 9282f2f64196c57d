-- A new simulation is fresh, and so it has a run.
use Rattle.std.proofs.Common.{ap, subst, ◌∙◌}
use Rattle.sim_core.specs.Core.{HasARun}
use Rattle.sim_core.proofs.RunThere.{fresh_has_a_run}
use Rattle.sim_core.proofs.simulation.Core.has_a_run.Goals as goal

pub returns : goal.returns
returns g c =
    subst (λ s. HasARun g.B.Bus.meaning s) c.self.view_is
    (fresh_has_a_run g.B.Bus.meaning g.met.B.Bus.frames_come g.met.B.Bus.sound_stays g.met.B.Bus.due_later g.met.B.Bus.due_later_from_nothing _
    (c.self.invariant.fresh (ap (λ s. s.phase) c.self.view_is ∙ c.requires.is_new)))
