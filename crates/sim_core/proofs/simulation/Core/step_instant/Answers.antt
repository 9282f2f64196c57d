-- The meter has the rows of all nodes still, and what is to come comes later.
use Rattle.std.proofs.Common.{subst}
use Rattle.sim_core.specs.Core.{run_of}
use Rattle.sim_core.specs.Inside.Kept.{IsCore}
use Rattle.sim_core.proofs.NodeLists.{rows_stay}
use Rattle.sim_core.proofs.RunLemmas.{next_stands}
use Rattle.sim_core.proofs.simulation.Core.step_instant.Goals as goal

pub returns-then-eq-clause-rows : goal.returns-then-eq-clause-rows
returns-then-eq-clause-rows g c =
    rows_stay c.args.self.now.nodes c.begin.new.self.nodes c.args.meter.now c.begin.new.meter c.in_ok-begin.ensures.does.keeps.nodes c.begin.ensures.as_many_rows c.requires.rows

pub returns-clause-rows : goal.returns-clause-rows
returns-clause-rows g c =
    rows_stay c.args.self.now.nodes c.do_instant.new.self.nodes c.args.meter.now c.do_instant.new.meter c.in_ok-do_instant.ensures.does.keeps.nodes c.do_instant.ensures.as_many_rows c.requires.rows

pub returns-then-eq-clause-later : goal.returns-then-eq-clause-later
returns-then-eq-clause-later g c went =
    let does = c.in_ok-begin.ensures.does in
    next_stands g.B.Bus.meaning g.met.B.Bus.frames_come g.met.B.Bus.sound_stays g.met.B.Bus.due_later g.met.B.Bus.due_later_from_nothing c.args.self.now
    (subst (IsCore g.B.Bus.meaning) c.self.view_is c.self.invariant) does.rounds (run_of c.begin.new.self) does.is_next

pub returns-clause-later : goal.returns-clause-later
returns-clause-later g c went =
    let does = c.in_ok-do_instant.ensures.does in
    next_stands g.B.Bus.meaning g.met.B.Bus.frames_come g.met.B.Bus.sound_stays g.met.B.Bus.due_later g.met.B.Bus.due_later_from_nothing c.args.self.now
    (subst (IsCore g.B.Bus.meaning) c.self.view_is c.self.invariant) does.rounds (run_of c.do_instant.new.self) does.is_next
