-- What a round has to do runs handlers that are there.
use Rattle.std.proofs.Common.{length, subst, sym}
use Rattle.node_run.specs.Inside.Agenda.{IsPlan}
use Rattle.node_run.proofs.Plans.{begun, planned_round}
use Rattle.node_run.proofs.node.Node.begin.Goals as goal

pub invariant_of-self : goal.invariant_of-self
invariant_of-self c =
    let handlers = c.self.inside.procedures.handlers in
    record {
      verified = c.self.invariant.verified;
      memory_of = c.self.invariant.memory_of;
      as_many = c.self.invariant.as_many;
      valid = c.self.invariant.valid;
      numbered = c.self.invariant.numbered;
      rows = c.self.invariant.rows;
      in_time = c.requires.in_time;
      plan = subst (IsPlan (length handlers)) (sym c.in_ok-self-inside.ensures)
          (planned_round handlers c.args.round c.args.seen c.args.keys.now);
    }

pub returns-clause-begun : goal.returns-clause-begun
returns-clause-begun c =
    begun c.args.self.now _ c.args.now c.args.round c.args.seen c.args.keys.now c.in_ok-self-inside.field-0 c.self.view_is
    c.in_ok-self-inside.ensures
