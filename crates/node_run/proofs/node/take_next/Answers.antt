-- What is left runs handlers that are there.
use Rattle.std.proofs.Common.{None, refl, subst, sym, ◌<◌, length}
use Rattle.std.specs.Option.{IfSome}
use Rattle.node_rounds.specs.declared.occurrence.Occurrence.TheVariants as happens
use Rattle.node_rounds.specs.Procedures.{reacts_to}
use Rattle.node_run.proofs.Plans.{still_planned, timer_procedure_exists}
use Rattle.node_run.proofs.node.take_next.Goals as goal

pub returns-then-is_some-clause-planned : goal.returns-then-is_some-clause-planned
returns-then-is_some-clause-planned c =
    still_planned _ c.args.rest.now _ _ c.pop_front-first.result None c.rest.view_is c.pop_front-first.ensures.items refl c.requires.planned

pub returns-clause-exists : goal.returns-clause-exists
returns-clause-exists c =
    subst (λ o. IfSome o (λ handler. handler < length c.args.procedures.now.handlers)) (sym c.for_timer.ensures)
    (timer_procedure_exists c.args.procedures.now.handlers (reacts_to (happens.Timer c.in-Some.timer)))

pub returns-2-clause-planned : goal.returns-2-clause-planned
returns-2-clause-planned c =
    still_planned _ c.args.rest.now _ _ c.pop_front-first.result c.pop_front.result c.rest.view_is c.pop_front-first.ensures.items c.pop_front.ensures.items c.requires.planned
