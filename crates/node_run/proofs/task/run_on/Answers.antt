-- A run on the host of a task is one for the parts of this host, whose references stay.
use Rattle.std.proofs.Common.{arith, refl, sym, ◌∙◌}
use Rattle.node_run.specs.Inside.Host.{parts}
use Rattle.node_run.proofs.ActiveTimers.{length-active_timers}
use Rattle.node_run.proofs.HostRuns.{kept_by_refused_run, kept_by_run, on_err, refused_along, runs_along, valid_refused, valid_run}
use Rattle.node_run.proofs.task.run_on.Goals as goal

pub run-requires-clause-timers : goal.run-requires-clause-timers
run-requires-clause-timers g c = omega (arith, c.requires.timers, length-active_timers c.args.host.now.timers.now)

pub returns-clause-same_bus : goal.returns-clause-same_bus
returns-clause-same_bus g c = kept_by_run (λ h. h.bus.ghost_name) (λ b e a t. t.0) c.in_ok-outcome.ensures.ends

pub returns-clause-same_record : goal.returns-clause-same_record
returns-clause-same_record g c = kept_by_run (λ h. h.into.ghost_name) (λ b e a t. t.1) c.in_ok-outcome.ensures.ends

pub returns-clause-same_timers : goal.returns-clause-same_timers
returns-clause-same_timers g c = kept_by_run (λ h. h.timers.ghost_name) (λ b e a t. t.2) c.in_ok-outcome.ensures.ends

pub returns-clause-ends : goal.returns-clause-ends
returns-clause-ends g c =
    runs_along (λ h. parts h.number h.moment h.stops h.bus.now h.into.now h.timers.now) g.B.Bus.meaning.after_request g.R.Record.meaning
    (λ s. refl) (λ s. refl) (λ b e a t. t.3) c.in_ok-outcome.ensures.ends

pub returns-clause-as_many : goal.returns-clause-as_many
returns-clause-as_many g c =
    sym (length-active_timers c.run.new.host.timers.now) ∙ c.in_ok-outcome.ensures.host_stays.timers ∙ length-active_timers c.args.host.now.timers.now

pub returns-clause-valid : goal.returns-clause-valid
returns-clause-valid g c valid =
    valid_run
    (runs_along (λ h. parts h.number h.moment h.stops h.bus.now h.into.now h.timers.now) g.B.Bus.meaning.after_request g.R.Record.meaning
    (λ s. refl) (λ s. refl) (λ b e a t. t.3) c.in_ok-outcome.ensures.ends) valid

pub returns-in_err-outcome-clause-same_bus : goal.returns-in_err-outcome-clause-same_bus
returns-in_err-outcome-clause-same_bus g c = kept_by_refused_run (λ h. h.bus.ghost_name) (λ b e a t. t.0) (λ b e a t. t.0) c.in_err-outcome.ensures.refused

pub returns-in_err-outcome-clause-same_record : goal.returns-in_err-outcome-clause-same_record
returns-in_err-outcome-clause-same_record g c = kept_by_refused_run (λ h. h.into.ghost_name) (λ b e a t. t.1) (λ b e a t. t.1) c.in_err-outcome.ensures.refused

pub returns-in_err-outcome-clause-same_timers : goal.returns-in_err-outcome-clause-same_timers
returns-in_err-outcome-clause-same_timers g c = kept_by_refused_run (λ h. h.timers.ghost_name) (λ b e a t. t.2) (λ b e a t. t.2) c.in_err-outcome.ensures.refused

pub returns-in_err-outcome-clause-refused : goal.returns-in_err-outcome-clause-refused
returns-in_err-outcome-clause-refused g c =
    on_err c.from_residual.result
    (refused_along (λ h. parts h.number h.moment h.stops h.bus.now h.into.now h.timers.now) g.B.Bus.meaning.after_request g.R.Record.meaning
    (λ s. refl) (λ s. refl) (λ b e a t. t.3) (λ b e a t. t.3) c.in_err-outcome.ensures.refused)

pub returns-in_err-outcome-clause-as_many : goal.returns-in_err-outcome-clause-as_many
returns-in_err-outcome-clause-as_many g c =
    sym (length-active_timers c.run.new.host.timers.now) ∙ c.in_err-outcome.ensures.host_stays.timers ∙ length-active_timers c.args.host.now.timers.now

pub returns-in_err-outcome-clause-valid : goal.returns-in_err-outcome-clause-valid
returns-in_err-outcome-clause-valid g c valid =
    valid_refused
    (refused_along (λ h. parts h.number h.moment h.stops h.bus.now h.into.now h.timers.now) g.B.Bus.meaning.after_request g.R.Record.meaning
    (λ s. refl) (λ s. refl) (λ b e a t. t.3) (λ b e a t. t.3) c.in_err-outcome.ensures.refused) valid
