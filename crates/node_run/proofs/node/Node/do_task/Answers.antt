-- The next task of a node, by its procedure and by how its run ends.
use Rattle.std.proofs.Common.{[], ◌∷◌, ap, false, refl, rules, subst, sym, true, ◌∙◌, ◌≡◌}
use Rattle.bytecode.specs.declared.code.Code.{Code}
use Rattle.std.specs.Prelude.{Err}
use Rattle.stack_vm.specs.Memory.{IsMemoryOf}
use Rattle.stack_vm.specs.Quiet.{IsQuietHandler}
use Rattle.node_run.specs.Node.{HasQuietTask}
use Rattle.node_rounds.specs.Effects.{halt_lines, TakesEntries, line_entries}
use Rattle.node_run.proofs.HostRuns.{on_err}
use Rattle.node_run.proofs.NodeTasks.{Runs, does_at, does_with, does_without, halt_told, halts_as_task, no_halt_told, not_halted, quiet_procedure, refused_at, refused_halt, refused_run, rises_from, sink_failed, took}
use Rattle.node_run.proofs.node.Node.do_task.Goals as goal

pub run_handler-requires-clause-memory : goal.run_handler-requires-clause-memory
run_handler-requires-clause-memory g c = subst (λ (code : Code). IsMemoryOf code c.set_this.new.memory) (sym c.code.ensures.same) (c.set_this.ensures.stays _ c.code.ensures.verified c.self.invariant.memory_of)

pub returns-in_default-clause-does : goal.returns-in_default-clause-does
returns-in_default-clause-does g c =
    let taken = took c.args.self.now _ c.take_next.result c.unwrap-trigger.result c.take_next.new.rest c.take_next.new.timers
    c.self.view_is c.requires.has_task c.unwrap-trigger.ensures c.take_next.ensures.next in
    does_at c.self.view_is
    (does_without g.B.Bus.meaning.after_request g.R.Record.meaning c.args.number _ c.args.bus.now c.args.into.now c.args.meter.now
    c.unwrap-trigger.result c.take_next.new.rest c.take_next.new.timers taken.next c.in_default.is taken.fires _ refl)

pub returns-in_err-outcome-clause-refused : goal.returns-in_err-outcome-clause-refused
returns-in_err-outcome-clause-refused g c =
    let taken = took c.args.self.now _ c.take_next.result c.unwrap-trigger.result c.take_next.new.rest c.take_next.new.timers
    c.self.view_is c.requires.has_task c.unwrap-trigger.ensures c.take_next.ensures.next in
    let run = c.in_err-outcome.ensures.refused in
    on_err c.from_residual.result
    (refused_at c.self.view_is
    (refused_run g.B.Bus.meaning.after_request g.R.Record.meaning c.args.number _ c.args.bus.now c.args.into.now c.args.meter.now c.run_handler.new.meter
    c.unwrap-trigger.result c.take_next.new.rest c.take_next.new.timers c.in-Some.handler c.is_closed-closed.result c.set_this.new.memory _ taken
    (record { runs = c.in-Some.is; this = c.set_this.ensures.cells; closing = c.is_closed-closed.ensures })
    _ c.code.ensures.same run.3 c.in_err-outcome.ensures.meter_stays))

pub returns-in_err-line-clause-refused : goal.returns-in_err-line-clause-refused
returns-in_err-line-clause-refused g c =
    let taken = took c.args.self.now _ c.take_next.result c.unwrap-trigger.result c.take_next.new.rest c.take_next.new.timers
    c.self.view_is c.requires.has_task c.unwrap-trigger.ensures c.take_next.ensures.next in
    let runs : Runs _ c.unwrap-trigger.result c.in-Some.handler c.is_closed-closed.result c.set_this.new.memory = record { runs = c.in-Some.is; this = c.set_this.ensures.cells; closing = c.is_closed-closed.ensures } in
    let told : halt_lines c.in_ok-outcome.outcome ≡ c.in-Some-halt_text.text.now ∷ [] = search rules in
    on_err c.from_residual-in_err-line.result
    (refused_at c.self.view_is
    (refused_halt g.B.Bus.meaning.after_request g.R.Record.meaning c.args.number _ c.args.bus.now c.args.into.now c.args.meter.now c.unwrap-trigger.result c.take_next.new.rest c.take_next.new.timers
    c.in-Some.handler c.is_closed-closed.result c.set_this.new.memory c.run_handler.new.memory taken runs c.in_ok-outcome.outcome c.in_ok-outcome.stop c.run_handler.new.bus c.run_handler.new.into
    c.run_handler.new.timers c.run_handler.new.meter _ c.code.ensures.same c.in_ok-outcome.ensures.ends
    c.line.new.self c.in-Some-halt_text.text.now told c.in_err-line.ensures.refused))

pub returns-in_err-line-clause-fault : goal.returns-in_err-line-clause-fault
returns-in_err-line-clause-fault g c of =
    let failed = sink_failed c.from_residual-in_err-line.result c.in_err-line.field-0.0 c.from_residual-in_err-line.ensures.1 of in
    rises_from (g.R.Record.meaning.faults c.args.into.now) (g.R.Record.meaning.faults c.run_handler.new.into) (g.R.Record.meaning.faults c.line.new.self)
    c.in_ok-outcome.ensures.faults_stay (c.in_err-line.ensures.sink (ap (λ fault. Err fault) failed))

pub returns-in_ok-line-clause-does : goal.returns-in_ok-line-clause-does
returns-in_ok-line-clause-does g c =
    let taken = took c.args.self.now _ c.take_next.result c.unwrap-trigger.result c.take_next.new.rest c.take_next.new.timers
    c.self.view_is c.requires.has_task c.unwrap-trigger.ensures c.take_next.ensures.next in
    let runs : Runs _ c.unwrap-trigger.result c.in-Some.handler c.is_closed-closed.result c.set_this.new.memory = record { runs = c.in-Some.is; this = c.set_this.ensures.cells; closing = c.is_closed-closed.ensures } in
    let told : halt_lines c.in_ok-outcome.outcome ≡ c.in-Some-halt_text.text.now ∷ [] = search rules in
    does_at c.self.view_is
    (does_with g.B.Bus.meaning.after_request g.R.Record.meaning c.args.number _ c.args.bus.now c.args.into.now c.args.meter.now c.unwrap-trigger.result c.take_next.new.rest c.take_next.new.timers
    c.in-Some.handler c.is_closed-closed.result c.set_this.new.memory c.run_handler.new.memory taken runs c.in_ok-outcome.outcome c.in_ok-outcome.stop c.run_handler.new.bus c.run_handler.new.into
    c.run_handler.new.timers c.run_handler.new.meter _ c.code.ensures.same c.in_ok-outcome.ensures.ends
    c.line.new.self true (subst (λ ls. TakesEntries g.R.Record.meaning c.run_handler.new.into (line_entries c.self.inside.moment c.args.number ls) c.line.new.self) (sym told)
    (c.line.new.self, c.in_ok-line.ensures.taken, refl)) (halt_told c.in_ok-outcome.outcome c.in-Some-halt_text.text.now told))

pub returns-in_default-halt_text-clause-does : goal.returns-in_default-halt_text-clause-does
returns-in_default-halt_text-clause-does g c =
    let taken = took c.args.self.now _ c.take_next.result c.unwrap-trigger.result c.take_next.new.rest c.take_next.new.timers
    c.self.view_is c.requires.has_task c.unwrap-trigger.ensures c.take_next.ensures.next in
    let runs : Runs _ c.unwrap-trigger.result c.in-Some.handler c.is_closed-closed.result c.set_this.new.memory = record { runs = c.in-Some.is; this = c.set_this.ensures.cells; closing = c.is_closed-closed.ensures } in
    let told : halt_lines c.in_ok-outcome.outcome ≡ [] = search rules in
    let running = not_halted c.args.self.now _ c.self.view_is c.requires.has_task in
    does_at c.self.view_is
    (does_with g.B.Bus.meaning.after_request g.R.Record.meaning c.args.number _ c.args.bus.now c.args.into.now c.args.meter.now c.unwrap-trigger.result c.take_next.new.rest c.take_next.new.timers
    c.in-Some.handler c.is_closed-closed.result c.set_this.new.memory c.run_handler.new.memory taken runs c.in_ok-outcome.outcome c.in_ok-outcome.stop c.run_handler.new.bus c.run_handler.new.into
    c.run_handler.new.timers c.run_handler.new.meter _ c.code.ensures.same c.in_ok-outcome.ensures.ends
    c.run_handler.new.into c.self.inside.is_halted (subst (λ ls. TakesEntries g.R.Record.meaning c.run_handler.new.into (line_entries c.self.inside.moment c.args.number ls) c.run_handler.new.into) (sym told) refl)
    (running ∙ no_halt_told c.in_ok-outcome.outcome told))

pub returns-in_err-outcome-clause-quiet : goal.returns-in_err-outcome-clause-quiet
returns-in_err-outcome-clause-quiet g c q =
    let taken = took c.args.self.now _ c.take_next.result c.unwrap-trigger.result c.take_next.new.rest c.take_next.new.timers
    c.self.view_is c.requires.has_task c.unwrap-trigger.ensures c.take_next.ensures.next in
    let quiet = quiet_procedure taken c.in-Some.is (subst HasQuietTask (sym c.self.view_is) q) in
    let done = c.in_err-outcome.ensures.quiet (subst (λ (code : Code). IsQuietHandler code c.in-Some.handler) (sym c.code.ensures.same) quiet) in
    absurd (cc)

pub returns-in_err-line-clause-quiet : goal.returns-in_err-line-clause-quiet
returns-in_err-line-clause-quiet g c q =
    let taken = took c.args.self.now _ c.take_next.result c.unwrap-trigger.result c.take_next.new.rest c.take_next.new.timers
    c.self.view_is c.requires.has_task c.unwrap-trigger.ensures c.take_next.ensures.next in
    let runs : Runs _ c.unwrap-trigger.result c.in-Some.handler c.is_closed-closed.result c.set_this.new.memory = record { runs = c.in-Some.is; this = c.set_this.ensures.cells; closing = c.is_closed-closed.ensures } in
    let told : halt_lines c.in_ok-outcome.outcome ≡ c.in-Some-halt_text.text.now ∷ [] = search rules in
    let task : HasQuietTask _ = subst HasQuietTask (sym c.self.view_is) q in
    let halts = halts_as_task g.B.Bus.meaning.after_request g.R.Record.meaning c.args.number _ c.args.bus.now c.args.into.now c.args.meter.now c.unwrap-trigger.result c.take_next.new.rest c.take_next.new.timers
    c.in-Some.handler c.is_closed-closed.result c.set_this.new.memory c.run_handler.new.memory taken runs c.in_ok-outcome.outcome c.in_ok-outcome.stop c.run_handler.new.bus c.run_handler.new.into
    c.run_handler.new.timers c.run_handler.new.meter _ c.code.ensures.same c.in_ok-outcome.ensures.ends task.task task.after task.next in
    let both : true ≡ false = halt_told c.in_ok-outcome.outcome c.in-Some-halt_text.text.now told ∙ sym halts ∙ task.goes_on in
    absurd (cc)
