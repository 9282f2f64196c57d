-- A handler begins, and the run ends or is refused.
use Rattle.std.proofs.Common.{ℕ, ◌-◌, ap, ◌∙◌}
use Rattle.stack_vm.specs.Memory.{MemoryState}
use Rattle.stack_vm.proofs.HandlerRuns.{index_there, memory_left, refused_run, room_there, runs_to, starts}
use Rattle.stack_vm.proofs.MemoryLemmas.{event_cells_held}
use Rattle.stack_vm.proofs.QuietRuns.{quiet_goes_on}
use Rattle.stack_vm.proofs.runs.run.Goals as goal

pub run_on-requires-clause-indexed : goal.run_on-requires-clause-indexed
run_on-requires-clause-indexed g c =
    let b = starts g.H.Host.meaning c.args.host.now c.memory.inside.state c.code-code.ensures.same c.code-code.ensures.verified c.args.handler c.args.turns
    c.requires.handler c.as_slice.ensures c.index-as_slice-handler.result c.as_slice-2.ensures c.memory.view_is c.requires.memory c.requires.timers c.begin.ensures in
    index_there c.code-code.ensures.same b (ap (λ (m : MemoryState). m.cases) c.memory.view_is) c.requires.memory

pub run_on-requires-clause-room : goal.run_on-requires-clause-room
run_on-requires-clause-room g c =
    let b = starts g.H.Host.meaning c.args.host.now c.memory.inside.state c.code-code.ensures.same c.code-code.ensures.verified c.args.handler c.args.turns
    c.requires.handler c.as_slice.ensures c.index-as_slice-handler.result c.as_slice-2.ensures c.memory.view_is c.requires.memory c.requires.timers c.begin.ensures in
    room_there c.code-code.ensures.same b c.requires.memory

pub invariant_of-memory : goal.invariant_of-memory
invariant_of-memory g c = event_cells_held c.code-code.result.now c.code-code.ensures.verified c.run_on.new.state.cells c.run_on.ensures.cells_held

pub returns-in_err-outcome-clause-refused : goal.returns-in_err-outcome-clause-refused
returns-in_err-outcome-clause-refused g c =
    let b = starts g.H.Host.meaning c.args.host.now c.memory.inside.state c.code-code.ensures.same c.code-code.ensures.verified c.args.handler c.args.turns
    c.requires.handler c.as_slice.ensures c.index-as_slice-handler.result c.as_slice-2.ensures c.memory.view_is c.requires.memory c.requires.timers c.begin.ensures in
    refused_run c.code-code.ensures.same b c.from_residual.result c.in_err-outcome.ensures.refused

pub returns-in_err-outcome-clause-quiet : goal.returns-in_err-outcome-clause-quiet
returns-in_err-outcome-clause-quiet g c is_quiet =
    let b = starts g.H.Host.meaning c.args.host.now c.memory.inside.state c.code-code.ensures.same c.code-code.ensures.verified c.args.handler c.args.turns
    c.requires.handler c.as_slice.ensures c.index-as_slice-handler.result c.as_slice-2.ensures c.memory.view_is c.requires.memory c.requires.timers c.begin.ensures in
    absurd (quiet_goes_on c.code-code.ensures.same c.code-code.ensures.verified b c.in_err-outcome.ensures.refused is_quiet)

pub returns-in_err-outcome-clause-of_code : goal.returns-in_err-outcome-clause-of_code
returns-in_err-outcome-clause-of_code g c =
    let b = starts g.H.Host.meaning c.args.host.now c.memory.inside.state c.code-code.ensures.same c.code-code.ensures.verified c.args.handler c.args.turns
    c.requires.handler c.as_slice.ensures c.index-as_slice-handler.result c.as_slice-2.ensures c.memory.view_is c.requires.memory c.requires.timers c.begin.ensures in
    memory_left c.code-code.ensures.same b (ap (λ (m : MemoryState). m.cases) c.memory.view_is) c.requires.memory c.run_on.ensures.same_room c.run_on.ensures.cells_held

pub invariant_of-memory-2 : goal.invariant_of-memory-2
invariant_of-memory-2 g c = event_cells_held c.code-code.result.now c.code-code.ensures.verified c.run_on.new.state.cells c.run_on.ensures.cells_held

pub returns-clause-of_code : goal.returns-clause-of_code
returns-clause-of_code g c =
    let b = starts g.H.Host.meaning c.args.host.now c.memory.inside.state c.code-code.ensures.same c.code-code.ensures.verified c.args.handler c.args.turns
    c.requires.handler c.as_slice.ensures c.index-as_slice-handler.result c.as_slice-2.ensures c.memory.view_is c.requires.memory c.requires.timers c.begin.ensures in
    memory_left c.code-code.ensures.same b (ap (λ (m : MemoryState). m.cases) c.memory.view_is) c.requires.memory c.run_on.ensures.same_room c.run_on.ensures.cells_held

pub returns-clause-ends : goal.returns-clause-ends
returns-clause-ends g c =
    let b = starts g.H.Host.meaning c.args.host.now c.memory.inside.state c.code-code.ensures.same c.code-code.ensures.verified c.args.handler c.args.turns
    c.requires.handler c.as_slice.ensures c.index-as_slice-handler.result c.as_slice-2.ensures c.memory.view_is c.requires.memory c.requires.timers c.begin.ensures in
    runs_to c.code-code.ensures.same b c.in_ok-outcome.ensures.ends c.add_run.ensures (c.saturating_sub.ensures ∙ ap (λ (z : ℕ). c.args.turns - z) c.turns.ensures)
