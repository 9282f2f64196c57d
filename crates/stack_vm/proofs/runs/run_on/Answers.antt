-- Each step goes further, ends the run or is refused.
use Rattle.std.proofs.Common.{◌+◌, ◌<◌, ◌^◌, length, refl, sym, ap, ◌∙◌, arith, subst}
use Rattle.std.specs.Prelude.{pos}
use Rattle.vm_host.proofs.HostLemmas.{HostStays-refl}
use Rattle.bytecode.specs.Runs.{HoldKinds}
use Rattle.bytecode.specs.declared.instr.Instr.TheVariants.{Push}
use Rattle.stack_vm.specs.Inside.State.{RunState}
use Rattle.stack_vm.proofs.CaseLemmas.{passes_one}
use Rattle.stack_vm.proofs.ListLemmas.{item_read}
use Rattle.stack_vm.proofs.RunSteps.{cells_then, comes_as, comes_at_first, comes_past, ends_here, fewer_past, fewer_then, goes_further, place_there, ready, refused_there, stands}
use Rattle.stack_vm.proofs.StepLemmas.{case_needed, does_in_on, other_there, ready_as}
use Rattle.stack_vm.proofs.runs.run_on.Goals as goal

pub loop-outcome-init : goal.loop-outcome-init
loop-outcome-init g c = comes_as c.move_out-own.ensures (comes_at_first g.H.Host.meaning c.args.code.now c.args.state.now c.args.host.now)

pub offset_bounds-instrs-place : goal.offset_bounds-instrs-place
offset_bounds-instrs-place g c =
    let below = place_there c.requires.verified c.requires.starts.1 c.requires.room c.loop-outcome.invariant in
    omega (arith, below, c.place.ensures, ap length c.as_slice-instrs.ensures, c.as_slice-instrs.type_inv)

pub bounds-instrs-place : goal.bounds-instrs-place
bounds-instrs-place g c =
    let below = place_there c.requires.verified c.requires.starts.1 c.requires.room c.loop-outcome.invariant in
    omega (arith, below, c.place.ensures, ap length c.as_slice-instrs.ensures)

pub step-requires : goal.step-requires
step-requires g c =
    let below = place_there c.requires.verified c.requires.starts.1 c.requires.room c.loop-outcome.invariant in
    let there = item_read c.args.code.now.instrs c.as_slice-instrs.ensures c.place.ensures below (Push (pos 0)) in
    let next : c.loop-outcome.own.place + 1 < 2 ^ 64 = omega (arith, below, c.as_slice-instrs.type_inv.0, ap length c.as_slice-instrs.ensures) in
    ready c.requires.verified c.requires.starts.1 c.requires.room c.loop-outcome.invariant there next

pub loop-outcome-smaller-in-Ok-None : goal.loop-outcome-smaller-in-Ok-None
loop-outcome-smaller-in-Ok-None g c =
    let below = place_there c.requires.verified c.requires.starts.1 c.requires.room c.loop-outcome.invariant in
    let there = item_read c.args.code.now.instrs c.as_slice-instrs.ensures c.place.ensures below (Push (pos 0)) in
    fewer_then c.requires.verified c.requires.starts.1 c.requires.room c.loop-outcome.invariant there
    (does_in_on g.H.Host.meaning c.loop-outcome.host c.in-Ok-None.ensures.does) c.in-Ok-None.field-0-is

pub loop-outcome-preserved-in-Ok-None : goal.loop-outcome-preserved-in-Ok-None
loop-outcome-preserved-in-Ok-None g c =
    let below = place_there c.requires.verified c.requires.starts.1 c.requires.room c.loop-outcome.invariant in
    let there = item_read c.args.code.now.instrs c.as_slice-instrs.ensures c.place.ensures below (Push (pos 0)) in
    goes_further c.requires.verified c.requires.starts.1 c.requires.room c.loop-outcome.invariant there
    (does_in_on g.H.Host.meaning c.loop-outcome.host c.in-Ok-None.ensures.does) c.in-Ok-None.field-0-is (HostStays-refl g.H.Host.meaning c.loop-outcome.host)

pub returns-in-Ok-Some-clause-ends : goal.returns-in-Ok-Some-clause-ends
returns-in-Ok-Some-clause-ends g c =
    let below = place_there c.requires.verified c.requires.starts.1 c.requires.room c.loop-outcome.invariant in
    let there = item_read c.args.code.now.instrs c.as_slice-instrs.ensures c.place.ensures below (Push (pos 0)) in
    rw c.in-Ok-Some.field-0-is
    (ends_here c.requires.verified c.requires.starts.1 c.requires.room c.loop-outcome.invariant there
    (does_in_on g.H.Host.meaning c.loop-outcome.host c.in-Ok-Some.ensures.does) c.in-Ok-Some.field-0-is)

pub returns-in-Ok-Some-clause-cells_held : goal.returns-in-Ok-Some-clause-cells_held
returns-in-Ok-Some-clause-cells_held g c =
    let below = place_there c.requires.verified c.requires.starts.1 c.requires.room c.loop-outcome.invariant in
    let there = item_read c.args.code.now.instrs c.as_slice-instrs.ensures c.place.ensures below (Push (pos 0)) in
    cells_then c.requires.verified c.requires.starts.1 c.requires.room c.loop-outcome.invariant there
    (does_in_on g.H.Host.meaning c.loop-outcome.host c.in-Ok-Some.ensures.does) c.in-Ok-Some.field-0-is

pub pass_run-requires-clause-ready : goal.pass_run-requires-clause-ready
pass_run-requires-clause-ready g c =
    let comes = comes_as c.in-Err-Cases.ensures.stays c.loop-outcome.invariant in
    let below = place_there c.requires.verified c.requires.starts.1 c.requires.room comes in
    let there = item_read c.args.code.now.instrs c.as_slice-instrs.ensures (c.place.ensures ∙ ap (λ (s : RunState). s.place) (sym c.in-Err-Cases.ensures.stays)) below (Push (pos 0)) in
    let is = case_needed c.args.code.now c.step.new.state.place there c.step.new.state c.in-Err-Cases.field-0-is c.in-Err-Cases.ensures.needs in
    let next : c.step.new.state.place + 1 < 2 ^ 64 = omega (arith, below, c.as_slice-instrs.type_inv.0, ap length c.as_slice-instrs.ensures) in
    let is_ready = ready_as is.is_case (ready c.requires.verified c.requires.starts.1 c.requires.room comes there next) in
    (c.args.code.now, is.label, is.target, is_ready)

pub go_on-requires : goal.go_on-requires
go_on-requires g c =
    let comes = comes_as c.in-Err-Cases.ensures.stays c.loop-outcome.invariant in
    let below = place_there c.requires.verified c.requires.starts.1 c.requires.room comes in
    omega (arith, below, c.as_slice-instrs.type_inv.0, ap length c.as_slice-instrs.ensures)

pub loop-outcome-smaller-then-has_run : goal.loop-outcome-smaller-then-has_run
loop-outcome-smaller-then-has_run g c =
    let comes = comes_as c.in-Err-Cases.ensures.stays c.loop-outcome.invariant in
    let below = place_there c.requires.verified c.requires.starts.1 c.requires.room comes in
    let there = item_read c.args.code.now.instrs c.as_slice-instrs.ensures (c.place.ensures ∙ ap (λ (s : RunState). s.place) (sym c.in-Err-Cases.ensures.stays)) below (Push (pos 0)) in
    let is = case_needed c.args.code.now c.step.new.state.place there c.step.new.state c.in-Err-Cases.field-0-is c.in-Err-Cases.ensures.needs in
    let passes = c.pass_run.ensures c.args.code.now c.requires.indexed (other_there there is) in
    rw (c.move_out-own-then-has_run.ensures, sym c.in-Err-Cases.ensures.stays) (fewer_past c.requires.verified c.requires.starts.1 c.requires.room comes passes)

pub loop-outcome-smaller-else-has_run : goal.loop-outcome-smaller-else-has_run
loop-outcome-smaller-else-has_run g c =
    let comes = comes_as c.in-Err-Cases.ensures.stays c.loop-outcome.invariant in
    let below = place_there c.requires.verified c.requires.starts.1 c.requires.room comes in
    let there = item_read c.args.code.now.instrs c.as_slice-instrs.ensures (c.place.ensures ∙ ap (λ (s : RunState). s.place) (sym c.in-Err-Cases.ensures.stays)) below (Push (pos 0)) in
    let is = case_needed c.args.code.now c.step.new.state.place there c.step.new.state c.in-Err-Cases.field-0-is c.in-Err-Cases.ensures.needs in
    let passes = passes_one c.args.code.now c.step.new.state c.go_on.new.self (other_there there is) c.go_on.ensures in
    rw (sym c.in-Err-Cases.ensures.stays) (fewer_past c.requires.verified c.requires.starts.1 c.requires.room comes passes)

pub loop-outcome-preserved-then-has_run : goal.loop-outcome-preserved-then-has_run
loop-outcome-preserved-then-has_run g c =
    let comes = comes_as c.in-Err-Cases.ensures.stays c.loop-outcome.invariant in
    let below = place_there c.requires.verified c.requires.starts.1 c.requires.room comes in
    let there = item_read c.args.code.now.instrs c.as_slice-instrs.ensures (c.place.ensures ∙ ap (λ (s : RunState). s.place) (sym c.in-Err-Cases.ensures.stays)) below (Push (pos 0)) in
    let is = case_needed c.args.code.now c.step.new.state.place there c.step.new.state c.in-Err-Cases.field-0-is c.in-Err-Cases.ensures.needs in
    let next : c.step.new.state.place + 1 < 2 ^ 64 = omega (arith, below, c.as_slice-instrs.type_inv.0, ap length c.as_slice-instrs.ensures) in
    let is_ready = ready_as is.is_case (ready c.requires.verified c.requires.starts.1 c.requires.room comes there next) in
    let passes = c.pass_run.ensures c.args.code.now c.requires.indexed (other_there there is) in
    comes_as c.move_out-own-then-has_run.ensures (comes_past c.requires.verified c.requires.starts.1 c.requires.room comes passes is_ready.taken)

pub loop-outcome-preserved-else-has_run : goal.loop-outcome-preserved-else-has_run
loop-outcome-preserved-else-has_run g c =
    let comes = comes_as c.in-Err-Cases.ensures.stays c.loop-outcome.invariant in
    let below = place_there c.requires.verified c.requires.starts.1 c.requires.room comes in
    let there = item_read c.args.code.now.instrs c.as_slice-instrs.ensures (c.place.ensures ∙ ap (λ (s : RunState). s.place) (sym c.in-Err-Cases.ensures.stays)) below (Push (pos 0)) in
    let is = case_needed c.args.code.now c.step.new.state.place there c.step.new.state c.in-Err-Cases.field-0-is c.in-Err-Cases.ensures.needs in
    let next : c.step.new.state.place + 1 < 2 ^ 64 = omega (arith, below, c.as_slice-instrs.type_inv.0, ap length c.as_slice-instrs.ensures) in
    let is_ready = ready_as is.is_case (ready c.requires.verified c.requires.starts.1 c.requires.room comes there next) in
    let passes = passes_one c.args.code.now c.step.new.state c.go_on.new.self (other_there there is) c.go_on.ensures in
    comes_past c.requires.verified c.requires.starts.1 c.requires.room comes passes is_ready.taken

pub ask-requires-clause-ready : goal.ask-requires-clause-ready
ask-requires-clause-ready g c =
    let comes = comes_as c.in-Err-Host.ensures.stays c.loop-outcome.invariant in
    let below = place_there c.requires.verified c.requires.starts.1 c.requires.room comes in
    let there = item_read c.args.code.now.instrs c.as_slice-instrs.ensures (c.place.ensures ∙ ap (λ (s : RunState). s.place) (sym c.in-Err-Host.ensures.stays)) below (Push (pos 0)) in
    let next : c.step.new.state.place + 1 < 2 ^ 64 = omega (arith, below, c.as_slice-instrs.type_inv.0, ap length c.as_slice-instrs.ensures) in
    ready c.requires.verified c.requires.starts.1 c.requires.room comes there next

pub returns-in_err-ask-in-Err-Host-clause-refused : goal.returns-in_err-ask-in-Err-Host-clause-refused
returns-in_err-ask-in-Err-Host-clause-refused g c =
    let comes = comes_as c.in-Err-Host.ensures.stays c.loop-outcome.invariant in
    let below = place_there c.requires.verified c.requires.starts.1 c.requires.room comes in
    let there = item_read c.args.code.now.instrs c.as_slice-instrs.ensures (c.place.ensures ∙ ap (λ (s : RunState). s.place) (sym c.in-Err-Host.ensures.stays)) below (Push (pos 0)) in
    refused_there c.requires.verified c.requires.starts.1 c.requires.room comes there c.from_residual.result c.in_err-ask-in-Err-Host.ensures.refused

pub returns-in_err-ask-in-Err-Host-clause-cells_held : goal.returns-in_err-ask-in-Err-Host-clause-cells_held
returns-in_err-ask-in-Err-Host-clause-cells_held g c =
    let held = (stands c.requires.verified c.requires.starts.1 c.requires.room c.loop-outcome.invariant).cells_held in
    subst (λ (s : RunState). HoldKinds c.args.code.now.cells s.cells) (sym (c.in_err-ask-in-Err-Host.ensures.stays ∙ c.in-Err-Host.ensures.stays)) held

pub loop-outcome-smaller : goal.loop-outcome-smaller
loop-outcome-smaller g c =
    let comes = comes_as c.in-Err-Host.ensures.stays c.loop-outcome.invariant in
    let below = place_there c.requires.verified c.requires.starts.1 c.requires.room comes in
    let there = item_read c.args.code.now.instrs c.as_slice-instrs.ensures (c.place.ensures ∙ ap (λ (s : RunState). s.place) (sym c.in-Err-Host.ensures.stays)) below (Push (pos 0)) in
    rw (c.move_out-own-in-Err-Host.ensures, sym c.in-Err-Host.ensures.stays)
    (fewer_then c.requires.verified c.requires.starts.1 c.requires.room comes there c.in_ok-ask-in-Err-Host.ensures.does refl)

pub loop-outcome-preserved : goal.loop-outcome-preserved
loop-outcome-preserved g c =
    let comes = comes_as c.in-Err-Host.ensures.stays c.loop-outcome.invariant in
    let below = place_there c.requires.verified c.requires.starts.1 c.requires.room comes in
    let there = item_read c.args.code.now.instrs c.as_slice-instrs.ensures (c.place.ensures ∙ ap (λ (s : RunState). s.place) (sym c.in-Err-Host.ensures.stays)) below (Push (pos 0)) in
    comes_as c.move_out-own-in-Err-Host.ensures
    (goes_further c.requires.verified c.requires.starts.1 c.requires.room comes there c.in_ok-ask-in-Err-Host.ensures.does refl c.in_ok-ask-in-Err-Host.ensures.host_stays)
