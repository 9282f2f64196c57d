-- The Cases of a long run, or one.
use Rattle.std.proofs.Common.{◌≡◌, ◌<◌, ◌≤◌, ℤ, length, ap, ◌∙◌, subst, arith}
use Rattle.std.specs.Int.{cast_signed, cast_unsigned, w128}
use Rattle.stack_vm.specs.Cases.{HasOtherLabel}
use Rattle.stack_vm.specs.Inside.Step.{top_of}
use Rattle.stack_vm.proofs.CaseLemmas.{passes_one}
use Rattle.stack_vm.proofs.NumberLemmas.{read_back}
use Rattle.stack_vm.proofs.StepLemmas.{number_at}
use Rattle.stack_vm.proofs.cases.pass_run.Goals as goal

pub returns-then-far-place : goal.returns-then-far-place
returns-then-far-place c code is other =
    let ready = c.requires.ready.3 in
    let has : 0 < length c.args.state.now.stack = (let h : 1 ≤ length c.args.state.now.stack = ready.taken in omega (arith, h)) in
    let top : cast_signed w128 (cast_unsigned w128 c.top.result) ≡ top_of c.args.state.now =
    ap (λ (z : ℤ). cast_signed w128 (cast_unsigned w128 z)) c.top.ensures ∙ read_back (top_of c.args.state.now) (number_at c.args.state.now.stack 0 has ready.numbers) in
    record {
      end = c.passed_to-far.result;
      above = omega (arith, c.if-far-place.true, c.place-place.ensures);
      others = λ place from before. subst (λ (z : ℤ). HasOtherLabel code z place) top
          (c.passed_to-far.ensures code is place (omega (arith, from, c.place-place.ensures)) before);
      leads = c.jump.ensures;
    }

pub returns-else-far-place : goal.returns-else-far-place
returns-else-far-place c code is other = passes_one code c.args.state.now c.go_on.new.self other c.go_on.ensures
