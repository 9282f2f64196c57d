-- The Cases before the first one with the label, or all of the run.
use Rattle.std.proofs.Common.{ℕ, ℤ, length, sym, ap, subst, arith}
use Rattle.std.specs.Int.{w128}
use Rattle.std.specs.List.{Contains}
use Rattle.std.proofs.lemmas.Int.{to_z-of_z}
use Rattle.stack_vm.specs.Cases.{IsFirstWith, IsIndexOf}
use Rattle.stack_vm.proofs.CaseLemmas.{others_all, others_before, run_at}
use Rattle.stack_vm.proofs.cases.passed_to.Goals as goal

pub returns-in-Some-first_with : goal.returns-in-Some-first_with
returns-in-Some-first_with c code is place from before =
    let h = c.in-Some.ensures.lookup in
    let cases = c.as_slice.result.now in
    let run = run_at code c.as_slice-lists.result.now (subst (IsIndexOf code) (sym c.as_slice-lists.ensures) is) c.args.place c.in-Some.cases.now cases h.3.0 h.1
    c.as_slice.ensures in
    let found = subst (λ (z : ℤ). IsFirstWith z cases c.in-Some-first_with.first) (to_z-of_z w128 c.args.n c.ranges.n) c.in-Some-first_with.ensures.found in
    others_before code c.args.place cases run.there c.args.n c.in-Some-first_with.first found place from before

pub returns-in-None : goal.returns-in-None
returns-in-None c code is place from before =
    let h = c.in-Some.ensures.lookup in
    let cases = c.as_slice.result.now in
    let run = run_at code c.as_slice-lists.result.now (subst (IsIndexOf code) (sym c.as_slice-lists.ensures) is) c.args.place c.in-Some.cases.now cases h.3.0 h.1
    c.as_slice.ensures in
    let none = subst (λ (z : ℤ). (other : ℕ) → Contains cases (z, other) → ⊥) (to_z-of_z w128 c.args.n c.ranges.n) c.in-None.ensures.none in
    others_all code c.args.place cases run.there c.args.n none place from (omega (arith, before, c.len.ensures, ap length c.as_slice.ensures))
