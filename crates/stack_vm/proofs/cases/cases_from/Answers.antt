-- One Case more.
use Rattle.std.proofs.Common.{◌≡◌, ◌<◌, ◌+◌, ◌++◌, ◌∷◌, [], ℤ, length, slice_get, Some, pos, refl, sym, ap, ◌∙◌, subst, arith}
use Rattle.std.proofs.lemmas.List.{length_push}
use Rattle.bytecode.specs.declared.instr.Instr.{Instr}
use Rattle.bytecode.specs.declared.instr.Instr.TheVariants.{Case, Push}
use Rattle.stack_vm.specs.Cases.{AreCasesFrom}
use Rattle.stack_vm.proofs.CaseLemmas.{label_is_number, one_more}
use Rattle.stack_vm.proofs.ListLemmas.{item_read}
use Rattle.stack_vm.proofs.NumberLemmas.{read_back}
use Rattle.stack_vm.proofs.cases.cases_from.Goals as goal

pub loop-place-preserved : goal.loop-place-preserved
loop-place-preserved c =
    let code = c.args.code.now in
    let place = c.loop-place.place in
    let label = c.in-Case.label in
    let cases = c.loop-place.cases.items in
    let so_far = c.loop-place.invariant in
    let below : place < length code.instrs = omega (arith, c.loop-place-test.true, ap length c.as_slice-instrs.ensures) in
    let is : slice_get code.instrs place ≡ Some (Case c.in-Case.field-0 label) =
    item_read code.instrs c.as_slice-instrs.ensures refl below (Push (pos 0)) ∙ ap (λ (i : Instr). Some i) c.in-Case.is in
    let number = label_is_number code c.requires.verified place c.in-Case.field-0 label below is in
    let pushed : c.push.new.self.items ≡ cases ++ (label, place) ∷ [] =
    c.in_ok-push.ensures.items ∙ ap (λ (z : ℤ). cases ++ (z, place) ∷ []) (read_back label number) in
    let long : length c.push.new.self.items ≡ length cases + 1 = ap length pushed ∙ length_push cases (label, place) in
    record {
      are = subst (AreCasesFrom code c.args.start) (sym pushed) (one_more code c.args.start cases label c.in-Case.field-0 place so_far.place is so_far.are);
      place = omega (arith, long, so_far.place);
    }
