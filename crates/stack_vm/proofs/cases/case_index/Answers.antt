-- One place more.
use Rattle.std.proofs.Common.{◌≡◌, ◌+◌, ◌++◌, ◌∷◌, [], ℕ, length, sym, ap, ◌∙◌, subst, arith}
use Rattle.std.proofs.lemmas.List.{length_push}
use Rattle.stack_vm.specs.Cases.{IsIndexOf, IsRunFrom}
use Rattle.stack_vm.proofs.CaseLemmas.{index_more}
use Rattle.stack_vm.proofs.cases.case_index.Goals as goal

pub loop-place-preserved : goal.loop-place-preserved
loop-place-preserved c =
    let code = c.args.code.now in
    let index = c.loop-place.index.items in
    let so_far = c.loop-place.invariant in
    let run = c.in_ok-run_from.field-0 in
    let pushed : c.push.new.self.items ≡ index ++ run ∷ [] = c.in_ok-push.ensures.items in
    let long : length c.push.new.self.items ≡ length index + 1 = ap length pushed ∙ length_push index run in
    let is = index_more code index run so_far.is (subst (λ (n : ℕ). IsRunFrom code n run) (sym so_far.place) c.in_ok-run_from.ensures) in
    record {
      is = subst (IsIndexOf code) (sym pushed) is;
      place = omega (arith, long, so_far.place);
    }
