-- The Cases, sorted.
use Rattle.std.proofs.Common.{sym, subst}
use Rattle.stack_vm.specs.Cases.{IsRunFrom}
use Rattle.stack_vm.proofs.CaseLemmas.{in_another_order}
use Rattle.stack_vm.proofs.cases.run_from.Goals as goal

pub returns : goal.returns
returns c =
    let code = c.args.code.now in
    let sorted = c.sort.new.self.items in
    let found = c.in_ok-cases.cases.items in
    subst (IsRunFrom code c.args.start) (sym c.from_list.ensures)
    (record {
      there = in_another_order code c.args.start found sorted c.in_ok-sort.ensures.permutation c.in_ok-cases.ensures;
      in_order = c.in_ok-sort.ensures.sorted;
    })
