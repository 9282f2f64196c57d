-- Sorted, the numbers are the same set.
use Rattle.std.proofs.Common.{eqb, sym, ◌∙◌}
use Rattle.std.specs.Cmp.{nat_cmp_total}
use Rattle.std.specs.FinSet.{same_set, contains-from_list_nat, nat_cmp-IsAntisymmetric}
use Rattle.std.proofs.lemmas.List.Sorted.{IsNonDecreasingBy-from_sort, list_any-IsPermutation}
use Rattle.bus_errors.proofs.plan.Plan.make.Goals as goal

pub invariant_of-result : goal.invariant_of-result
invariant_of-result c = IsNonDecreasingBy-from_sort (λ x. x) c.sort_unstable.new.self.items c.sort_unstable.ensures.sorted

pub returns : goal.returns
returns c =
    let given = c.args.numbers.items in
    let sorted = c.sort_unstable.new.self.items in
    same_set nat_cmp_total nat_cmp-IsAntisymmetric _ _
    (λ q. contains-from_list_nat sorted q
    ∙ sym (list_any-IsPermutation (λ y. eqb y q) given sorted c.sort_unstable.ensures.permutation)
    ∙ sym (contains-from_list_nat given q))
