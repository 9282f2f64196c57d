-- The Case where the labels are parted.
use Rattle.std.proofs.Common.{rules, of_calls, ◌≡◌, ℤ, Bool, true, false, int_lt, get_or, pos, arith, sym, ap, ◌∙◌, FitsSigned}
use Rattle.std.specs.Int.{cast_signed, cast_unsigned, w128}
use Rattle.std.specs.Ordering.{int_eq}
use Rattle.std.proofs.lemmas.Bool.Decides.{Decides-int_eq}
use Rattle.std.proofs.lemmas.Fn.{always_returns_same}
use Rattle.std.proofs.lemmas.Int.{to_z-of_z}
use Rattle.stack_vm.proofs.CaseSearch.{is_first, is_none, parted}
use Rattle.stack_vm.proofs.cases.first_with.Goals as goal
use Rattle.stack_vm.proofs.cases.first_with.Goals.{else-at-cases-via-then-at-cases+else-is_equal, else-at-cases-via-else-at-cases}

-- what a test of two numbers says, which fit
same_read : (a b : ℤ) (r : Bool) → FitsSigned w128 a → FitsSigned w128 b → r ≡ int_eq (cast_signed w128 (cast_unsigned w128 a)) (cast_signed w128 (cast_unsigned w128 b)) → r ≡ int_eq a b
same_read a b r f g e = e ∙ ap (λ (z : ℤ). int_eq z (cast_signed w128 (cast_unsigned w128 b))) (to_z-of_z w128 a f) ∙ ap (λ (z : ℤ). int_eq a z) (to_z-of_z w128 b g)

pub returns-then-is_equal-clause-found : goal.returns-then-is_equal-clause-found
returns-then-is_equal-clause-found c =
    let point = c.partition_point-at.ensures.partitioned (λ case. int_lt case.0 c.args.label) (always_returns_same _ _ _ (λ a r f k. search (rules, of_calls))) (parted c.args.cases.now c.requires c.args.label) in
    let found = (get_or c.args.cases.now c.partition_point-at.result (pos 0, 0)).0 in
    let f : FitsSigned w128 found = search rules in
    let e = same_read found c.args.label c.is_equal.result f c.ranges.label c.is_equal.ensures in
    let same : found ≡ c.args.label = (Decides-int_eq found c.args.label).0 (sym e ∙ c.if-is_equal.true) in
    is_first c.args.cases.now c.requires c.args.label c.partition_point-at.result point (pos 0, 0) c.if-at-cases.true same

pub returns-else-at-cases-clause-none : goal.returns-else-at-cases-clause-none
returns-else-at-cases-clause-none c =
    let point = c.partition_point-at.ensures.partitioned (λ case. int_lt case.0 c.args.label) (always_returns_same _ _ _ (λ a r f k. search (rules, of_calls))) (parted c.args.cases.now c.requires c.args.label) in
    let found = (get_or c.args.cases.now c.partition_point-at.result (pos 0, 0)).0 in
    is_none c.args.cases.now c.requires c.args.label c.partition_point-at.result point (pos 0, 0)
    (λ below same. elim c.else-at-cases.branch [
      | else-at-cases-via-then-at-cases+else-is_equal w ↦ (
          let f : FitsSigned w128 found = search rules in
          let e = same_read found c.args.label w.is_equal.result f c.ranges.label w.is_equal.ensures in
          let t = e ∙ (Decides-int_eq found c.args.label).1 same in
          absurd (let h : true ≡ false = sym t ∙ w.if-is_equal.false in cc))
      | else-at-cases-via-else-at-cases w ↦ omega (arith, below, w.if-at-cases.false)
    ])
