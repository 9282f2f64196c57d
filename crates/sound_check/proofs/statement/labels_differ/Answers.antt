-- Labels differ where they do when they are sorted.
use Rattle.std.proofs.Common.{◌≢◌, List, Option, sym, subst}
use Rattle.std.specs.Prelude.{AllPairs, ℤ}
use Rattle.std.specs.Option.{option_cmp}
use Rattle.std.specs.Ordering.{int_cmp}
use Rattle.std.specs.List.Sorted.{IsSorted}
use Rattle.bytecode.proofs.ListPairs.{AllPairs-permutation, AllPairs-permuted}
use Rattle.sound_check.proofs.statement.labels_differ.Goals as goal

-- no two of them are the same
abbrev Differ : List (Option ℤ) → Type 0
Differ labels = AllPairs (λ (a b : Option ℤ). a ≢ b) labels

pub neighbours_differ-requires : goal.neighbours_differ-requires
neighbours_differ-requires c =
    subst (λ (xs : List (Option ℤ)). IsSorted (option_cmp int_cmp) xs) (sym c.deref.ensures.value) c.sort_unstable.ensures.sorted

pub returns : goal.returns
returns c = (
  λ t. AllPairs-permuted (λ (a b : Option ℤ). a ≢ b) (λ a b n e. n (sym e)) c.args.labels.items c.sort_unstable.new.self.items c.sort_unstable.ensures.permutation
      (subst Differ c.deref.ensures.value (c.neighbours_differ.ensures.0 t)),
  λ all. c.neighbours_differ.ensures.1 (subst Differ (sym c.deref.ensures.value)
      (AllPairs-permutation (λ (a b : Option ℤ). a ≢ b) (λ a b n e. n (sym e)) c.args.labels.items c.sort_unstable.new.self.items c.sort_unstable.ensures.permutation all)),
)
