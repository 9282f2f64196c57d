-- Timers differ where they rise when sorted.
use Rattle.std.proofs.Common.{◌≢◌, ℕ, List, sym, subst}
use Rattle.std.specs.Prelude.{AllPairs}
use Rattle.std.specs.List.Sorted.{IsNonDecreasing}
use Rattle.std.proofs.lemmas.List.Sorted.{IsNonDecreasingBy-from_sort}
use Rattle.bytecode.proofs.ListPairs.{AllPairs-permutation, AllPairs-permuted}
use Rattle.bytecode.proofs.distinct.timers_differ.Goals as goal

pub rises-requires : goal.rises-requires
rises-requires c =
    subst (λ (xs : List ℕ). IsNonDecreasing xs) (sym c.deref.ensures.value)
    (IsNonDecreasingBy-from_sort (λ x. x) c.sort_unstable.new.self.items c.sort_unstable.ensures.sorted)

pub returns : goal.returns
returns c = (
  λ t. AllPairs-permuted (λ (a b : ℕ). a ≢ b) (λ a b n e. n (sym e)) c.args.timers.items c.sort_unstable.new.self.items c.sort_unstable.ensures.permutation
      (subst (λ (xs : List ℕ). AllPairs (λ (a b : ℕ). a ≢ b) xs) c.deref.ensures.value (c.rises.ensures.0 t)),
  λ all. c.rises.ensures.1 (subst (λ (xs : List ℕ). AllPairs (λ (a b : ℕ). a ≢ b) xs) (sym c.deref.ensures.value)
      (AllPairs-permutation (λ (a b : ℕ). a ≢ b) (λ a b n e. n (sym e)) c.args.timers.items c.sort_unstable.new.self.items c.sort_unstable.ensures.permutation all)),
)
