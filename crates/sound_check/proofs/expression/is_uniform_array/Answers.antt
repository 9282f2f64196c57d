-- The cells of an array are a range of all cells.
use Rattle.std.proofs.Common.{◌≡◌, ℕ, ◌+◌, ◌-◌, List, take, drop, arith, subst, sym}
use Rattle.std.specs.Prelude.{All}
use Rattle.int_kinds.specs.declared.kinds.Kind.{Kind}
use Rattle.sound_check.proofs.expression.is_uniform_array.Goals as goal

pub returns : goal.returns
returns c =
    let cells : List Kind = drop c.args.base c.args.kinds.now in
    let size : c.args.base + c.args.len - c.args.base ≡ c.args.len = omega arith in
    let InRange : ℕ → Type 0 = λ n. All (λ k. k ≡ c.kind_of.result) (take n cells) in
    let OfKind : Kind → Type 0 = λ kind. All (λ k. k ≡ kind) (take c.args.len cells) in (
      λ t. record {
        at_least_one = omega arith;
        there = omega arith;
        of_one_kind = subst OfKind c.kind_of.ensures (subst InRange size (c.are_of_kind.ensures.0 t));
      },
      λ h. c.are_of_kind.ensures.1 (subst InRange (sym size) (subst OfKind (sym c.kind_of.ensures) h.of_one_kind)),
    )
