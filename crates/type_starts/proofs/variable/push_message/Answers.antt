-- The fields, and then the bytes.
use Rattle.std.proofs.Common.{ℕ, List, ap, arith, length, subst}
use Rattle.std.specs.Prelude.{pos}
use Rattle.std.proofs.lemmas.List.{length-map}
use Rattle.type_starts.specs.Starts.{Goes}
use Rattle.type_starts.proofs.StartLemmas.{goes_on}
use Rattle.type_starts.proofs.VariableLemmas.{cells_are}
use Rattle.type_starts.proofs.variable.push_message.Goals as goal

pub returns : goal.returns
returns c = λ m held.
    subst (Goes c.args.starts.now c.push_bytes.new.starts)
    (cells_are c.args.message.now m c.as_slice.result.now c.as_slice-2.result.now held c.as_slice.ensures c.as_slice-2.ensures)
    (goes_on _ c.push_naturals.new.starts _ _ _ c.in_ok-push_naturals.ensures c.in_ok-push_bytes.ensures)

pub push_naturals-requires : goal.push_naturals-requires
push_naturals-requires c = omega (arith, ap (λ (l : List ℕ). length l) c.as_slice.ensures)

pub push_bytes-requires : goal.push_bytes-requires
push_bytes-requires c =
    omega (
      arith,
      c.in_ok-push_naturals.ensures.cell,
      length-map c.as_slice.result.now pos,
      ap (λ (l : List ℕ). length l) c.as_slice.ensures,
      ap (λ (l : List ℕ). length l) c.as_slice-2.ensures,
      c.has_eight_bytes.ensures,
    )
