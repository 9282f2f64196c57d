-- The row of an operator.
use Rattle.std.proofs.Common.{◌≡◌, ◌≤◌, ℕ, Bool, List, ◌∷◌, length, get_or, drop, Some, refl, ap, ◌∙◌}
use Rattle.std.specs.Prelude.{ℤ, pos}
use Rattle.int_kinds.specs.declared.kinds.Kind.{Kind}
use Rattle.int_kinds.specs.declared.operators.BinOp.{BinOp}
use Rattle.int_kinds.specs.declared.operators.BinOp.TheVariants.{OrElse, AndAlso}
use Rattle.int_kinds.specs.Arithmetic.{value}
use Rattle.bytecode.specs.declared.code.Code.{Code}
use Rattle.bytecode.specs.declared.instr.Instr.TheVariants.{Bin}
use Rattle.bytecode.specs.Machine.{Machine}
use Rattle.bytecode.specs.Rule.{IsOperation}
use Rattle.bytecode.specs.Step.{goes_on, gives_or_traps, operates, row}
use Rattle.stack_vm.proofs.StepLemmas.{two_taken}

operates_is : (op : BinOp) (k : Kind) (a b : ℤ) (m : Machine) (stack : List ℤ) → IsOperation op → operates op k a b m stack ≡ gives_or_traps (value op k a b) m stack
operates_is OrElse k a b m stack is = absurd is
operates_is AndAlso k a b m stack is = absurd is
operates_is op k a b m stack is = refl

-- an operator gives its value
pub operator_row : (code : Code) (closed : Bool) (moment : ℕ) (m : Machine) (op : BinOp) (k : Kind) (stack : List ℤ) (n : ℤ) → IsOperation op → 2 ≤ length stack →
    value op k (get_or stack 1 (pos 0)) (get_or stack 0 (pos 0)) ≡ Some n → row code closed moment m (Bin op k) stack ≡ goes_on m (n ∷ drop 2 stack)
operator_row code closed moment m op k stack n is h e =
    two_taken stack h _ ∙ operates_is op k (get_or stack 1 (pos 0)) (get_or stack 0 (pos 0)) m (drop 2 stack) is ∙ ap (λ o. gives_or_traps o m (drop 2 stack)) e
