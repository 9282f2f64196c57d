-- The remote bit as it is written.
use Rattle.std.proofs.Common.{ℕ, get_or, sym, ap, ◌∙◌}
use Rattle.std.specs.Prelude.{min}
use Rattle.std.specs.Int.{w128}
use Rattle.std.proofs.lemmas.Int.{to_z-of_z}
use Rattle.int_kinds.specs.declared.kinds.Kind.TheVariants.{Byte}
use Rattle.int_kinds.specs.Arithmetic.{residue}
use Rattle.message_cells.specs.Message.{write_rules, written_can}
use Rattle.stack_vm.proofs.messages.written.Goals as goal

pub returns-in-2 : goal.returns-in-2
returns-in-2 c =
    c.min-in-2.ensures ∙ ap (λ (r : ℕ). min r 1) (c.residue-in-2.ensures ∙ ap (residue Byte) (to_z-of_z w128 c.args.n (record { sfits = c.ranges.n.sfits })))
    ∙ sym (ap (λ (f : ℕ). get_or write_rules f written_can c.args.n) c.in-2.is)
