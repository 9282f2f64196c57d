-- The comparison of the kinds from a cell on decides.
use Rattle.std.proofs.Common.{arith, ◌≡◌, ◌↔◌, ◌+◌, ◌-◌, ◌∙◌, ℕ, Bool, true, false, IsTrue, leb, List, length, take, drop, sym, ap}
use Rattle.std.specs.Cmp.Lexicographic.{pointwise}
use denote.Enum.Bare.{sameb}
use Rattle.int_kinds.specs.contracts.kinds.Kind.{the_type}
use Rattle.int_kinds.specs.declared.kinds.Kind.{Kind}
use Rattle.message_cells.specs.Message.{IsMessage, message_kinds}
use Rattle.message_cells.proofs.KindLists.{kinds_decide}
use Rattle.message_cells.proofs.MessageLemmas.{message_within}
use Rattle.message_cells.proofs.message.is_message.Goals as goal

-- what the comparison of the cells' kinds says
compared : (kinds ms : List Kind) (at : ℕ) (r : Bool) → ms ≡ message_kinds →
    r ≡ pointwise (sameb the_type) (take (at + 14 - at) (drop at kinds)) ms → IsTrue r ↔ IsMessage kinds at
compared kinds ms at r is e =
    let there : at + 14 - at ≡ 14 = omega arith in
    let e' : r ≡ pointwise (sameb the_type) (take 14 (drop at kinds)) message_kinds =
    e ∙ ap (λ n. pointwise (sameb the_type) (take n (drop at kinds)) ms) there ∙ ap (λ xs. pointwise (sameb the_type) (take 14 (drop at kinds)) xs) is in
    kinds_decide (take 14 (drop at kinds)) message_kinds r e'

pub returns-then-end-kinds : goal.returns-then-end-kinds
returns-then-end-kinds c =
    compared c.args.kinds.now c.as_slice.result.now c.args.at c.eq.result c.as_slice.ensures c.eq.ensures

pub returns-else-end-kinds : goal.returns-else-end-kinds
returns-else-end-kinds c =
    let h : leb (c.args.at + 14) (length c.args.kinds.now) ≡ false = grind arith in
    (λ t. absurd (let e : true ≡ false = sym t ∙ h in cc), λ m. absurd (omega (arith, message_within c.args.kinds.now c.args.at m)))
