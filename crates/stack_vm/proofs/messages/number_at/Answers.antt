-- The number at a byte, from the word of the payload.
use Rattle.std.proofs.Common.{◌≡◌, ◌<◌, ◌*◌, ◌/◌, ◌^◌, ℕ, get_or, length, ap, ◌∙◌, rules}
use Rattle.std.specs.Prelude.{pos}
use Rattle.std.specs.Int.{from_le_bytes, w64}
use Rattle.int_kinds.specs.Kind.{wrap}
use Rattle.message_cells.specs.Message.{number_at}
use Rattle.stack_vm.proofs.MessageRows.{number_at_word}
use Rattle.stack_vm.proofs.NumberLemmas.{got}
use Rattle.stack_vm.proofs.messages.number_at.Goals as goal

pub returns : goal.returns
returns c =
    let eight : length c.args.payload ≡ 8 = search rules in
    let small : (i : ℕ) → get_or c.args.payload i 0 < 256 = search rules in
    let word = got c.from.result (pos (from_le_bytes w64 c.args.payload / 2 ^ (8 * c.args.first))) (record { sfits = c.from.type_inv })
    (c.from.ensures ∙ ap (λ (n : ℕ). pos (n / 2 ^ (8 * c.args.first))) c.from_le_bytes.ensures) in
    got c.wrap.result (number_at c.args.kind c.args.first c.args.payload) (record { sfits = c.wrap.type_inv })
    (c.wrap.ensures ∙ ap (wrap c.args.kind) word ∙ number_at_word c.args.kind c.args.first c.args.payload eight small)
