-- The frame that the cells of a message make.
use Rattle.std.proofs.Common.{arith, ◌≡◌, ◌+◌, ℕ, List, take, drop, get_or, not, ap, ◌∙◌, ◌==◌, lit<}
use Rattle.std.specs.Prelude.{ℤ, pos}
use Rattle.can_frame.specs.Frame.{data_len, padded}
use Rattle.message_cells.specs.Message.{field_number, ident_of, written_dlc, written_id, written_rtr}
use Rattle.stack_vm.proofs.NumberLemmas.{got}
use Rattle.stack_vm.proofs.FrameLemmas.{field_at, frame_same}
use Rattle.stack_vm.proofs.frame.frame.Goals as goal

pub returns : goal.returns
returns c =
    let cells : List ℤ = c.args.state.now.cells in
    let at : ℕ = c.args.at in
    let message : List ℤ = take 14 (drop at cells) in
    let front : at ≡ at + 0 = omega arith in
    let first = ap (λ (i : ℕ). get_or cells i (pos 0)) front ∙ field_at cells at 0 (lit< tt) in
    let id = got c.cell.result (field_number message 0) (record { sfits = c.cell.type_inv }) (c.cell.ensures ∙ first) in
    let len = got c.cell-2.result (field_number message 1) (record { sfits = c.cell-2.type_inv }) (c.cell-2.ensures ∙ field_at cells at 1 (lit< tt)) in
    let rem = got c.cell-3.result (field_number message 2) (record { sfits = c.cell-3.type_inv }) (c.cell-3.ensures ∙ field_at cells at 2 (lit< tt)) in
    let i : c.in-Some.frame.ident ≡ ident_of (written_id (field_number message 0)) = c.in-Some.ensures.ident ∙ c.ident-ident.ensures.is ∙ ap (λ (n : ℤ). ident_of (written_id n)) id in
    let r : c.in-Some.frame.remote ≡ not (written_rtr (field_number message 2) == 0) = c.in-Some.ensures.remote ∙ ap (λ (n : ℕ). not (n == 0)) (c.written-remote.ensures ∙ ap written_rtr rem) in
    let d : c.in-Some.frame.dlc ≡ written_dlc (field_number message 1) = c.in-Some.ensures.dlc ∙ c.written-length.ensures ∙ ap written_dlc len in
    frame_same c.in-Some.frame message i r d (c.in-Some.ensures.payload ∙ ap (λ (bytes : List ℕ). padded (data_len c.in-Some.frame) bytes) c.payload.ensures) c.in-Some.ensures.can
