-- The cells of the message that a frame is.
use Rattle.std.proofs.Common.{◌≡◌, ◌/◌, ◌%◌, ◌^◌, ◌<◌, ◌∷◌, ℕ, Bool, true, false, cond, List, map, refl, sym, ap, ◌∙◌, subst, arith}
use Rattle.std.specs.Prelude.{ℤ, pos}
use mir.Val.{bool_byte}
use Rattle.can_frame.specs.Frame.{FrameFields}
use Rattle.message_cells.specs.Message.{id_of, message_kinds}
use Rattle.bytecode.specs.Runs.{HoldKinds}
use Rattle.stack_vm.proofs.FrameLemmas.{HoldKinds-message, byte_in_cell, id_of-lt, word_in_cell}
use Rattle.stack_vm.proofs.ListLemmas.{eight_items}
use Rattle.stack_vm.proofs.frame.message.Goals as goal

bool_number : (b : Bool) → bool_byte b ≡ cond b 1 0
bool_number true = refl
bool_number false = refl

bit-lt : (b : Bool) → cond b 1 0 < 2 ^ 32
bit-lt true = omega arith
bit-lt false = omega arith

pub returns-clause-cells : goal.returns-clause-cells
returns-clause-cells c =
    let f : FrameFields = c.args.f.now in
    let is = c.payload.ensures.valid in
    let payload : c.cells_of-bytes.result ≡ map pos f.payload = c.cells_of-bytes.ensures ∙ ap (map pos) c.payload.ensures.value in
    let byte = byte_in_cell c.cells_of-bytes.result f.payload payload is.eight_bytes is.bytes in
    let id = word_in_cell c.from.result (id_of f.ident) (c.from.ensures ∙ ap pos (c.id.ensures ∙ ap id_of c.ident.ensures.value)) (id_of-lt f.ident is.ident_in_range) in
    let dlc = word_in_cell c.from-2.result f.dlc (c.from-2.ensures ∙ ap pos c.dlc.ensures.value) (omega (arith, is.dlc_in_range)) in
    let rtr = word_in_cell c.from-3.result (cond f.remote 1 0)
    (c.from-3.ensures ∙ ap pos (bool_number c.rtr.result ∙ ap (λ (b : Bool). cond b 1 0) c.rtr.ensures.value)) (bit-lt f.remote) in
    let can = word_in_cell c.from-4.result f.can (c.from-4.ensures ∙ ap pos c.can.ensures.value) (omega (arith, is.can_to_two)) in
    let dir = word_in_cell c.from-5.result (cond c.args.sent 1 0) (c.from-5.ensures ∙ ap pos (bool_number c.args.sent)) (bit-lt c.args.sent) in
    let time = word_in_cell c.from-6.result (c.args.now / 10 % 2 ^ 32) c.from-6.ensures (omega arith) in
    rw (
      id,
      dlc,
      rtr,
      can,
      dir,
      time,
      byte 0 (omega arith),
      byte 1 (omega arith),
      byte 2 (omega arith),
      byte 3 (omega arith),
      byte 4 (omega arith),
      byte 5 (omega arith),
      byte 6 (omega arith),
      byte 7 (omega arith),
    )
    (ap (λ (bytes : List ℕ). pos (id_of f.ident) ∷ pos f.dlc ∷ pos (cond f.remote 1 0) ∷ pos f.can ∷ pos (cond c.args.sent 1 0) ∷ pos (c.args.now / 10 % 2 ^ 32) ∷ map pos bytes)
    (sym (eight_items f.payload is.eight_bytes)))

pub returns-clause-held : goal.returns-clause-held
returns-clause-held c =
    subst (λ (cells : List ℤ). HoldKinds message_kinds cells) (sym (returns-clause-cells c)) (HoldKinds-message c.args.f.now c.args.sent c.args.now c.payload.ensures.valid)
