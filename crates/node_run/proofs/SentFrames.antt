-- The frame of each message is a classic CAN frame, and so are the frames that runs send as effects.
use Rattle.std.proofs.Common.{◌≡◌, ◌<◌, ◌≤◌, ◌+◌, ◌-◌, ◌%◌, ◌^◌, ℕ, zero, suc, Bool, true, false, List, [], ◌∷◌, length, drop, map, Some, None, All, get_or, inl, inr, ap, sym, subst, ◌∙◌, arith, lit<, length-take, length-drop}
use Rattle.std.specs.Prelude.{ℤ, if◌then◌else◌, nat_le, ⊤}
use Rattle.std.proofs.lemmas.Bool.Decides.{leb_tells}
use Rattle.std.proofs.lemmas.List.{length-map}
use Rattle.std.proofs.lemmas.List.Elements.{All-cons, All-head, All-nil, All-tail}
use Rattle.can_frame.specs.declared.Ident.TheVariants.{Std, Ext}
use Rattle.can_frame.specs.Frame.{IsFrame, IsIdent, data_len_of}
use Rattle.can_frame.proofs.Payload.{data_len_of-le, length-padded, padded_bytes, padded_past}
use Rattle.int_kinds.specs.declared.kinds.Kind.TheVariants.{Byte, Dword}
use Rattle.int_kinds.specs.Arithmetic.{residue}
use Rattle.message_cells.specs.Message.{field_number, frame_of, ident_of, is_remote, message_at, message_of, payload_of, written_dlc}
use Rattle.bytecode.proofs.MessageCells.{residue-lt}
use Rattle.run_effects.specs.Effect.{Effect, Line, Send, Stop, Set, Cancel}
use Rattle.node_rounds.specs.Effects.{requested_frames}

-- ---- the frame of a message

extended_fits : (n : ℕ) → n < 2 ^ 29 → IsIdent (ident_of (2 ^ 31 + n))
extended_fits n h =
    let above : nat_le (2 ^ 31) (2 ^ 31 + n) ≡ true = grind arith in
    subst (λ (b : Bool). IsIdent (if b then Ext (2 ^ 31 + n - 2 ^ 31) else Std (2 ^ 31 + n))) (sym above) (omega (arith, h))

standard_fits : (n : ℕ) → n < 2 ^ 11 → IsIdent (ident_of n)
standard_fits n h =
    let below : nat_le (2 ^ 31) n ≡ false = grind (arith, h) in
    subst (λ (b : Bool). IsIdent (if b then Ext (n - 2 ^ 31) else Std n)) (sym below) (omega (arith, h))

written_fits : (n : ℕ) (b : Bool) → IsIdent (ident_of (if b then 2 ^ 31 + n % 2 ^ 29 else n % 2 ^ 11))
written_fits n true = extended_fits (n % 2 ^ 29) (omega arith)
written_fits n false = standard_fits (n % 2 ^ 11) (omega arith)

bytes_small : (cells : List ℤ) (k : ℕ) → get_or (map (residue Byte) cells) k 0 < 256
bytes_small [] k = lit< tt
bytes_small (n ∷ cells) zero = residue-lt Byte n (lit< tt)
bytes_small (n ∷ cells) (suc k) = bytes_small cells k

-- the frame of any 14 cells is a classic CAN frame: each field is brought to its range
pub IsFrame-frame_of : (message : List ℤ) → length message ≡ 14 → IsFrame (frame_of message)
IsFrame-frame_of message long =
    let dlc : ℕ = written_dlc (field_number message 1) in
    let n : ℕ = data_len_of (is_remote message) dlc in
    let few : dlc ≤ 8 = omega arith in
    let fits : n ≤ 8 = omega (arith, data_len_of-le (is_remote message) dlc, few) in
    let behind : length (drop 6 message) ≡ 8 = omega (arith, length-drop 6 message, long) in
    let eight : length (payload_of message) ≡ 8 = length-map (drop 6 message) (residue Byte) ∙ behind in
    record {
      ident_in_range = written_fits (residue Dword (field_number message 0)) (nat_le (2 ^ 31) (residue Dword (field_number message 0)));
      dlc_in_range = few;
      can_from_one = omega arith;
      can_to_two = omega arith;
      eight_bytes = length-padded n (payload_of message) fits eight;
      bytes = padded_bytes n (payload_of message) fits eight (bytes_small (drop 6 message));
      zeros_past = padded_past n (payload_of message) fits eight;
    }

-- a message that is there has 14 cells
pub length-message_at : (at : ℕ) (cells message : List ℤ) → message_at at cells ≡ Some message → length message ≡ 14
length-message_at at cells message is =
    elim (leb_tells (at + 14) (length cells)) [
      | inl h ↦ (
          let there : nat_le (at + 14) (length cells) ≡ true = h.0 in
          let some : Some (message_of at cells) ≡ Some message =
          sym (ap (λ (b : Bool). if b then Some (message_of at cells) else None) there) ∙ is in
          let same : message_of at cells ≡ message = cc in
          let all : length (message_of at cells) ≡ 14 = omega (arith, length-take 14 (drop at cells), length-drop at cells, h.1) in
          sym (ap length same) ∙ all)
      | inr h ↦ (
          let gone : nat_le (at + 14) (length cells) ≡ false = h.0 in
          let none : None ≡ Some message = sym (ap (λ (b : Bool). if b then Some (message_of at cells) else None) gone) ∙ is in
          absurd (cc))
    ]

-- ---- the frames of a run

-- what an effect sends is a classic CAN frame
abbrev pub SendsFrame : Effect → Type 0
SendsFrame (Send frame) = IsFrame frame
SendsFrame effect = ⊤

-- the frames that such effects request are classic CAN frames
pub requests_are_frames : (effects : List Effect) → All SendsFrame effects → All IsFrame (requested_frames effects)
requests_are_frames [] are = All-nil IsFrame
requests_are_frames (Line text ∷ effects) are = requests_are_frames effects (All-tail SendsFrame (Line text) effects are)
requests_are_frames (Send frame ∷ effects) are =
    All-cons IsFrame frame (requested_frames effects) (All-head SendsFrame (Send frame) effects are)
    (requests_are_frames effects (All-tail SendsFrame (Send frame) effects are))
requests_are_frames (Stop ∷ effects) are = requests_are_frames effects (All-tail SendsFrame Stop effects are)
requests_are_frames (Set timer micros cyclic ∷ effects) are =
    requests_are_frames effects (All-tail SendsFrame (Set timer micros cyclic) effects are)
requests_are_frames (Cancel timer ∷ effects) are = requests_are_frames effects (All-tail SendsFrame (Cancel timer) effects are)
