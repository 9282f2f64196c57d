-- Each instruction that is spelled is read.
use Rattle.std.proofs.Common.{◌≡◌, ◌≤◌, ℕ, List, ◌++◌, Some, None, true, ap, refl}
use Rattle.std.specs.Prelude.{⊤, ℤ, Bool, if◌then◌else◌, nat_le}
use Rattle.std.proofs.lemmas.Bool.{le-leb}
use Rattle.std.specs.Int.{w128}
use Rattle.std.specs.Int.RustNames.{FitsSigned}
use Rattle.int_kinds.specs.declared.kinds.Kind.{Kind}
use Rattle.int_kinds.specs.declared.operators.BinOp.{BinOp}
use Rattle.signal_codec.specs.declared.layout.Layout.{Layout}
use Rattle.bytecode.specs.declared.instr.Instr.{Instr}
use Rattle.bytecode.specs.declared.instr.Instr.TheVariants.{Push, Load, Store, Check, Elem, SetElem, Bytes, SetBytes, Sig, SetSig, SetField, Bin, Neg, Inv, Conv, Not, Dup, Drop, Jump, Zero, Case, Back, Turn, Call, Ret, Write, Send, Copy, Stop, Set, Cancel, Active, Now}
use Rattle.object_file.specs.Instruction.{IsInRange, instruction_text, layout_text, operator_text}
use Rattle.object_file.specs.Number.{byte, dword, integer, truth}
use Rattle.object_file.specs.Table.{kind_text}
use Rattle.object_file.specs.Inside.Instructions.{instruction_at, layout_at, operator_at, with_field_and_place, with_kind, with_kind_and_place, with_layout_and_place, with_number, with_number_and_place, with_operation, with_place, with_place_and_truth, with_two_places}
use Rattle.object_file.specs.Inside.Reading.{byte_at, dword_at, integer_at, pair_at, tried_at, truth_at}
use Rattle.object_file.specs.Inside.Tables.{kind_at}
use Rattle.object_file.proofs.Pairs.{IsComplete, tried_complete}

-- a field is one of four
is_field : (f : ℕ) → f ≤ 3 → nat_le f 3 ≡ true
is_field f few = le-leb f 3 few

-- what stands in an instruction is read
module _ (number : IsComplete integer (FitsSigned w128) integer_at) (place : IsComplete dword (λ n. ⊤) dword_at)
    (kind : IsComplete kind_text (λ k. ⊤) kind_at)
    (places : IsComplete (λ (p : ℕ × ℕ). dword p.0 ++ dword p.1) (λ p. ⊤ × ⊤) (pair_at dword_at dword_at))
    (kinded : IsComplete (λ (p : Kind × ℕ). kind_text p.0 ++ dword p.1) (λ p. ⊤ × ⊤) (pair_at kind_at dword_at))
    (laid : IsComplete (λ (p : Layout × ℕ). layout_text p.0 ++ dword p.1) (λ p. ⊤ × ⊤) (pair_at layout_at dword_at))
    (field : IsComplete (λ (p : ℕ × ℕ). byte p.0 ++ dword p.1) (λ p. ⊤ × ⊤) (pair_at byte_at dword_at))
    (operation : IsComplete (λ (p : BinOp × Kind). operator_text p.0 ++ kind_text p.1) (λ p. ⊤ × ⊤) (pair_at operator_at kind_at))
    (labelled : IsComplete (λ (p : ℤ × ℕ). integer p.0 ++ dword p.1) (λ p. FitsSigned w128 p.0 × ⊤) (pair_at integer_at dword_at))
    (timed : IsComplete (λ (p : ℕ × Bool). dword p.0 ++ truth p.1) (λ p. ⊤ × ⊤) (pair_at dword_at truth_at)) where
  -- an instruction of one place
  placed : (n a : ℕ) (x : Instr) (rest : List ℕ) → with_place n a ≡ Some x → tried_at (with_place n) dword_at (dword a ++ rest) ≡ Some (x, rest)
  placed n a x rest is = tried_complete (with_place n) x dword (λ n. ⊤) dword_at place a rest tt is

  -- an instruction of two places
  twice : (n a b : ℕ) (x : Instr) (rest : List ℕ) → with_two_places n (a, b) ≡ Some x
      → tried_at (with_two_places n) (pair_at dword_at dword_at) ((dword a ++ dword b) ++ rest) ≡ Some (x, rest)
  twice n a b x rest is = tried_complete (with_two_places n) x (λ (p : ℕ × ℕ). dword p.0 ++ dword p.1) (λ p. ⊤ × ⊤) (pair_at dword_at dword_at) places (a, b) rest (tt, tt) is

  -- an instruction of a kind
  of_kind : (n : ℕ) (k : Kind) (x : Instr) (rest : List ℕ) → with_kind n k ≡ Some x → tried_at (with_kind n) kind_at (kind_text k ++ rest) ≡ Some (x, rest)
  of_kind n k x rest is = tried_complete (with_kind n) x kind_text (λ k. ⊤) kind_at kind k rest tt is

  -- an instruction of a kind and a message
  of_kind_at : (n : ℕ) (k : Kind) (a : ℕ) (x : Instr) (rest : List ℕ) → with_kind_and_place n (k, a) ≡ Some x
      → tried_at (with_kind_and_place n) (pair_at kind_at dword_at) ((kind_text k ++ dword a) ++ rest) ≡ Some (x, rest)
  of_kind_at n k a x rest is = tried_complete (with_kind_and_place n) x (λ (p : Kind × ℕ). kind_text p.0 ++ dword p.1) (λ p. ⊤ × ⊤) (pair_at kind_at dword_at) kinded (k, a) rest (tt, tt) is

  -- an instruction of a layout and a message
  of_layout_at : (n : ℕ) (l : Layout) (a : ℕ) (x : Instr) (rest : List ℕ) → with_layout_and_place n (l, a) ≡ Some x
      → tried_at (with_layout_and_place n) (pair_at layout_at dword_at) ((layout_text l ++ dword a) ++ rest) ≡ Some (x, rest)
  of_layout_at n l a x rest is = tried_complete (with_layout_and_place n) x (λ (p : Layout × ℕ). layout_text p.0 ++ dword p.1) (λ p. ⊤ × ⊤) (pair_at layout_at dword_at) laid (l, a) rest (tt, tt) is

  -- each instruction
  pub instruction_complete : (x : Instr) (rest : List ℕ) → IsInRange x → instruction_at (instruction_text x ++ rest) ≡ Some (x, rest)
  instruction_complete (Push n) rest sound = tried_complete (with_number 0) (Push n) integer (FitsSigned w128) integer_at number n rest sound refl
  instruction_complete (Load a) rest sound = placed 1 a (Load a) rest refl
  instruction_complete (Store a) rest sound = placed 2 a (Store a) rest refl
  instruction_complete (Check a) rest sound = placed 3 a (Check a) rest refl
  instruction_complete (Elem a b) rest sound = twice 4 a b (Elem a b) rest refl
  instruction_complete (SetElem a b) rest sound = twice 5 a b (SetElem a b) rest refl
  instruction_complete (Bytes k a) rest sound = of_kind_at 6 k a (Bytes k a) rest refl
  instruction_complete (SetBytes k a) rest sound = of_kind_at 7 k a (SetBytes k a) rest refl
  instruction_complete (Sig l a) rest sound = of_layout_at 8 l a (Sig l a) rest refl
  instruction_complete (SetSig l a) rest sound = of_layout_at 9 l a (SetSig l a) rest refl
  instruction_complete (SetField f a) rest sound =
      tried_complete (with_field_and_place 10) (SetField f a) (λ (p : ℕ × ℕ). byte p.0 ++ dword p.1) (λ p. ⊤ × ⊤) (pair_at byte_at dword_at) field (f, a) rest (tt, tt)
      (ap (λ b. if b then Some (SetField f a) else None) (is_field f sound))
  instruction_complete (Bin op k) rest sound = tried_complete (with_operation 11) (Bin op k) (λ (p : BinOp × Kind). operator_text p.0 ++ kind_text p.1) (λ p. ⊤ × ⊤) (pair_at operator_at kind_at) operation (op, k) rest (tt, tt) refl
  instruction_complete (Neg k) rest sound = of_kind 12 k (Neg k) rest refl
  instruction_complete (Inv k) rest sound = of_kind 13 k (Inv k) rest refl
  instruction_complete (Conv k) rest sound = of_kind 14 k (Conv k) rest refl
  instruction_complete Not rest sound = refl
  instruction_complete Dup rest sound = refl
  instruction_complete Drop rest sound = refl
  instruction_complete (Jump a) rest sound = placed 18 a (Jump a) rest refl
  instruction_complete (Zero a) rest sound = placed 19 a (Zero a) rest refl
  instruction_complete (Case a n) rest sound = tried_complete (with_number_and_place 20) (Case a n) (λ (p : ℤ × ℕ). integer p.0 ++ dword p.1) (λ p. FitsSigned w128 p.0 × ⊤) (pair_at integer_at dword_at) labelled (n, a) rest (sound, tt) refl
  instruction_complete (Back a) rest sound = placed 21 a (Back a) rest refl
  instruction_complete Turn rest sound = refl
  instruction_complete (Call a) rest sound = placed 23 a (Call a) rest refl
  instruction_complete Ret rest sound = refl
  instruction_complete (Write a) rest sound = placed 25 a (Write a) rest refl
  instruction_complete (Send a) rest sound = placed 26 a (Send a) rest refl
  instruction_complete (Copy a b) rest sound = twice 27 a b (Copy a b) rest refl
  instruction_complete Stop rest sound = refl
  instruction_complete (Set a b) rest sound = tried_complete (with_place_and_truth 29) (Set a b) (λ (p : ℕ × Bool). dword p.0 ++ truth p.1) (λ p. ⊤ × ⊤) (pair_at dword_at truth_at) timed (a, b) rest (tt, tt) refl
  instruction_complete (Cancel a) rest sound = placed 30 a (Cancel a) rest refl
  instruction_complete (Active a) rest sound = placed 31 a (Active a) rest refl
  instruction_complete Now rest sound = refl
