-- The cells of a memory: the event's, and the initial values.
use Rattle.std.proofs.Common.{◌≡◌, ◌≤◌, ◌<◌, ◌+◌, ℕ, List, [], ◌∷◌, ◌++◌, length, take, drop, replicate, slice_get, get_or, Option, Some, None, refl, sym, ap, subst, arith, add-one}
use Rattle.std.specs.Prelude.{ℤ, pos, false, slice_set, IsSomeAnd}
use Rattle.std.specs.Int.{cast_signed, cast_unsigned, w128}
use Rattle.std.proofs.Math.Seq.{drop-cons}
use Rattle.std.proofs.lemmas.Int.{ints}
use Rattle.std.proofs.lemmas.Option.{slice_get_within}
use Rattle.int_kinds.specs.declared.kinds.Kind.{Kind}
use Rattle.int_kinds.specs.declared.kinds.Kind.TheVariants.{Char}
use Rattle.int_kinds.specs.Kind.{Holds}
use Rattle.int_kinds.proofs.Values.{Holds-truth}
use Rattle.bytecode.specs.declared.code.Code.{Code}
use Rattle.message_cells.specs.Message.{message_kinds}
use Rattle.bytecode.specs.Runs.{HoldKinds}
use Rattle.bytecode.specs.Verified.{IsVerified}
use Rattle.bytecode.proofs.ZippedLists.{AllZip-front, AllZip-same_length, AllZip-set}
use Rattle.stack_vm.specs.Memory.{MemoryState, with_starts}
use Rattle.stack_vm.specs.Inside.State.{RunState}
use Rattle.stack_vm.proofs.NumberLemmas.{read_back_held}

-- the memory that a state and an index belong to
abbrev pub memory_of : RunState → List (List (ℤ × ℕ)) → MemoryState
memory_of s cases = record { cells = s.cells; numbers_room = s.numbers_room; calls_room = s.calls_room; cases = cases }

-- ---- the event

-- a memory of verified code has at least the cells of the event
pub event_cells_held : (code : Code) → IsVerified code → (cells : List ℤ) → HoldKinds code.cells cells → 15 ≤ length cells
event_cells_held code verified cells held =
    let there = slice_get_within code.cells 14 Char verified.tables.event_cells.key in
    omega (arith, there, AllZip-same_length Holds code.cells cells held)

-- a message may be put in the event's cells
pub HoldKinds-event : (code : Code) → IsVerified code → (cells message : List ℤ) → HoldKinds code.cells cells → HoldKinds message_kinds message →
    HoldKinds code.cells (message ++ drop 14 cells)
HoldKinds-event code verified cells message held new =
    let n : length message ≡ 14 = AllZip-same_length Holds message_kinds message new in
    let kinds : take 14 code.cells ≡ message_kinds = verified.tables.event_cells.message in
    AllZip-front Holds 14 code.cells cells message (sym n) held (subst (λ (ks : List Kind). HoldKinds ks message) (sym kinds) new)

-- a key may be put in the cell of the key
pub HoldKinds-key : (code : Code) → IsVerified code → (cells : List ℤ) (key : ℕ) → key < 256 → HoldKinds code.cells cells →
    HoldKinds code.cells (slice_set cells 14 (pos key))
HoldKinds-key code verified cells key small held =
    AllZip-set Holds code.cells cells held 14 Char (pos key) verified.tables.event_cells.key (record { at_least = omega (arith, ints); at_most = omega (arith, ints, small) })

-- ---- initial values

-- each kind has the number 0
pub HoldKinds-zeros : (kinds : List Kind) → HoldKinds kinds (replicate (length kinds) (pos 0))
HoldKinds-zeros [] = tt
HoldKinds-zeros (k ∷ kinds) = (Holds-truth k false, HoldKinds-zeros kinds)

record HeldStart (kinds : List Kind) (start : ℕ × ℤ) : Type 0 where
  kind : Kind
  is_there : slice_get kinds start.0 ≡ Some kind
  held : Holds kind start.1

held_start : (kinds : List Kind) (start : ℕ × ℤ) (o : Option Kind) → slice_get kinds start.0 ≡ o → IsSomeAnd o (λ k. Holds k start.1) → HeldStart kinds start
held_start kinds start None e h = absurd h
held_start kinds start (Some k) e h = record { kind = k; is_there = e; held = h }

-- what holds where one initial value is put in
pub record PutsIn (kinds : List Kind) (cells : List ℤ) (starts : List (ℕ × ℤ)) (i : ℕ) (start : ℕ × ℤ) : Type 0 where
  pub is_cell : start.0 < length cells
  pub held : HoldKinds kinds (slice_set cells start.0 start.1)
  pub reads : cast_signed w128 (cast_unsigned w128 start.1) ≡ start.1
  pub rest : with_starts (slice_set cells start.0 start.1) (drop (i + 1) starts) ≡ with_starts cells (drop i starts)

-- it holds of each initial value of verified code
pub puts_in : (code : Code) → IsVerified code → (cells : List ℤ) → HoldKinds code.cells cells → (i : ℕ) → i < length code.starts →
    PutsIn code.cells cells code.starts i (get_or code.starts i (0, pos 0))
puts_in code verified cells held i h =
    let start = get_or code.starts i (0, pos 0) in
    let s = held_start code.cells start (slice_get code.cells start.0) refl (verified.tables.starts_held i (0, pos 0) h) in
    let w = slice_get_within code.cells start.0 s.kind s.is_there in
    let n = AllZip-same_length Holds code.cells cells held in
    let d : drop i code.starts ≡ start ∷ drop (i + 1) code.starts = rw add-one (drop-cons code.starts i (0, pos 0) h) in
    record {
      is_cell = omega (arith, w, n);
      held = AllZip-set Holds code.cells cells held start.0 s.kind start.1 s.is_there s.held;
      reads = read_back_held s.kind start.1 s.held;
      rest = sym (ap (with_starts cells) d);
    }
