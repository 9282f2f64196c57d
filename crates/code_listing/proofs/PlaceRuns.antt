-- The instructions of a place read and store at its spot, and check its index where it has one.
use Rattle.std.proofs.Common.{◌≡◌, ℕ, zero, suc, ◌+◌, ◌-◌, ◌<◌, ◌≤◌, List, ◌∷◌, length, Some, slice_get, refl, sym, ap, ◌∙◌, subst, arith, lit<, get_or-set_same}
use Rattle.std.specs.Prelude.{ℤ, pos, slice_set, unwrap_or}
use Rattle.std.proofs.lemmas.Option.{slice_get-get_or}
use Rattle.int_kinds.specs.declared.kinds.Kind.{Kind}
use Rattle.int_kinds.specs.declared.kinds.Kind.TheVariants.{Byte, Word, Dword, Long}
use Rattle.int_kinds.specs.Kind.{Holds, wrap}
use Rattle.int_kinds.proofs.Wrapping.{Holds-wrap}
use Rattle.signal_codec.specs.declared.layout.Layout.{Layout}
use Rattle.signal_codec.specs.Signal.{IsUsable, payload_with, signal_value}
use Rattle.message_cells.specs.Message.{IsMessage, bytes_of, number_at, payload_of, size, write_rules, written_can, written_dlc, written_id, written_rtr}
use Rattle.message_cells.proofs.MessageLemmas.{message_within}
use Rattle.bytecode.specs.declared.code.Code.{Code}
use Rattle.bytecode.specs.declared.instr.Instr.{Instr}
use Rattle.bytecode.specs.declared.instr.Instr.TheVariants as instr
use Rattle.bytecode.specs.Machine.{Machine}
use Rattle.bytecode.specs.Rule.{IsArray}
use Rattle.bytecode.specs.Runs.{HoldKinds}
use Rattle.bytecode.specs.Step.{goes_on, indexing as row_indexing, needing, reads as row_reads, row, stores as row_stores, stores_bytes}
use Rattle.bytecode.proofs.MessageCells.{AreBytes-bytes_of, AreBytes-payload_with, HoldKinds-bytes, IsPayload-payload, length-bytes_of, length-payload_with, message_kind, message_there}
use Rattle.bytecode.proofs.Numbers.{Holds-written_can, Holds-written_dlc, Holds-written_id, Holds-written_rtr}
use Rattle.bytecode.proofs.ZippedLists.{AllZip-set}
use Rattle.control_flow.specs.World.{World, and_then}
use Rattle.typed_tree.specs.Expression.{Setting, indexing, reads, stores}
use Rattle.typed_tree.specs.Memory.{InBytes, InCell, InField, InSignal, Memory, Spot, cell_of, kind_of, payload_at, read, with_cells, write, written_field}
use Rattle.code_listing.specs.Runs.{Arrives, Comes, IsFit, machine_at}
use Rattle.code_listing.proofs.LoadRuns.{cell_row, cells_length, indexing_runs}
use Rattle.code_listing.proofs.MachineRuns.{one_comes, one_moves}
use Rattle.code_listing.proofs.WriteLemmas.{number_back, payload_back, room_for}

-- a row that stores in a cell
store_row : (kinds : List Kind) (cell : ℕ) (n c : ℤ) (k : Kind) (m : Machine) (stack : List ℤ) →
    slice_get m.cells cell ≡ Some c → slice_get kinds cell ≡ Some k →
    row_stores kinds cell n m stack ≡ goes_on (record m { cells = slice_set m.cells cell (wrap k n) }) (wrap k n ∷ stack)
store_row kinds cell n c k m stack a b =
    ap (λ o. needing o (λ _. needing (slice_get kinds cell) (λ k. goes_on (record m { cells = slice_set m.cells cell (wrap k n) }) (wrap k n ∷ stack)))) a ∙
    ap (λ o. needing o (λ k. goes_on (record m { cells = slice_set m.cells cell (wrap k n) }) (wrap k n ∷ stack))) b

-- a field has a write rule
rule_there : (field : ℕ) → field ≤ 3 → slice_get write_rules field ≡ Some (unwrap_or (slice_get write_rules field) written_can)
rule_there zero small = refl
rule_there (suc zero) small = refl
rule_there (suc (suc zero)) small = refl
rule_there (suc (suc (suc zero))) small = refl
rule_there (suc (suc (suc (suc field)))) small = absurd (omega (arith, small))

-- what the write rule of a field gives may be put in it
field_held : (kinds : List Kind) (cells : List ℤ) (at field : ℕ) (n : ℤ) → field ≤ 3 → IsMessage kinds at → HoldKinds kinds cells →
    HoldKinds kinds (slice_set cells (at + field) (written_field field n))
field_held kinds cells at zero n small is held =
    AllZip-set Holds kinds cells held (at + 0) Dword (pos (written_id n)) (message_kind kinds at 0 (at + 0) Dword is (lit< tt) refl refl) (Holds-written_id n)
field_held kinds cells at (suc zero) n small is held =
    AllZip-set Holds kinds cells held (at + 1) Byte (pos (written_dlc n)) (message_kind kinds at 1 (at + 1) Byte is (lit< tt) refl refl) (Holds-written_dlc n)
field_held kinds cells at (suc (suc zero)) n small is held =
    AllZip-set Holds kinds cells held (at + 2) Byte (pos (written_rtr n)) (message_kind kinds at 2 (at + 2) Byte is (lit< tt) refl refl) (Holds-written_rtr n)
field_held kinds cells at (suc (suc (suc zero))) n small is held =
    AllZip-set Holds kinds cells held (at + 3) Word (pos (written_can n)) (message_kind kinds at 3 (at + 3) Word is (lit< tt) refl refl) (Holds-written_can n)
field_held kinds cells at (suc (suc (suc (suc field)))) n small is held = absurd (omega (arith, small))

module _ (code : Code) (s : Setting) (most : ℕ) where
  -- the instructions of a place without an index read and store at its spot
  pub record Direct (reading writing : Instr) (spot : Spot) : Type 0 where
    pub reads_it : (place : ℕ) (stack : List ℤ) (calls : List ℕ) (w : World Memory) → IsFit code most w →
        slice_get code.instrs place ≡ Some reading →
        Comes code s.closed s.moment (machine_at place stack calls w) (machine_at (place + 1) (read spot w.memory.cells ∷ stack) calls w)
    pub stores_it : (place : ℕ) (n : ℤ) (stack : List ℤ) (calls : List ℕ) (w : World Memory) → IsFit code most w →
        slice_get code.instrs place ≡ Some writing →
        Arrives code s.closed s.moment (machine_at place (n ∷ stack) calls w) (λ v after. machine_at (place + 1) (v ∷ stack) calls after) (stores s spot n w)

  -- the instructions of a place with an index check it, and read and store at the spot there
  pub record Indexed (reading writing : Instr) (len : ℕ) (spot : ℕ → Spot) : Type 0 where
    pub reads_it : (place : ℕ) (i : ℤ) (stack : List ℤ) (calls : List ℕ) (w : World Memory) → IsFit code most w →
        slice_get code.instrs place ≡ Some reading →
        Arrives code s.closed s.moment (machine_at place (i ∷ stack) calls w) (λ n after. machine_at (place + 1) (n ∷ stack) calls after)
        (and_then (indexing len i w spot) reads)
    pub stores_it : (place : ℕ) (n i : ℤ) (stack : List ℤ) (calls : List ℕ) (w : World Memory) → IsFit code most w →
        slice_get code.instrs place ≡ Some writing →
        Arrives code s.closed s.moment (machine_at place (n ∷ i ∷ stack) calls w) (λ v after. machine_at (place + 1) (v ∷ stack) calls after)
        (and_then (indexing len i w spot) (λ spot w. stores s spot n w))

  -- an instruction whose row stores a number at a spot and gives it, from a stack that the row takes to this one
  puts : (place : ℕ) (spot : Spot) (n v : ℤ) (from stack : List ℤ) (calls : List ℕ) (w : World Memory) (i : Instr) →
      slice_get code.instrs place ≡ Some i →
      row code s.closed s.moment (machine_at place from calls w) i from ≡
      goes_on (record (machine_at place from calls w) { cells = write s.typed.cells spot n w.memory.cells }) (v ∷ stack) →
      (HoldKinds code.cells w.memory.cells → HoldKinds code.cells (write s.typed.cells spot n w.memory.cells)) →
      read spot (write s.typed.cells spot n w.memory.cells) ≡ v →
      Arrives code s.closed s.moment (machine_at place from calls w) (λ v after. machine_at (place + 1) (v ∷ stack) calls after) (stores s spot n w)
  puts place spot n v from stack calls w i at rows held back =
      let m = machine_at place from calls w in
      let cells = write s.typed.cells spot n w.memory.cells in
      subst (λ x. Comes code s.closed s.moment m (machine_at (place + 1) (x ∷ stack) calls (with_cells cells w))) (sym back)
      (one_comes code s.closed s.moment m i (machine_at (place + 1) (v ∷ stack) calls (with_cells cells w)) at rows (omega arith) held refl)

module _ (code : Code) (s : Setting) (same : code.cells ≡ s.typed.cells) (most : ℕ) where
  -- a store in a cell, from a stack that its row takes to this one
  pub cell_stores : (cell place : ℕ) (n : ℤ) (from stack : List ℤ) (calls : List ℕ) (w : World Memory) (i : Instr) →
      IsFit code most w → cell < length code.cells → slice_get code.instrs place ≡ Some i →
      row code s.closed s.moment (machine_at place from calls w) i from ≡ row_stores code.cells cell n (machine_at place from calls w) stack →
      Arrives code s.closed s.moment (machine_at place from calls w) (λ v after. machine_at (place + 1) (v ∷ stack) calls after)
      (stores s (InCell cell) n w)
  cell_stores cell place n from stack calls w i fit there at rows =
      let k = kind_of s.typed.cells cell in
      let kind : slice_get code.cells cell ≡ Some k =
      ap (λ kinds. slice_get kinds cell) same ∙ slice_get-get_or s.typed.cells cell Long (omega (arith, there, ap length same)) in
      let within : cell < length w.memory.cells = omega (arith, there, cells_length code s.closed s.moment most fit) in
      puts code s most place (InCell cell) n (wrap k n) from stack calls w i at
      (rows ∙ store_row code.cells cell n (cell_of w.memory.cells cell) k (machine_at place from calls w) stack
      (slice_get-get_or w.memory.cells cell (pos 0) within) kind)
      (λ held. AllZip-set Holds code.cells w.memory.cells held cell k (wrap k n) kind (Holds-wrap k n))
      (get_or-set_same w.memory.cells cell (wrap k n) (pos 0) within)

  -- a cell
  pub cell_direct : (cell : ℕ) → cell < length code.cells → Direct code s most (instr.Load cell) (instr.Store cell) (InCell cell)
  cell_direct cell there = record {
    reads_it = λ place stack calls w fit at.
        one_moves code s.closed s.moment place (place + 1) stack (cell_of w.memory.cells cell ∷ stack) calls w (instr.Load cell) at
        (cell_row code s.closed s.moment most cell (machine_at place stack calls w) stack (omega (arith, there, cells_length code s.closed s.moment most fit)));
    stores_it = λ place n stack calls w fit at. cell_stores cell place n (n ∷ stack) stack calls w (instr.Store cell) fit there at refl;
  }

  -- a field of a message
  pub field_direct : (at field : ℕ) → field ≤ 3 → IsMessage code.cells at →
      Direct code s most (instr.Load (at + field)) (instr.SetField field at) (InField at field)
  field_direct at field small is = record {
    reads_it = (cell_direct (at + field) (omega (arith, small, message_within code.cells at is))).reads_it;
    stores_it = λ place n stack calls w fit here.
        let m = machine_at place (n ∷ stack) calls w in
        let v = written_field field n in
        puts code s most place (InField at field) n v (n ∷ stack) stack calls w (instr.SetField field at) here
        (ap (λ o. needing o (λ _. needing (slice_get write_rules field)
        (λ rule. goes_on (record m { cells = slice_set m.cells (at + field) (pos (rule n)) }) (pos (rule n) ∷ stack))))
        (message_there code.cells w.memory.cells at fit.cells_held is) ∙
        ap (λ o. needing o (λ rule. goes_on (record m { cells = slice_set m.cells (at + field) (pos (rule n)) }) (pos (rule n) ∷ stack)))
        (rule_there field small))
        (field_held code.cells w.memory.cells at field n small is)
        (get_or-set_same w.memory.cells (at + field) v (pos 0)
        (omega (arith, small, message_within code.cells at is, cells_length code s.closed s.moment most fit)));
  }

  -- a signal of a message
  pub signal_direct : (at : ℕ) (l : Layout) → IsUsable l → IsMessage code.cells at →
      Direct code s most (instr.Sig l at) (instr.SetSig l at) (InSignal at l)
  signal_direct at l usable is = record {
    reads_it = λ place stack calls w fit here.
        one_moves code s.closed s.moment place (place + 1) stack (read (InSignal at l) w.memory.cells ∷ stack) calls w (instr.Sig l at) here
        (ap (λ o. needing o (λ message. goes_on (machine_at place stack calls w) (signal_value l (payload_of message) ∷ stack)))
        (message_there code.cells w.memory.cells at fit.cells_held is));
    stores_it = λ place n stack calls w fit here.
        let m = machine_at place (n ∷ stack) calls w in
        let payload = payload_with l (payload_at w.memory.cells at) n in
        let old = IsPayload-payload code.cells w.memory.cells at fit.cells_held is in
        let eight = length-payload_with l (payload_at w.memory.cells at) n usable old in
        let are = AreBytes-payload_with l (payload_at w.memory.cells at) n usable old in
        let held = HoldKinds-bytes code.cells w.memory.cells at 0 payload fit.cells_held is (omega (arith, eight)) are in
        puts code s most place (InSignal at l) n (signal_value l payload) (n ∷ stack) stack calls w (instr.SetSig l at) here
        (ap (λ o. needing o (λ message. stores_bytes at 0 (payload_with l (payload_of message) n) (signal_value l (payload_with l (payload_of message) n)) m stack))
        (message_there code.cells w.memory.cells at fit.cells_held is))
        (λ _. held)
        (ap (signal_value l) (payload_back code.cells w.memory.cells at payload fit.cells_held is held eight are));
  }

  -- an element of an array
  pub element_indexed : (base len : ℕ) → IsArray code.cells base len →
      Indexed code s most (instr.Elem base len) (instr.SetElem base len) len (λ k. InCell (base + k))
  element_indexed base len array = record {
    reads_it = λ place i stack calls w fit here.
        let m = machine_at place (i ∷ stack) calls w in
        indexing_runs code s.closed s.moment place (i ∷ stack) calls w (instr.Elem base len)
        (λ n after. Comes code s.closed s.moment m (machine_at (place + 1) (n ∷ stack) calls after)) len i
        (λ k. row_reads (base + k) m stack) (λ k. InCell (base + k)) reads here refl
        (λ k below e. one_moves code s.closed s.moment place (place + 1) (i ∷ stack) (cell_of w.memory.cells (base + k) ∷ stack) calls w (instr.Elem base len) here
        (e ∙ cell_row code s.closed s.moment most (base + k) m stack (omega (arith, array.there, below, cells_length code s.closed s.moment most fit))));
    stores_it = λ place n i stack calls w fit here.
        let m = machine_at place (n ∷ i ∷ stack) calls w in
        indexing_runs code s.closed s.moment place (n ∷ i ∷ stack) calls w (instr.SetElem base len)
        (λ v after. Comes code s.closed s.moment m (machine_at (place + 1) (v ∷ stack) calls after)) len i
        (λ k. row_stores code.cells (base + k) n m stack) (λ k. InCell (base + k)) (λ spot w. stores s spot n w) here refl
        (λ k below e. cell_stores (base + k) place n (n ∷ i ∷ stack) stack calls w (instr.SetElem base len) fit (omega (arith, array.there, below)) here e);
  }

  -- payload bytes of a message
  pub bytes_indexed : (at : ℕ) (k : Kind) → IsMessage code.cells at →
      Indexed code s most (instr.Bytes k at) (instr.SetBytes k at) (9 - size k) (InBytes at k)
  bytes_indexed at k is = record {
    reads_it = λ place i stack calls w fit here.
        let m = machine_at place (i ∷ stack) calls w in
        indexing_runs code s.closed s.moment place (i ∷ stack) calls w (instr.Bytes k at)
        (λ n after. Comes code s.closed s.moment m (machine_at (place + 1) (n ∷ stack) calls after)) (9 - size k) i
        (λ byte. goes_on m (number_at k byte (payload_at w.memory.cells at) ∷ stack)) (InBytes at k) reads here
        (ap (λ o. needing o (λ message. row_indexing i (9 - size k) m (λ byte. goes_on m (number_at k byte (payload_of message) ∷ stack))))
        (message_there code.cells w.memory.cells at fit.cells_held is))
        (λ byte below e. one_moves code s.closed s.moment place (place + 1) (i ∷ stack) (read (InBytes at k byte) w.memory.cells ∷ stack) calls w (instr.Bytes k at) here e);
    stores_it = λ place n i stack calls w fit here.
        let m = machine_at place (n ∷ i ∷ stack) calls w in
        let there : at + 14 ≤ length w.memory.cells =
        omega (arith, message_within code.cells at is, cells_length code s.closed s.moment most fit) in
        indexing_runs code s.closed s.moment place (n ∷ i ∷ stack) calls w (instr.SetBytes k at)
        (λ v after. Comes code s.closed s.moment m (machine_at (place + 1) (v ∷ stack) calls after)) (9 - size k) i
        (λ byte. stores_bytes at byte (bytes_of k n) (wrap k n) m stack) (InBytes at k) (λ spot w. stores s spot n w) here
        (ap (λ o. needing o (λ message. row_indexing i (9 - size k) m (λ byte. stores_bytes at byte (bytes_of k n) (wrap k n) m stack)))
        (message_there code.cells w.memory.cells at fit.cells_held is))
        (λ byte below e. puts code s most place (InBytes at k byte) n (wrap k n) (n ∷ i ∷ stack) stack calls w (instr.SetBytes k at) here e
        (λ held. HoldKinds-bytes code.cells w.memory.cells at byte (bytes_of k n) held is
        (let room = room_for k byte below in omega (arith, room, length-bytes_of k n)) (AreBytes-bytes_of k n))
        (number_back k w.memory.cells at byte n there below));
  }
