-- The code of a load gives the number at its place, where the code of the place's index does what that means.
use Rattle.std.proofs.Common.{◌≡◌, ℕ, suc, ◌+◌, ◌-◌, ◌<◌, Bool, true, false, List, [], ◌∷◌, ◌++◌, length, Some, slice_get, refl, sym, ap, ◌∙◌, subst, arith}
use Rattle.std.specs.Prelude.{ℤ, pos, negsuc, if◌then◌else◌, nat_lt}
use Rattle.std.proofs.lemmas.Bool.{leb-true}
use Rattle.std.proofs.lemmas.Option.{slice_get-get_or}
use Rattle.int_kinds.specs.declared.kinds.Kind.{Kind}
use Rattle.int_kinds.specs.Kind.{Holds}
use Rattle.signal_codec.specs.declared.layout.Layout.{Layout}
use Rattle.run_effects.specs.declared.outcome.Outcome.TheVariants.{Trapped}
use Rattle.run_effects.specs.declared.outcome.TrapKind.TheVariants.{Index}
use Rattle.signal_codec.specs.Signal.{signal_value}
use Rattle.message_cells.specs.Message.{IsMessage, message_of, number_at, payload_of, size}
use Rattle.bytecode.specs.declared.code.Code.{Code}
use Rattle.bytecode.specs.declared.instr.Instr.{Instr}
use Rattle.bytecode.specs.declared.instr.Instr.TheVariants as instr
use Rattle.bytecode.specs.Machine.{Machine, Next, Ends}
use Rattle.bytecode.specs.Rule.{IsArray}
use Rattle.bytecode.specs.Step.{goes_on, needing, row, indexing as row_indexing, reads as row_reads}
use Rattle.bytecode.proofs.MessageCells.{message_there}
use Rattle.bytecode.proofs.ZippedLists.{AllZip-same_length}
use Rattle.control_flow.specs.World.{World, Run, Gives, Fails, and_then}
use Rattle.control_flow.specs.Control.{Computes}
use Rattle.typed_tree.specs.Expression.{indexing, reads}
use Rattle.typed_tree.specs.Memory.{InBytes, InCell, InSignal, Memory, Spot, cell_of, read}
use Rattle.typed_tree.specs.Size.{Sizes, by_value}
use Rattle.code_listing.specs.Expression.{Codes, codes_by_value}
use Rattle.code_listing.specs.Runs.{Comes, Follows, IsFit, machine_at}
use Rattle.code_listing.proofs.ExpressionSizes.{both_long}
use Rattle.code_listing.proofs.MachineRuns.{at_place, comes_on, one_moves, one_stops, stands_back, stands_front, then_on}
use Rattle.code_listing.proofs.TestRuns.{Mean, means_by_value, still_fit}
use Rattle.code_listing.proofs.ValueRuns.{and_then_again}

module _ (code : Code) (closed : Bool) (moment : ℕ) where
  -- an instruction that checks the index of a place, and what comes after the check
  pub indexing_runs : {B : Type 0} (place : ℕ) (stack : List ℤ) (calls : List ℕ) (w : World Memory) (i : Instr)
      (Then : B → World Memory → Type 0) (len : ℕ) (n : ℤ) (inside : ℕ → Next) (spot : ℕ → Spot) (next : Spot → World Memory → Run Memory B) →
      slice_get code.instrs place ≡ Some i →
      row code closed moment (machine_at place stack calls w) i stack ≡ row_indexing n len (machine_at place stack calls w) inside →
      ((k : ℕ) → k < len → row code closed moment (machine_at place stack calls w) i stack ≡ inside k →
      Follows code closed moment (machine_at place stack calls w) Then (next (spot k) w)) →
      Follows code closed moment (machine_at place stack calls w) Then (and_then (indexing len n w spot) next)
  indexing_runs place stack calls w i Then len (negsuc n) inside spot next at rows further =
      one_stops code closed moment (machine_at place stack calls w) i (Trapped Index) (machine_at place stack calls w) at rows
  indexing_runs place stack calls w i Then len (pos n) inside spot next at rows further = by_range (nat_lt n len) refl
    where
      m : Machine
      m = machine_at place stack calls w

      by_range : (b : Bool) → nat_lt n len ≡ b →
          Follows code closed moment m Then (and_then (if b then Gives (spot n) w else Fails (Trapped Index) w) next)
      by_range true e = further n (leb-true (suc n) len e) (rows ∙ ap (λ b. if b then inside n else Ends (Trapped Index) m) e)
      by_range false e =
          one_stops code closed moment m i (Trapped Index) m at (rows ∙ ap (λ b. if b then inside n else Ends (Trapped Index) m) e)

  module _ (most : ℕ) where
    -- there are as many cells as the code has kinds
    pub cells_length : {w : World Memory} → IsFit code most w → length w.memory.cells ≡ length code.cells
    cells_length {w} fit = AllZip-same_length Holds code.cells w.memory.cells fit.cells_held

    -- a number that is read by one instruction
    direct_load : (i : Instr) (spot : Spot) →
        ((place : ℕ) (stack : List ℤ) (calls : List ℕ) (w : World Memory) → IsFit code most w →
        row code closed moment (machine_at place stack calls w) i stack ≡ goes_on (machine_at place stack calls w) (read spot w.memory.cells ∷ stack)) →
        Mean code closed moment most (codes_by_value (λ place depth. (i, depth + 0) ∷ [])) (by_value 1) (reads spot)
    direct_load i spot rows = means_by_value code closed moment most _ 1 _ (λ place depth. refl)
        (λ place depth stack calls w fit h.
        one_moves code closed moment place (place + 1) stack (read spot w.memory.cells ∷ stack) calls w i h.0.0 (rows place stack calls w fit))

    -- a number that is read behind its index
    indexed_load : (c : Codes) (z : Sizes) (index : Computes Memory) (i : Instr) (len : ℕ) (spot : ℕ → Spot) (inside : Machine → List ℤ → ℕ → Next) →
        Mean code closed moment most c z index →
        ((place : ℕ) (n : ℤ) (stack : List ℤ) (calls : List ℕ) (w : World Memory) → IsFit code most w →
        row code closed moment (machine_at place (n ∷ stack) calls w) i (n ∷ stack) ≡
        row_indexing n len (machine_at place (n ∷ stack) calls w) (inside (machine_at place (n ∷ stack) calls w) stack)) →
        ((place k : ℕ) (n : ℤ) (stack : List ℤ) (calls : List ℕ) (w : World Memory) → IsFit code most w → k < len →
        inside (machine_at place (n ∷ stack) calls w) stack k ≡ goes_on (machine_at place (n ∷ stack) calls w) (read (spot k) w.memory.cells ∷ stack)) →
        Mean code closed moment most (codes_by_value (λ place depth. c.value place depth ++ (i, depth + 1) ∷ [])) (by_value (z.value + 1))
        (λ w. and_then (and_then (index w) (λ n w. indexing len n w spot)) reads)
    indexed_load c z index i len spot inside means rows reading = means_by_value code closed moment most _ (z.value + 1) _
        (λ place depth. both_long _ _ _ _ (means.fits.value place depth) refl)
        (λ place depth stack calls w fit h.
        let xs = c.value place depth in
        let m = machine_at place stack calls w in
        let p = place + z.value in
        let end = place + (z.value + 1) in
        let last = stands_back code place z.value xs ((i, depth + 1) ∷ []) (means.fits.value place depth) h in
        subst (λ run. Follows code closed moment m (λ n after. Comes code closed moment m (machine_at end (n ∷ stack) calls after)) run)
        (sym (and_then_again (index w) (λ n w. indexing len n w spot) reads))
        (then_on code closed moment m (λ n after. machine_at p (n ∷ stack) calls after)
        (λ m n after. Comes code closed moment m (machine_at end (n ∷ stack) calls after)) (index w) (λ n w. and_then (indexing len n w spot) reads)
        (λ m' n after r g. comes_on code closed moment r g)
        (means.value place depth stack calls w fit (stands_front code place xs _ h))
        (λ n w1 r.
        let fit1 = still_fit code closed moment fit r in
        indexing_runs p (n ∷ stack) calls w1 i _ len n (inside (machine_at p (n ∷ stack) calls w1) stack) spot reads last.0.0 (rows p n stack calls w1 fit1)
        (λ k below e. at_place code closed moment (p + 1) end (omega arith)
        (one_moves code closed moment p (p + 1) (n ∷ stack) (read (spot k) w1.memory.cells ∷ stack) calls w1 i last.0.0
        (e ∙ reading p k n stack calls w1 fit1 below))))))

    -- a row that reads a cell
    pub cell_row : (cell : ℕ) (m : Machine) (stack : List ℤ) → cell < length m.cells → row_reads cell m stack ≡ goes_on m (cell_of m.cells cell ∷ stack)
    cell_row cell m stack there = ap (λ o. needing o (λ n. goes_on m (n ∷ stack))) (slice_get-get_or m.cells cell (pos 0) there)

    -- the number in a cell
    pub means_cell : (cell : ℕ) → cell < length code.cells →
        Mean code closed moment most (codes_by_value (λ place depth. (instr.Load cell, depth + 0) ∷ [])) (by_value 1) (reads (InCell cell))
    means_cell cell there = direct_load (instr.Load cell) (InCell cell)
        (λ place stack calls w fit. cell_row cell (machine_at place stack calls w) stack (omega (arith, there, cells_length fit)))

    -- an element of an array
    pub means_element : (c : Codes) (z : Sizes) (index : Computes Memory) (base len : ℕ) → IsArray code.cells base len →
        Mean code closed moment most c z index →
        Mean code closed moment most (codes_by_value (λ place depth. c.value place depth ++ (instr.Elem base len, depth + 1) ∷ [])) (by_value (z.value + 1))
        (λ w. and_then (and_then (index w) (λ n w. indexing len n w (λ k. InCell (base + k)))) reads)
    means_element c z index base len array means =
        indexed_load c z index (instr.Elem base len) len (λ k. InCell (base + k)) (λ m stack k. row_reads (base + k) m stack) means
        (λ place n stack calls w fit. refl)
        (λ place k n stack calls w fit below. cell_row (base + k) (machine_at place (n ∷ stack) calls w) stack (omega (arith, array.there, below, cells_length fit)))

    -- a signal of a message
    pub means_signal : (at : ℕ) (l : Layout) → IsMessage code.cells at →
        Mean code closed moment most (codes_by_value (λ place depth. (instr.Sig l at, depth + 0) ∷ [])) (by_value 1) (reads (InSignal at l))
    means_signal at l is = direct_load (instr.Sig l at) (InSignal at l)
        (λ place stack calls w fit. ap (λ o. needing o (λ message. goes_on (machine_at place stack calls w) (signal_value l (payload_of message) ∷ stack)))
        (message_there code.cells w.memory.cells at fit.cells_held is))

    -- payload bytes of a message
    pub means_bytes : (c : Codes) (z : Sizes) (index : Computes Memory) (at : ℕ) (k : Kind) → IsMessage code.cells at →
        Mean code closed moment most c z index →
        Mean code closed moment most (codes_by_value (λ place depth. c.value place depth ++ (instr.Bytes k at, depth + 1) ∷ [])) (by_value (z.value + 1))
        (λ w. and_then (and_then (index w) (λ n w. indexing (9 - size k) n w (InBytes at k))) reads)
    means_bytes c z index at k is means =
        indexed_load c z index (instr.Bytes k at) (9 - size k) (InBytes at k)
        (λ m stack byte. goes_on m (number_at k byte (payload_of (message_of at m.cells)) ∷ stack)) means
        (λ place n stack calls w fit. ap (λ o. needing o (λ message. row_indexing n (9 - size k) (machine_at place (n ∷ stack) calls w)
        (λ byte. goes_on (machine_at place (n ∷ stack) calls w) (number_at k byte (payload_of message) ∷ stack))))
        (message_there code.cells w.memory.cells at fit.cells_held is))
        (λ place byte n stack calls w fit below. refl)
