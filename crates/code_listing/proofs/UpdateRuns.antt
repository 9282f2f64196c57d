-- The code of an assignment with an operator does what it means, where that of its index and of its right side do.
use Rattle.std.proofs.Common.{◌≡◌, ℕ, ◌+◌, ◌<◌, Bool, true, false, List, [], ◌∷◌, ◌++◌, Some, slice_get, refl, sym, ◌∙◌, subst, arith}
use Rattle.std.specs.Prelude.{ℤ}
use Rattle.int_kinds.specs.declared.kinds.Kind.{Kind}
use Rattle.int_kinds.specs.declared.operators.BinOp.{BinOp}
use Rattle.int_kinds.specs.Arithmetic.{value}
use Rattle.int_kinds.specs.Kind.{wrap}
use Rattle.run_effects.specs.declared.outcome.Outcome.TheVariants.{Trapped}
use Rattle.run_effects.specs.declared.outcome.TrapKind.TheVariants.{Index}
use Rattle.bytecode.specs.declared.code.Code.{Code}
use Rattle.bytecode.specs.declared.instr.Instr.{Instr}
use Rattle.bytecode.specs.declared.instr.Instr.TheVariants as instr
use Rattle.bytecode.specs.Rule.{IsOperation}
use Rattle.control_flow.specs.World.{World, Run, Gives, Fails, and_then}
use Rattle.control_flow.specs.Control.{Computes}
use Rattle.typed_tree.specs.Expression.{Setting, indexing, operates, reads, stores}
use Rattle.typed_tree.specs.Memory.{Memory, Spot, read}
use Rattle.typed_tree.specs.Size.{Sizes, by_value, one_if}
use Rattle.code_listing.specs.Expression.{Codes, codes_by_value}
use Rattle.code_listing.specs.Listing.{Listing, instr_if}
use Rattle.code_listing.specs.Runs.{Arrives, Comes, IsFit, StandsAt, Stops, machine_at}
use Rattle.code_listing.proofs.ExpressionSizes.{both_long, cons_long, instr_if_long}
use Rattle.code_listing.proofs.MachineRuns.{comes_on, one_moves, stands_back, stands_front, stops_on}
use Rattle.code_listing.proofs.OperatorRuns.{bin_runs}
use Rattle.code_listing.proofs.PartRuns.{Indexes, Inside, Outside, arrives_from, arrives_then, indexes, leaves_at, value_runs}
use Rattle.code_listing.proofs.PlaceRuns.{Direct, Indexed}
use Rattle.code_listing.proofs.TestRuns.{Mean, means_by_value, still_fit}
use Rattle.code_listing.proofs.ValueRuns.{and_then_again}

module _ (code : Code) (s : Setting) (most : ℕ) where
  -- an instruction stores the top at a spot, from a stack with these numbers below it to another
  abbrev pub Storing : Instr → Spot → List ℤ → List ℤ → Type 0
  Storing writing spot under stack = (place : ℕ) (n : ℤ) (calls : List ℕ) (w : World Memory) → IsFit code most w →
      slice_get code.instrs place ≡ Some writing →
      Arrives code s.closed s.moment (machine_at place (n ∷ under) calls w) (λ v after. machine_at (place + 1) (v ∷ stack) calls after) (stores s spot n w)

  -- a number that is wrapped to a kind before it is stored leaves the same
  abbrev pub LeavesSame : Kind → Spot → Type 0
  LeavesSame back spot = (n : ℤ) (w : World Memory) → stores s spot (wrap back n) w ≡ stores s spot n w

  -- what an index is used for behind its code: it is copied, and the number there is read
  module _ (reading writing : Instr) (len : ℕ) (spot : ℕ → Spot) (indexed : Indexed code s most reading writing len spot)
      (p : ℕ) (i : ℤ) (stack : List ℤ) (calls : List ℕ) (w : World Memory) (fit : IsFit code most w)
      (copy_at : slice_get code.instrs p ≡ Some instr.Dup) (read_at : slice_get code.instrs (p + 1) ≡ Some reading) where
    copied : Comes code s.closed s.moment (machine_at p (i ∷ stack) calls w) (machine_at (p + 1) (i ∷ i ∷ stack) calls w)
    copied = one_moves code s.closed s.moment p (p + 1) (i ∷ stack) (i ∷ i ∷ stack) calls w instr.Dup copy_at refl

    -- where it is one
    pub reads_inside : (k : ℕ) → ((w : World Memory) (spot : ℕ → Spot) → indexing len i w spot ≡ Gives (spot k) w) →
        Comes code s.closed s.moment (machine_at p (i ∷ stack) calls w) (machine_at (p + 1 + 1) (read (spot k) w.memory.cells ∷ i ∷ stack) calls w)
    reads_inside k is = comes_on code s.closed s.moment copied
        (subst (λ run. Arrives code s.closed s.moment (machine_at (p + 1) (i ∷ i ∷ stack) calls w)
        (λ n after. machine_at (p + 1 + 1) (n ∷ i ∷ stack) calls after) (and_then run reads)) (is w spot)
        (indexed.reads_it (p + 1) i (i ∷ stack) calls w fit read_at))

    -- where it is none
    pub reads_outside : ((w : World Memory) (spot : ℕ → Spot) → indexing len i w spot ≡ Fails (Trapped Index) w) →
        Stops code s.closed s.moment (machine_at p (i ∷ stack) calls w) (Trapped Index) w
    reads_outside is = stops_on code s.closed s.moment copied
        (subst (λ run. Arrives code s.closed s.moment (machine_at (p + 1) (i ∷ i ∷ stack) calls w)
        (λ n after. machine_at (p + 1 + 1) (n ∷ i ∷ stack) calls after) (and_then run reads)) (is w spot)
        (indexed.reads_it (p + 1) i (i ∷ stack) calls w fit read_at))

  -- the store at the spot of an index that is one
  pub storing_inside : (reading writing : Instr) (len : ℕ) (spot : ℕ → Spot) → Indexed code s most reading writing len spot →
      (i : ℤ) (k : ℕ) → ((w : World Memory) (spot : ℕ → Spot) → indexing len i w spot ≡ Gives (spot k) w) →
      (stack : List ℤ) → Storing writing (spot k) (i ∷ stack) stack
  storing_inside reading writing len spot indexed i k is stack = λ place n calls w fit at.
      subst (λ run. Arrives code s.closed s.moment (machine_at place (n ∷ i ∷ stack) calls w) (λ v after. machine_at (place + 1) (v ∷ stack) calls after)
      (and_then run (λ spot w. stores s spot n w))) (is w spot) (indexed.stores_it place n i stack calls w fit at)

  module _ (c : Codes) (z : Sizes) (does : Computes Memory) (means : Mean code s.closed s.moment most c z does)
      (op : BinOp) (k : Kind) (is : IsOperation op) (back : Kind) (wrapped : Bool) where
    -- the store of a result, wrapped first or not
    result_stored : (first : Bool) (writing : Instr) (spot : Spot) (under stack : List ℤ) → Storing writing spot under stack →
        (first ≡ false → LeavesSame back spot) → (p end depth depth' : ℕ) → p + (one_if first + 1) ≡ end → (new : ℤ) (calls : List ℕ) (w : World Memory) →
        IsFit code most w → StandsAt code p (instr_if first (instr.Conv back, depth) ++ (writing, depth') ∷ []) →
        Arrives code s.closed s.moment (machine_at p (new ∷ under) calls w) (λ v after. machine_at end (v ∷ stack) calls after) (stores s spot (wrap back new) w)
    result_stored true writing spot under stack storing same p end depth depth' e new calls w fit h =
        let v = wrap back new in
        arrives_from code s.closed s.moment (machine_at p (new ∷ under) calls w) (machine_at (p + 1) (v ∷ under) calls w)
        (λ v after. machine_at end (v ∷ stack) calls after) (stores s spot v w)
        (one_moves code s.closed s.moment p (p + 1) (new ∷ under) (v ∷ under) calls w (instr.Conv back) h.0.0 refl)
        (leaves_at code s.closed s.moment (machine_at (p + 1) (v ∷ under) calls w) stack calls (stores s spot v w) (p + 1 + 1) end (omega (arith, e))
        (storing (p + 1) v calls w fit h.1.0.0))
    result_stored false writing spot under stack storing same p end depth depth' e new calls w fit h =
        let m = machine_at p (new ∷ under) calls w in
        leaves_at code s.closed s.moment m stack calls (stores s spot (wrap back new) w) (p + 1) end (omega (arith, e))
        (subst (λ run. Arrives code s.closed s.moment m (λ v after. machine_at (p + 1) (v ∷ stack) calls after) run) (sym (same refl new w))
        (storing p new calls w fit h.0.0))

    -- the right side, the operator and the store, behind the old number
    behind_old : (writing : Instr) (spot : Spot) (under stack : List ℤ) → Storing writing spot under stack → (wrapped ≡ false → LeavesSame back spot) →
        (p q end depth depth' depth'' depth''' : ℕ) → q ≡ p → p + (z.value + (1 + (one_if wrapped + 1))) ≡ end →
        (old : ℤ) (calls : List ℕ) (w : World Memory) → IsFit code most w →
        StandsAt code p (c.value q depth ++ (instr.Bin op k, depth') ∷ (instr_if wrapped (instr.Conv back, depth'') ++ (writing, depth''') ∷ [])) →
        Arrives code s.closed s.moment (machine_at p (old ∷ under) calls w) (λ v after. machine_at end (v ∷ stack) calls after)
        (and_then (does w) (λ n w. and_then (operates op k old n w) (λ new w. stores s spot (wrap back new) w)))
    behind_old writing spot under stack storing same p q end depth depth' depth'' depth''' e f old calls w fit h =
        let xs = c.value q depth in
        let last : Listing = (instr.Bin op k, depth') ∷ (instr_if wrapped (instr.Conv back, depth'') ++ (writing, depth''') ∷ []) in
        let r = p + z.value in
        let at = stands_back code p z.value xs last (means.fits.value q depth) h in
        arrives_then code s.closed s.moment (machine_at p (old ∷ under) calls w) (λ n after. machine_at r (n ∷ old ∷ under) calls after)
        (λ v after. machine_at end (v ∷ stack) calls after) (does w)
        (λ n w. and_then (operates op k old n w) (λ new w. stores s spot (wrap back new) w))
        (value_runs code s.closed s.moment most c z does means p q depth e (old ∷ under) calls w fit (stands_front code p xs last h))
        (λ n w1 g.
        let m1 = machine_at r (n ∷ old ∷ under) calls w1 in
        let fit1 = still_fit code s.closed s.moment fit g in
        arrives_then code s.closed s.moment m1 (λ new after. machine_at (r + 1) (new ∷ under) calls after) (λ v after. machine_at end (v ∷ stack) calls after)
        (operates op k old n w1) (λ new w. stores s spot (wrap back new) w)
        (bin_runs code s.closed s.moment most op k old n r (r + 1) under calls w1 is at.0.0 refl (value op k old n) refl)
        (λ new w2 g2. result_stored wrapped writing spot under stack storing same (r + 1) end depth'' depth''' (omega (arith, f)) new calls w2
        (still_fit code s.closed s.moment fit1 g2) at.1))

    -- an assignment with an operator to a place without an index
    pub update_direct : (reading writing : Instr) (spot : Spot) → Direct code s most reading writing spot → (wrapped ≡ false → LeavesSame back spot) →
        Mean code s.closed s.moment most
        (codes_by_value (λ place depth. (reading, depth + 0 + 0) ∷ (c.value (place + (0 + (0 + 1))) (depth + 0 + 1) ++
        (instr.Bin op k, depth + 0 + 2) ∷ (instr_if wrapped (instr.Conv back, depth + 0 + 1) ++ (writing, depth + 0 + 1) ∷ []))))
        (by_value (0 + (0 + (1 + (z.value + (1 + (one_if wrapped + 1)))))))
        (λ w. and_then (does w) (λ n after. and_then (operates op k (read spot w.memory.cells) n after) (λ new w. stores s spot (wrap back new) w)))
    update_direct reading writing spot direct same = means_by_value code s.closed s.moment most _ _ _
        (λ place depth. cons_long _ _ (both_long _ _ _ _ (means.fits.value _ _)
        (cons_long _ _ (both_long _ _ _ _ (instr_if_long wrapped _) refl))) ∙ omega arith)
        (λ place depth stack calls w fit h.
        let old = read spot w.memory.cells in
        let end = place + (0 + (0 + (1 + (z.value + (1 + (one_if wrapped + 1)))))) in
        arrives_from code s.closed s.moment (machine_at place stack calls w) (machine_at (place + 1) (old ∷ stack) calls w)
        (λ v after. machine_at end (v ∷ stack) calls after)
        (and_then (does w) (λ n after. and_then (operates op k old n after) (λ new w. stores s spot (wrap back new) w)))
        (direct.reads_it place stack calls w fit h.0.0)
        (behind_old writing spot stack stack (λ place n calls w fit at. direct.stores_it place n stack calls w fit at) same (place + 1)
        (place + (0 + (0 + 1))) end (depth + 0 + 1) (depth + 0 + 2) (depth + 0 + 1) (depth + 0 + 1) (omega arith) (omega arith) old calls w fit h.1))

    -- an assignment with an operator to a place with an index
    pub update_indexed : (ci : Codes) (zi : Sizes) (index : Computes Memory) → Mean code s.closed s.moment most ci zi index →
        (reading writing : Instr) (len : ℕ) (spot : ℕ → Spot) → Indexed code s most reading writing len spot →
        (wrapped ≡ false → (k : ℕ) → k < len → LeavesSame back (spot k)) →
        Mean code s.closed s.moment most
        (codes_by_value (λ place depth. ci.value place depth ++ (instr.Dup, depth + 1) ∷ (reading, depth + 1 + 1) ∷
        (c.value (place + (zi.value + (1 + 1))) (depth + 1 + 1) ++
        (instr.Bin op k, depth + 1 + 2) ∷ (instr_if wrapped (instr.Conv back, depth + 1 + 1) ++ (writing, depth + 1 + 1) ∷ []))))
        (by_value (zi.value + (1 + (1 + (z.value + (1 + (one_if wrapped + 1)))))))
        (λ w. and_then (and_then (index w) (λ i w. indexing len i w spot)) (λ spot w. and_then (reads spot w) (λ old w.
        and_then (does w) (λ n w. and_then (operates op k old n w) (λ new w. stores s spot (wrap back new) w)))))
    update_indexed ci zi index index_means reading writing len spot indexed same = means_by_value code s.closed s.moment most _ _ _
        (λ place depth. both_long _ _ _ _ (index_means.fits.value place depth)
        (cons_long _ _ (cons_long _ _ (both_long _ _ _ _ (means.fits.value _ _)
        (cons_long _ _ (both_long _ _ _ _ (instr_if_long wrapped _) refl))))))
        (λ place depth stack calls w fit h.
        let q = place + (zi.value + (1 + 1)) in
        let m = machine_at place stack calls w in
        let p = place + zi.value in
        let end = place + (zi.value + (1 + (1 + (z.value + (1 + (one_if wrapped + 1)))))) in
        let xs = ci.value place depth in
        let ys : Listing = (instr.Dup, depth + 1) ∷ (reading, depth + 1 + 1) ∷ (c.value q (depth + 1 + 1) ++
        (instr.Bin op k, depth + 1 + 2) ∷ (instr_if wrapped (instr.Conv back, depth + 1 + 1) ++ (writing, depth + 1 + 1) ∷ [])) in
        let h1 = stands_back code place zi.value xs ys (index_means.fits.value place depth) h in
        let next : Spot → World Memory → Run Memory ℤ = λ spot w. and_then (reads spot w) (λ old w.
        and_then (does w) (λ n w. and_then (operates op k old n w) (λ new w. stores s spot (wrap back new) w))) in
        subst (λ run. Arrives code s.closed s.moment m (λ v after. machine_at end (v ∷ stack) calls after) run)
        (sym (and_then_again (index w) (λ i w. indexing len i w spot) next))
        (arrives_then code s.closed s.moment m (λ i after. machine_at p (i ∷ stack) calls after) (λ v after. machine_at end (v ∷ stack) calls after)
        (index w) (λ i w. and_then (indexing len i w spot) next)
        (index_means.value place depth stack calls w fit (stands_front code place xs ys h))
        (λ i w1 r. behind_index i (indexes len i) p q end (depth + 1) (omega arith) (omega arith) stack calls w1 (still_fit code s.closed s.moment fit r) h1)))
      where
        behind_index : (i : ℤ) → Indexes len i → (p q end depth : ℕ) → q ≡ p + 1 + 1 → p + (1 + (1 + (z.value + (1 + (one_if wrapped + 1))))) ≡ end →
            (stack : List ℤ) (calls : List ℕ) (w : World Memory) → IsFit code most w →
            StandsAt code p ((instr.Dup, depth) ∷ (reading, depth + 1) ∷ (c.value q (depth + 1) ++
            (instr.Bin op k, depth + 2) ∷ (instr_if wrapped (instr.Conv back, depth + 1) ++ (writing, depth + 1) ∷ []))) →
            Arrives code s.closed s.moment (machine_at p (i ∷ stack) calls w) (λ v after. machine_at end (v ∷ stack) calls after)
            (and_then (indexing len i w spot) (λ spot w. and_then (reads spot w) (λ old w.
            and_then (does w) (λ n w. and_then (operates op k old n w) (λ new w. stores s spot (wrap back new) w)))))
        behind_index i (Inside j below inside rows) p q end depth e f stack calls w fit h =
            let old = read (spot j) w.memory.cells in
            let m = machine_at p (i ∷ stack) calls w in
            subst (λ run. Arrives code s.closed s.moment m (λ v after. machine_at end (v ∷ stack) calls after)
            (and_then run (λ spot w. and_then (reads spot w) (λ old w.
            and_then (does w) (λ n w. and_then (operates op k old n w) (λ new w. stores s spot (wrap back new) w)))))) (sym (inside w spot))
            (arrives_from code s.closed s.moment m (machine_at (p + 1 + 1) (old ∷ i ∷ stack) calls w) (λ v after. machine_at end (v ∷ stack) calls after)
            (and_then (does w) (λ n w. and_then (operates op k old n w) (λ new w. stores s (spot j) (wrap back new) w)))
            (reads_inside reading writing len spot indexed p i stack calls w fit h.0.0 h.1.0.0 j inside)
            (behind_old writing (spot j) (i ∷ stack) stack (storing_inside reading writing len spot indexed i j inside stack) (λ n. same n j below) (p + 1 + 1) q end
            (depth + 1) (depth + 2) (depth + 1) (depth + 1) e (omega (arith, f)) old calls w fit h.1.1))
        behind_index i (Outside outside rows) p q end depth e f stack calls w fit h =
            subst (λ run. Arrives code s.closed s.moment (machine_at p (i ∷ stack) calls w) (λ v after. machine_at end (v ∷ stack) calls after)
            (and_then run (λ spot w. and_then (reads spot w) (λ old w.
            and_then (does w) (λ n w. and_then (operates op k old n w) (λ new w. stores s spot (wrap back new) w)))))) (sym (outside w spot))
            (reads_outside reading writing len spot indexed p i stack calls w fit h.0.0 h.1.0.0 outside)
