-- The code of an assignment stores its number, where that of its index and of its right side do what those mean.
use Rattle.std.proofs.Common.{◌≡◌, ℕ, ◌+◌, Bool, true, false, List, [], ◌∷◌, ◌++◌, refl, sym, ◌∙◌, subst, arith}
use Rattle.std.specs.Prelude.{ℤ}
use Rattle.run_effects.specs.declared.outcome.Outcome.TheVariants.{Trapped}
use Rattle.run_effects.specs.declared.outcome.TrapKind.TheVariants.{Index}
use Rattle.bytecode.specs.declared.code.Code.{Code}
use Rattle.bytecode.specs.declared.instr.Instr.{Instr}
use Rattle.bytecode.specs.declared.instr.Instr.TheVariants as instr
use Rattle.bytecode.specs.Machine.{Machine}
use Rattle.bytecode.specs.Step.{goes_on}
use Rattle.control_flow.specs.World.{World, Run, Gives, Fails, and_then}
use Rattle.control_flow.specs.Control.{Computes}
use Rattle.typed_tree.specs.Expression.{Setting, indexing, stores}
use Rattle.typed_tree.specs.Memory.{Memory, Spot}
use Rattle.typed_tree.specs.Size.{Sizes, by_value, one_if}
use Rattle.code_listing.specs.Expression.{Codes, codes_by_value}
use Rattle.code_listing.specs.Listing.{Listing, instr_if}
use Rattle.code_listing.specs.Runs.{Arrives, IsFit, StandsAt, Stops, machine_at}
use Rattle.code_listing.proofs.ExpressionSizes.{both_long, instr_if_long}
use Rattle.code_listing.proofs.MachineRuns.{one_moves, one_stops, stands_back, stands_front, stops_on}
use Rattle.code_listing.proofs.PartRuns.{Indexes, Inside, Outside, arrives_from, arrives_then, indexes, leaves_at, value_runs}
use Rattle.code_listing.proofs.PlaceRuns.{Direct, Indexed}
use Rattle.code_listing.proofs.PlainLemmas.{IsStill}
use Rattle.code_listing.proofs.TestRuns.{Mean, means_by_value, still_fit}
use Rattle.code_listing.proofs.ValueRuns.{and_then_again}

module _ (code : Code) (s : Setting) (most : ℕ) (c : Codes) (z : Sizes) (does : Computes Memory)
    (means : Mean code s.closed s.moment most c z does) where
  -- an assignment to a place without an index
  pub store_direct : (reading writing : Instr) (spot : Spot) → Direct code s most reading writing spot →
      Mean code s.closed s.moment most
      (codes_by_value (λ place depth. c.value (place + (0 + 0)) (depth + 0) ++ (writing, depth + 0 + 1) ∷ []))
      (by_value (0 + (0 + (z.value + 1)))) (λ w. and_then (does w) (stores s spot))
  store_direct reading writing spot direct = means_by_value code s.closed s.moment most _ _ _
      (λ place depth. both_long _ _ _ _ (means.fits.value (place + (0 + 0)) (depth + 0)) refl ∙ omega arith)
      (λ place depth stack calls w fit h.
      let q = place + (0 + 0) in
      let m = machine_at place stack calls w in
      let p = place + z.value in
      let end = place + (0 + (0 + (z.value + 1))) in
      let xs = c.value q (depth + 0) in
      let last : Listing = (writing, depth + 0 + 1) ∷ [] in
      let at = stands_back code place z.value xs last (means.fits.value q (depth + 0)) h in
      arrives_then code s.closed s.moment m (λ n after. machine_at p (n ∷ stack) calls after) (λ v after. machine_at end (v ∷ stack) calls after)
      (does w) (stores s spot)
      (value_runs code s.closed s.moment most c z does means place q (depth + 0) (omega arith) stack calls w fit (stands_front code place xs last h))
      (λ n w1 r. leaves_at code s.closed s.moment (machine_at p (n ∷ stack) calls w1) stack calls (stores s spot n w1) (p + 1) end (omega arith)
      (direct.stores_it p n stack calls w1 (still_fit code s.closed s.moment fit r) at.0.0)))

  module _ (reading writing : Instr) (len : ℕ) (spot : ℕ → Spot) (indexed : Indexed code s most reading writing len spot) where
    -- the right side and the store, behind an index that is one, from a place that its code writes in another way
    inside_runs : (i : ℤ) (k : ℕ) → ((w : World Memory) (spot : ℕ → Spot) → indexing len i w spot ≡ Gives (spot k) w) →
        (p q end depth depth' : ℕ) → q ≡ p → p + z.value + 1 ≡ end → (stack : List ℤ) (calls : List ℕ) (w : World Memory) →
        IsFit code most w → StandsAt code p (c.value q depth ++ (writing, depth') ∷ []) →
        Arrives code s.closed s.moment (machine_at p (i ∷ stack) calls w) (λ v after. machine_at end (v ∷ stack) calls after)
        (and_then (does w) (stores s (spot k)))
    inside_runs i k is p q end depth depth' e f stack calls w fit h =
        let xs = c.value q depth in
        let last : Listing = (writing, depth') ∷ [] in
        let r = p + z.value in
        let at = stands_back code p z.value xs last (means.fits.value q depth) h in
        arrives_then code s.closed s.moment (machine_at p (i ∷ stack) calls w) (λ n after. machine_at r (n ∷ i ∷ stack) calls after)
        (λ v after. machine_at end (v ∷ stack) calls after) (does w) (stores s (spot k))
        (value_runs code s.closed s.moment most c z does means p q depth e (i ∷ stack) calls w fit (stands_front code p xs last h))
        (λ n w1 g.
        let m = machine_at r (n ∷ i ∷ stack) calls w1 in
        leaves_at code s.closed s.moment m stack calls (stores s (spot k) n w1) (r + 1) end f
        (subst (λ run. Arrives code s.closed s.moment m (λ v after. machine_at (r + 1) (v ∷ stack) calls after) (and_then run (λ spot w. stores s spot n w)))
        (is w1 spot) (indexed.stores_it r n i stack calls w1 (still_fit code s.closed s.moment fit g) at.0.0)))

    -- a right side that changes nothing, and then a trap
    still_stops : (m : Machine) (there : ℤ → World Memory → Machine) (w : World Memory) (run : Run Memory ℤ) → IsStill w run →
        Arrives code s.closed s.moment m there run → ((n : ℤ) → Stops code s.closed s.moment (there n w) (Trapped Index) w) →
        Stops code s.closed s.moment m (Trapped Index) w
    still_stops m there w (Gives n after) is r stops =
        stops_on code s.closed s.moment r (subst (λ x. Stops code s.closed s.moment (there n x) (Trapped Index) w) (sym is) (stops n))
    still_stops m there w (Fails o after) is r stops =
        subst (λ x. Stops code s.closed s.moment m (Trapped Index) x) is.1 (subst (λ o. Stops code s.closed s.moment m o after) is.0 r)

    -- behind the index: perhaps a check of it, the right side and the store
    behind_index : (checked : Bool) → (checked ≡ false → (w : World Memory) → IsStill w (does w)) → (i : ℤ) → Indexes len i →
        (p q end depth depth' : ℕ) → q ≡ p + one_if checked → p + (one_if checked + (z.value + 1)) ≡ end →
        (stack : List ℤ) (calls : List ℕ) (w : World Memory) → IsFit code most w →
        StandsAt code p (instr_if checked (instr.Check len, depth) ++ (c.value q depth ++ (writing, depth') ∷ [])) →
        Arrives code s.closed s.moment (machine_at p (i ∷ stack) calls w) (λ v after. machine_at end (v ∷ stack) calls after)
        (and_then (indexing len i w spot) (λ spot w. and_then (does w) (stores s spot)))
    behind_index true plain i (Inside k below is row) p q end depth depth' e f stack calls w fit h =
        let m = machine_at p (i ∷ stack) calls w in
        subst (λ run. Arrives code s.closed s.moment m (λ v after. machine_at end (v ∷ stack) calls after) (and_then run (λ spot w. and_then (does w) (stores s spot))))
        (sym (is w spot))
        (arrives_from code s.closed s.moment m (machine_at (p + 1) (i ∷ stack) calls w) (λ v after. machine_at end (v ∷ stack) calls after)
        (and_then (does w) (stores s (spot k)))
        (one_moves code s.closed s.moment p (p + 1) (i ∷ stack) (i ∷ stack) calls w (instr.Check len) h.0.0 (row m (λ _. goes_on m (i ∷ stack))))
        (inside_runs i k is (p + 1) q end depth depth' e (omega (arith, f)) stack calls w fit h.1))
    behind_index true plain i (Outside is row) p q end depth depth' e f stack calls w fit h =
        let m = machine_at p (i ∷ stack) calls w in
        subst (λ run. Arrives code s.closed s.moment m (λ v after. machine_at end (v ∷ stack) calls after) (and_then run (λ spot w. and_then (does w) (stores s spot))))
        (sym (is w spot)) (one_stops code s.closed s.moment m (instr.Check len) (Trapped Index) m h.0.0 (row m (λ _. goes_on m (i ∷ stack))))
    behind_index false plain i (Inside k below is row) p q end depth depth' e f stack calls w fit h =
        subst (λ run. Arrives code s.closed s.moment (machine_at p (i ∷ stack) calls w) (λ v after. machine_at end (v ∷ stack) calls after)
        (and_then run (λ spot w. and_then (does w) (stores s spot))))
        (sym (is w spot)) (inside_runs i k is p q end depth depth' (omega (arith, e)) (omega (arith, f)) stack calls w fit h)
    behind_index false plain i (Outside is row) p q end depth depth' e f stack calls w fit h =
        let m = machine_at p (i ∷ stack) calls w in
        let xs = c.value q depth in
        let last : Listing = (writing, depth') ∷ [] in
        let r = p + z.value in
        let at = stands_back code p z.value xs last (means.fits.value q depth) h in
        subst (λ run. Arrives code s.closed s.moment m (λ v after. machine_at end (v ∷ stack) calls after) (and_then run (λ spot w. and_then (does w) (stores s spot))))
        (sym (is w spot))
        (still_stops m (λ n after. machine_at r (n ∷ i ∷ stack) calls after) w (does w) (plain refl w)
        (value_runs code s.closed s.moment most c z does means p q depth (omega (arith, e)) (i ∷ stack) calls w fit (stands_front code p xs last h))
        (λ n. subst (λ run. Arrives code s.closed s.moment (machine_at r (n ∷ i ∷ stack) calls w) (λ v after. machine_at (r + 1) (v ∷ stack) calls after)
        (and_then run (λ spot w. stores s spot n w))) (is w spot) (indexed.stores_it r n i stack calls w fit at.0.0)))

    -- an assignment to a place with an index, which is checked first or not
    pub store_indexed : (ci : Codes) (zi : Sizes) (index : Computes Memory) → Mean code s.closed s.moment most ci zi index →
        (checked : Bool) → (checked ≡ false → (w : World Memory) → IsStill w (does w)) →
        Mean code s.closed s.moment most
        (codes_by_value (λ place depth. ci.value place depth ++ (instr_if checked (instr.Check len, depth + 1) ++
        (c.value (place + (zi.value + one_if checked)) (depth + 1) ++ (writing, depth + 1 + 1) ∷ []))))
        (by_value (zi.value + (one_if checked + (z.value + 1))))
        (λ w. and_then (and_then (index w) (λ i w. indexing len i w spot)) (λ spot w. and_then (does w) (stores s spot)))
    store_indexed ci zi index index_means checked plain = means_by_value code s.closed s.moment most _ _ _
        (λ place depth. both_long _ _ _ _ (index_means.fits.value place depth)
        (both_long _ _ _ _ (instr_if_long checked _) (both_long _ _ _ _ (means.fits.value _ _) refl)))
        (λ place depth stack calls w fit h.
        let q = place + (zi.value + one_if checked) in
        let m = machine_at place stack calls w in
        let p = place + zi.value in
        let end = place + (zi.value + (one_if checked + (z.value + 1))) in
        let xs = ci.value place depth in
        let ys : Listing = instr_if checked (instr.Check len, depth + 1) ++ (c.value q (depth + 1) ++ (writing, depth + 1 + 1) ∷ []) in
        let next : ℤ → World Memory → Run Memory ℤ = λ i w. and_then (indexing len i w spot) (λ spot w. and_then (does w) (stores s spot)) in
        subst (λ run. Arrives code s.closed s.moment m (λ v after. machine_at end (v ∷ stack) calls after) run)
        (sym (and_then_again (index w) (λ i w. indexing len i w spot) (λ spot w. and_then (does w) (stores s spot))))
        (arrives_then code s.closed s.moment m (λ i after. machine_at p (i ∷ stack) calls after) (λ v after. machine_at end (v ∷ stack) calls after)
        (index w) next
        (index_means.value place depth stack calls w fit (stands_front code place xs ys h))
        (λ i w1 r. behind_index checked plain i (indexes len i) p q end (depth + 1) (depth + 1 + 1) (omega arith) (omega arith) stack calls w1
        (still_fit code s.closed s.moment fit r) (stands_back code place zi.value xs ys (index_means.fits.value place depth) h))))
