-- The code that adds 1 to a place, or takes 1 from it, does so, where the code of its index does what that means.
use Rattle.std.proofs.Common.{◌≡◌, ℕ, ◌+◌, ◌<◌, ◌≤◌, Bool, true, false, List, [], ◌∷◌, ◌++◌, length, refl, sym, ap, ◌∙◌, subst, arith}
use Rattle.std.specs.Prelude.{ℤ, pos, not, if◌then◌else◌, ◌+ℤ◌, ◌-ℤ◌}
use Rattle.std.proofs.lemmas.Int.{ints}
use Rattle.int_kinds.specs.declared.kinds.Kind.{Kind}
use Rattle.int_kinds.specs.declared.operators.BinOp.TheVariants.{Add, Sub}
use Rattle.int_kinds.specs.Kind.{Holds, width, wrap}
use Rattle.int_kinds.proofs.Operations.{wrap-add, wrap-sub}
use Rattle.int_kinds.proofs.Values.{wrap-wrap_wider}
use Rattle.int_kinds.proofs.Wrapping.{wrap-wrap, wrap_held}
use Rattle.bytecode.specs.declared.code.Code.{Code}
use Rattle.bytecode.specs.declared.instr.Instr.{Instr}
use Rattle.bytecode.specs.declared.instr.Instr.TheVariants as instr
use Rattle.bytecode.specs.Machine.{Machine}
use Rattle.bytecode.specs.Step.{goes_on, row}
use Rattle.control_flow.specs.World.{World, Run, Gives, and_then, run_map}
use Rattle.control_flow.specs.Control.{Computes}
use Rattle.typed_tree.specs.Expression.{Setting, indexing, operates, reads, stores}
use Rattle.typed_tree.specs.Memory.{Memory, Spot, read, with_cells, write}
use Rattle.typed_tree.specs.Size.{Sizes, by_value}
use Rattle.code_listing.specs.Expression.{Codes, codes_by_value}
use Rattle.code_listing.specs.Listing.{Listing}
use Rattle.code_listing.specs.Place.{bump_op}
use Rattle.code_listing.specs.Runs.{Arrives, Comes, IsFit, StandsAt, machine_at}
use Rattle.code_listing.proofs.ExpressionSizes.{both_long}
use Rattle.code_listing.proofs.MachineRuns.{at_place, comes_on, one_moves, stands_back, stands_front}
use Rattle.code_listing.proofs.PartRuns.{Indexes, Inside, Outside, arrives_then, indexes}
use Rattle.code_listing.proofs.PlaceRuns.{Direct, Indexed}
use Rattle.code_listing.proofs.TestRuns.{Mean, means_by_value, still_fit}
use Rattle.code_listing.proofs.UpdateRuns.{reads_inside, reads_outside, storing_inside}
use Rattle.code_listing.proofs.ValueRuns.{and_then_again}

-- 1 more than a number, or 1 less, in a kind
abbrev pub bumped : Bool → Kind → ℤ → ℤ
bumped true k n = wrap k (wrap k n +ℤ wrap k (pos 1))
bumped false k n = wrap k (wrap k n -ℤ wrap k (pos 1))

up_and_down : (n : ℤ) → (n +ℤ pos 1) -ℤ pos 1 ≡ n
up_and_down n = omega (arith, ints)

down_and_up : (n : ℤ) → (n -ℤ pos 1) +ℤ pos 1 ≡ n
down_and_up n = omega (arith, ints)

-- what is stored of it, in a kind that is no wider and that holds the number as it was, leads back to that
undone : (up : Bool) (j k : Kind) (old : ℤ) → width j ≤ width k → Holds j old → bumped (not up) j (wrap j (bumped up k old)) ≡ old
undone true j k old h holds =
    let stored : wrap j (wrap j (bumped true k old)) ≡ wrap j (old +ℤ pos 1) =
    wrap-wrap j (bumped true k old) ∙ ap (wrap j) (sym (wrap-add k old (pos 1))) ∙ wrap-wrap_wider k j (old +ℤ pos 1) h in
    ap (λ n. wrap j (n -ℤ wrap j (pos 1))) stored ∙ sym (wrap-sub j (old +ℤ pos 1) (pos 1)) ∙ ap (wrap j) (up_and_down old) ∙ wrap_held j old holds
undone false j k old h holds =
    let stored : wrap j (wrap j (bumped false k old)) ≡ wrap j (old -ℤ pos 1) =
    wrap-wrap j (bumped false k old) ∙ ap (wrap j) (sym (wrap-sub k old (pos 1))) ∙ wrap-wrap_wider k j (old -ℤ pos 1) h in
    ap (λ n. wrap j (n +ℤ wrap j (pos 1))) stored ∙ sym (wrap-add j (old -ℤ pos 1) (pos 1)) ∙ ap (wrap j) (down_and_up old) ∙ wrap_held j old holds

module _ (code : Code) (s : Setting) (most : ℕ) where
  -- what stands at a spot is of a kind, and a store there wraps to it
  pub record IsOfKind (j : Kind) (spot : Spot) : Type 0 where
    pub held : (w : World Memory) → IsFit code most w → Holds j (read spot w.memory.cells)
    pub stored : (w : World Memory) → IsFit code most w → (n : ℤ) → read spot (write s.typed.cells spot n w.memory.cells) ≡ wrap j n

  -- the instruction that adds 1 or takes 1
  bump_row : (up : Bool) (k : Kind) (m : Machine) (x : ℤ) (stack : List ℤ) →
      row code s.closed s.moment m (instr.Bin (bump_op up) k) (pos 1 ∷ x ∷ stack) ≡ goes_on m (bumped up k x ∷ stack)
  bump_row true k m x stack = refl
  bump_row false k m x stack = refl

  -- 1 and the operator, on the number on top
  bump_runs : (up : Bool) (k : Kind) (p depth depth' : ℕ) (rest : Listing) (x : ℤ) (stack : List ℤ) (calls : List ℕ) (w : World Memory) →
      StandsAt code p ((instr.Push (pos 1), depth) ∷ (instr.Bin (bump_op up) k, depth') ∷ rest) →
      Comes code s.closed s.moment (machine_at p (x ∷ stack) calls w) (machine_at (p + 1 + 1) (bumped up k x ∷ stack) calls w)
  bump_runs up k p depth depth' rest x stack calls w h =
      comes_on code s.closed s.moment
      (one_moves code s.closed s.moment p (p + 1) (x ∷ stack) (pos 1 ∷ x ∷ stack) calls w (instr.Push (pos 1)) h.0.0 refl)
      (one_moves code s.closed s.moment (p + 1) (p + 1 + 1) (pos 1 ∷ x ∷ stack) (bumped up k x ∷ stack) calls w (instr.Bin (bump_op up) k) h.1.0.0
      (bump_row up k (machine_at (p + 1) (pos 1 ∷ x ∷ stack) calls w) x stack))

  -- what adding 1 to a spot means, or taking 1 from it
  abbrev pub bumps : Spot → Bool → Kind → Bool → World Memory → Run Memory ℤ
  bumps spot up k post w = and_then (reads spot w) (λ old w. and_then (operates (if up then Add else Sub) k old (pos 1) w) (λ new w.
      run_map (λ now. if post then old else now) (stores s spot new w)))

  -- it does not fail
  bumps_is : (spot : Spot) (up : Bool) (k : Kind) (post : Bool) (w : World Memory) →
      bumps spot up k post w ≡ run_map (λ now. if post then read spot w.memory.cells else now) (stores s spot (bumped up k (read spot w.memory.cells)) w)
  bumps_is spot true k post w = refl
  bumps_is spot false k post w = refl

  module _ (reading writing : Instr) (spot : Spot) (direct : Direct code s most reading writing spot) (up : Bool) (k : Kind) where
    -- the number as it is then, at a place without an index
    bump_before : Mean code s.closed s.moment most
        (codes_by_value (λ place depth. (reading, depth) ∷ (instr.Push (pos 1), depth + 1) ∷ (instr.Bin (bump_op up) k, depth + 2) ∷ (writing, depth + 1) ∷ []))
        (by_value (0 + (0 + (4 + 0)))) (bumps spot up k false)
    bump_before = means_by_value code s.closed s.moment most _ _ _ (λ place depth. refl)
        (λ place depth stack calls w fit h.
        let c = s.closed in
        let t = s.moment in
        let old = read spot w.memory.cells in
        let m = machine_at place stack calls w in
        subst (λ run. Arrives code c t m (λ v after. machine_at (place + 4) (v ∷ stack) calls after) run) (sym (bumps_is spot up k false w))
        (at_place code c t (place + 1 + 1 + 1 + 1) (place + 4) (omega arith)
        (comes_on code c t (direct.reads_it place stack calls w fit h.0.0)
        (comes_on code c t (bump_runs up k (place + 1) (depth + 1) (depth + 2) ((writing, depth + 1) ∷ []) old stack calls w h.1)
        (direct.stores_it (place + 1 + 1 + 1) (bumped up k old) stack calls w fit h.1.1.1.0.0)))))

    -- the number as it was
    bump_after : Mean code s.closed s.moment most
        (codes_by_value (λ place depth. (reading, depth) ∷ (instr.Dup, depth + 1) ∷ (instr.Push (pos 1), depth + 2) ∷ (instr.Bin (bump_op up) k, depth + 3) ∷
        (writing, depth + 2) ∷ (instr.Drop, depth + 2) ∷ []))
        (by_value (0 + (0 + (4 + 2)))) (bumps spot up k true)
    bump_after = means_by_value code s.closed s.moment most _ _ _ (λ place depth. refl)
        (λ place depth stack calls w fit h.
        let c = s.closed in
        let t = s.moment in
        let old = read spot w.memory.cells in
        let new = bumped up k old in
        let cells = write s.typed.cells spot new w.memory.cells in
        let m = machine_at place stack calls w in
        let p = place + 1 + 1 + 1 + 1 in
        subst (λ run. Arrives code c t m (λ v after. machine_at (place + 6) (v ∷ stack) calls after) run) (sym (bumps_is spot up k true w))
        (at_place code c t (p + 1 + 1) (place + 6) (omega arith)
        (comes_on code c t (direct.reads_it place stack calls w fit h.0.0)
        (comes_on code c t (one_moves code c t (place + 1) (place + 1 + 1) (old ∷ stack) (old ∷ old ∷ stack) calls w instr.Dup h.1.0.0 refl)
        (comes_on code c t (bump_runs up k (place + 1 + 1) (depth + 2) (depth + 3) ((writing, depth + 2) ∷ (instr.Drop, depth + 2) ∷ []) old (old ∷ stack) calls w h.1.1)
        (comes_on code c t (direct.stores_it p new (old ∷ stack) calls w fit h.1.1.1.1.0.0)
        (one_moves code c t (p + 1) (p + 1 + 1) (read spot cells ∷ old ∷ stack) (old ∷ stack) calls (with_cells cells w) instr.Drop h.1.1.1.1.1.0.0 refl)))))))

    -- at a place without an index
    pub bump_direct : (post : Bool) → Mean code s.closed s.moment most
        (codes_by_value (λ place depth. if post
        then (reading, depth) ∷ (instr.Dup, depth + 1) ∷ (instr.Push (pos 1), depth + 2) ∷ (instr.Bin (bump_op up) k, depth + 3) ∷
        (writing, depth + 2) ∷ (instr.Drop, depth + 2) ∷ []
        else (reading, depth) ∷ (instr.Push (pos 1), depth + 1) ∷ (instr.Bin (bump_op up) k, depth + 2) ∷ (writing, depth + 1) ∷ []))
        (by_value (0 + (0 + (4 + (if post then 2 else 0))))) (bumps spot up k post)
    bump_direct true = bump_after
    bump_direct false = bump_before

  module _ (reading writing : Instr) (len : ℕ) (spot : ℕ → Spot) (indexed : Indexed code s most reading writing len spot) (up : Bool) (k j : Kind) where
    -- the code that undoes it, where the number as it was is given
    abbrev undoing : Bool → ℕ → Listing
    undoing post depth = if post then (instr.Push (pos 1), depth + 1) ∷ (instr.Bin (bump_op (not up)) j, depth + 2) ∷ [] else []

    -- the code behind an index
    abbrev at_index : Bool → ℕ → Listing
    at_index post depth = (instr.Dup, depth + 1) ∷ (reading, depth + 2) ∷ (instr.Push (pos 1), depth + 2) ∷
        (instr.Bin (bump_op up) k, depth + 3) ∷ (writing, depth + 2) ∷ undoing post depth

    -- behind an index that is one, up to the store
    up_to_store : (post : Bool) (i : ℤ) (n : ℕ) → ((w : World Memory) (spot : ℕ → Spot) → indexing len i w spot ≡ Gives (spot n) w) →
        (p depth : ℕ) (stack : List ℤ) (calls : List ℕ) (w : World Memory) → IsFit code most w → StandsAt code p (at_index post depth) →
        Arrives code s.closed s.moment (machine_at p (i ∷ stack) calls w) (λ v after. machine_at (p + 5) (v ∷ stack) calls after)
        (stores s (spot n) (bumped up k (read (spot n) w.memory.cells)) w)
    up_to_store post i n is p depth stack calls w fit h =
        let c = s.closed in
        let t = s.moment in
        let old = read (spot n) w.memory.cells in
        at_place code c t (p + 1 + 1 + 1 + 1 + 1) (p + 5) (omega arith)
        (comes_on code c t (reads_inside code s most reading writing len spot indexed p i stack calls w fit h.0.0 h.1.0.0 n is)
        (comes_on code c t (bump_runs up k (p + 1 + 1) (depth + 2) (depth + 3) ((writing, depth + 2) ∷ undoing post depth) old (i ∷ stack) calls w h.1.1)
        (storing_inside code s most reading writing len spot indexed i n is stack (p + 1 + 1 + 1 + 1) (bumped up k old) calls w fit h.1.1.1.1.0.0)))

    -- behind an index that is one
    inside_bumps : (post : Bool) → (post ≡ true → width j ≤ width k) → (i : ℤ) (n : ℕ) → (post ≡ true → IsOfKind j (spot n)) →
        ((w : World Memory) (spot : ℕ → Spot) → indexing len i w spot ≡ Gives (spot n) w) →
        (p end depth : ℕ) → p + (1 + (4 + (if post then 2 else 0))) ≡ end →
        (stack : List ℤ) (calls : List ℕ) (w : World Memory) → IsFit code most w → StandsAt code p (at_index post depth) →
        Arrives code s.closed s.moment (machine_at p (i ∷ stack) calls w) (λ v after. machine_at end (v ∷ stack) calls after) (bumps (spot n) up k post w)
    inside_bumps false narrow i n kinds is p end depth e stack calls w fit h =
        subst (λ run. Arrives code s.closed s.moment (machine_at p (i ∷ stack) calls w) (λ v after. machine_at end (v ∷ stack) calls after) run)
        (sym (bumps_is (spot n) up k false w))
        (at_place code s.closed s.moment (p + 5) end (omega (arith, e)) (up_to_store false i n is p depth stack calls w fit h))
    inside_bumps true narrow i n kinds is p end depth e stack calls w fit h =
        let c = s.closed in
        let t = s.moment in
        let old = read (spot n) w.memory.cells in
        let new = bumped up k old in
        let cells = write s.typed.cells (spot n) new w.memory.cells in
        let now = read (spot n) cells in
        let m = machine_at p (i ∷ stack) calls w in
        let back : bumped (not up) j now ≡ old =
        ap (bumped (not up) j) ((kinds refl).stored w fit new) ∙ undone up j k old (narrow refl) ((kinds refl).held w fit) in
        subst (λ run. Arrives code c t m (λ v after. machine_at end (v ∷ stack) calls after) run) (sym (bumps_is (spot n) up k true w))
        (subst (λ v. Comes code c t m (machine_at end (v ∷ stack) calls (with_cells cells w))) back
        (at_place code c t (p + 5 + 1 + 1) end (omega (arith, e))
        (comes_on code c t (up_to_store true i n is p depth stack calls w fit h)
        (bump_runs (not up) j (p + 5) (depth + 1) (depth + 2) [] now stack calls (with_cells cells w)
        (subst (λ q. StandsAt code q ((instr.Push (pos 1), depth + 1) ∷ (instr.Bin (bump_op (not up)) j, depth + 2) ∷ []))
        (let five : p + 1 + 1 + 1 + 1 + 1 ≡ p + 5 = omega arith in five) h.1.1.1.1.1)))))

    -- behind an index
    index_bumps : (post : Bool) → (post ≡ true → width j ≤ width k) → (post ≡ true → (n : ℕ) → n < len → IsOfKind j (spot n)) → (i : ℤ) → Indexes len i →
        (p end depth : ℕ) → p + (1 + (4 + (if post then 2 else 0))) ≡ end →
        (stack : List ℤ) (calls : List ℕ) (w : World Memory) → IsFit code most w → StandsAt code p (at_index post depth) →
        Arrives code s.closed s.moment (machine_at p (i ∷ stack) calls w) (λ v after. machine_at end (v ∷ stack) calls after)
        (and_then (indexing len i w spot) (λ spot w. bumps spot up k post w))
    index_bumps post narrow kinds i (Inside n below is rows) p end depth e stack calls w fit h =
        subst (λ run. Arrives code s.closed s.moment (machine_at p (i ∷ stack) calls w) (λ v after. machine_at end (v ∷ stack) calls after)
        (and_then run (λ spot w. bumps spot up k post w))) (sym (is w spot))
        (inside_bumps post narrow i n (λ yes. kinds yes n below) is p end depth e stack calls w fit h)
    index_bumps post narrow kinds i (Outside is rows) p end depth e stack calls w fit h =
        subst (λ run. Arrives code s.closed s.moment (machine_at p (i ∷ stack) calls w) (λ v after. machine_at end (v ∷ stack) calls after)
        (and_then run (λ spot w. bumps spot up k post w))) (sym (is w spot))
        (reads_outside code s most reading writing len spot indexed p i stack calls w fit h.0.0 h.1.0.0 is)

    index_long : (post : Bool) (depth : ℕ) → length (at_index post depth) ≡ 1 + (4 + (if post then 2 else 0))
    index_long true depth = refl
    index_long false depth = refl

    -- at a place with an index
    pub bump_indexed : (ci : Codes) (zi : Sizes) (index : Computes Memory) → Mean code s.closed s.moment most ci zi index →
        (post : Bool) → (post ≡ true → width j ≤ width k) → (post ≡ true → (n : ℕ) → n < len → IsOfKind j (spot n)) →
        Mean code s.closed s.moment most
        (codes_by_value (λ place depth. ci.value place depth ++ at_index post depth))
        (by_value (zi.value + (1 + (4 + (if post then 2 else 0)))))
        (λ w. and_then (and_then (index w) (λ i w. indexing len i w spot)) (λ spot w. bumps spot up k post w))
    bump_indexed ci zi index index_means post narrow kinds = means_by_value code s.closed s.moment most _ _ _
        (λ place depth. both_long _ _ _ _ (index_means.fits.value place depth) (index_long post depth))
        (λ place depth stack calls w fit h.
        let m = machine_at place stack calls w in
        let p = place + zi.value in
        let end = place + (zi.value + (1 + (4 + (if post then 2 else 0)))) in
        let xs = ci.value place depth in
        let ys = at_index post depth in
        subst (λ run. Arrives code s.closed s.moment m (λ v after. machine_at end (v ∷ stack) calls after) run)
        (sym (and_then_again (index w) (λ i w. indexing len i w spot) (λ spot w. bumps spot up k post w)))
        (arrives_then code s.closed s.moment m (λ i after. machine_at p (i ∷ stack) calls after) (λ v after. machine_at end (v ∷ stack) calls after)
        (index w) (λ i w. and_then (indexing len i w spot) (λ spot w. bumps spot up k post w))
        (index_means.value place depth stack calls w fit (stands_front code place xs ys h))
        (λ i w1 r. index_bumps post narrow kinds i (indexes len i) p end depth (omega arith) stack calls w1 (still_fit code s.closed s.moment fit r)
        (stands_back code place zi.value xs ys (index_means.fits.value place depth) h))))
