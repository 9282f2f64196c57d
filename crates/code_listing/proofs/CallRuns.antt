-- The code of a call stores the arguments in the parameters and runs the function, where the function's code does what its
-- call means.
use mathlib.Core.Former.{Count}
use Rattle.std.proofs.Common.{◌≡◌, ℕ, suc, ◌+◌, ◌*◌, ◌<◌, List, [], ◌∷◌, ◌++◌, length, Some, slice_get, refl, sym, ap, ◌∙◌, arith}
use Rattle.std.specs.Prelude.{ℤ, ⊤}
use Rattle.std.specs.List.{AllByRecursion}
use Rattle.bytecode.specs.declared.code.Code.{Code}
use Rattle.bytecode.specs.declared.instr.Instr.TheVariants as instr
use Rattle.control_flow.specs.World.{World, and_then}
use Rattle.control_flow.specs.Control.{Calls}
use Rattle.typed_tree.specs.declared.expression.TExpr.{TExpr, Row_of-TExpr, end_of-TExpr, more_of-TExpr, items-the_row-TExpr}
use Rattle.typed_tree.specs.declared.expression.TExpr.TheVariants.{Call'}
use Rattle.typed_tree.specs.Expression.{Setting, calling, params_of, value_of, values_of, with_arguments}
use Rattle.typed_tree.specs.Memory.{Memory, with_cells}
use Rattle.typed_tree.specs.Size.{args_size, sizes_of}
use Rattle.code_listing.specs.Expression.{args_code, codes_of, params_code}
use Rattle.code_listing.specs.Listing.{Listing}
use Rattle.code_listing.specs.Runs.{Arrives, Comes, Follows, FunctionMeans, IsFit, StandsAt, machine_at}
use Rattle.int_kinds.specs.declared.kinds.Kind.{Kind}
use Rattle.code_listing.proofs.ExpressionRuns.{Means}
use Rattle.code_listing.proofs.ExpressionSizes.{args_long, both_long, params_long}
use Rattle.code_listing.proofs.MachineRuns.{at_place, comes_on, follows_from, follows_then, one_moves, stands_back, stands_front, stays}
use Rattle.code_listing.proofs.PartRuns.{arrives_from, arrives_on}
use Rattle.code_listing.proofs.PlaceRuns.{cell_stores}
use Rattle.code_listing.proofs.TestRuns.{means_by_value, still_fit}

-- numbers on a stack, the first one lowest
abbrev pub pushed : List ℤ → List ℤ → List ℤ
pushed [] stack = stack
pushed (n ∷ ns) stack = pushed ns (n ∷ stack)

-- how many arguments there are
abbrev pub args_count : {m : Count} → Row_of-TExpr m → ℕ
args_count end_of-TExpr = 0
args_count (more_of-TExpr e rest) = suc (args_count rest)

module _ (code : Code) (s : Setting) (same : code.cells ≡ s.typed.cells) (call : Calls Memory) (most : ℕ) where
  -- the arguments on the stack are stored in the parameters
  params_run : (params : List ℕ) (ns : List ℤ) (place depth : ℕ) (stack : List ℤ) (calls : List ℕ) (w : World Memory) →
      IsFit code most w → length params ≡ length ns → AllByRecursion (λ p. p < length code.cells) params →
      StandsAt code place (params_code params depth) →
      Comes code s.closed s.moment (machine_at place (pushed ns stack) calls w)
      (machine_at (place + 2 * length params) stack calls (with_cells (with_arguments s.typed.cells params ns w.memory.cells) w))
  params_run [] [] place depth stack calls w fit long all h = at_place code s.closed s.moment place (place + 2 * 0) (omega arith) (stays code s.closed s.moment _)
  params_run [] (n ∷ ns) place depth stack calls w fit long all h = absurd (omega (arith, long))
  params_run (p ∷ ps) [] place depth stack calls w fit long all h = absurd (omega (arith, long))
  params_run (p ∷ ps) (n ∷ ns) place depth stack calls w fit long all h =
      let xs = params_code ps (depth + 1) in
      let last : Listing = (instr.Store p, depth + 1) ∷ (instr.Drop, depth + 1) ∷ [] in
      let q = place + 2 * length ps in
      let at = stands_back code place (2 * length ps) xs last (params_long ps (depth + 1)) h in
      let w1 = with_cells (with_arguments s.typed.cells ps ns w.memory.cells) w in
      let r = params_run ps ns place (depth + 1) (n ∷ stack) calls w fit (omega (arith, long)) all.1 (stands_front code place xs last h) in
      let st = cell_stores code s same most p q n (n ∷ stack) stack calls w1 (instr.Store p) (still_fit code s.closed s.moment fit r) all.0 at.0.0 refl in
      at_place code s.closed s.moment (q + 1 + 1) (place + 2 * length (p ∷ ps)) (omega arith)
      (comes_on code s.closed s.moment r (comes_on code s.closed s.moment st
      (one_moves code s.closed s.moment (q + 1) (q + 1 + 1) _ stack calls _ instr.Drop at.1.0.0 refl)))

  -- the code of arguments leaves their numbers on the stack
  abbrev pub ArgsMean : {m : Count} → Row_of-TExpr m → Type 0
  ArgsMean args = (place depth : ℕ) (stack : List ℤ) (calls : List ℕ) (w : World Memory) → IsFit code most w →
      StandsAt code place (args_code s.typed args place depth) →
      Follows code s.closed s.moment (machine_at place stack calls w)
      (λ ns after. (length ns ≡ args_count args) × Comes code s.closed s.moment (machine_at place stack calls w)
      (machine_at (place + args_size s.typed args) (pushed ns stack) calls after)) (values_of s call args w)

  -- no arguments
  pub no_args : ArgsMean end_of-TExpr
  no_args = λ place depth stack calls w fit h. (refl, at_place code s.closed s.moment place (place + 0) (omega arith) (stays code s.closed s.moment _))

  -- one more argument
  pub more_args : {m : Count} (e : TExpr) (rest : Row_of-TExpr m) → Means code s call most e → ArgsMean rest → ArgsMean (more_of-TExpr e rest)
  more_args e rest means further = λ place depth stack calls w fit h.
      let z = (sizes_of s.typed e).value in
      let m = machine_at place stack calls w in
      let xs = (codes_of s.typed e).value place depth in
      let ys = args_code s.typed rest (place + z) (depth + 1) in
      let len : place + z + args_size s.typed rest ≡ place + (z + args_size s.typed rest) = omega arith in
      follows_then code s.closed s.moment m _ _ (value_of s call e w) _ (means.value place depth stack calls w fit (stands_front code place xs ys h))
      (λ n w1 r. follows_then code s.closed s.moment m _ _ (values_of s call rest w1) _
      (follows_from code s.closed s.moment m (machine_at (place + z) (n ∷ stack) calls w1) _
      (λ ns after. (length ns ≡ args_count rest) × Comes code s.closed s.moment m (machine_at (place + z + args_size s.typed rest) (pushed ns (n ∷ stack)) calls after))
      (values_of s call rest w1) r (λ ns after g. (g.0, comes_on code s.closed s.moment r g.1))
      (further (place + z) (depth + 1) (n ∷ stack) calls w1 (still_fit code s.closed s.moment fit r)
      (stands_back code place z xs ys (means.fits.value place depth) h)))
      (λ ns after g. (ap suc g.0, at_place code s.closed s.moment _ _ len g.1)))

  -- the arguments, their stores in the parameters, and the call, which leaves a stack
  pub call_runs : (f : ℕ) {m : Count} (args : Row_of-TExpr m) → args_count args ≡ length (params_of s.typed f) →
      AllByRecursion (λ p. p < length code.cells) (params_of s.typed f) → ArgsMean args →
      (left : ℤ → List ℤ) (place end depth depth' : ℕ) → place + (args_size s.typed args + (2 * length (params_of s.typed f) + 1)) ≡ end →
      (stack : List ℤ) (calls : List ℕ) (w : World Memory) → IsFit code most w →
      ((p : ℕ) (w : World Memory) → IsFit code most w → slice_get code.instrs p ≡ Some (instr.Call f) →
      Arrives code s.closed s.moment (machine_at p stack calls w) (λ n after. machine_at (p + 1) (left n) calls after) (call f w)) →
      StandsAt code place (args_code s.typed args place depth ++ (params_code (params_of s.typed f) depth ++ (instr.Call f, depth') ∷ [])) →
      Arrives code s.closed s.moment (machine_at place stack calls w) (λ n after. machine_at end (left n) calls after)
      (and_then (values_of s call args w) (calling s call f))
  call_runs f args count there means left place end depth depth' e stack calls w fit runs h =
      let m = machine_at place stack calls w in
      let params = params_of s.typed f in
      let k = args_size s.typed args in
      let xs = args_code s.typed args place depth in
      let ys = params_code params depth in
      let last : Listing = (instr.Call f, depth') ∷ [] in
      let p = place + k + 2 * length params in
      let h1 = stands_back code place k xs (ys ++ last) (args_long s.typed args place depth) h in
      let at = stands_back code (place + k) (2 * length params) ys last (params_long params depth) h1 in
      follows_then code s.closed s.moment m _ _ (values_of s call args w) (calling s call f)
      (means place depth stack calls w fit (stands_front code place xs (ys ++ last) h))
      (λ ns w1 g.
      let fit1 = still_fit code s.closed s.moment fit g.1 in
      let w2 = with_cells (with_arguments s.typed.cells params ns w1.memory.cells) w1 in
      let r = comes_on code s.closed s.moment g.1 (params_run params ns (place + k) depth stack calls w1 fit1 (sym count ∙ sym g.0) there
      (stands_front code (place + k) ys last h1)) in
      arrives_from code s.closed s.moment m (machine_at p stack calls w2) (λ n after. machine_at end (left n) calls after) (call f w2) r
      (arrives_on code s.closed s.moment (machine_at p stack calls w2) (λ n after. machine_at (p + 1) (left n) calls after)
      (λ n after. machine_at end (left n) calls after) (call f w2) (runs p w2 (still_fit code s.closed s.moment fit r) at.0.0)
      (λ n after q. at_place code s.closed s.moment (p + 1) end (omega (arith, e)) (stays code s.closed s.moment (machine_at (p + 1) (left n) calls after)))))

  -- a call
  pub of_call : (f : ℕ) (k : Kind) (shape : List ⊤) (args : Row_of-TExpr _) → FunctionMeans code s call most (Some k) f → args_count args ≡ length (params_of s.typed f) →
      AllByRecursion (λ p. p < length code.cells) (params_of s.typed f) → ArgsMean args → Means code s call most (Call' f shape args)
  of_call f k shape args runs count there means = means_by_value code s.closed s.moment most _ _ _
      (λ place depth. both_long _ _ _ _ (args_long s.typed args place depth)
      (both_long _ _ _ _ (params_long (params_of s.typed f) depth) refl))
      (λ place depth stack calls w fit h. call_runs f args count there means (λ n. n ∷ stack) place _ depth depth refl stack calls w fit
      (λ p w fit at. runs p stack calls w fit at) h)

-- there are as many as the list of them says
pub args_listed : {m : Count} (args : Row_of-TExpr m) → args_count args ≡ length (items-the_row-TExpr m args)
args_listed end_of-TExpr = refl
args_listed (more_of-TExpr e rest) = ap suc (args_listed rest)
