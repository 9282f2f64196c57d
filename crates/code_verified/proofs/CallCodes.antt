-- The code of calls keeps the rules where that of the arguments does.
use mathlib.Core.Former.{Count}
use Rattle.std.proofs.Common.{◌≡◌, ℕ, ◌+◌, ◌*◌, ◌<◌, ◌≤◌, true, List, [], ◌∷◌, ◌++◌, length, Option, Some, None, slice_get, refl, sym, ap, subst, arith}
use Rattle.std.specs.Prelude.{is_some, All, IsSomeAnd}
use Rattle.std.specs.Option.{option_map_or}
use Rattle.std.proofs.lemmas.List.Elements.{All-tail}
use Rattle.bytecode.specs.declared.instr.Instr.TheVariants as instr
use Rattle.typed_tree.specs.declared.expression.TExpr.{TExpr, Row_of-TExpr, end_of-TExpr, more_of-TExpr}
use Rattle.typed_tree.specs.declared.program.TFun.{TFun}
use Rattle.typed_tree.specs.declared.program.Typed.{Typed}
use Rattle.typed_tree.specs.Expression.{params_of}
use Rattle.typed_tree.specs.Size.{args_size, one_if, sizes_of}
use Rattle.code_listing.specs.Expression.{args_code, codes_of, params_code}
use Rattle.code_listing.specs.Listing.{Listing}
use Rattle.code_listing.proofs.CallRuns.{args_count}
use Rattle.code_listing.proofs.ExpressionSizes.{args_long, both_long, params_long}
use Rattle.code_listing.specs.Runs.{StandsAt}
use Rattle.code_listing.proofs.MachineRuns.{stands_back, stands_front}
use Rattle.code_verified.proofs.Choices.{value_kept}
use Rattle.code_verified.proofs.Codes.{Begins, LawfulValue, begins_front, value_some}
use Rattle.code_verified.proofs.Instructions.{Suits, cell_there, plain_call, plain_drop, plain_store}
use Rattle.code_verified.proofs.Places.{Keep, Kept, Reached, Site, keep_both, kept_at, kept_both, kept_none, kept_then, reached_at}

-- what is in an option of which something holds
pub some_of : {A : Type 0} (o : Option A) (P : A → Type 0) → IsSomeAnd o P → (x : A) × (o ≡ Some x) × P x
some_of None P h = absurd h
some_of (Some x) P h = (x, refl, h)

-- a listing behind arguments begins where there is none
pub record LawfulArgs (s : Site) (typed : Typed) {m : Count} (args : Row_of-TExpr m) : Type 0 where
  pub room : args_count args ≤ args_size typed args
  pub begins : (place depth : ℕ) (rest : Listing) → (args_count args ≡ 0 → Begins depth rest) →
      Begins depth (args_code typed args place depth ++ rest)
  pub kept : (place depth : ℕ) → StandsAt s.code place (args_code typed args place depth) →
      s.function.start + depth ≤ place → Reached s (place + args_size typed args) (depth + args_count args) →
      Kept s place (place + args_size typed args) depth

module _ (typed : Typed) (s : Site) where
  -- no arguments
  pub lawful_no_args : LawfulArgs s typed end_of-TExpr
  lawful_no_args = record {
    room = omega arith;
    begins = λ place depth rest h. h refl;
    kept = λ place depth stands low after. kept_none s (omega arith) (omega arith) after;
  }

  -- one more argument
  pub lawful_more_args : {m : Count} (e : TExpr) (rest : Row_of-TExpr m) →
      LawfulValue s (codes_of typed e).value (sizes_of typed e).value → LawfulArgs s typed rest →
      LawfulArgs s typed (more_of-TExpr e rest)
  lawful_more_args e rest h k = record {
    room = omega (arith, value_some s h, k.room);
    begins = λ place depth behind none. begins_front depth _ behind
        (begins_front depth ((codes_of typed e).value place depth) _ (h.begins place depth));
    kept = λ place depth stands low after.
        let n : ℕ = (sizes_of typed e).value in
        let right : ℕ = place + n in
        let xs : Listing = (codes_of typed e).value place depth in
        let ys : Listing = args_code typed rest right (depth + 1) in
        let end : right + args_size typed rest ≡ place + (n + args_size typed rest) = omega arith in
        let others : Kept s right (right + args_size typed rest) (depth + 1) =
        k.kept right (depth + 1) (stands_back s.code place n xs ys (h.long place depth) stands)
        (omega (arith, low, value_some s h)) (reached_at s (sym end) (omega arith) after) in
        kept_at s refl end refl (kept_both s
        (value_kept s h place depth (stands_front s.code place xs ys stands) low others.first) others.keep);
  }

module _ (typed : Typed) (s : Site) (below : ℕ) (suits : Suits typed s below) where
  -- arguments that are stored in the parameters
  params_kept : (params : List ℕ) → All (λ param. param < length typed.cells) params → (place depth : ℕ) →
      StandsAt s.code place (params_code params depth) → s.function.start + (depth + length params) ≤ place →
      Reached s (place + 2 * length params) depth → Kept s place (place + 2 * length params) (depth + length params)
  params_kept [] there place depth stands low after = kept_none s (omega arith) (omega arith) after
  params_kept (param ∷ params) there place depth stands low after =
      let n : ℕ = 2 * length params in
      let xs : Listing = params_code params (depth + 1) in
      let last : Listing = (instr.Store param, depth + 1) ∷ (instr.Drop, depth + 1) ∷ [] in
      let at : StandsAt s.code (place + n) last =
      stands_back s.code place n xs last (params_long params (depth + 1)) stands in
      let cell : param < length typed.cells = there 0 param (omega arith) in
      let stored : Kept s (place + n) (place + 2 * length (param ∷ params)) (depth + 1) =
      kept_then s (plain_store s param (cell_there typed s below suits param cell)) at.0 (omega (arith, low)) depth refl refl
      (kept_then s (plain_drop s) at.1.0 (omega (arith, low)) depth refl (omega arith)
      (kept_none s (omega arith) refl after)) in
      let others : Kept s place (place + n) (depth + 1 + length params) =
      params_kept params (All-tail (λ p. p < length typed.cells) param params there) place (depth + 1)
      (stands_front s.code place xs last stands) (omega (arith, low)) stored.first in
      kept_at s refl refl (omega arith) (kept_both s others stored.keep)

  -- the code of a call of a function
  abbrev call_code : ℕ → {m : Count} → Row_of-TExpr m → ℕ → ℕ → Listing
  call_code f args place depth =
      args_code typed args place depth ++ (params_code (params_of typed f) depth ++ (instr.Call f, depth) ∷ [])

  -- a call begins with its depth
  pub call_begins : (f : ℕ) {m : Count} (args : Row_of-TExpr m) → LawfulArgs s typed args →
      args_count args ≡ length (params_of typed f) → (place depth : ℕ) → Begins depth (call_code f args place depth)
  call_begins f args h count place depth =
      h.begins place depth _ (λ none. empty (params_of typed f) (omega (arith, count, none)))
    where
      empty : (params : List ℕ) → length params ≡ 0 → Begins depth (params_code params depth ++ (instr.Call f, depth) ∷ [])
      empty [] e = refl
      empty (param ∷ params) e = absurd (omega (arith, e))

  -- a call of a function, which gives a number or not, keeps the rules
  pub call_keeps : (f : ℕ) (function : TFun) {m : Count} (args : Row_of-TExpr m) → f < below →
      slice_get typed.functions f ≡ Some function → LawfulArgs s typed args →
      args_count args ≡ length (params_of typed f) → (place depth : ℕ) → StandsAt s.code place (call_code f args place depth) →
      s.function.start + depth ≤ place →
      Reached s (place + (args_size typed args + (2 * length (params_of typed f) + 1))) (depth + one_if (is_some function.gives)) →
      Keep s place (place + (args_size typed args + (2 * length (params_of typed f) + 1)))
  call_keeps f function args earlier is h count place depth stands low after =
      let k : ℕ = args_size typed args in
      let params : List ℕ = params_of typed f in
      let n : ℕ = 2 * length params in
      let xs : Listing = args_code typed args place depth in
      let ys : Listing = params_code params depth in
      let last : Listing = (instr.Call f, depth) ∷ [] in
      let end : ℕ = place + (k + (n + 1)) in
      let h1 : StandsAt s.code (place + k) (ys ++ last) =
      stands_back s.code place k xs (ys ++ last) (args_long typed args place depth) stands in
      let h2 : StandsAt s.code (place + k + n) last = stands_back s.code (place + k) n ys last (params_long params depth) h1 in
      let are : function.params ≡ params = sym (ap (λ o. option_map_or (λ (g : TFun). g.params) o []) is) in
      let there : All (λ param. param < length typed.cells) params =
      subst (λ ps. All (λ param. param < length typed.cells) ps) are (suits.params f function is) in
      let called : Kept s (place + k + n) end depth =
      kept_then s (plain_call typed s below suits f function earlier is) h2.0 (omega (arith, low)) depth (omega arith) refl
      (kept_none s (omega arith) refl after) in
      let stored : Kept s (place + k) (place + k + n) (depth + length params) =
      params_kept params there (place + k) depth (stands_front s.code (place + k) ys last h1)
      (omega (arith, low, h.room, count)) called.first in
      let given : Kept s place (place + k) depth =
      h.kept place depth (stands_front s.code place xs (ys ++ last) stands) low
      (reached_at s refl (omega (arith, count)) stored.first) in
      keep_both s given.keep (keep_both s stored.keep called.keep)

  -- a call of a function that gives a number is a value
  pub lawful_call : (f : ℕ) (function : TFun) {m : Count} (args : Row_of-TExpr m) → f < below →
      slice_get typed.functions f ≡ Some function → is_some function.gives ≡ true → LawfulArgs s typed args →
      args_count args ≡ length (params_of typed f) →
      LawfulValue s (call_code f args) (args_size typed args + (2 * length (params_of typed f) + 1))
  lawful_call f function args earlier is gives h count = record {
    long = λ place depth. both_long _ _ _ _ (args_long typed args place depth)
        (both_long _ _ _ _ (params_long (params_of typed f) depth) refl);
    begins = call_begins f args h count;
    keeps = λ place depth stands low after. call_keeps f function args earlier is h count place depth stands low
        (reached_at s refl (ap (λ b. depth + one_if b) (sym gives)) after);
  }
