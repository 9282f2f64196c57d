-- The code of a program holds the code of each of its procedures, at the place that its table says.
use Rattle.std.proofs.Common.{◌≡◌, ℕ, zero, suc, ◌+◌, List, [], ◌∷◌, ◌++◌, length, Some, slice_get, refl, sym, ap, ◌∙◌, subst, arith}
use Rattle.std.specs.Prelude.{false, is_some, map, option_map}
use Rattle.std.proofs.lemmas.Option.{slice_get-map}
use Rattle.bytecode.specs.declared.code.Code.{Code}
use Rattle.bytecode.specs.declared.code.Fun.{Fun}
use Rattle.bytecode.specs.declared.code.Handler.{Handler}
use Rattle.bytecode.specs.declared.instr.Instr.{Instr}
use Rattle.typed_tree.specs.declared.program.TFun.{TFun}
use Rattle.typed_tree.specs.declared.program.THandler.{THandler}
use Rattle.typed_tree.specs.declared.program.Typed.{Typed}
use Rattle.typed_tree.specs.Size.{procedure_size}
use Rattle.code_listing.specs.Listing.{Listing}
use Rattle.code_listing.specs.Program.{IsCodeOf, Procedure, function_table, handler_table, place_behind, procedure_code, procedures_code, procedures_of, program_code}
use Rattle.code_listing.specs.Runs.{StandsAt}
use Rattle.code_listing.proofs.MachineRuns.{stands_back, stands_front}
use Rattle.code_listing.proofs.ProgramSizes.{procedure_long}

-- a listing stands where the code has its items, one behind the other
stands_by : (code : Code) (place : ℕ) (xs : Listing) →
    ((k : ℕ) (x : Instr × ℕ) → slice_get xs k ≡ Some x → (slice_get code.instrs (place + k) ≡ Some x.0) × (slice_get code.depths (place + k) ≡ Some x.1)) →
    StandsAt code place xs
stands_by code place [] h = tt
stands_by code place (x ∷ xs) h =
    let here : place + 0 ≡ place = omega arith in (
      subst (λ p. (slice_get code.instrs p ≡ Some x.0) × (slice_get code.depths p ≡ Some x.1)) here (h 0 x refl),
      stands_by code (place + 1) xs (λ k y e.
          let there : place + suc k ≡ place + 1 + k = omega arith in
          subst (λ p. (slice_get code.instrs p ≡ Some y.0) × (slice_get code.depths p ≡ Some y.1)) there (h (suc k) y e)),
    )

-- the listing of a program stands in its code, from the first place on
pub program_stands : (typed : Typed) (code : Code) → IsCodeOf typed code → StandsAt code 0 (program_code typed)
program_stands typed code is = stands_by code 0 (program_code typed) (λ k x e.
    let here : 0 + k ≡ k = omega arith in
    subst (λ p. (slice_get code.instrs p ≡ Some x.0) × (slice_get code.depths p ≡ Some x.1)) (sym here) (
      ap (λ xs. slice_get xs k) is.instrs ∙ slice_get-map (λ (x : Instr × ℕ). x.0) (program_code typed) k ∙ ap (option_map (λ (x : Instr × ℕ). x.0)) e,
      ap (λ xs. slice_get xs k) is.depths ∙ slice_get-map (λ (x : Instr × ℕ). x.1) (program_code typed) k ∙ ap (option_map (λ (x : Instr × ℕ). x.1)) e,
    ))

-- where a procedure is listed, and its code
pub record Listed (code : Code) (typed : Typed) (table : List Fun) (number : ℕ) (procedure : Procedure) : Type 0 where
  pub start : ℕ
  pub end : ℕ
  pub listed : slice_get table number ≡ Some (record { start = start; end = end; gives = procedure.gives })
  pub ends : end ≡ place_behind typed procedure start
  pub stands : StandsAt code start (procedure_code typed procedure start)

-- each procedure is listed
procedure_listed : (code : Code) (typed : Typed) (all : List Procedure) (place number : ℕ) (procedure : Procedure) →
    slice_get all number ≡ Some procedure → StandsAt code place (procedures_code typed all place) →
    Listed code typed (function_table typed all place) number procedure
procedure_listed code typed [] place number procedure e h = absurd (cc)
procedure_listed code typed (first ∷ rest) place zero procedure e h =
    let same : first ≡ procedure = cc in
    subst (λ (p : Procedure). Listed code typed (function_table typed (first ∷ rest) place) 0 p) same (record {
      start = place;
      end = place_behind typed first place;
      listed = refl;
      ends = refl;
      stands = stands_front code place (procedure_code typed first place) (procedures_code typed rest (place_behind typed first place)) h;
    })
procedure_listed code typed (first ∷ rest) place (suc number) procedure e h =
    let later = procedure_listed code typed rest (place_behind typed first place) number procedure e
    (stands_back code place (procedure_size typed first.gives first.body) (procedure_code typed first place)
    (procedures_code typed rest (place_behind typed first place)) (procedure_long typed first place) h) in
    record { start = later.start; end = later.end; listed = later.listed; ends = later.ends; stands = later.stands }

-- the first of two lists of what functions make of items
pub of_front : {A C : Type 0} (f : A → C) (xs : List A) (ys : List C) (i : ℕ) (x : A) → slice_get xs i ≡ Some x → slice_get (map f xs ++ ys) i ≡ Some (f x)
of_front f [] ys i x e = absurd (cc)
of_front f (x ∷ xs) ys zero x' e = let same : x ≡ x' = cc in ap (λ y. Some (f y)) same
of_front f (x ∷ xs) ys (suc i) x' e = of_front f xs ys i x' e

-- the second of them
pub of_back : {A B C : Type 0} (f : A → C) (g : B → C) (xs : List A) (ys : List B) (i k : ℕ) (y : B) → k ≡ length xs + i → slice_get ys i ≡ Some y →
    slice_get (map f xs ++ map g ys) k ≡ Some (g y)
of_back f g [] ys i k y long e =
    let same : k ≡ i = omega (arith, long) in
    ap (λ p. slice_get (map g ys) p) same ∙ slice_get-map g ys i ∙ ap (option_map g) e
of_back f g (x ∷ xs) ys i zero y long e = absurd (omega (arith, long))
of_back f g (x ∷ xs) ys i (suc k) y long e = of_back f g xs ys i k y (omega (arith, long)) e

module _ (code : Code) (typed : Typed) (is : IsCodeOf typed code) where
  -- a procedure of the program is listed
  pub in_code : (number : ℕ) (procedure : Procedure) → slice_get (procedures_of typed) number ≡ Some procedure → Listed code typed code.functions number procedure
  in_code number procedure e =
      subst (λ (table : List Fun). Listed code typed table number procedure) (sym is.functions)
      (procedure_listed code typed (procedures_of typed) 0 number procedure e (program_stands typed code is))

  -- a function of the program is listed
  pub function_listed : (f : ℕ) (function : TFun) → slice_get typed.functions f ≡ Some function →
      Listed code typed code.functions f (record { gives = is_some function.gives; body = function.body })
  function_listed f function e = in_code f (record { gives = is_some function.gives; body = function.body })
      (of_front (λ (function : TFun). record { gives = is_some function.gives; body = function.body }) typed.functions
      (map (λ (handler : THandler). record { gives = false; body = handler.body }) typed.handlers) f function e)

  -- an event procedure of the program is listed
  pub handler_listed : (number : ℕ) (handler : THandler) → slice_get typed.handlers number ≡ Some handler →
      Listed code typed code.functions (length typed.functions + number) (record { gives = false; body = handler.body })
  handler_listed number handler e = in_code (length typed.functions + number) (record { gives = false; body = handler.body })
      (of_back (λ (function : TFun). record { gives = is_some function.gives; body = function.body })
      (λ (handler : THandler). record { gives = false; body = handler.body }) typed.functions typed.handlers number
      (length typed.functions + number) handler refl e)

  -- the entry of an event procedure that is a function of this number
  abbrev pub entry_of : THandler → ℕ → Handler
  entry_of handler number = record { event = handler.event; function = number; file = handler.file; line = handler.line }

  entry_at : (all : List THandler) (first number : ℕ) (handler : THandler) → slice_get all number ≡ Some handler →
      slice_get (handler_table all first) number ≡ Some (entry_of handler (first + number))
  entry_at [] first number handler e = absurd (cc)
  entry_at (h ∷ all) first zero handler e =
      let same : h ≡ handler = cc in
      let here : first ≡ first + 0 = omega arith in
      ap (λ (x : THandler). Some (entry_of x first)) same ∙ ap (λ (f : ℕ). Some (entry_of handler f)) here
  entry_at (h ∷ all) first (suc number) handler e =
      let here : first + 1 + number ≡ first + suc number = omega arith in
      entry_at all (first + 1) number handler e ∙ ap (λ (f : ℕ). Some (entry_of handler f)) here

  -- the entry of an event procedure of the program
  pub handler_entry : (number : ℕ) (handler : THandler) → slice_get typed.handlers number ≡ Some handler →
      slice_get code.handlers number ≡ Some (entry_of handler (length typed.functions + number))
  handler_entry number handler e =
      ap (λ all. slice_get all number) is.handlers ∙ entry_at typed.handlers (length typed.functions) number handler e

  entries_long : (all : List THandler) (first : ℕ) → length (handler_table all first) ≡ length all
  entries_long [] first = refl
  entries_long (h ∷ all) first = ap suc (entries_long all (first + 1))

  -- there are as many entries as event procedures
  pub handlers_long : length code.handlers ≡ length typed.handlers
  handlers_long = ap length is.handlers ∙ entries_long typed.handlers (length typed.functions)
