-- The functions of the code of a sound program cover it, and each of their places keeps its rule.
use Rattle.std.proofs.Common.{◌≡◌, ℕ, zero, suc, ◌+◌, ◌<◌, ◌≤◌, false, List, [], ◌∷◌, ◌++◌, length, Some, slice_get, refl, sym, ap, ◌∙◌, subst, arith, length-append}
use Rattle.std.specs.Prelude.{is_some, map, All, option_map}
use Rattle.std.specs.Option.{option_map_or}
use Rattle.std.proofs.lemmas.List.{length-map}
use Rattle.std.proofs.lemmas.Option.{get_or_from_slice_get, slice_get-map, slice_get_within}
use Rattle.bytecode.specs.declared.code.Code.{Code}
use Rattle.bytecode.specs.declared.code.Fun.{Fun}
use Rattle.bytecode.specs.declared.instr.Instr.{Instr}
use Rattle.bytecode.specs.Rule.{IsIn, KeepsRule}
use Rattle.bytecode.specs.Shape.{numbers_given}
use Rattle.bytecode.specs.Verified.{Cover, IsLaidOut, KeepsAllRules}
use Rattle.bytecode.proofs.ListItems.{Item, item_below}
use Rattle.typed_tree.specs.declared.program.TFun.{TFun}
use Rattle.typed_tree.specs.declared.program.THandler.{THandler}
use Rattle.typed_tree.specs.declared.program.Typed.{Typed}
use Rattle.typed_tree.specs.Size.{size}
use Rattle.typed_tree.specs.Sound.{IsSound, IsSoundHandler, in_function, in_handler}
use Rattle.code_listing.specs.Program.{IsCodeOf, Procedure, function_table, place_behind, procedure_code, procedures_code, procedures_of, program_code}
use Rattle.code_listing.specs.Runs.{StandsAt}
use Rattle.code_listing.proofs.ProgramSizes.{procedure_long, program_long}
use Rattle.code_listing.proofs.ProgramStands.{Listed, function_listed, in_code}
use Rattle.code_verified.proofs.Instructions.{Suits}
use Rattle.code_verified.proofs.Places.{Kept, Site}
use Rattle.code_verified.proofs.Procedures.{IsSoundProcedure, procedure_kept}

-- what holds of all items holds of one
pub all_at : {A : Type 0} (P : A → Type 0) (xs : List A) → All P xs → (k : ℕ) (x : A) → slice_get xs k ≡ Some x → P x
all_at P xs h k x e =
    subst P (get_or_from_slice_get xs k x x e) (h k x (slice_get_within xs k x e))

-- a function of the code of a program is not empty, and each of its places keeps its rule
pub record IsKept (code : Code) (number : ℕ) (function : Fun) : Type 0 where
  pub nonempty : function.start < function.end
  pub keeps : (place : ℕ) → IsIn function place → (instr : Instr) (depth : ℕ) →
      slice_get code.instrs place ≡ Some instr → slice_get code.depths place ≡ Some depth →
      KeepsRule code number function place instr depth

-- an item of what two functions make of lists is what one of them makes of an item, of this number or of one that
-- many lower
data Made {A B C : Type 0} (f : A → C) (g : B → C) (xs : List A) (ys : List B) (number : ℕ) (z : C) : Type 0 where
  front : (x : A) → slice_get xs number ≡ Some x → f x ≡ z → Made f g xs ys number z
  back : (i : ℕ) (y : B) → slice_get ys i ≡ Some y → g y ≡ z → length xs ≤ number → Made f g xs ys number z

made : {A B C : Type 0} (f : A → C) (g : B → C) (xs : List A) (ys : List B) (number : ℕ) (z : C) →
    slice_get (map f xs ++ map g ys) number ≡ Some z → Made f g xs ys number z
made f g [] ys number z e =
    let below : number < length ys = omega (arith, slice_get_within (map g ys) number z e, length-map ys g) in
    let item = item_below ys number below in
    let same : Some (g item.item) ≡ Some z = sym (slice_get-map g ys number ∙ ap (option_map g) item.is_there) ∙ e in
    back number item.item item.is_there (cc) (omega arith)
made f g (x ∷ xs) ys zero z e = front x refl (cc)
made f g (x ∷ xs) ys (suc number) z e = elim (made f g xs ys number z e) [
  | front x' at same ↦ front x' at same
  | back i y at same behind ↦ back i y at same (omega (arith, behind))
]

-- a function ends no later than the code of all
end_within : (typed : Typed) (all : List Procedure) (place number : ℕ) (function : Fun) →
    slice_get (function_table typed all place) number ≡ Some function →
    function.end ≤ place + length (procedures_code typed all place)
end_within typed [] place number function e = absurd (cc)
end_within typed (p ∷ rest) place zero function e =
    let behind : ℕ = place_behind typed p place in
    let first : Fun = record { start = place; end = behind; gives = p.gives } in
    let same : first ≡ function = cc in
    let end : behind ≡ function.end = ap (λ (f : Fun). f.end) same in
    omega (
      arith,
      end,
      length-append (procedure_code typed p place) (procedures_code typed rest behind),
      procedure_long typed p place,
    )
end_within typed (p ∷ rest) place (suc number) function e =
    let behind : ℕ = place_behind typed p place in
    omega (
      arith,
      end_within typed rest behind number function e,
      length-append (procedure_code typed p place) (procedures_code typed rest behind),
      procedure_long typed p place,
    )

-- functions that are not empty cover the code of all
covers : (typed : Typed) (all : List Procedure) (place end : ℕ) →
    end ≡ place + length (procedures_code typed all place) →
    ((number : ℕ) (function : Fun) → slice_get (function_table typed all place) number ≡ Some function →
    function.start < function.end) → Cover place (function_table typed all place) end
covers typed [] place end e h = omega (arith, e)
covers typed (p ∷ rest) place end e h =
    let behind : ℕ = place_behind typed p place in (
      refl,
      h 0 (record { start = place; end = behind; gives = p.gives }) refl,
      covers typed rest behind end (omega (
        arith,
        e,
        length-append (procedure_code typed p place) (procedures_code typed rest behind),
        procedure_long typed p place,
      )) (λ number function is. h (suc number) function is),
    )

-- there are as many functions as procedures
table_long : (typed : Typed) (all : List Procedure) (place : ℕ) → length (function_table typed all place) ≡ length all
table_long typed [] place = refl
table_long typed (p ∷ rest) place = ap suc (table_long typed rest (place_behind typed p place))

module _ (typed : Typed) (code : Code) (sound : IsSound typed) (few : size typed ≤ 1000000) (is : IsCodeOf typed code) where
  -- each procedure is sound
  sound_procedure : (number : ℕ) (procedure : Procedure) → slice_get (procedures_of typed) number ≡ Some procedure →
      IsSoundProcedure typed number procedure
  sound_procedure number procedure e = elim (made
      (λ (function : TFun). record { gives = is_some function.gives; body = function.body })
      (λ (handler : THandler). record { gives = false; body = handler.body }) typed.functions typed.handlers number procedure e) [
        | front function at same ↦ subst (λ (p : Procedure). IsSoundProcedure typed number p) same (record {
          around = in_function number function;
          calls = omega arith;
          gives = refl;
          not_breakable = refl;
          not_continuable = refl;
          statements = (sound.functions number function at).statements;
        })
        | back i handler at same behind ↦ subst (λ (p : Procedure). IsSoundProcedure typed number p) same (record {
          around = in_handler (length typed.functions);
          calls = behind;
          gives = refl;
          not_breakable = refl;
          not_continuable = refl;
          statements = (all_at (IsSoundHandler typed) typed.handlers sound.handlers i handler at).statements;
        })
      ]

  -- the number of instructions
  pub instrs_long : length code.instrs ≡ size typed
  instrs_long = ap length is.instrs ∙ length-map (program_code typed) (λ (x : Instr × ℕ). x.0) ∙ program_long typed

  -- and there are as many depths
  pub depths_long : length code.depths ≡ size typed
  depths_long = ap length is.depths ∙ length-map (program_code typed) (λ (x : Instr × ℕ). x.1) ∙ program_long typed

  -- the code has the tables of the program
  suits : (number : ℕ) (function : Fun) (small : function.end ≤ 1000000) (below : ℕ) → below ≤ number →
      Suits typed (record { code = code; number = number; function = function; small = small }) below
  suits number function small below calls = record {
    cells = is.cells;
    timers = is.timers;
    formats = is.formats;
    calls = calls;
    gives = λ f callee at.
        let listed = function_listed code typed is f callee at in
        ap (λ o. option_map_or numbers_given o 0) listed.listed;
    params = λ f callee at. (sound.functions f callee at).params_exist;
  }

  -- each function of the code is kept
  pub function_kept : (number : ℕ) (function : Fun) → slice_get code.functions number ≡ Some function →
      IsKept code number function
  function_kept number function e =
      let at : slice_get (function_table typed (procedures_of typed) 0) number ≡ Some function =
      ap (λ fs. slice_get fs number) (sym is.functions) ∙ e in
      let below : number < length (procedures_of typed) = omega (
        arith,
        slice_get_within (function_table typed (procedures_of typed) 0) number function at,
        table_long typed (procedures_of typed) 0,
      ) in
      let item : Item (procedures_of typed) number = item_below (procedures_of typed) number below in
      let procedure : Procedure = item.item in
      let listed : Listed code typed code.functions number procedure =
      in_code code typed is number procedure item.is_there in
      let table : Fun = record { start = listed.start; end = listed.end; gives = procedure.gives } in
      let found : Some table ≡ Some function = sym listed.listed ∙ e in
      let same : table ≡ function = cc in
      let small : function.end ≤ 1000000 = omega (
        arith,
        end_within typed (procedures_of typed) 0 number function at,
        program_long typed,
      ) in
      let s : Site = record { code = code; number = number; function = function; small = small } in
      let law : IsSoundProcedure typed number procedure = sound_procedure number procedure item.is_there in
      let starts : listed.start ≡ function.start = ap (λ (f : Fun). f.start) same in
      let ends : function.end ≡ place_behind typed procedure function.start =
      omega (arith, ap (λ (f : Fun). f.end) same, listed.ends, starts) in
      let gives : procedure.gives ≡ function.gives = ap (λ (f : Fun). f.gives) same in
      let kept : Kept s function.start function.end 0 = procedure_kept typed s procedure law
      (record { tables = suits number function small law.around.number law.calls; gives = law.gives ∙ gives }) gives
      (subst (λ p. StandsAt code p (procedure_code typed procedure p)) starts listed.stands) ends in
      record {
        nonempty = kept.first.below;
        keeps = λ place inside instr depth stands deep.
            kept.keep.at place inside.from inside.below instr depth (stands, deep);
      }

  -- the functions cover the code
  pub laid_out : IsLaidOut code
  laid_out = record {
    covered = subst (λ (fs : List Fun). Cover 0 fs (length code.instrs)) (sym is.functions)
        (covers typed (procedures_of typed) 0 (length code.instrs)
        (omega (arith, instrs_long, program_long typed))
        (λ number function e. (function_kept number function (ap (λ fs. slice_get fs number) is.functions ∙ e)).nonempty));
    depths = depths_long ∙ sym instrs_long;
  }

  -- each place keeps its rule
  pub places_keep : KeepsAllRules code
  places_keep = λ place below number function instr depth is_function inside stands deep.
      (function_kept number function is_function).keeps place inside instr depth stands deep
