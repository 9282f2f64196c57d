-- The code of each sound expression does what the expression means, where that of the functions that it calls does what
-- their calls mean.
use mathlib.Core.Former.{Count}
use Rattle.std.proofs.Common.{◌≡◌, ℕ, ◌+◌, ◌<◌, Bool, true, false, List, [], ◌∷◌, ◌++◌, length, Option, Some, None, slice_get, refl, sym, ap, ◌∙◌, subst, arith}
use Rattle.std.specs.Prelude.{ℤ, not, is_some, All, IsSome, IsSomeAnd, ⊤}
use Rattle.std.specs.List.{AllByRecursion}
use Rattle.std.specs.Option.{option_map_or}
use Rattle.std.proofs.lemmas.List.Elements.{recursion_from_All}
use Rattle.int_kinds.specs.declared.kinds.Kind.{Kind}
use Rattle.int_kinds.specs.declared.operators.UnOp.{UnOp}
use Rattle.int_kinds.specs.declared.operators.UnOp.TheVariants.{Minus, Plus, Not, Inv, Up, Down}
use Rattle.bytecode.specs.declared.code.Code.{Code}
use Rattle.bytecode.specs.declared.instr.Instr.TheVariants as instr
use Rattle.control_flow.specs.World.{World, Run, Gives, Fails, and_then}
use Rattle.control_flow.specs.Control.{Calls}
use Rattle.typed_tree.specs.declared.expression.Place.{Place}
use Rattle.typed_tree.specs.declared.expression.Place.TheVariants.{Cell, Signal}
use Rattle.typed_tree.specs.declared.expression.Place.TheVariants as place
use Rattle.typed_tree.specs.declared.expression.TExpr.{TExpr, Row_of-TExpr, end_of-TExpr, more_of-TExpr}
use Rattle.typed_tree.specs.declared.expression.TExpr.TheVariants.{Const, Load, Bump, Call', Active, Now}
use Rattle.typed_tree.specs.declared.program.TFun.{TFun}
use Rattle.typed_tree.specs.declared.program.Typed.{Typed}
use Rattle.typed_tree.specs.declared.statement.TStmt.TheVariants.{Eval}
use Rattle.typed_tree.specs.Expression.{Setting, params_of, spot_of, value_of}
use Rattle.typed_tree.specs.Forms.{Binary, Both, Bytes, Cond, Convert, Either, Elem, Store, Unary, Update}
use Rattle.typed_tree.specs.Memory.{Memory, Spot}
use Rattle.typed_tree.specs.Shape.{is_plain, leaves_number}
use Rattle.typed_tree.specs.Size.{one_if, sizes_of, stmt_size}
use Rattle.typed_tree.specs.SoundExpression.{GivesNumber, AreSoundArguments, HasSoundIndex, IsPrefixOperation, IsSoundAlone, IsSoundExpr}
use Rattle.code_listing.specs.Expression.{value_code}
use Rattle.code_listing.specs.Listing.{Listing, instr_if}
use Rattle.code_listing.specs.Statement.{Exits, stmt_code}
use Rattle.code_listing.specs.Runs.{Arrives, FunctionMeans, FunctionsMean, IsFit, StandsAt, machine_at}
use Rattle.code_listing.proofs.AccessRuns.{IndexMeans, is_instruction, of_bump, of_load, of_store, of_update}
use Rattle.code_listing.proofs.BumpRuns.{bumps}
use Rattle.code_listing.proofs.CallRuns.{ArgsMean, args_count, args_listed, call_runs, more_args, no_args, of_call}
use Rattle.code_listing.proofs.ExpressionRuns.{Means, of_active, of_binary, of_both, of_choice, of_const, of_convert, of_either, of_inverse, of_minus, of_negation, of_now, of_plus}
use Rattle.code_listing.proofs.MachineRuns.{at_place, one_moves, stands_back, stands_front}
use Rattle.code_listing.proofs.PartRuns.{arrives_on}
use Rattle.code_listing.proofs.PlainLemmas.{plain_still}

-- the parameters of each function are cells of the program
abbrev pub ParamsExist : Typed → Type 0
ParamsExist typed = (f : ℕ) (function : TFun) → slice_get typed.functions f ≡ Some function →
    All (λ param. param < length typed.cells) function.params

-- the function that an expression calls
record Callee (typed : Typed) (number f count : ℕ) : Type 0 where
  function : TFun
  is_there : slice_get typed.functions f ≡ Some function
  earlier : f < number
  takes : count ≡ length function.params

callee : (typed : Typed) (number f count : ℕ) → f < number → (o : Option TFun) → slice_get typed.functions f ≡ o →
    IsSomeAnd o (λ function. count ≡ length function.params) → Callee typed number f count
callee typed number f count earlier None e takes = absurd takes
callee typed number f count earlier (Some function) e takes = record { function = function; is_there = e; earlier = earlier; takes = takes }

-- a plain expression, by the test of an assignment
plain_of : (b : Bool) → not b ≡ false → b ≡ true
plain_of true e = refl
plain_of false e = absurd (let t : true ≡ false = e in cc)

module _ (code : Code) (s : Setting) (same : code.cells ≡ s.typed.cells) (call : Calls Memory) (most : ℕ) where
  module _ (number : ℕ) (functions : FunctionsMean code s call most number) (timers : code.timers ≡ s.typed.timers) (params : ParamsExist s.typed) where
    -- the parameters of a function of the program
    params_are : (f : ℕ) (function : TFun) → slice_get s.typed.functions f ≡ Some function → params_of s.typed f ≡ function.params
    params_are f function there = ap (λ o. option_map_or (λ function. function.params) o []) there

    -- they are cells of the code
    params_there : (f : ℕ) (function : TFun) → slice_get s.typed.functions f ≡ Some function →
        AllByRecursion (λ p. p < length code.cells) (params_of s.typed f)
    params_there f function there =
        subst (λ ps. AllByRecursion (λ p. p < length code.cells) ps) (sym (params_are f function there))
        (recursion_from_All (λ p. p < length code.cells) function.params
        (λ k d below. let within = params f function there k d below in omega (arith, within, ap length same)))

    -- a call of the function that gives a number
    call_of : (f : ℕ) (shape : List ⊤) (args : Row_of-TExpr _) (o : Option Kind) → IsSome o → FunctionMeans code s call most o f →
        args_count args ≡ length (params_of s.typed f) → AllByRecursion (λ p. p < length code.cells) (params_of s.typed f) →
        ArgsMean code s same call most args → Means code s call most (Call' f shape args)
    call_of f shape args None some runs count there means = absurd (let t : false ≡ true = some in cc)
    call_of f shape args (Some k) some runs count there means = of_call code s same call most f k shape args runs count there means

    -- the function that is called gives a number
    gives_one : (f : ℕ) (function : TFun) → slice_get s.typed.functions f ≡ Some function → GivesNumber s.typed f → IsSome function.gives
    gives_one f function there gives = subst (λ o. IsSomeAnd o (λ function. IsSome function.gives)) there gives

    -- a prefix operator
    of_unary : (op : UnOp) (k : Kind) (e : TExpr) → IsPrefixOperation op → Means code s call most e → Means code s call most (Unary op k e)
    of_unary Minus k e is means = of_minus code s call most k e means
    of_unary Plus k e is means = of_plus code s call most k e means
    of_unary Not k e is means = of_negation code s call most k e means
    of_unary Inv k e is means = of_inverse code s call most k e means
    of_unary Up k e is means = absurd is
    of_unary Down k e is means = absurd is

    mutual
      -- each sound expression
      pub every_means : (e : TExpr) → IsSoundExpr s.typed number e → Means code s call most e
      every_means (Const n) sound = of_const code s call most n
      every_means (Load at) sound = of_load code s same call most at sound.0.names_exist (index_means at sound.1)
      every_means (Store at e) sound = of_store code s same call most at e sound.0.names_exist (index_means at sound.1) (every_means e sound.2)
          (λ plain. plain_still s call number e sound.2 (plain_of (is_plain e) plain))
      every_means (Update op k back at e) sound =
          of_update code s same call most op k back at e sound.0.operation sound.0.names_exist (index_means at sound.1) (every_means e sound.2)
      every_means (Bump at k up post) sound =
          of_bump code s same call most at k up post sound.0.names_exist (index_means at sound.1) sound.0.can_give_back
      every_means (Unary op k e) sound = of_unary op k e sound.0.operation (every_means e sound.1)
      every_means (Binary op k a b) sound =
          of_binary code s call most op k a b (is_instruction op sound.0.operation) (every_means a sound.1) (every_means b sound.2)
      every_means (Both a b) sound = of_both code s call most a b (every_means a sound.1) (every_means b sound.2)
      every_means (Either a b) sound = of_either code s call most a b (every_means a sound.1) (every_means b sound.2)
      every_means (Cond test a b) sound = of_choice code s call most test a b (every_means test sound.1) (every_means a sound.2) (every_means b sound.3)
      every_means (Convert k e) sound = of_convert code s call most k e (every_means e sound.1)
      every_means (Call' f shape args) sound =
          let to = callee s.typed number f _ sound.0.calls_earlier.0 (slice_get s.typed.functions f) refl sound.0.calls_earlier.1 in
          call_of f shape args to.function.gives (gives_one f to.function to.is_there sound.1) (functions f to.function to.earlier to.is_there)
          (args_listed args ∙ to.takes ∙ sym (ap length (params_are f to.function to.is_there))) (params_there f to.function to.is_there)
          (args_mean args sound.2)
      every_means (Active timer) sound = of_active code s call most timer (omega (arith, sound.names_exist, ap length timers))
      every_means Now sound = of_now code s call most

      -- the index of a place, if it has one
      index_means : (at : Place) → HasSoundIndex s.typed number at → IndexMeans code s same call most at
      index_means (Cell cell) sound = tt
      index_means (Elem base len index) sound = every_means index sound
      index_means (place.Set at field) sound = tt
      index_means (Bytes at k index) sound = every_means index sound
      index_means (Signal at l) sound = tt

      -- the arguments of a call
      args_mean : {m : Count} (args : Row_of-TExpr m) → AreSoundArguments s.typed number args → ArgsMean code s same call most args
      args_mean end_of-TExpr sound = no_args code s same call most
      args_mean (more_of-TExpr e rest) sound = more_args code s same call most e rest (every_means e sound.0) (args_mean rest sound.1)

    -- a value that is dropped
    dropped : (e : TExpr) → Means code s call most e → (place end : ℕ) → place + ((sizes_of s.typed e).value + 1) ≡ end →
        (stack : List ℤ) (calls : List ℕ) (w : World Memory) → IsFit code most w →
        StandsAt code place (value_code s.typed e place 0 ++ (instr.Drop, 1) ∷ []) →
        Arrives code s.closed s.moment (machine_at place stack calls w) (λ n after. machine_at end stack calls after) (value_of s call e w)
    dropped e means place end len stack calls w fit h =
        let z = (sizes_of s.typed e).value in
        let xs = value_code s.typed e place 0 in
        let last : Listing = (instr.Drop, 1) ∷ [] in
        let at = stands_back code place z xs last (means.fits.value place 0) h in
        arrives_on code s.closed s.moment (machine_at place stack calls w) (λ n after. machine_at (place + z) (n ∷ stack) calls after)
        (λ n after. machine_at end stack calls after) (value_of s call e w)
        (means.value place 0 stack calls w fit (stands_front code place xs last h))
        (λ n after r. at_place code s.closed s.moment (place + z + 1) end (omega (arith, len))
        (one_moves code s.closed s.moment (place + z) (place + z + 1) (n ∷ stack) stack calls after instr.Drop at.0.0 refl))

    -- whether the number as it was is given or the one as it is then makes no difference to the world
    same_world : (m : _) (end : World Memory → _) (up post : Bool) (k : Kind) (run : Run Memory Spot) →
        Arrives code s.closed s.moment m (λ n after. end after) (and_then run (λ spot w. bumps code s most spot up k false w)) →
        Arrives code s.closed s.moment m (λ n after. end after) (and_then run (λ spot w. bumps code s most spot up k post w))
    same_world m end true post k (Gives spot w) h = h
    same_world m end false post k (Gives spot w) h = h
    same_world m end up post k (Fails o w) h = h

    -- an expression that stands alone as a statement comes to its end with the stack as it was
    pub alone_runs : (e : TExpr) → IsSoundAlone s.typed number e → (exits : Exits) (place : ℕ) (stack : List ℤ) (calls : List ℕ) (w : World Memory) →
        IsFit code most w → StandsAt code place (stmt_code s.typed exits (Eval e) place) →
        Arrives code s.closed s.moment (machine_at place stack calls w)
        (λ n after. machine_at (place + stmt_size s.typed (Eval e)) stack calls after) (value_of s call e w)
    alone_runs (Bump at k up post) sound exits place stack calls w fit h =
        same_world (machine_at place stack calls w) (λ after. machine_at (place + stmt_size s.typed (Eval (Bump at k up post))) stack calls after)
        up post k (spot_of s call at w)
        (dropped (Bump at k up false) (of_bump code s same call most at k up false sound.0.names_exist (index_means at sound.1) tt)
        place _ refl stack calls w fit h)
    alone_runs (Call' f shape args) sound exits place stack calls w fit h =
        let to = callee s.typed number f _ sound.0.calls_earlier.0 (slice_get s.typed.functions f) refl sound.0.calls_earlier.1 in
        let count = args_listed args ∙ to.takes ∙ sym (ap length (params_are f to.function to.is_there)) in
        by_kind to.function.gives (functions f to.function to.earlier to.is_there) count (params_there f to.function to.is_there)
        (leaves_number s.typed (Call' f shape args))
        (ap (λ o. option_map_or (λ function. is_some function.gives) o true) to.is_there) h
      where
        by_kind : (o : Option Kind) → FunctionMeans code s call most o f → args_count args ≡ length (params_of s.typed f) →
            AllByRecursion (λ p. p < length code.cells) (params_of s.typed f) → (leaves : Bool) → leaves ≡ is_some o →
            StandsAt code place (value_code s.typed (Call' f shape args) place 0 ++ instr_if leaves (instr.Drop, 1)) →
            Arrives code s.closed s.moment (machine_at place stack calls w)
            (λ n after. machine_at (place + ((sizes_of s.typed (Call' f shape args)).value + one_if leaves)) stack calls after)
            (value_of s call (Call' f shape args) w)
        by_kind (Some k) means count there true e h =
            dropped (Call' f shape args) (of_call code s same call most f k shape args means count there (args_mean args sound.1)) place _ refl stack calls w fit h
        by_kind (Some k) means count there false e h = absurd (let t : false ≡ true = e in cc)
        by_kind None means count there true e h = absurd (let t : true ≡ false = e in cc)
        by_kind None means count there false e h =
            call_runs code s same call most f args count there (args_mean args sound.1) (λ n. stack) place _ 0 0 (omega arith) stack calls w fit
            (λ p w fit at. means p stack calls w fit at)
            (stands_front code place (value_code s.typed (Call' f shape args) place 0) [] h)
    alone_runs e sound exits place stack calls w fit h = dropped e (every_means e sound) place _ refl stack calls w fit h
