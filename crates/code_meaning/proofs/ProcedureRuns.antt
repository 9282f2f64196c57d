-- The code of a procedure returns what its statements mean, and the code of a call does what the call means.
use Rattle.std.proofs.Common.{◌≡◌, ℕ, zero, suc, ◌+◌, Bool, true, false, List, [], ◌∷◌, Option, Some, None, slice_get, refl, sym, ap, ◌∙◌, subst, arith}
use Rattle.std.specs.Prelude.{ℤ, pos, IsTrue, is_some, sum_by}
use Rattle.std.specs.List.{AllByRecursion}
use Rattle.std.specs.Option.{option_map_or}
use Rattle.std.proofs.lemmas.List.Sums.{sum_by-cons}
use Rattle.int_kinds.specs.declared.kinds.Kind.{Kind}
use Rattle.run_effects.specs.declared.outcome.Outcome.TheVariants.{Cut}
use Rattle.bytecode.specs.declared.code.Code.{Code}
use Rattle.bytecode.specs.declared.instr.Instr.TheVariants as instr
use Rattle.bytecode.specs.Machine.{Goes, Machine, Next}
use Rattle.bytecode.specs.Step.{needing, row, taking_turn as row_turn}
use Rattle.control_flow.specs.World.{Fails, Gives, Run, World, run_map, taking_turn_of}
use Rattle.control_flow.specs.Control.{Breaks, Calls, Continues, End, GoesOn, Returns, number_given}
use Rattle.typed_tree.specs.declared.program.TFun.{TFun}
use Rattle.typed_tree.specs.declared.statement.TStmt.{TStmt}
use Rattle.typed_tree.specs.Expression.{Setting}
use Rattle.typed_tree.specs.Memory.{Memory}
use Rattle.typed_tree.specs.Program.{body_of, calls_of, runs}
use Rattle.typed_tree.specs.Shape.{body_goes_on}
use Rattle.typed_tree.specs.Size.{stmt_size}
use Rattle.typed_tree.specs.Sound.{IsSound}
use Rattle.typed_tree.specs.SoundStatement.{Around, IsSoundStmt}
use Rattle.typed_tree.specs.Statement.{stmt_of}
use Rattle.typed_tree.proofs.TurnsLeft.{program_calls_add_none}
use Rattle.code_listing.specs.Program.{IsCodeOf, body_code, procedure_code, tail_code}
use Rattle.code_listing.specs.Statement.{Exits, stmt_code}
use Rattle.code_listing.proofs.MachineRuns.{at_place, comes_on, follows_from, follows_then, one_comes, one_moves, one_stops, stands_back, stands_front, stays}
use Rattle.code_listing.proofs.ProgramSizes.{body_long}
use Rattle.code_listing.proofs.StatementSizes.{stmt_long}
use Rattle.code_meaning.proofs.EndsAllowed.{EndsOnlySo, IsAllowed, body_allowed}
use Rattle.code_meaning.proofs.LeavingOff.{obeys_at, obeys_then, ret_returns, returned_on}
use Rattle.code_meaning.proofs.StatementRuns.{stmt_runs}
use Rattle.code_meaning.specs.Statement.{IsSetForStatements}
use Rattle.code_listing.specs.Runs.{Comes, Follows, FunctionMeans, FunctionsMean, IsFit, StandsAt, machine_at}
use Rattle.code_meaning.specs.Statement.{HasReturned, LeavesOff, Obeys, with_given}

module _ (code : Code) (s : Setting) (is_code : IsCodeOf s.typed code) (sound : IsSound s.typed) where
  module _ (call : Calls Memory) (n number : ℕ) (set : IsSetForStatements code s call n number) (gives : Bool) (stack : List ℤ)
      (calls : List ℕ) where
    -- what the statements of the procedure stand in
    abbrev outside : Around
    outside = record { number = number; gives = gives; breakable = false; continuable = false }

    abbrev at : ℕ → World Memory → Machine
    at place w = machine_at place stack calls w

    -- the statements of a procedure
    body_runs : (body : List TStmt) (exits : Exits) (place : ℕ) (w : World Memory) → AllByRecursion (IsSoundStmt s.typed outside) body →
        IsFit code n w → StandsAt code place (body_code s.typed exits body place) →
        Obeys code s.closed s.moment gives stack calls exits place w (place + sum_by (stmt_size s.typed) body) (runs s call n body w)
    body_runs [] exits place w sound_body fit h =
        at_place code s.closed s.moment place (place + 0) (omega arith) (stays code s.closed s.moment (at place w))
    body_runs (st ∷ rest) exits place w sound_body fit h =
        let z = stmt_size s.typed st in
        let xs = stmt_code s.typed exits st place in
        let ys = body_code s.typed exits rest (place + z) in
        let mid = place + z + sum_by (stmt_size s.typed) rest in
        let end = place + sum_by (stmt_size s.typed) (st ∷ rest) in
        let len : mid ≡ end = omega (arith, sum_by-cons (stmt_size s.typed) st rest) in
        obeys_at code s.closed s.moment gives stack calls exits mid end (at place w) (runs s call n (st ∷ rest) w) len
        (obeys_then code s.closed s.moment gives stack calls n exits place (place + z) mid w (stmt_of s call n st w) (runs s call n rest) fit
        (stmt_runs code s sound call n number set gives stack calls st false false exits place w sound_body.0 fit
        (stands_front code place xs ys h))
        (λ w1 fit1. body_runs rest exits (place + z) w1 sound_body.1 fit1
        (stands_back code place z xs ys (stmt_long s.typed exits st place) h)))

    -- the end of a procedure, where control comes to it, returns 0
    tail_returns : (g goes : Bool) (place : ℕ) (w : World Memory) → IsTrue goes → StandsAt code place (tail_code g goes) →
        HasReturned code s.closed s.moment g stack (at place w) calls (pos 0) w
    tail_returns g false place w went h = absurd (let f : false ≡ true = went in cc)
    tail_returns false true place w went h = ret_returns code s.closed s.moment false stack calls place (pos 0) w h.0.0
    tail_returns true true place w went h =
        returned_on code s.closed s.moment true stack calls (pos 0) w
        (one_moves code s.closed s.moment place (place + 1) stack (pos 0 ∷ stack) calls w (instr.Push (pos 0)) h.0.0 refl)
        (ret_returns code s.closed s.moment true stack calls (place + 1) (pos 0) w h.1.0.0)

    -- a procedure has returned, once its statements have left off as they may
    returns_then : (exits : Exits) (end : ℕ) (m : Machine) (goes : Bool) (run : Run Memory End) → EndsOnlySo (IsAllowed outside goes) run →
        StandsAt code end (tail_code gives goes) →
        Follows code s.closed s.moment m (LeavesOff code s.closed s.moment gives stack calls exits end m) run →
        Follows code s.closed s.moment m (λ e after. HasReturned code s.closed s.moment gives stack m calls (number_given e) after) run
    returns_then exits end m goes (Gives GoesOn w) allowed h r =
        returned_on code s.closed s.moment gives stack calls (pos 0) w r (tail_returns gives goes end w allowed h)
    returns_then exits end m goes (Gives Breaks w) allowed h r = absurd (let f : false ≡ true = allowed in cc)
    returns_then exits end m goes (Gives Continues w) allowed h r = absurd (let f : false ≡ true = allowed in cc)
    returns_then exits end m goes (Gives (Returns v) w) allowed h r = r
    returns_then exits end m goes (Fails o w) allowed h r = r

    -- the code of a procedure returns what its statements give
    pub procedure_runs : (body : List TStmt) (place : ℕ) (w : World Memory) → AllByRecursion (IsSoundStmt s.typed outside) body →
        IsFit code n w → StandsAt code place (procedure_code s.typed (record { gives = gives; body = body }) place) →
        Follows code s.closed s.moment (at place w)
        (λ e after. HasReturned code s.closed s.moment gives stack (at place w) calls (number_given e) after) (runs s call n body w)
    procedure_runs body place w sound_body fit h =
        let end = place + sum_by (stmt_size s.typed) body in
        let exits : Exits = record { break_at = end; continue_at = end } in
        let xs = body_code s.typed exits body place in
        let ys = tail_code gives (body_goes_on true body) in
        returns_then exits end (at place w) (body_goes_on true body) (runs s call n body w)
        (body_allowed s call n body outside true refl sound_body w)
        (stands_back code place (sum_by (stmt_size s.typed) body) xs ys (body_long s.typed exits body place) h)
        (body_runs body exits place w sound_body fit (stands_front code place xs ys h))

  -- code is set for the statements of a program, where the functions' code does what their calls mean
  pub set_for : (n number : ℕ) → FunctionsMean code s (calls_of s n) n number → IsSetForStatements code s (calls_of s n) n number
  set_for n number functions = record {
    expressions = record { cells = is_code.cells; timers = is_code.timers; functions = functions };
    formats = is_code.formats;
    turns = λ f. program_calls_add_none s n f;
  }

  -- the code of a function stands at its place in the table
  pub record IsThere (f : ℕ) (function : TFun) : Type 0 where
    pub start : ℕ
    pub end : ℕ
    pub listed : slice_get code.functions f ≡ Some (record { start = start; end = end; gives = is_some function.gives })
    pub stands : StandsAt code start (procedure_code s.typed (record { gives = is_some function.gives; body = function.body }) start)

  module _ (there : (f : ℕ) (function : TFun) → slice_get s.typed.functions f ≡ Some function → IsThere f function) where
    -- from a call on, the machine does what the call means, and has its number on the stack, if it gives one
    abbrev CallRuns : ℕ → ℕ → Bool → Type 0
    CallRuns n f gives = (place : ℕ) (stack : List ℤ) (calls : List ℕ) (w : World Memory) → IsFit code n w →
        slice_get code.instrs place ≡ Some (instr.Call f) →
        Follows code s.closed s.moment (machine_at place stack calls w)
        (λ v after. Comes code s.closed s.moment (machine_at place stack calls w) (machine_at (place + 1) (with_given gives v stack) calls after))
        (calls_of s n f w)

    by_gives : (g : Option Kind) (n f : ℕ) → CallRuns n f (is_some g) → FunctionMeans code s (calls_of s n) n g f
    by_gives None n f runs_so = λ place stack calls w fit at. runs_so place stack calls w fit at
    by_gives (Some k) n f runs_so = λ place stack calls w fit at. runs_so place stack calls w fit at

    call_cut : (f : ℕ) (function : TFun) → slice_get s.typed.functions f ≡ Some function → CallRuns 0 f (is_some function.gives)
    call_cut f function is place stack calls w fit at =
        let t = there f function is in
        let m = machine_at place stack calls w in
        let enter : Machine → Next = λ after. Goes (record after { place = t.start; calls = (place + 1) ∷ calls }) in
        one_stops code s.closed s.moment m (instr.Call f) Cut m at
        (ap (λ o. needing o (λ function. row_turn w.turns m (λ after. Goes (record after { place = function.start; calls = (place + 1) ∷ calls })))) t.listed ∙
        ap (λ k. row_turn k m enter) (let none : w.turns ≡ 0 = omega (arith, fit.turns) in none))

    call_runs : (n f : ℕ) (function : TFun) → FunctionsMean code s (calls_of s n) n f →
        slice_get s.typed.functions f ≡ Some function → CallRuns (suc n) f (is_some function.gives)
    call_runs n f function functions is place stack calls w fit at = by_turns w.turns refl
      where
        t : IsThere f function
        t = there f function is

        m : Machine
        m = machine_at place stack calls w

        enter : Machine → Next
        enter = λ after. Goes (record after { place = t.start; calls = (place + 1) ∷ calls })

        row_is : (turns : ℕ) → w.turns ≡ turns → row code s.closed s.moment m (instr.Call f) stack ≡ row_turn turns m enter
        row_is turns e =
            ap (λ o. needing o (λ function. row_turn w.turns m (λ after. Goes (record after { place = function.start; calls = (place + 1) ∷ calls })))) t.listed ∙
            ap (λ k. row_turn k m enter) e

        by_turns : (turns : ℕ) → w.turns ≡ turns →
            Follows code s.closed s.moment m
            (λ v after. Comes code s.closed s.moment m (machine_at (place + 1) (with_given (is_some function.gives) v stack) calls after))
            (taking_turn_of turns w (λ w. run_map number_given (runs s (calls_of s n) n (body_of s.typed f) w)))
        by_turns zero e = one_stops code s.closed s.moment m (instr.Call f) Cut m at (row_is zero e)
        by_turns (suc turns) e =
            let w1 : World Memory = record w { turns = turns } in
            let calls1 : List ℕ = (place + 1) ∷ calls in
            let m1 = machine_at t.start stack calls1 w1 in
            let gives = is_some function.gives in
            let r : Comes code s.closed s.moment m m1 =
            one_comes code s.closed s.moment m (instr.Call f) m1 at (row_is (suc turns) e) (omega (arith, e)) (λ h. h) refl in
            let fit1 : IsFit code n w1 =
            record { turns = omega (arith, fit.turns, e); cells_held = fit.cells_held; timers = fit.timers } in
            let body_is : body_of s.typed f ≡ function.body = ap (λ o. option_map_or (λ (function : TFun). function.body) o []) is in
            let Ends : End → World Memory → Type 0 = λ end after. HasReturned code s.closed s.moment gives stack m1 calls1 (number_given end) after in
            let Then : End → World Memory → Type 0 =
            λ end after. Comes code s.closed s.moment m (machine_at (place + 1) (with_given gives (number_given end) stack) calls after) in
            subst (λ body. Follows code s.closed s.moment m
            (λ v after. Comes code s.closed s.moment m (machine_at (place + 1) (with_given gives v stack) calls after))
            (run_map number_given (runs s (calls_of s n) n body w1))) (sym body_is)
            (follows_then code s.closed s.moment m Then _ (runs s (calls_of s n) n function.body w1) (λ end w. Gives (number_given end) w)
            (follows_from code s.closed s.moment m m1 Ends Then (runs s (calls_of s n) n function.body w1) r (λ end after h. comes_on code s.closed s.moment r h)
            (procedure_runs (calls_of s n) n f (set_for n f functions) gives stack calls1 function.body t.start w1
            (sound.functions f function is).statements fit1 t.stands)) (λ end after h. h))

    -- the code of the functions does what their calls mean, where at most so many turns are left
    pub functions_mean : (n number : ℕ) → FunctionsMean code s (calls_of s n) n number
    functions_mean zero number f function below is = by_gives function.gives zero f (call_cut f function is)
    functions_mean (suc n) number f function below is =
        by_gives function.gives (suc n) f (call_runs n f function (functions_mean n f) is)
