-- What holds of each effect that the calls in a program's procedures may have holds of all effects of their runs.
use Rattle.std.proofs.Common.{◌≡◌, ℕ, zero, suc, Bool, List, [], ◌∷◌, Option, Some, None, All, refl, subst}
use Rattle.std.specs.Prelude.{ℤ, if◌then◌else◌, true, false, find, unwrap_or, ◌==◌}
use Rattle.std.specs.List.{flat_map}
use Rattle.std.specs.Option.{option_map_or}
use Rattle.std.proofs.lemmas.List.Elements.{All-head, All-nil, All-tail}
use Rattle.run_effects.specs.Effect.{micros, Effect, Line, Send, Stop, Set, Cancel}
use Rattle.control_flow.specs.World.{Run, Gives, Fails, run_map}
use Rattle.control_flow.specs.Control.{Calls, End, number_given}
use Rattle.capl_tree.specs.declared.expr.Expr.{Expr}
use Rattle.capl_tree.specs.declared.statement.Stmt.{Stmt}
use Rattle.capl_meaning.specs.declared.builtin.Builtin.TheVariants as builtin
use Rattle.capl_meaning.specs.Variable.{Variable}
use Rattle.capl_meaning.specs.Names.{Function, OfLanguage, Scope, callee}
use Rattle.capl_meaning.specs.Calls.{names_called as calls_in_statement, function_numbered}
use Rattle.capl_meaning.specs.Store.{MessageRecord, timer_number, unit_of, frame_sent}
use Rattle.capl_meaning.specs.Expression.{Memory, Setting, timer_in}
use Rattle.capl_meaning.specs.Statement.{calls_of, ending, function_runs, runs}
use Rattle.capl_meaning.specs.Inside.Procedure.{in_function, runs_numbered}
use Rattle.source_laws.proofs.Effects.{Fine, Keeps, map_fine, runs_fine, turn_fine}

-- something holds of each name that statements call
abbrev pub AllCalled : (List ℕ → Type 0) → List Stmt → Type 0
AllCalled Q body = All Q (flat_map calls_in_statement body)

-- the function that a number finds is one of these
found_holds : (H : Function → Type 0) (number : ℕ) (fs : List Function) → All H fs → (f : Function) → find (λ g. g.number == number) fs ≡ Some f → H f
found_holds H number [] all f is = absurd (cc)
found_holds H number (g ∷ fs) all f is =
    elim (g.number == number) as (λ b. (if b then Some g else find (λ h. h.number == number) fs) ≡ Some f → H f) [
      | true ↦ λ e. let same : g ≡ f = cc in subst H same (All-head H g fs all)
      | false ↦ λ e. found_holds H number fs (All-tail H g fs all) f e
    ] is

module _ (P : Effect → Type 0) (Q : List ℕ → Type 0) (s : Setting) (lines : (text : List ℕ) → P (Line text))
    (sent : (name : List ℕ) → Q name → callee s.scope.names name ≡ OfLanguage builtin.Output → (message : MessageRecord) → P (Send (frame_sent message)))
    (stopped : (name : List ℕ) → Q name → callee s.scope.names name ≡ OfLanguage builtin.Stop → P Stop)
    (set : (scope : Scope) → scope.names ≡ s.scope.names → (e : Expr) (v : Variable) → timer_in scope e ≡ Some v → (cyclic : Bool) (n : ℤ)
    → P (Set (timer_number scope.names v) (micros (unwrap_or (unit_of v.form) 0) n) cyclic))
    (cancelled : (scope : Scope) → scope.names ≡ s.scope.names → (e : Expr) (v : Variable) → timer_in scope e ≡ Some v → P (Cancel (timer_number scope.names v)))
    (functions : All (λ f. AllCalled Q f.body) s.scope.names.functions) where
  statements_fine : (call : Calls Memory) → ((f : ℕ) → Keeps P (call f)) → (n : ℕ) (body : List Stmt) → AllCalled Q body → Keeps P (runs s call n body)
  statements_fine call calls n body own = runs_fine P s call calls Q lines sent stopped (set s.scope refl) (cancelled s.scope refl) n body own

  function_fine : (call : Calls Memory) → ((f : ℕ) → Keeps P (call f)) → (n : ℕ) (f : Function) → AllCalled Q f.body → Keeps P (function_runs s call n f)
  function_fine call calls n f own =
      let t = in_function s f in runs_fine P t call calls Q lines sent stopped (set t.scope refl) (cancelled t.scope refl) n f.body own

  numbered_fine : (call : Calls Memory) → ((f : ℕ) → Keeps P (call f)) → (n number : ℕ) → Keeps P (runs_numbered s call n number)
  numbered_fine call calls n number = go (function_numbered s.scope.names number) refl
    where
      go : (o : Option Function) → function_numbered s.scope.names number ≡ o → Keeps P (option_map_or (function_runs s call n) o (runs s call n []))
      go None is = statements_fine call calls n [] (All-nil Q)
      go (Some f) is = function_fine call calls n f (found_holds (λ g. AllCalled Q g.body) number s.scope.names.functions functions f is)

  calls_fine : (n number : ℕ) → Keeps P (calls_of s n number)
  calls_fine zero number w fine = fine
  calls_fine (suc n) number w fine =
      turn_fine P w.turns w (λ w. run_map number_given (runs_numbered s (calls_of s n) n number w)) fine
      (λ w fine. map_fine P number_given (runs_numbered s (calls_of s n) n number w) (numbered_fine (calls_of s n) (calls_fine n) n number w fine))

  ending_fine : (turns : ℕ) (run : Run Memory End) → Fine P run → All P (ending turns run).effects
  ending_fine turns (Gives e w) fine = fine
  ending_fine turns (Fails outcome w) fine = fine

  -- so of the effects of a procedure's run
  pub body_fine : (turns : ℕ) (body : List Stmt) → AllCalled Q body → (memory : Memory)
      → All P (ending turns (runs s (calls_of s turns) turns body (record { memory = memory; turns = turns; effects = [] }))).effects
  body_fine turns body own memory =
      ending_fine turns (runs s (calls_of s turns) turns body (record { memory = memory; turns = turns; effects = [] }))
      (statements_fine (calls_of s turns) (calls_fine turns) turns body own (record { memory = memory; turns = turns; effects = [] }) (All-nil P))
