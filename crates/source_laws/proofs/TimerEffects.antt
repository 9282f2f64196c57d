-- The effects of a source's run on timers are on timers that are there, and for durations that can be set.
use Rattle.std.proofs.Common.{◌≡◌, ℕ, zero, suc, ◌*◌, ◌^◌, ◌<◌, inl, inr, Bool, true, false, List, [], ◌∷◌, Some, None, All, length, ap, sym, subst, arith, slice_get}
use Rattle.std.specs.Prelude.{ℤ, pos, negsuc, ◌≤ℤ◌, if◌then◌else◌, int_le, unsigned_abs, unwrap_or, slice_index_or, ⊤}
use Rattle.std.specs.List.{AllByRecursion}
use Rattle.std.proofs.lemmas.Bool.{cases_lt}
use Rattle.std.proofs.lemmas.Int.{ints}
use Rattle.std.proofs.lemmas.List.{get_or_past}
use Rattle.int_kinds.specs.declared.kinds.Kind.TheVariants.{Long}
use Rattle.int_kinds.specs.Kind.{Holds, high, wrap}
use Rattle.int_kinds.proofs.Wrapping.{Holds-wrap}
use Rattle.dbc_reader.specs.declared.message.DbcMessage.{DbcMessage}
use Rattle.capl_tree.specs.declared.expr.Expr.{Expr}
use Rattle.capl_tree.specs.declared.file.Program.{Program}
use Rattle.capl_tree.specs.declared.statement.Stmt.{Stmt}
use Rattle.run_effects.specs.Effect.{IsUnit, micros, Effect, Set, Cancel}
use Rattle.timer_queue.specs.Timers.{IsDuration}
use Rattle.node_rounds.specs.Effects.{IsTimerEffect}
use Rattle.capl_meaning.specs.Variable.{Timer, Variable, parts_of}
use Rattle.capl_meaning.specs.Names.{Names, Scope, names_of}
use Rattle.capl_meaning.specs.Store.{This, timer_number, timer_units, unit_of}
use Rattle.capl_meaning.specs.Expression.{Memory, Setting, timer_in}
use Rattle.capl_meaning.specs.Statement.{Handler, calls_of, ending, ending_of, handlers_in, runs}
use Rattle.capl_meaning.specs.Inside.Procedure.{setting_of}
use Rattle.typed_laws.specs.Laid.{AreDistinct, HasForm}
use Rattle.typed_laws.proofs.Declared.{handlers_named}
use Rattle.typed_laws.proofs.Timers.{timer_named, unit_found}
use Rattle.typed_source.specs.Sound.{HaveUnits}
use Rattle.source_laws.proofs.ProcedureEffects.{body_fine}

-- ---- durations

-- how often the unit of a timer is taken: from 1 on, and below 2^31
abbrev times : ℤ → ℕ
times n = if int_le (pos 1) n then unsigned_abs n else 1

times_held : (n : ℤ) → Holds Long n → (0 < times n) × (times n < 2 ^ 31)
times_held (pos zero) held = (omega arith, omega arith)
times_held (pos (suc m)) held = go (int_le (pos 1) (pos (suc m)))
  where
    go : (b : Bool) → (0 < (if b then suc m else 1)) × ((if b then suc m else 1) < 2 ^ 31)
    go true = (omega arith, let most : pos (suc m) ≤ℤ high Long = held.at_most in omega (arith, ints, most))
    go false = (omega arith, omega arith)
times_held (negsuc m) held = (omega arith, omega arith)

by_unit : (n unit : ℕ) → 0 < n → n < 2 ^ 31 → IsUnit unit → IsDuration (n * unit)
by_unit n unit some few (inl e) = subst (λ u. IsDuration (n * u)) (sym e) (omega (arith, some), omega (arith, few))
by_unit n unit some few (inr e) = subst (λ u. IsDuration (n * u)) (sym e) (omega (arith, some), omega (arith, few))

duration_set : (unit : ℕ) (n : ℤ) → IsUnit unit → IsDuration (micros unit n)
duration_set unit n is = let t = times_held (wrap Long n) (Holds-wrap Long n) in by_unit (times (wrap Long n)) unit t.0 t.1 is

-- ---- timers

some_unit : (unit : ℕ) → IsUnit unit → 0 < unit
some_unit unit (inl e) = omega (arith, e)
some_unit unit (inr e) = omega (arith, e)

-- a timer's number is one of the timers'
number_there : (names : Names) → AreDistinct names.variables → (v : Variable) (unit : ℕ) → HasForm names v (Timer unit) → IsUnit unit → timer_number names v < length (timer_units names)
number_there names distinct v unit real is = elim (cases_lt (timer_number names v) (length (timer_units names))) [
  | inl less ↦ less
  | inr past ↦ absurd (let none : slice_index_or (timer_units names) (timer_number names v) 0 ≡ 0 = get_or_past (timer_units names) (timer_number names v) 0 past in
      let found = unit_found names distinct v unit real in let some = some_unit unit is in omega (arith, none, found, some))
]

module _ (scope : Scope) (distinct : AreDistinct scope.names.variables) (units : HaveUnits scope.names) where
  set_there : (e : Expr) (v : Variable) → timer_in scope e ≡ Some v → (cyclic : Bool) (n : ℤ)
      → IsTimerEffect (length (timer_units scope.names)) (Set (timer_number scope.names v) (micros (unwrap_or (unit_of v.form) 0) n) cyclic)
  set_there e v is cyclic n =
      let real = timer_named scope e v is in
      let unit : unwrap_or (unit_of v.form) 0 ≡ real.0 = ap (λ form. unwrap_or (unit_of form) 0) real.1.form_is in (
        number_there scope.names distinct v real.0 real.1 (units v real.0 real.1),
        subst (λ u. IsDuration (micros u n)) (sym unit) (duration_set real.0 n (units v real.0 real.1)),
      )

  cancel_there : (e : Expr) (v : Variable) → timer_in scope e ≡ Some v → IsTimerEffect (length (timer_units scope.names)) (Cancel (timer_number scope.names v))
  cancel_there e v is = let real = timer_named scope e v is in number_there scope.names distinct v real.0 real.1 (units v real.0 real.1)

-- ---- procedures

module _ (s : Setting) (distinct : AreDistinct s.scope.names.variables) (units : HaveUnits s.scope.names) where
  abbrev OnTimers : Effect → Type 0
  OnTimers = IsTimerEffect (length (timer_units s.scope.names))

  set_in : (scope : Scope) → scope.names ≡ s.scope.names → (e : Expr) (v : Variable) → timer_in scope e ≡ Some v → (cyclic : Bool) (n : ℤ)
      → OnTimers (Set (timer_number scope.names v) (micros (unwrap_or (unit_of v.form) 0) n) cyclic)
  set_in scope same e v is cyclic n =
      subst (λ (names : Names). IsTimerEffect (length (timer_units names)) (Set (timer_number scope.names v) (micros (unwrap_or (unit_of v.form) 0) n) cyclic)) same
      (set_there scope (subst (λ (names : Names). AreDistinct names.variables) (sym same) distinct) (subst HaveUnits (sym same) units) e v is cyclic n)

  cancel_in : (scope : Scope) → scope.names ≡ s.scope.names → (e : Expr) (v : Variable) → timer_in scope e ≡ Some v → OnTimers (Cancel (timer_number scope.names v))
  cancel_in scope same e v is =
      subst (λ (names : Names). IsTimerEffect (length (timer_units names)) (Cancel (timer_number scope.names v))) same
      (cancel_there scope (subst (λ (names : Names). AreDistinct names.variables) (sym same) distinct) (subst HaveUnits (sym same) units) e v is)

  body_on_timers : (turns : ℕ) (body : List Stmt) (memory : Memory) → All OnTimers (ending turns (runs s (calls_of s turns) turns body (record { memory = memory; turns = turns; effects = [] }))).effects
  body_on_timers turns body memory =
      body_fine OnTimers (λ name. ⊤) s (λ text. tt) (λ name own is message. tt) (λ name own is. tt) set_in cancel_in (λ k d within j e inside. tt) turns body (λ k d within. tt) memory

-- the effects of an event procedure on timers are on timers of the program, for durations that can be set
pub ending_on_timers : (base : List DbcMessage) (program : Program) → AreDistinct (names_of base program).variables → HaveUnits (names_of base program) → (number : ℕ) (handler : Handler)
    → slice_get (handlers_in base program) number ≡ Some handler → (this : This) (closed : Bool) (moment turns : ℕ) (memory : Memory)
    → All (IsTimerEffect (length (timer_units (names_of base program)))) (ending_of handler this closed moment turns memory).effects
ending_on_timers base program distinct units number handler e this closed moment turns memory =
    let names = names_of base program in
    let same : handler.scope.names ≡ names = at_place (λ (h : Handler). h.scope.names ≡ names) (handlers_in base program) number handler (handlers_named names (parts_of program)) e in
    subst (λ (n : Names). AreDistinct n.variables → HaveUnits n → All (IsTimerEffect (length (timer_units n))) (ending_of handler this closed moment turns memory).effects) same
    (λ distinct units. body_on_timers (setting_of handler this closed moment) distinct units turns handler.body memory) distinct units
  where
    at_place : {A : Type 0} (P : A → Type 0) (xs : List A) (i : ℕ) (x : A) → AllByRecursion P xs → slice_get xs i ≡ Some x → P x
    at_place P [] i x all e = absurd (let f : None ≡ Some x = e in cc)
    at_place P (y ∷ xs) zero x all e = let f : Some y ≡ Some x = e in let same : y ≡ x = cc in subst P same all.0
    at_place P (y ∷ xs) (suc i) x all e = at_place P xs i x all.1 e
