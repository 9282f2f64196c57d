-- A run of verified code ends with cells of their kinds, its effects on timers are on timers of the code, for durations that can be set, and the frames
-- that it sends are classic CAN frames.
use Rattle.std.proofs.Common.{◌≡◌, ◌<◌, ◌+◌, ◌-◌, ◌*◌, ◌^◌, ℕ, zero, suc, Bool, true, false, cond, List, [], ◌∷◌, ◌++◌, length, take, drop, reverse, Option, Some, None, All, inl, inr, refl, sym, subst, arith, slice_get}
use Rattle.std.specs.Prelude.{ℤ, pos, negsuc, ◌&&◌, ◌≤ℤ◌, if◌then◌else◌, int_le, nat_le, nat_lt, unsigned_abs}
use Rattle.std.specs.List.{list_all}
use Rattle.std.specs.Ordering.{int_eq}
use Rattle.std.proofs.lemmas.Int.{ints}
use Rattle.std.proofs.lemmas.List.Elements.{All-nil, All-push}
use Rattle.std.proofs.lemmas.Option.{get_or_from_slice_get, slice_get_within}
use Rattle.int_kinds.specs.declared.kinds.Kind.{Kind}
use Rattle.int_kinds.specs.declared.kinds.Kind.TheVariants.{Long}
use Rattle.int_kinds.specs.declared.operators.BinOp.{BinOp}
use Rattle.int_kinds.specs.declared.operators.BinOp.TheVariants.{OrElse, AndAlso}
use Rattle.int_kinds.specs.Arithmetic.{value}
use Rattle.int_kinds.specs.Kind.{Holds, high, wrap}
use Rattle.int_kinds.proofs.Wrapping.{Holds-wrap}
use Rattle.write_format.specs.Line.{FormatText, char_arrays, numbers_taken, rendered}
use Rattle.message_cells.specs.Message.{frame_of, message_at, size, write_rules}
use Rattle.run_effects.specs.Effect.{IsUnit, micros, Effect}
use Rattle.run_effects.specs.Effect as effect
use Rattle.run_effects.specs.declared.outcome.Outcome.{Outcome}
use Rattle.timer_queue.specs.Timers.{IsDuration}
use Rattle.bytecode.specs.declared.code.Code.{Code}
use Rattle.bytecode.specs.declared.instr.Instr.{Instr}
use Rattle.bytecode.specs.declared.instr.Instr.TheVariants.{Push, Load, Store, Check, Elem, SetElem, Bytes, SetBytes, Sig, SetSig, SetField, Bin, Neg, Inv, Conv, Not, Dup, Drop, Jump, Zero, Case, Back, Turn, Call, Ret, Write, Send, Copy, Stop, Set, Cancel, Active, Now}
use Rattle.bytecode.specs.Machine.{Machine, Next, Goes, Ends, Stuck}
use Rattle.bytecode.specs.Rule.{NamesWhatExists}
use Rattle.bytecode.specs.Runs.{EndsIn, HoldKinds, IsStartOf}
use Rattle.bytecode.specs.Shape.{shape_of}
use Rattle.bytecode.specs.Step.{after_cancel, after_effect, after_set, continuing, gives_or_traps, go, goes_on, indexing, needing, operates, returns_to, row, step, stores, taking_one, taking_turn, taking_two, unless, writes}
use Rattle.bytecode.specs.Verified.{IsVerified}
use Rattle.bytecode.proofs.MachineStates.{IsSafeStep, Stands}
use Rattle.bytecode.proofs.PlaceRules.{rule_here}
use Rattle.bytecode.proofs.RunLemmas.{step_is_row}
use Rattle.bytecode.proofs.VerifiedRuns.{IsSafeStep-step, start_stands}
use Rattle.node_rounds.specs.Effects.{IsTimerEffect}
use Rattle.node_run.proofs.SentFrames.{IsFrame-frame_of, SendsFrame, length-message_at}

-- ---- durations

-- how often the unit of a timer is taken: from 1 on, and below 2^31
abbrev times : ℤ → ℕ
times n = if int_le (pos 1) n then unsigned_abs n else 1

times_held : (n : ℤ) → Holds Long n → (0 < times n) × (times n < 2 ^ 31)
times_held (pos zero) held = (omega arith, omega arith)
times_held (pos (suc m)) held = go (int_le (pos 1) (pos (suc m)))
  where
    go : (b : Bool) → (0 < (if b then suc m else 1)) × ((if b then suc m else 1) < 2 ^ 31)
    go true = (omega arith, let most : pos (suc m) ≤ℤ high Long = held.at_most in omega (arith, ints, most))
    go false = (omega arith, omega arith)
times_held (negsuc m) held = (omega arith, omega arith)

by_unit : (n unit : ℕ) → 0 < n → n < 2 ^ 31 → IsUnit unit → IsDuration (n * unit)
by_unit n unit some few (inl e) = subst (λ u. IsDuration (n * u)) (sym e) (omega (arith, some), omega (arith, few))
by_unit n unit some few (inr e) = subst (λ u. IsDuration (n * u)) (sym e) (omega (arith, some), omega (arith, few))

duration_set : (unit : ℕ) (n : ℤ) → IsUnit unit → IsDuration (micros unit n)
duration_set unit n is = let t = times_held (wrap Long n) (Holds-wrap Long n) in by_unit (times (wrap Long n)) unit t.0 t.1 is

-- ---- rows

-- an effect of code: on one of its timers, for a duration that can be set, or a classic CAN frame, or any other
abbrev IsEffectOf : Code → Effect → Type 0
IsEffectOf code e = IsTimerEffect (length code.timers) e × SendsFrame e

-- the effects so far are effects of the code
abbrev AreOf : Code → Machine → Type 0
AreOf code m = All (IsEffectOf code) m.effects

-- and so are those after a step, where the machine was not stuck
abbrev AreOfAfter : Code → Next → Type 0
AreOfAfter code (Goes m) = AreOf code m
AreOfAfter code (Ends outcome m) = AreOf code m
AreOfAfter code Stuck = Unit {0}

module _ (code : Code) (m : Machine) (before : AreOf code m) where
  added : (e : Effect) → IsEffectOf code e → All (IsEffectOf code) (m.effects ++ e ∷ [])
  added e is = All-push (IsEffectOf code) m.effects e before is

  needed : {A : Type 0} (o : Option A) (row : A → Next) → ((x : A) → o ≡ Some x → AreOfAfter code (row x)) → AreOfAfter code (needing o row)
  needed None row h = tt
  needed (Some x) row h = h x refl

  one : (stack : List ℤ) (row : ℤ → List ℤ → Next) → ((n : ℤ) (below : List ℤ) → AreOfAfter code (row n below)) → AreOfAfter code (taking_one stack row)
  one [] row h = tt
  one (n ∷ below) row h = h n below

  two : (stack : List ℤ) (row : ℤ → ℤ → List ℤ → Next) → ((a b : ℤ) (below : List ℤ) → AreOfAfter code (row a b below)) → AreOfAfter code (taking_two stack row)
  two [] row h = tt
  two (b ∷ []) row h = tt
  two (b ∷ a ∷ below) row h = h a b below

  either : (b : Bool) (first second : Next) → AreOfAfter code first → AreOfAfter code second → AreOfAfter code (cond b first second)
  either true first second h k = h
  either false first second h k = k

  indexed : (i : ℤ) (len : ℕ) (row : ℕ → Next) → ((k : ℕ) → AreOfAfter code (row k)) → AreOfAfter code (indexing i len m row)
  indexed (negsuc i) len row h = before
  indexed (pos i) len row h = either (nat_lt i len) (row i) _ (h i) before

  turned : (turns : ℕ) (row : Machine → Next) → ((left : ℕ) → AreOfAfter code (row (record m { turns = left }))) → AreOfAfter code (taking_turn turns m row)
  turned zero row h = before
  turned (suc turns) row h = h turns

  trapped : (o : Option ℤ) (stack : List ℤ) → AreOfAfter code (gives_or_traps o m stack)
  trapped None stack = before
  trapped (Some n) stack = before

  operated : (op : BinOp) (k : Kind) (a b : ℤ) (stack : List ℤ) → AreOfAfter code (operates op k a b m stack)
  operated OrElse k a b stack = tt
  operated AndAlso k a b stack = tt
  operated op k a b stack = trapped (value op k a b) stack

  returned : (calls : List ℕ) → AreOfAfter code (returns_to calls m)
  returned [] = before
  returned (place ∷ calls) = before

  stored : (kinds : List Kind) (cell : ℕ) (n : ℤ) (stack : List ℤ) → AreOfAfter code (stores kinds cell n m stack)
  stored kinds cell n stack = needed (slice_get m.cells cell) _ (λ old is. needed (slice_get kinds cell) _ (λ k is. before))

  written : (format : FormatText) (stack : List ℤ) → AreOfAfter code (writes format m stack)
  written format stack =
      let line = effect.Line (rendered format (reverse (take (numbers_taken format) stack)) m.cells) in
      either (nat_le (numbers_taken format) (length stack) && list_all (λ array. nat_le (array.0 + array.1) (length m.cells)) (char_arrays format))
      (goes_on (after_effect line m) (drop (numbers_taken format) stack)) Stuck (added line (tt, tt)) tt

  -- a change with an effect, unless the measurement has ended
  affected : (closed : Bool) (change : Machine → Machine) (stack : List ℤ) → AreOf code (change m) → AreOfAfter code (goes_on (unless closed change m) stack)
  affected true change stack h = before
  affected false change stack h = h

  -- a duration in the unit of a timer
  set_for : All IsUnit code.timers → (timer unit : ℕ) (n : ℤ) → slice_get code.timers timer ≡ Some unit → IsDuration (micros unit n)
  set_for units timer unit n is =
      duration_set unit n (subst IsUnit (get_or_from_slice_get code.timers timer unit 0 is) (units timer 0 (slice_get_within code.timers timer unit is)))

  -- each row of an instruction whose names exist
  row_of : All IsUnit code.timers → (closed : Bool) (moment : ℕ) (instr : Instr) (stack : List ℤ) → NamesWhatExists code (shape_of code instr).named
      → AreOfAfter code (row code closed moment m instr stack)
  row_of units closed moment (Push n) stack names = before
  row_of units closed moment (Load cell) stack names = needed (slice_get m.cells cell) _ (λ n is. before)
  row_of units closed moment (Store cell) stack names = one stack _ (λ n below. stored code.cells cell n below)
  row_of units closed moment (Check len) stack names = one stack _ (λ i below. indexed i len _ (λ k. before))
  row_of units closed moment (Elem base len) stack names =
      one stack _ (λ i below. indexed i len _ (λ k. needed (slice_get m.cells (base + k)) _ (λ n is. before)))
  row_of units closed moment (SetElem base len) stack names =
      two stack _ (λ i n below. indexed i len _ (λ k. stored code.cells (base + k) n below))
  row_of units closed moment (Bytes k at) stack names =
      one stack _ (λ i below. needed (message_at at m.cells) _ (λ message is. indexed i (9 - size k) _ (λ byte. before)))
  row_of units closed moment (SetBytes k at) stack names =
      two stack _ (λ i n below. needed (message_at at m.cells) _ (λ message is. indexed i (9 - size k) _ (λ byte. before)))
  row_of units closed moment (Sig l at) stack names = needed (message_at at m.cells) _ (λ message is. before)
  row_of units closed moment (SetSig l at) stack names = one stack _ (λ n below. needed (message_at at m.cells) _ (λ message is. before))
  row_of units closed moment (SetField f at) stack names =
      one stack _ (λ n below. needed (message_at at m.cells) _ (λ message is. needed (slice_get write_rules f) _ (λ rule is. before)))
  row_of units closed moment (Bin op k) stack names = two stack _ (λ a b below. operated op k a b below)
  row_of units closed moment (Neg k) stack names = one stack _ (λ n below. before)
  row_of units closed moment (Inv k) stack names = one stack _ (λ n below. before)
  row_of units closed moment (Conv k) stack names = one stack _ (λ n below. before)
  row_of units closed moment Not stack names = one stack _ (λ n below. before)
  row_of units closed moment Dup stack names = one stack _ (λ n below. before)
  row_of units closed moment Drop stack names = one stack _ (λ n below. before)
  row_of units closed moment (Jump target) stack names = before
  row_of units closed moment (Zero target) stack names =
      one stack _ (λ n below. either (int_eq n (pos 0)) _ _ before before)
  row_of units closed moment (Case target label) stack names =
      one stack _ (λ n below. either (int_eq n label) _ _ before before)
  row_of units closed moment (Back target) stack names =
      one stack _ (λ n below. either (int_eq n (pos 0)) _ _ before (turned m.turns _ (λ left. before)))
  row_of units closed moment Turn stack names = turned m.turns _ (λ left. before)
  row_of units closed moment (Call f) stack names =
      needed (slice_get code.functions f) _ (λ function is. turned m.turns _ (λ left. before))
  row_of units closed moment Ret stack names = returned m.calls
  row_of units closed moment (Write f) stack names =
      needed (slice_get code.formats f) _ (λ format is. written format stack)
  row_of units closed moment (Send at) stack names =
      needed (message_at at m.cells) _
      (λ message is. affected closed (after_effect (effect.Send (frame_of message))) stack
      (added (effect.Send (frame_of message)) (tt, IsFrame-frame_of message (length-message_at at m.cells message is))))
  row_of units closed moment (Copy to from) stack names =
      needed (message_at to m.cells) _ (λ there is. needed (message_at from m.cells) _ (λ message is. before))
  row_of units closed moment Stop stack names = affected closed (after_effect effect.Stop) stack (added effect.Stop (tt, tt))
  row_of units closed moment (Set timer cyclic) stack names =
      one stack _ (λ n below. needed (slice_get code.timers timer) _ (λ unit is. needed (slice_get m.active timer) _ (λ active there.
      affected closed (after_set timer (micros unit n) cyclic) below (added (effect.Set timer (micros unit n) cyclic) ((names, set_for units timer unit n is), tt)))))
  row_of units closed moment (Cancel timer) stack names =
      needed (slice_get m.active timer) _ (λ there is. affected closed (after_cancel timer) stack (added (effect.Cancel timer) (names, tt)))
  row_of units closed moment (Active timer) stack names = needed (slice_get m.active timer) _ (λ active is. before)
  row_of units closed moment Now stack names = before

-- ---- runs

-- where the machine stands, a step adds effects of the code
step_of : (code : Code) → IsVerified code → (closed : Bool) (moment : ℕ) (m : Machine) → Stands code m → AreOf code m → AreOfAfter code (step code closed moment m)
step_of code verified closed moment m s before =
    let here = rule_here code verified m s in
    subst (AreOfAfter code) (sym (step_is_row code closed moment m here.instr here.is_instr))
    (row_of code m before verified.tables.units closed moment here.instr m.stack here.keeps.names_exist)

-- where a run has ended, the cells hold numbers of their kinds, the effects are on timers of the code, and send classic CAN frames
pub record HasEndedWell (code : Code) (m : Machine) : Type 0 where
  pub cells_held : HoldKinds code.cells m.cells
  pub on_timers : All (IsTimerEffect (length code.timers)) m.effects
  pub sends : All SendsFrame m.effects

abbrev EndsWell : Code → Next → Type 0
EndsWell code (Goes m) = Unit {0}
EndsWell code (Ends outcome m) = HasEndedWell code m
EndsWell code Stuck = Unit {0}

continuing_well : (code : Code) (m : Machine) (s : Stands code m) (next : Next) (further : Machine → Next) → IsSafeStep s next → AreOfAfter code next
    → ((after : Machine) → Stands code after → AreOf code after → EndsWell code (further after)) → EndsWell code (continuing next further)
continuing_well code m s (Goes after) further safe are more = more after safe.1 are
continuing_well code m s (Ends outcome after) further safe are more =
    record {
      cells_held = subst (λ (z : Machine). HoldKinds code.cells z.cells) (sym safe.0) s.cells_held;
      on_timers = λ k d within. (are k d within).0;
      sends = λ k d within. (are k d within).1;
    }
continuing_well code m s Stuck further safe are more = tt

go_well : (code : Code) → IsVerified code → (closed : Bool) (moment n : ℕ) (m : Machine) → Stands code m → AreOf code m → EndsWell code (go code closed moment n m)
go_well code verified closed moment zero m s are = tt
go_well code verified closed moment (suc n) m s are =
    continuing_well code m s (step code closed moment m) (λ after. go code closed moment n after)
    (IsSafeStep-step code verified closed moment m s) (step_of code verified closed moment m s are)
    (λ after s are. go_well code verified closed moment n after s are)

-- a run of verified code that began at a handler has ended well
pub ends_well : (code : Code) → IsVerified code → (handler : ℕ) (start : Machine) → IsStartOf code handler start → start.effects ≡ []
    → (closed : Bool) (moment : ℕ) (outcome : Outcome) (last : Machine) → EndsIn code closed moment start outcome last → HasEndedWell code last
ends_well code verified handler start is none closed moment outcome last ends =
    subst (EndsWell code) ends.1
    (go_well code verified closed moment ends.0 start (start_stands code verified handler start is)
    (subst (All (IsEffectOf code)) (sym none) (All-nil (IsEffectOf code))))
