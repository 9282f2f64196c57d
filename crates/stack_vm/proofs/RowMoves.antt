-- Where each row of the instruction table goes in verified code: to a target of its rule, into a function or out of one.
use Rattle.std.proofs.Common.{◌≡◌, ◌≤◌, ◌+◌, ◌-◌, ℕ, zero, suc, Bool, true, false, cond, List, [], ◌∷◌, length, take, drop, reverse, slice_get, Option, Some, None, refl, ap, arith}
use Rattle.std.specs.Prelude.{ℤ, pos, negsuc, ◌&&◌, nat_le, nat_lt, ⊤}
use Rattle.std.specs.List.{AllByRecursion, list_all}
use Rattle.std.specs.Ordering.{int_eq}
use Rattle.int_kinds.specs.declared.kinds.Kind.{Kind}
use Rattle.int_kinds.specs.declared.operators.BinOp.{BinOp}
use Rattle.int_kinds.specs.declared.operators.BinOp.TheVariants.{OrElse, AndAlso}
use Rattle.int_kinds.specs.Arithmetic.{value}
use Rattle.write_format.specs.Line.{FormatText, char_arrays, numbers_taken, rendered}
use Rattle.run_effects.specs.Effect as effect
use Rattle.bytecode.specs.declared.code.Code.{Code}
use Rattle.bytecode.specs.declared.code.Fun.{Fun}
use Rattle.bytecode.specs.declared.instr.Instr.{Instr}
use Rattle.bytecode.specs.declared.instr.Instr.TheVariants.{Push, Load, Store, Check, Elem, SetElem, Bytes, SetBytes, Sig, SetSig, SetField, Bin, Neg, Inv, Conv, Not, Dup, Drop, Jump, Zero, Case, Back, Turn, Call, Ret, Write, Send, Copy, Stop, Set, Cancel, Active, Now}
use Rattle.bytecode.specs.Machine.{Machine, Next, Goes, Ends, Stuck}
use Rattle.message_cells.specs.Message.{frame_of, message_at, size, write_rules}
use Rattle.bytecode.specs.Rule.{IsReached, Target, targets}
use Rattle.bytecode.specs.Shape.{numbers_given, shape_of}
use Rattle.std.specs.Option.{option_map_or}
use Rattle.run_effects.specs.Effect.{micros}
use Rattle.bytecode.specs.Step.{after_cancel, after_effect, after_set, gives_or_traps, goes_on, indexing, needing, operates, returns_to, row, stores, taking_one, taking_turn, taking_two, unless, writes}

-- the machine goes to a place of its function that is at most one deeper, with the same open calls
pub record Moves (code : Code) (function : Fun) (depth : ℕ) (before after : Machine) : Type 0 where
  pub target : Target
  pub reached : IsReached code function target
  pub rises : target.depth ≤ depth + 1
  pub place : after.place ≡ target.place
  pub calls : after.calls ≡ before.calls

-- the machine enters a function that its instruction calls, and which is to return to the next place
pub record Enters (code : Code) (function : Fun) (depth : ℕ) (before after : Machine) : Type 0 where
  pub entered : ℕ
  pub callee : Fun
  pub is_call : slice_get code.instrs before.place ≡ Some (Call entered)
  pub is_function : slice_get code.functions entered ≡ Some callee
  pub place : after.place ≡ callee.start
  pub calls : after.calls ≡ (before.place + 1) ∷ before.calls
  pub back : ℕ
  pub reached : IsReached code function (record { place = before.place + 1; depth = back })
  pub rises : back ≤ depth + 1

-- the three ways in which a step of verified code goes on in a function, from a place of this depth
pub data GoesOn (code : Code) (function : Fun) (depth : ℕ) (before after : Machine) : Type 0 where
  moves : Moves code function depth before after → GoesOn code function depth before after
  enters : Enters code function depth before after → GoesOn code function depth before after
  leaves : before.calls ≡ after.place ∷ after.calls → GoesOn code function depth before after

-- so a step does where it goes on
abbrev pub Steps : Code → Fun → ℕ → Machine → Next → Type 0
Steps code function depth m (Goes after) = GoesOn code function depth m after
Steps code function depth m (Ends outcome after) = ⊤
Steps code function depth m Stuck = ⊤

gives-le : (o : Option Fun) → option_map_or numbers_given o 0 ≤ 1
gives-le None = omega arith
gives-le (Some function) = flagged function.gives
  where
    flagged : (b : Bool) → cond b 1 0 ≤ 1
    flagged true = omega arith
    flagged false = omega arith

module _ (code : Code) (function : Fun) (depth : ℕ) (m : Machine) where
  needed : {A : Type 0} (o : Option A) (row : A → Next) → ((x : A) → Steps code function depth m (row x)) → Steps code function depth m (needing o row)
  needed None row h = tt
  needed (Some x) row h = h x

  one : (stack : List ℤ) (row : ℤ → List ℤ → Next) → ((n : ℤ) (below : List ℤ) → Steps code function depth m (row n below)) →
      Steps code function depth m (taking_one stack row)
  one [] row h = tt
  one (n ∷ below) row h = h n below

  two : (stack : List ℤ) (row : ℤ → ℤ → List ℤ → Next) → ((a b : ℤ) (below : List ℤ) → Steps code function depth m (row a b below)) →
      Steps code function depth m (taking_two stack row)
  two [] row h = tt
  two (b ∷ []) row h = tt
  two (b ∷ a ∷ below) row h = h a b below

  either : (b : Bool) (first second : Next) → Steps code function depth m first → Steps code function depth m second → Steps code function depth m (cond b first second)
  either true first second h k = h
  either false first second h k = k

  indexed : (i : ℤ) (len : ℕ) (row : ℕ → Next) → ((k : ℕ) → Steps code function depth m (row k)) → Steps code function depth m (indexing i len m row)
  indexed (negsuc i) len row h = tt
  indexed (pos i) len row h = either (nat_lt i len) (row i) _ (h i) tt

  turned : (turns : ℕ) (row : Machine → Next) → ((left : ℕ) → Steps code function depth m (row (record m { turns = left }))) → Steps code function depth m (taking_turn turns m row)
  turned zero row h = tt
  turned (suc turns) row h = h turns

  -- to the next place
  on : {d : ℕ} {after : Machine} → IsReached code function (record { place = m.place + 1; depth = d }) → d ≤ depth + 1 →
      after.place ≡ m.place + 1 → after.calls ≡ m.calls → GoesOn code function depth m after
  on {d} reached rises p c =
      moves (record { target = record { place = m.place + 1; depth = d }; reached = reached; rises = rises; place = p; calls = c })

  -- to a target
  to : (target : ℕ) {d : ℕ} {after : Machine} → IsReached code function (record { place = target; depth = d }) → d ≤ depth + 1 →
      after.place ≡ target → after.calls ≡ m.calls → GoesOn code function depth m after
  to target {d} reached rises p c =
      moves (record { target = record { place = target; depth = d }; reached = reached; rises = rises; place = p; calls = c })

  module _ {d : ℕ} where
    trapped : (o : Option ℤ) (stack : List ℤ) → IsReached code function (record { place = m.place + 1; depth = d }) → d ≤ depth + 1 →
        Steps code function depth m (gives_or_traps o m stack)
    trapped None stack reached rises = tt
    trapped (Some n) stack reached rises = on reached rises refl refl

    operated : (op : BinOp) (k : Kind) (a b : ℤ) (stack : List ℤ) → IsReached code function (record { place = m.place + 1; depth = d }) → d ≤ depth + 1 →
        Steps code function depth m (operates op k a b m stack)
    operated OrElse k a b stack reached rises = tt
    operated AndAlso k a b stack reached rises = tt
    operated op k a b stack reached rises = trapped (value op k a b) stack reached rises

    stored : (kinds : List Kind) (cell : ℕ) (n : ℤ) (stack : List ℤ) → IsReached code function (record { place = m.place + 1; depth = d }) → d ≤ depth + 1 →
        Steps code function depth m (stores kinds cell n m stack)
    stored kinds cell n stack reached rises =
        needed (slice_get m.cells cell) _ (λ old. needed (slice_get kinds cell) _ (λ k. on reached rises refl refl))

    written : (format : FormatText) (stack : List ℤ) → IsReached code function (record { place = m.place + 1; depth = d }) → d ≤ depth + 1 →
        Steps code function depth m (writes format m stack)
    written format stack reached rises =
        let line = effect.Line (rendered format (reverse (take (numbers_taken format) stack)) m.cells) in
        either (nat_le (numbers_taken format) (length stack) && list_all (λ array. nat_le (array.0 + array.1) (length m.cells)) (char_arrays format))
        (goes_on (after_effect line m) (drop (numbers_taken format) stack)) Stuck (on reached rises refl refl) tt

    affected : (closed : Bool) (change : Machine → Machine) (stack : List ℤ) → (change m).place ≡ m.place → (change m).calls ≡ m.calls →
        IsReached code function (record { place = m.place + 1; depth = d }) → d ≤ depth + 1 → Steps code function depth m (goes_on (unless closed change m) stack)
    affected true change stack p c reached rises = on reached rises refl refl
    affected false change stack p c reached rises = on reached rises (ap (λ (n : ℕ). n + 1) p) c

    called : (f : ℕ) (o : Option Fun) → slice_get code.functions f ≡ o → slice_get code.instrs m.place ≡ Some (Call f) → IsReached code function (record { place = m.place + 1; depth = d }) → d ≤ depth + 1 →
        Steps code function depth m (needing o (λ callee. taking_turn m.turns m (λ after. Goes (record after { place = callee.start; calls = (m.place + 1) ∷ m.calls }))))
    called f None e is reached rises = tt
    called f (Some callee) e is reached rises = turned m.turns _ (λ left. enters (record {
      entered = f;
      callee = callee;
      is_call = is;
      is_function = e;
      place = refl;
      calls = refl;
      back = d;
      reached = reached;
      rises = rises;
    }))

  returned : (calls : List ℕ) → m.calls ≡ calls → Steps code function depth m (returns_to calls m)
  returned [] e = tt
  returned (place ∷ calls) e = leaves e

  -- each row goes on in one of these ways
  pub Steps-row : (closed : Bool) (moment : ℕ) (instr : Instr) (stack : List ℤ) → slice_get code.instrs m.place ≡ Some instr → (shape_of code instr).taken ≤ depth →
      AllByRecursion (IsReached code function) (targets (shape_of code instr) m.place depth) → Steps code function depth m (row code closed moment m instr stack)
  Steps-row closed moment (Push n) stack is taken reached = on reached.0 (omega arith) refl refl
  Steps-row closed moment (Load cell) stack is taken reached =
      needed (slice_get m.cells cell) _ (λ n. on reached.0 (omega arith) refl refl)
  Steps-row closed moment (Store cell) stack is taken reached = one stack _ (λ n below. stored code.cells cell n below reached.0 (omega arith))
  Steps-row closed moment (Check len) stack is taken reached =
      one stack _ (λ i below. indexed i len _ (λ k. on reached.0 (omega arith) refl refl))
  Steps-row closed moment (Elem base len) stack is taken reached =
      one stack _ (λ i below. indexed i len _ (λ k. needed (slice_get m.cells (base + k)) _ (λ n. on reached.0 (omega arith) refl refl)))
  Steps-row closed moment (SetElem base len) stack is taken reached =
      two stack _ (λ i n below. indexed i len _ (λ k. stored code.cells (base + k) n below reached.0 (omega arith)))
  Steps-row closed moment (Bytes k at) stack is taken reached =
      one stack _ (λ i below. needed (message_at at m.cells) _ (λ message. indexed i (9 - size k) _ (λ byte. on reached.0 (omega arith) refl refl)))
  Steps-row closed moment (SetBytes k at) stack is taken reached =
      two stack _ (λ i n below. needed (message_at at m.cells) _ (λ message. indexed i (9 - size k) _ (λ byte. on reached.0 (omega arith) refl refl)))
  Steps-row closed moment (Sig l at) stack is taken reached = needed (message_at at m.cells) _ (λ message. on reached.0 (omega arith) refl refl)
  Steps-row closed moment (SetSig l at) stack is taken reached =
      one stack _ (λ n below. needed (message_at at m.cells) _ (λ message. on reached.0 (omega arith) refl refl))
  Steps-row closed moment (SetField f at) stack is taken reached =
      one stack _ (λ n below. needed (message_at at m.cells) _ (λ message. needed (slice_get write_rules f) _ (λ rule. on reached.0 (omega arith) refl refl)))
  Steps-row closed moment (Bin op k) stack is taken reached = two stack _ (λ a b below. operated op k a b below reached.0 (omega arith))
  Steps-row closed moment (Neg k) stack is taken reached = one stack _ (λ n below. on reached.0 (omega arith) refl refl)
  Steps-row closed moment (Inv k) stack is taken reached = one stack _ (λ n below. on reached.0 (omega arith) refl refl)
  Steps-row closed moment (Conv k) stack is taken reached = one stack _ (λ n below. on reached.0 (omega arith) refl refl)
  Steps-row closed moment Not stack is taken reached = one stack _ (λ n below. on reached.0 (omega arith) refl refl)
  Steps-row closed moment Dup stack is taken reached = let some : 1 ≤ depth = taken in one stack _ (λ n below. on reached.0 (omega arith) refl refl)
  Steps-row closed moment Drop stack is taken reached = one stack _ (λ n below. on reached.0 (omega arith) refl refl)
  Steps-row closed moment (Jump target) stack is taken reached =
      to target reached.0 (omega arith) refl refl
  Steps-row closed moment (Zero target) stack is taken reached =
      one stack _ (λ n below. either (int_eq n (pos 0)) _ _ (to target reached.0 (omega arith) refl refl) (on reached.1.0 (omega arith) refl refl))
  Steps-row closed moment (Case target label) stack is taken reached =
      one stack _ (λ n below. either (int_eq n label) _ _ (to target reached.0 (omega arith) refl refl) (on reached.1.0 (omega arith) refl refl))
  Steps-row closed moment (Back target) stack is taken reached =
      one stack _ (λ n below. either (int_eq n (pos 0)) _ _ (on reached.1.0 (omega arith) refl refl)
      (turned m.turns _ (λ left. to target reached.0 (omega arith) refl refl)))
  Steps-row closed moment Turn stack is taken reached =
      turned m.turns _ (λ left. on reached.0 (omega arith) refl refl)
  Steps-row closed moment (Call f) stack is taken reached = called f (slice_get code.functions f) refl is reached.0 (omega (arith, gives-le (slice_get code.functions f)))
  Steps-row closed moment Ret stack is taken reached = returned m.calls refl
  Steps-row closed moment (Write f) stack is taken reached = needed (slice_get code.formats f) _ (λ format. written format stack reached.0 (omega arith))
  Steps-row closed moment (Send at) stack is taken reached = needed (message_at at m.cells) _ (λ message. affected closed (after_effect (effect.Send (frame_of message))) stack refl refl reached.0 (omega arith))
  Steps-row closed moment (Copy to_cell from) stack is taken reached =
      needed (message_at to_cell m.cells) _ (λ there. needed (message_at from m.cells) _ (λ message. on reached.0 (omega arith) refl refl))
  Steps-row closed moment Stop stack is taken reached = affected closed (after_effect effect.Stop) stack refl refl reached.0 (omega arith)
  Steps-row closed moment (Set timer cyclic) stack is taken reached =
      one stack _ (λ n below. needed (slice_get code.timers timer) _ (λ unit. needed (slice_get m.active timer) _ (λ active. affected closed (after_set timer (micros unit n) cyclic) below refl refl reached.0 (omega arith))))
  Steps-row closed moment (Cancel timer) stack is taken reached = needed (slice_get m.active timer) _ (λ active. affected closed (after_cancel timer) stack refl refl reached.0 (omega arith))
  Steps-row closed moment (Active timer) stack is taken reached = needed (slice_get m.active timer) _ (λ active. on reached.0 (omega arith) refl refl)
  Steps-row closed moment Now stack is taken reached = on reached.0 (omega arith) refl refl
