-- Each row of the instruction table keeps the effects so far, and may add to them.
use Rattle.std.proofs.Common.{◌+◌, ◌-◌, ℕ, zero, suc, Bool, true, false, cond, List, [], ◌∷◌, ◌++◌, length, take, drop, reverse, Option, Some, None, refl, sym, slice_get}
use Rattle.std.specs.Prelude.{ℤ, pos, negsuc, ◌&&◌, nat_le, nat_lt}
use Rattle.std.specs.List.{list_all}
use Rattle.std.specs.Ordering.{int_eq}
use Rattle.std.proofs.lemmas.List.{append-nil}
use Rattle.int_kinds.specs.declared.kinds.Kind.{Kind}
use Rattle.int_kinds.specs.declared.operators.BinOp.{BinOp}
use Rattle.int_kinds.specs.declared.operators.BinOp.TheVariants.{OrElse, AndAlso}
use Rattle.int_kinds.specs.Arithmetic.{value}
use Rattle.write_format.specs.Line.{FormatText, char_arrays, numbers_taken, rendered}
use Rattle.run_effects.specs.Effect.{Effect, micros}
use Rattle.run_effects.specs.Effect as effect
use Rattle.bytecode.specs.declared.code.Code.{Code}
use Rattle.bytecode.specs.declared.instr.Instr.{Instr}
use Rattle.bytecode.specs.declared.instr.Instr.TheVariants.{Push, Load, Store, Check, Elem, SetElem, Bytes, SetBytes, Sig, SetSig, SetField, Bin, Neg, Inv, Conv, Not, Dup, Drop, Jump, Zero, Case, Back, Turn, Call, Ret, Write, Send, Copy, Stop, Set, Cancel, Active, Now}
use Rattle.bytecode.specs.Laws.{BeginsWith}
use Rattle.bytecode.specs.Machine.{Machine, Next, Goes, Ends, Stuck}
use Rattle.message_cells.specs.Message.{frame_of, message_at, size, write_rules}
use Rattle.bytecode.specs.Step.{after_cancel, after_effect, after_set, gives_or_traps, goes_on, indexing, needing, operates, returns_to, row, stores, taking_one, taking_turn, taking_two, unless, writes}

-- a list begins with itself
pub BeginsWith-self : (xs : List Effect) → BeginsWith xs xs
BeginsWith-self xs = ([], sym (append-nil xs))

-- the effects of a state begin those that are there after a step or more
abbrev pub ExtendsEffects : Machine → Next → Type 0
ExtendsEffects m (Goes after) = BeginsWith after.effects m.effects
ExtendsEffects m (Ends outcome after) = BeginsWith after.effects m.effects
ExtendsEffects m Stuck = Unit {0}

module _ (m : Machine) where
  self : BeginsWith m.effects m.effects
  self = BeginsWith-self m.effects

  added : (e : Effect) → BeginsWith (m.effects ++ e ∷ []) m.effects
  added e = (e ∷ [], refl)

  needed : {A : Type 0} (o : Option A) (row : A → Next) → ((x : A) → ExtendsEffects m (row x)) → ExtendsEffects m (needing o row)
  needed None row h = tt
  needed (Some x) row h = h x

  one : (stack : List ℤ) (row : ℤ → List ℤ → Next) → ((n : ℤ) (below : List ℤ) → ExtendsEffects m (row n below)) →
      ExtendsEffects m (taking_one stack row)
  one [] row h = tt
  one (n ∷ below) row h = h n below

  two : (stack : List ℤ) (row : ℤ → ℤ → List ℤ → Next) → ((a b : ℤ) (below : List ℤ) → ExtendsEffects m (row a b below)) →
      ExtendsEffects m (taking_two stack row)
  two [] row h = tt
  two (b ∷ []) row h = tt
  two (b ∷ a ∷ below) row h = h a b below

  either : (b : Bool) (first second : Next) → ExtendsEffects m first → ExtendsEffects m second → ExtendsEffects m (cond b first second)
  either true first second h k = h
  either false first second h k = k

  indexed : (i : ℤ) (len : ℕ) (row : ℕ → Next) → ((k : ℕ) → ExtendsEffects m (row k)) → ExtendsEffects m (indexing i len m row)
  indexed (negsuc i) len row h = self
  indexed (pos i) len row h = either (nat_lt i len) (row i) _ (h i) self

  turned : (turns : ℕ) (row : Machine → Next) → ((left : ℕ) → ExtendsEffects m (row (record m { turns = left }))) →
      ExtendsEffects m (taking_turn turns m row)
  turned zero row h = self
  turned (suc turns) row h = h turns

  trapped : (o : Option ℤ) (stack : List ℤ) → ExtendsEffects m (gives_or_traps o m stack)
  trapped None stack = self
  trapped (Some n) stack = self

  operated : (op : BinOp) (k : Kind) (a b : ℤ) (stack : List ℤ) → ExtendsEffects m (operates op k a b m stack)
  operated OrElse k a b stack = tt
  operated AndAlso k a b stack = tt
  operated op k a b stack = trapped (value op k a b) stack

  returned : (calls : List ℕ) → ExtendsEffects m (returns_to calls m)
  returned [] = self
  returned (place ∷ calls) = self

  stored : (kinds : List Kind) (cell : ℕ) (n : ℤ) (stack : List ℤ) → ExtendsEffects m (stores kinds cell n m stack)
  stored kinds cell n stack = needed (slice_get m.cells cell) _ (λ old. needed (slice_get kinds cell) _ (λ k. self))

  written : (format : FormatText) (stack : List ℤ) → ExtendsEffects m (writes format m stack)
  written format stack =
      let line = effect.Line (rendered format (reverse (take (numbers_taken format) stack)) m.cells) in
      either (nat_le (numbers_taken format) (length stack) && list_all (λ array. nat_le (array.0 + array.1) (length m.cells)) (char_arrays format))
      (goes_on (after_effect line m) (drop (numbers_taken format) stack)) Stuck (added line) tt

  -- a change with an effect, unless the measurement has ended
  affected : (closed : Bool) (change : Machine → Machine) (stack : List ℤ) → BeginsWith (change m).effects m.effects →
      ExtendsEffects m (goes_on (unless closed change m) stack)
  affected true change stack h = self
  affected false change stack h = h

-- each row keeps the effects so far
pub ExtendsEffects-row : (code : Code) (closed : Bool) (moment : ℕ) (m : Machine) (instr : Instr) (stack : List ℤ) →
    ExtendsEffects m (row code closed moment m instr stack)
ExtendsEffects-row code closed moment m (Push n) stack = self m
ExtendsEffects-row code closed moment m (Load cell) stack = needed m (slice_get m.cells cell) _ (λ n. self m)
ExtendsEffects-row code closed moment m (Store cell) stack = one m stack _ (λ n below. stored m code.cells cell n below)
ExtendsEffects-row code closed moment m (Check len) stack = one m stack _ (λ i below. indexed m i len _ (λ k. self m))
ExtendsEffects-row code closed moment m (Elem base len) stack =
    one m stack _ (λ i below. indexed m i len _ (λ k. needed m (slice_get m.cells (base + k)) _ (λ n. self m)))
ExtendsEffects-row code closed moment m (SetElem base len) stack =
    two m stack _ (λ i n below. indexed m i len _ (λ k. stored m code.cells (base + k) n below))
ExtendsEffects-row code closed moment m (Bytes k at) stack =
    one m stack _ (λ i below. needed m (message_at at m.cells) _ (λ message. indexed m i (9 - size k) _ (λ byte. self m)))
ExtendsEffects-row code closed moment m (SetBytes k at) stack =
    two m stack _ (λ i n below. needed m (message_at at m.cells) _ (λ message. indexed m i (9 - size k) _ (λ byte. self m)))
ExtendsEffects-row code closed moment m (Sig l at) stack = needed m (message_at at m.cells) _ (λ message. self m)
ExtendsEffects-row code closed moment m (SetSig l at) stack =
    one m stack _ (λ n below. needed m (message_at at m.cells) _ (λ message. self m))
ExtendsEffects-row code closed moment m (SetField f at) stack =
    one m stack _ (λ n below. needed m (message_at at m.cells) _ (λ message. needed m (slice_get write_rules f) _ (λ rule. self m)))
ExtendsEffects-row code closed moment m (Bin op k) stack = two m stack _ (λ a b below. operated m op k a b below)
ExtendsEffects-row code closed moment m (Neg k) stack = one m stack _ (λ n below. self m)
ExtendsEffects-row code closed moment m (Inv k) stack = one m stack _ (λ n below. self m)
ExtendsEffects-row code closed moment m (Conv k) stack = one m stack _ (λ n below. self m)
ExtendsEffects-row code closed moment m Not stack = one m stack _ (λ n below. self m)
ExtendsEffects-row code closed moment m Dup stack = one m stack _ (λ n below. self m)
ExtendsEffects-row code closed moment m Drop stack = one m stack _ (λ n below. self m)
ExtendsEffects-row code closed moment m (Jump target) stack = self m
ExtendsEffects-row code closed moment m (Zero target) stack =
    one m stack _ (λ n below. either m (int_eq n (pos 0)) _ _ (self m) (self m))
ExtendsEffects-row code closed moment m (Case target label) stack =
    one m stack _ (λ n below. either m (int_eq n label) _ _ (self m) (self m))
ExtendsEffects-row code closed moment m (Back target) stack =
    one m stack _ (λ n below. either m (int_eq n (pos 0)) _ _ (self m) (turned m m.turns _ (λ left. self m)))
ExtendsEffects-row code closed moment m Turn stack = turned m m.turns _ (λ left. self m)
ExtendsEffects-row code closed moment m (Call f) stack =
    needed m (slice_get code.functions f) _ (λ function. turned m m.turns _ (λ left. self m))
ExtendsEffects-row code closed moment m Ret stack = returned m m.calls
ExtendsEffects-row code closed moment m (Write f) stack =
    needed m (slice_get code.formats f) _ (λ format. written m format stack)
ExtendsEffects-row code closed moment m (Send at) stack =
    needed m (message_at at m.cells) _ (λ message. affected m closed (after_effect (effect.Send (frame_of message))) stack (added m _))
ExtendsEffects-row code closed moment m (Copy to from) stack =
    needed m (message_at to m.cells) _ (λ there. needed m (message_at from m.cells) _ (λ message. self m))
ExtendsEffects-row code closed moment m Stop stack = affected m closed (after_effect effect.Stop) stack (added m _)
ExtendsEffects-row code closed moment m (Set timer cyclic) stack =
    one m stack _ (λ n below. needed m (slice_get code.timers timer) _ (λ unit. needed m (slice_get m.active timer) _ (λ there.
    affected m closed (after_set timer (micros unit n) cyclic) below (added m _))))
ExtendsEffects-row code closed moment m (Cancel timer) stack =
    needed m (slice_get m.active timer) _ (λ there. affected m closed (after_cancel timer) stack (added m _))
ExtendsEffects-row code closed moment m (Active timer) stack = needed m (slice_get m.active timer) _ (λ active. self m)
ExtendsEffects-row code closed moment m Now stack = self m
