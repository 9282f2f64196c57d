-- The instruction table of the stack machine.
use Rattle.std.specs.Prelude.{ℕ, zero, suc, ◌+◌, ◌-◌, ◌/◌, Bool, true, false, if◌then◌else◌, nat_lt, nat_le, ◌&&◌, List, [], ◌∷◌, ◌++◌, reverse, length, take, drop, ℤ, pos, negsuc, Option, Some, None, slice_get, slice_set}
use Rattle.std.specs.List.{list_all}
use Rattle.std.specs.Ordering.{int_eq}
use Rattle.int_kinds.specs.declared.kinds.Kind.{Kind}
use Rattle.int_kinds.specs.declared.kinds.Kind.TheVariants.{Dword}
use Rattle.int_kinds.specs.declared.operators.BinOp.{BinOp}
use Rattle.int_kinds.specs.declared.operators.BinOp.TheVariants.{OrElse, AndAlso}
use Rattle.int_kinds.specs.Kind.{wrap}
use Rattle.int_kinds.specs.Arithmetic.{inverted, negated, truth, value}
use Rattle.signal_codec.specs.Signal.{payload_with, signal_value}
use Rattle.write_format.specs.Line.{FormatText, char_arrays, numbers_taken, rendered}
use Rattle.run_effects.specs.Effect.{Effect, micros}
use Rattle.run_effects.specs.Effect as effect
use Rattle.run_effects.specs.declared.outcome.Outcome.TheVariants.{Done, Trapped, Cut}
use Rattle.run_effects.specs.declared.outcome.TrapKind.TheVariants.{ZeroDivisor, Index}
use Rattle.bytecode.specs.declared.code.Code.{Code}
use Rattle.bytecode.specs.declared.instr.Instr.{Instr}
use Rattle.bytecode.specs.declared.instr.Instr.TheVariants.{Push, Load, Store, Check, Elem, SetElem, Bytes, SetBytes, Sig, SetSig, SetField, Bin, Neg, Inv, Conv, Not, Dup, Drop, Jump, Zero, Case, Back, Turn, Call, Ret, Write, Send, Copy, Stop, Set, Cancel, Active, Now}
use Rattle.bytecode.specs.Machine.{Machine, Next, Goes, Ends, Stuck}
use Rattle.message_cells.specs.Message.{bytes_of, frame_of, message_at, number_at, payload_of, size, with_bytes, with_message, write_rules}

-- what the row does with something that it asks for, and stuck if that is not there
abbrev pub needing : {A : Type 0} → Option A → (A → Next) → Next
needing None row = Stuck
needing (Some x) row = row x

-- what the row does with the top number and the stack below it, and stuck if there is none
abbrev pub taking_one : List ℤ → (ℤ → List ℤ → Next) → Next
taking_one [] row = Stuck
taking_one (n ∷ stack) row = row n stack

-- what the row does with the two top numbers, the top one second, and stuck if they are not there
abbrev pub taking_two : List ℤ → (ℤ → ℤ → List ℤ → Next) → Next
taking_two stack row = taking_one stack (λ top rest. taking_one rest (λ second below. row second top below))

-- goes on to the next place, with this stack
abbrev pub goes_on : Machine → List ℤ → Next
goes_on m stack = Goes (record m { place = m.place + 1; stack = stack })

-- goes to a place, with this stack
abbrev pub goes_to : ℕ → Machine → List ℤ → Next
goes_to target m stack = Goes (record m { place = target; stack = stack })

-- gives the number in a cell
abbrev pub reads : ℕ → Machine → List ℤ → Next
reads cell m stack = needing (slice_get m.cells cell) (λ n. goes_on m (n ∷ stack))

-- stores a number in a cell, wrapped to the cell's kind, and gives what is stored
abbrev pub stores : List Kind → ℕ → ℤ → Machine → List ℤ → Next
stores kinds cell n m stack = needing (slice_get m.cells cell) (λ _. needing (slice_get kinds cell) (λ k.
    goes_on (record m { cells = slice_set m.cells cell (wrap k n) }) (wrap k n ∷ stack)))

-- traps if a number is no index below a length
abbrev pub indexing : ℤ → ℕ → Machine → (ℕ → Next) → Next
indexing (pos i) len m row = if nat_lt i len then row i else Ends (Trapped Index) m
indexing (negsuc i) len m row = Ends (Trapped Index) m

-- stores bytes in the payload of a message, and gives a number
abbrev pub stores_bytes : ℕ → ℕ → List ℕ → ℤ → Machine → List ℤ → Next
stores_bytes at i bytes given m stack =
    goes_on (record m { cells = with_bytes at i bytes m.cells }) (given ∷ stack)

-- gives a number, or traps where the divisor was zero
abbrev pub gives_or_traps : Option ℤ → Machine → List ℤ → Next
gives_or_traps None m stack = Ends (Trapped ZeroDivisor) m
gives_or_traps (Some n) m stack = goes_on m (n ∷ stack)

-- gives the value of an operator; `||` and `&&` are no instructions
abbrev pub operates : BinOp → Kind → ℤ → ℤ → Machine → List ℤ → Next
operates OrElse k a b m stack = Stuck
operates AndAlso k a b m stack = Stuck
operates op k a b m stack = gives_or_traps (value op k a b) m stack

-- what the row does with one turn less, and the end of the run if none is left
abbrev pub taking_turn : ℕ → Machine → (Machine → Next) → Next
taking_turn zero m row = Ends Cut m
taking_turn (suc turns) m row = row (record m { turns = turns })

-- ends the function: goes to where its call returns to, or ends the run
abbrev pub returns_to : List ℕ → Machine → Next
returns_to [] m = Ends Done m
returns_to (place ∷ calls) m = Goes (record m { place = place; calls = calls })

-- the machine after an effect
abbrev pub after_effect : Effect → Machine → Machine
after_effect e m = record m { effects = m.effects ++ e ∷ [] }

-- what changes in the machine, if the measurement has not ended
abbrev pub unless : Bool → (Machine → Machine) → Machine → Machine
unless closed change m = if closed then m else change m

-- the arrays of characters that a format reads are among the cells
abbrev pub has_arrays : FormatText → List ℤ → Bool
has_arrays format cells = list_all (λ array. nat_le (array.0 + array.1) (length cells)) (char_arrays format)

-- the line of a format, whose numbers are the top of the stack, the last one first
abbrev pub line_of : FormatText → List ℤ → List ℤ → List ℕ
line_of format cells stack = rendered format (reverse (take (numbers_taken format) stack)) cells

-- takes the numbers of a format and writes its line
abbrev pub writes : FormatText → Machine → List ℤ → Next
writes format m stack =
    let line = effect.Line (line_of format m.cells stack) in
    if nat_le (numbers_taken format) (length stack) && has_arrays format m.cells
    then goes_on (after_effect line m) (drop (numbers_taken format) stack)
    else Stuck

-- the machine after a timer was set
abbrev pub after_set : ℕ → ℕ → Bool → Machine → Machine
after_set timer duration cyclic m =
    after_effect (effect.Set timer duration cyclic) (record m { active = slice_set m.active timer true })

-- the machine after a timer was cancelled
abbrev pub after_cancel : ℕ → Machine → Machine
after_cancel timer m =
    after_effect (effect.Cancel timer) (record m { active = slice_set m.active timer false })

-- One row of the table for each instruction: what it does to a machine that stands at it, with this stack.
abbrev pub row : Code → Bool → ℕ → Machine → Instr → List ℤ → Next
row code closed moment m (Push n) stack = goes_on m (n ∷ stack)
row code closed moment m (Load cell) stack = reads cell m stack
row code closed moment m (Store cell) stack = taking_one stack (λ n below. stores code.cells cell n m below)
row code closed moment m (Check len) stack =
    taking_one stack (λ i below. indexing i len m (λ _. goes_on m (i ∷ below)))
row code closed moment m (Elem base len) stack =
    taking_one stack (λ i below. indexing i len m (λ k. reads (base + k) m below))
row code closed moment m (SetElem base len) stack =
    taking_two stack (λ i n below. indexing i len m (λ k. stores code.cells (base + k) n m below))
row code closed moment m (Bytes k at) stack =
    taking_one stack (λ i below. needing (message_at at m.cells) (λ message.
    indexing i (9 - size k) m (λ byte. goes_on m (number_at k byte (payload_of message) ∷ below))))
row code closed moment m (SetBytes k at) stack =
    taking_two stack (λ i n below. needing (message_at at m.cells) (λ _.
    indexing i (9 - size k) m (λ byte. stores_bytes at byte (bytes_of k n) (wrap k n) m below)))
row code closed moment m (Sig l at) stack =
    needing (message_at at m.cells) (λ message. goes_on m (signal_value l (payload_of message) ∷ stack))
row code closed moment m (SetSig l at) stack =
    taking_one stack (λ n below. needing (message_at at m.cells) (λ message.
    let after = payload_with l (payload_of message) n in
    stores_bytes at 0 after (signal_value l after) m below))
row code closed moment m (SetField f at) stack =
    taking_one stack (λ n below. needing (message_at at m.cells) (λ _.
    needing (slice_get write_rules f) (λ rule.
    goes_on (record m { cells = slice_set m.cells (at + f) (pos (rule n)) }) (pos (rule n) ∷ below))))
row code closed moment m (Bin op k) stack = taking_two stack (λ a b below. operates op k a b m below)
row code closed moment m (Neg k) stack = taking_one stack (λ n below. goes_on m (negated k n ∷ below))
row code closed moment m (Inv k) stack = taking_one stack (λ n below. goes_on m (inverted k n ∷ below))
row code closed moment m (Conv k) stack = taking_one stack (λ n below. goes_on m (wrap k n ∷ below))
row code closed moment m Not stack =
    taking_one stack (λ n below. goes_on m (truth (int_eq n (pos 0)) ∷ below))
row code closed moment m Dup stack = taking_one stack (λ n below. goes_on m (n ∷ n ∷ below))
row code closed moment m Drop stack = taking_one stack (λ n below. goes_on m below)
row code closed moment m (Jump target) stack = goes_to target m stack
row code closed moment m (Zero target) stack =
    taking_one stack (λ n below. if int_eq n (pos 0) then goes_to target m below else goes_on m below)
row code closed moment m (Case target label) stack =
    taking_one stack (λ n below. if int_eq n label then goes_to target m below else goes_on m (n ∷ below))
row code closed moment m (Back target) stack =
    taking_one stack (λ n below. if int_eq n (pos 0) then goes_on m below
    else taking_turn m.turns m (λ after. goes_to target after below))
row code closed moment m Turn stack = taking_turn m.turns m (λ after. goes_on after stack)
row code closed moment m (Call f) stack =
    needing (slice_get code.functions f) (λ function. taking_turn m.turns m (λ after.
    Goes (record after { place = function.start; calls = (m.place + 1) ∷ m.calls })))
row code closed moment m Ret stack = returns_to m.calls m
row code closed moment m (Write f) stack =
    needing (slice_get code.formats f) (λ format. writes format m stack)
row code closed moment m (Send at) stack =
    needing (message_at at m.cells) (λ message.
    goes_on (unless closed (after_effect (effect.Send (frame_of message))) m) stack)
row code closed moment m (Copy to from) stack =
    needing (message_at to m.cells) (λ _. needing (message_at from m.cells) (λ message.
    goes_on (record m { cells = with_message to message m.cells }) stack))
row code closed moment m Stop stack = goes_on (unless closed (after_effect effect.Stop) m) stack
row code closed moment m (Set timer cyclic) stack =
    taking_one stack (λ n below. needing (slice_get code.timers timer) (λ unit.
    needing (slice_get m.active timer) (λ _.
    goes_on (unless closed (after_set timer (micros unit n) cyclic) m) below)))
row code closed moment m (Cancel timer) stack =
    needing (slice_get m.active timer) (λ _. goes_on (unless closed (after_cancel timer) m) stack)
row code closed moment m (Active timer) stack =
    needing (slice_get m.active timer) (λ active. goes_on m (truth active ∷ stack))
row code closed moment m Now stack = goes_on m (wrap Dword (pos (moment / 10)) ∷ stack)

-- one step, in a measurement that has ended or not, at a moment in microseconds: the row of the
-- instruction at the place
abbrev pub step : Code → Bool → ℕ → Machine → Next
step code closed moment m =
    needing (slice_get code.instrs m.place) (λ instr. row code closed moment m instr m.stack)

-- what comes after a step, if the machine goes on
abbrev pub continuing : Next → (Machine → Next) → Next
continuing (Goes m) further = further m
continuing (Ends outcome m) further = Ends outcome m
continuing Stuck further = Stuck

-- the state after so many steps, or the ended one
abbrev pub go : Code → Bool → ℕ → ℕ → Machine → Next
go code closed moment zero m = Goes m
go code closed moment (suc n) m =
    continuing (step code closed moment m) (λ after. go code closed moment n after)
