-- Each row of the instruction table in verified code is a safe step.
use Rattle.std.proofs.Common.{◌≡◌, ◌≤◌, ◌<◌, ◌+◌, ◌-◌, ◌/◌, ℕ, zero, suc, Bool, true, false, List, [], ◌∷◌, length, take, drop, reverse, slice_get, Some, refl, sym, ap, ◌∙◌, subst, arith, lit<, length-drop}
use Rattle.std.specs.Prelude.{ℤ, pos, ◌&&◌, nat_le, slice_set, All}
use Rattle.std.specs.List.{AllByRecursion, list_all}
use Rattle.std.specs.Option.{option_map_or}
use Rattle.std.specs.Ordering.{int_eq}
use Rattle.std.proofs.lemmas.Bool.{le-leb}
use Rattle.std.proofs.lemmas.List.{length-set}
use Rattle.std.proofs.lemmas.Option.{get_or_from_slice_get, slice_get_within}
use Rattle.int_kinds.specs.declared.kinds.Kind.{Kind}
use Rattle.int_kinds.specs.declared.kinds.Kind.TheVariants.{Byte, Word, Dword}
use Rattle.int_kinds.specs.Kind.{Holds, IsNumber, wrap}
use Rattle.int_kinds.specs.Arithmetic.{inverted, negated, truth}
use Rattle.int_kinds.proofs.Values.{IsNumber-held, IsNumber-wrap}
use Rattle.signal_codec.specs.Signal.{payload_with, signal_value}
use Rattle.write_format.specs.Line.{IsCharArray, FormatText, char_arrays, numbers_taken, rendered}
use Rattle.run_effects.specs.Effect as effect
use Rattle.bytecode.specs.declared.code.Code.{Code}
use Rattle.bytecode.specs.declared.instr.Instr.{Instr}
use Rattle.bytecode.specs.declared.instr.Instr.TheVariants.{Push, Load, Store, Check, Elem, SetElem, Bytes, SetBytes, Sig, SetSig, SetField, Bin, Neg, Inv, Conv, Not, Dup, Drop, Jump, Zero, Case, Back, Turn, Call, Ret, Write, Send, Copy, Stop, Set, Cancel, Active, Now}
use Rattle.bytecode.specs.Machine.{Machine, Next, Stuck}
use Rattle.message_cells.specs.Message.{IsMessage, bytes_of, frame_of, message_at, message_kinds, number_at, payload_of, size, write_rules, written_can, written_dlc, written_id, written_rtr}
use Rattle.bytecode.specs.Rule.{IsReached, KeepsRule, Target, aim, next}
use Rattle.bytecode.specs.Shape.{given_by_call, numbers_given, shape_of, taken_by_line}
use Rattle.run_effects.specs.Effect.{micros}
use Rattle.bytecode.specs.Step.{needing, after_cancel, after_effect, after_set, goes_on, row, writes}
use Rattle.bytecode.specs.Verified.{IsVerified}
use Rattle.bytecode.proofs.Calls.{IsSafeStep-call, IsSafeStep-return}
use Rattle.bytecode.proofs.ListItems.{item_below}
use Rattle.bytecode.proofs.MachineStates.{IsSafeStep, Stands}
use Rattle.bytecode.proofs.MessageCells.{AreBytes-bytes_of, AreBytes-payload_with, HoldKinds-copy, IsPayload-payload, length-bytes_of, length-payload_with, message_kind, message_there}
use Rattle.bytecode.proofs.Moves.{IsSafeStep-if, IsSafeStep-indexing, IsSafeStep-needing, IsSafeStep-on, IsSafeStep-on_cells, IsSafeStep-on_same, IsSafeStep-turn, IsSafeStep-turn_on, IsSafeStep-up}
use Rattle.bytecode.proofs.Numbers.{IsNumber-inverted, IsNumber-negated, Holds-written_can, Holds-written_dlc, Holds-written_id, Holds-written_rtr, IsNumber-number_at, IsNumber-signal_value, IsNumber-truth}
use Rattle.bytecode.proofs.ZippedLists.{AllZip-same_length, AllZip-set}
use Rattle.bytecode.proofs.RowParts.{IsSafeStep-bytes, IsSafeStep-operates, IsSafeStep-reads, IsSafeStep-stores, IsSafeStep-unless}

AllByRecursion-drop : {A : Type 0} (P : A → Type 0) (n : ℕ) (xs : List A) → AllByRecursion P xs → AllByRecursion P (drop n xs)
AllByRecursion-drop P zero xs h = h
AllByRecursion-drop P (suc n) [] h = tt
AllByRecursion-drop P (suc n) (x ∷ xs) h = AllByRecursion-drop P n xs h.1

-- the arrays of a format lie in the cells, where they are arrays of characters
pub arrays_there : (kinds : List Kind) (cells : List ℤ) → length cells ≡ length kinds → (arrays : List (ℕ × ℕ)) → All (IsCharArray kinds) arrays →
    list_all (λ array. nat_le (array.0 + array.1) (length cells)) arrays ≡ true
arrays_there kinds cells same [] h = refl
arrays_there kinds cells same (a ∷ arrays) h =
    let first : IsCharArray kinds a = h 0 a (omega arith) in
    let yes' : nat_le (a.0 + a.1) (length cells) ≡ true = le-leb (a.0 + a.1) (length cells) (omega (arith, first.there, same)) in
    simp yes' (arrays_there kinds cells same arrays (λ k d below. h (suc k) d (omega arith)))

module _ {code : Code} (verified : IsVerified code) (closed : Bool) (moment : ℕ) {m : Machine} (s : Stands code m) where
  -- the next place after an instruction
  abbrev ahead : Instr → Target
  ahead instr = next (shape_of code instr) m.place s.depth

  -- what a row does with a message
  with_message : (base : ℕ) → IsMessage code.cells base → (doing : List ℤ → Next) → IsSafeStep s (doing (take 14 (drop base m.cells))) →
      IsSafeStep s (needing (message_at base m.cells) doing)
  with_message base is doing h =
      IsSafeStep-needing s (message_at base m.cells) (take 14 (drop base m.cells)) doing (message_there code.cells m.cells base s.cells_held is) h

  -- a field of a message is written
  IsSafeStep-field : (base f : ℕ) (n : ℤ) (k : Kind) (stack : List ℤ) (target : Target) → target.place ≡ m.place + 1 → IsMessage code.cells base → f < 14 →
      slice_get message_kinds f ≡ Some k → Holds k n →
      AllByRecursion IsNumber stack → suc (length stack) ≡ target.depth + s.below → IsReached code s.function target →
      IsSafeStep s (goes_on (record m { cells = slice_set m.cells (base + f) n }) (n ∷ stack))
  IsSafeStep-field base f n k stack target p is small kind holds numbers height reached =
      IsSafeStep-on_cells s (slice_set m.cells (base + f) n) (n ∷ stack) target p
      (AllZip-set Holds code.cells m.cells s.cells_held (base + f) k n (message_kind code.cells base f (base + f) k is small refl kind) holds)
      (IsNumber-held k n holds, numbers) height reached

  -- any of the four fields that have a write rule
  IsSafeStep-fields : (base f : ℕ) (n : ℤ) (stack : List ℤ) (target : Target) → target.place ≡ m.place + 1 → IsMessage code.cells base → f ≤ 3 →
      AllByRecursion IsNumber stack → suc (length stack) ≡ target.depth + s.below → IsReached code s.function target →
      IsSafeStep s (needing (slice_get write_rules f) (λ rule. goes_on (record m { cells = slice_set m.cells (base + f) (pos (rule n)) }) (pos (rule n) ∷ stack)))
  IsSafeStep-fields base zero n stack target p is small numbers height reached =
      IsSafeStep-field base 0 (pos (written_id n)) Dword stack target p is (lit< tt) refl (Holds-written_id n) numbers height reached
  IsSafeStep-fields base (suc zero) n stack target p is small numbers height reached =
      IsSafeStep-field base 1 (pos (written_dlc n)) Byte stack target p is (lit< tt) refl (Holds-written_dlc n) numbers height reached
  IsSafeStep-fields base (suc (suc zero)) n stack target p is small numbers height reached =
      IsSafeStep-field base 2 (pos (written_rtr n)) Byte stack target p is (lit< tt) refl (Holds-written_rtr n) numbers height reached
  IsSafeStep-fields base (suc (suc (suc zero))) n stack target p is small numbers height reached =
      IsSafeStep-field base 3 (pos (written_can n)) Word stack target p is (lit< tt) refl (Holds-written_can n) numbers height reached
  IsSafeStep-fields base (suc (suc (suc (suc f)))) n stack target p is small numbers height reached = absurd (omega arith)

  -- a line is written
  IsSafeStep-writes : (format : FormatText) (stack : List ℤ) (target : Target) → target.place ≡ m.place + 1 →
      numbers_taken format ≤ length stack → All (IsCharArray code.cells) (char_arrays format) →
      AllByRecursion IsNumber stack → length stack ≡ numbers_taken format + (target.depth + s.below) → IsReached code s.function target →
      IsSafeStep s (writes format m stack)
  IsSafeStep-writes format stack target p enough arrays numbers height reached =
      let same = AllZip-same_length Holds code.cells m.cells s.cells_held in
      let there = arrays_there code.cells m.cells same (char_arrays format) arrays in
      let taken : nat_le (numbers_taken format) (length stack) ≡ true = le-leb (numbers_taken format) (length stack) enough in
      let both : (nat_le (numbers_taken format) (length stack) && list_all (λ array. nat_le (array.0 + array.1) (length m.cells)) (char_arrays format)) ≡ true =
      ap (λ b. b && list_all (λ array. nat_le (array.0 + array.1) (length m.cells)) (char_arrays format)) taken ∙ there in
      let line = effect.Line (rendered format (reverse (take (numbers_taken format) stack)) m.cells) in
      IsSafeStep-if s (nat_le (numbers_taken format) (length stack) && list_all (λ array. nat_le (array.0 + array.1) (length m.cells)) (char_arrays format)) _ Stuck
      (λ _. IsSafeStep-on s (after_effect line m) (drop (numbers_taken format) stack) target p refl refl refl s.cells_held s.timers
      (AllByRecursion-drop IsNumber (numbers_taken format) stack numbers) (omega (arith, height, length-drop (numbers_taken format) stack)) reached)
      (λ n. absurd (let t : true ≡ false = sym both ∙ n in cc))

  -- each instruction, with the numbers that it takes on top of the stack
  pub IsSafeStep-row : (instr : Instr) (stack : List ℤ) → KeepsRule code s.number s.function m.place instr s.depth →
      AllByRecursion IsNumber stack → length stack ≡ s.depth + s.below → IsSafeStep s (row code closed moment m instr stack)
  IsSafeStep-row (Push n) stack r ns h = IsSafeStep-on_same s (n ∷ stack) (ahead (Push n)) refl (r.names_exist, ns) (omega (arith, h)) r.targets_agree.0
  IsSafeStep-row (Load cell) stack r ns h =
      IsSafeStep-reads s cell stack (ahead (Load cell)) refl r.names_exist ns (omega (arith, h)) r.targets_agree.0
  IsSafeStep-row (Store cell) [] r ns h = absurd (omega (arith, h, r.takes_what_is_there))
  IsSafeStep-row (Store cell) (n ∷ stack) r ns h =
      IsSafeStep-stores s cell n stack (ahead (Store cell)) refl r.names_exist ns.1 (omega (arith, h, r.takes_what_is_there)) r.targets_agree.0
  IsSafeStep-row (Check len) [] r ns h = absurd (omega (arith, h, r.takes_what_is_there))
  IsSafeStep-row (Check len) (i ∷ stack) r ns h =
      IsSafeStep-indexing s i len _ (λ k below'. IsSafeStep-on_same s (i ∷ stack) (ahead (Check len)) refl ns (omega (arith, h, r.takes_what_is_there)) r.targets_agree.0)
  IsSafeStep-row (Elem base len) [] r ns h = absurd (omega (arith, h, r.takes_what_is_there))
  IsSafeStep-row (Elem base len) (i ∷ stack) r ns h =
      IsSafeStep-indexing s i len _ (λ k small.
      IsSafeStep-reads s (base + k) stack (ahead (Elem base len)) refl (omega (arith, r.names_exist.there, small)) ns.1 (omega (arith, h, r.takes_what_is_there)) r.targets_agree.0)
  IsSafeStep-row (SetElem base len) [] r ns h = absurd (omega (arith, h, r.takes_what_is_there))
  IsSafeStep-row (SetElem base len) (n ∷ []) r ns h = absurd (omega (arith, h, r.takes_what_is_there))
  IsSafeStep-row (SetElem base len) (n ∷ i ∷ stack) r ns h =
      IsSafeStep-indexing s i len _ (λ k small.
      IsSafeStep-stores s (base + k) n stack (ahead (SetElem base len)) refl (omega (arith, r.names_exist.there, small)) ns.1.1 (omega (arith, h, r.takes_what_is_there)) r.targets_agree.0)
  IsSafeStep-row (Bytes k base) [] r ns h = absurd (omega (arith, h, r.takes_what_is_there))
  IsSafeStep-row (Bytes k base) (i ∷ stack) r ns h =
      with_message base r.names_exist _ (IsSafeStep-indexing s i (9 - size k) _ (λ byte small.
      IsSafeStep-on_same s (number_at k byte (payload_of (take 14 (drop base m.cells))) ∷ stack) (ahead (Bytes k base)) refl (IsNumber-number_at k byte (payload_of (take 14 (drop base m.cells))), ns.1) (omega (arith, h, r.takes_what_is_there)) r.targets_agree.0))
  IsSafeStep-row (SetBytes k base) [] r ns h = absurd (omega (arith, h, r.takes_what_is_there))
  IsSafeStep-row (SetBytes k base) (n ∷ []) r ns h = absurd (omega (arith, h, r.takes_what_is_there))
  IsSafeStep-row (SetBytes k base) (n ∷ i ∷ stack) r ns h =
      with_message base r.names_exist _ (IsSafeStep-indexing s i (9 - size k) _ (λ byte small.
      let len = length-bytes_of k n in
      IsSafeStep-bytes s base byte (bytes_of k n) (wrap k n) stack (ahead (SetBytes k base)) refl r.names_exist
      (omega (arith, small, len)) (AreBytes-bytes_of k n) (IsNumber-wrap k n) ns.1.1 (omega (arith, h, r.takes_what_is_there)) r.targets_agree.0))
  IsSafeStep-row (Sig l base) stack r ns h =
      with_message base r.names_exist.1 _
      (IsSafeStep-on_same s (signal_value l (payload_of (take 14 (drop base m.cells))) ∷ stack) (ahead (Sig l base)) refl (IsNumber-signal_value l (payload_of (take 14 (drop base m.cells))) r.names_exist.0, ns) (omega (arith, h)) r.targets_agree.0)
  IsSafeStep-row (SetSig l base) [] r ns h = absurd (omega (arith, h, r.takes_what_is_there))
  IsSafeStep-row (SetSig l base) (n ∷ stack) r ns h =
      let payload = payload_of (take 14 (drop base m.cells)) in
      let is = IsPayload-payload code.cells m.cells base s.cells_held r.names_exist.1 in
      let len = length-payload_with l payload n r.names_exist.0 is in
      with_message base r.names_exist.1 _
      (IsSafeStep-bytes s base 0 (payload_with l payload n) (signal_value l (payload_with l payload n)) stack (ahead (SetSig l base)) refl r.names_exist.1
      (omega (arith, len)) (AreBytes-payload_with l payload n r.names_exist.0 is) (IsNumber-signal_value l (payload_with l payload n) r.names_exist.0) ns.1 (omega (arith, h, r.takes_what_is_there)) r.targets_agree.0)
  IsSafeStep-row (SetField f base) [] r ns h = absurd (omega (arith, h, r.takes_what_is_there))
  IsSafeStep-row (SetField f base) (n ∷ stack) r ns h =
      with_message base r.names_exist.1 _ (IsSafeStep-fields base f n stack (ahead (SetField f base)) refl r.names_exist.1 r.names_exist.0 ns.1 (omega (arith, h, r.takes_what_is_there)) r.targets_agree.0)
  IsSafeStep-row (Bin op k) [] r ns h = absurd (omega (arith, h, r.takes_what_is_there))
  IsSafeStep-row (Bin op k) (b ∷ []) r ns h = absurd (omega (arith, h, r.takes_what_is_there))
  IsSafeStep-row (Bin op k) (b ∷ a ∷ stack) r ns h =
      IsSafeStep-operates s op k a b stack (ahead (Bin op k)) refl r.names_exist ns.1.1 (omega (arith, h, r.takes_what_is_there)) r.targets_agree.0
  IsSafeStep-row (Neg k) [] r ns h = absurd (omega (arith, h, r.takes_what_is_there))
  IsSafeStep-row (Neg k) (n ∷ stack) r ns h =
      IsSafeStep-on_same s (negated k n ∷ stack) (ahead (Neg k)) refl (IsNumber-negated k n, ns.1) (omega (arith, h, r.takes_what_is_there)) r.targets_agree.0
  IsSafeStep-row (Inv k) [] r ns h = absurd (omega (arith, h, r.takes_what_is_there))
  IsSafeStep-row (Inv k) (n ∷ stack) r ns h =
      IsSafeStep-on_same s (inverted k n ∷ stack) (ahead (Inv k)) refl (IsNumber-inverted k n, ns.1) (omega (arith, h, r.takes_what_is_there)) r.targets_agree.0
  IsSafeStep-row (Conv k) [] r ns h = absurd (omega (arith, h, r.takes_what_is_there))
  IsSafeStep-row (Conv k) (n ∷ stack) r ns h =
      IsSafeStep-on_same s (wrap k n ∷ stack) (ahead (Conv k)) refl (IsNumber-wrap k n, ns.1) (omega (arith, h, r.takes_what_is_there)) r.targets_agree.0
  IsSafeStep-row Not [] r ns h = absurd (omega (arith, h, r.takes_what_is_there))
  IsSafeStep-row Not (n ∷ stack) r ns h =
      IsSafeStep-on_same s (truth (int_eq n (pos 0)) ∷ stack) (ahead Not) refl (IsNumber-truth (int_eq n (pos 0)), ns.1) (omega (arith, h, r.takes_what_is_there)) r.targets_agree.0
  IsSafeStep-row Dup [] r ns h = absurd (omega (arith, h, r.takes_what_is_there))
  IsSafeStep-row Dup (n ∷ stack) r ns h =
      IsSafeStep-on_same s (n ∷ n ∷ stack) (ahead Dup) refl (ns.0, ns) (omega (arith, h, r.takes_what_is_there)) r.targets_agree.0
  IsSafeStep-row Drop [] r ns h = absurd (omega (arith, h, r.takes_what_is_there))
  IsSafeStep-row Drop (n ∷ stack) r ns h = IsSafeStep-on_same s stack (ahead Drop) refl ns.1 (omega (arith, h, r.takes_what_is_there)) r.targets_agree.0
  IsSafeStep-row (Jump target) stack r ns h =
      IsSafeStep-up s stack (aim (shape_of code (Jump target)) target s.depth) r.goes_the_right_way ns (omega (arith, h)) r.targets_agree.0
  IsSafeStep-row (Zero target) [] r ns h = absurd (omega (arith, h, r.takes_what_is_there))
  IsSafeStep-row (Zero target) (n ∷ stack) r ns h =
      IsSafeStep-if s (int_eq n (pos 0)) _ _
      (λ _. IsSafeStep-up s stack (aim (shape_of code (Zero target)) target s.depth) r.goes_the_right_way ns.1 (omega (arith, h, r.takes_what_is_there)) r.targets_agree.0)
      (λ _. IsSafeStep-on_same s stack (ahead (Zero target)) refl ns.1 (omega (arith, h, r.takes_what_is_there)) r.targets_agree.1.0)
  IsSafeStep-row (Case target label) [] r ns h = absurd (omega (arith, h, r.takes_what_is_there))
  IsSafeStep-row (Case target label) (n ∷ stack) r ns h =
      IsSafeStep-if s (int_eq n label) _ _
      (λ _. IsSafeStep-up s stack (aim (shape_of code (Case target label)) target s.depth) r.goes_the_right_way ns.1 (omega (arith, h, r.takes_what_is_there)) r.targets_agree.0)
      (λ _. IsSafeStep-on_same s (n ∷ stack) (ahead (Case target label)) refl ns (omega (arith, h, r.takes_what_is_there)) r.targets_agree.1.0)
  IsSafeStep-row (Back target) [] r ns h = absurd (omega (arith, h, r.takes_what_is_there))
  IsSafeStep-row (Back target) (n ∷ stack) r ns h =
      IsSafeStep-if s (int_eq n (pos 0)) _ _
      (λ _. IsSafeStep-on_same s stack (ahead (Back target)) refl ns.1 (omega (arith, h, r.takes_what_is_there)) r.targets_agree.1.0)
      (λ _. IsSafeStep-turn s m.turns refl stack (aim (shape_of code (Back target)) target s.depth) ns.1 (omega (arith, h, r.takes_what_is_there)) r.targets_agree.0)
  IsSafeStep-row Turn stack r ns h =
      IsSafeStep-turn_on s m.turns refl stack (ahead Turn) refl ns (omega (arith, h)) r.targets_agree.0
  IsSafeStep-row (Call f) stack r ns h =
      let small : f < length code.functions = omega (arith, r.calls_earlier, slice_get_within code.functions s.number s.function s.at.is_there) in
      let callee = item_below code.functions f small in
      let gives : given_by_call code f ≡ numbers_given callee.item = ap (λ o. option_map_or numbers_given o 0) callee.is_there in
      IsSafeStep-needing s (slice_get code.functions f) callee.item _ callee.is_there
      (IsSafeStep-call verified s f callee.item (ahead (Call f)) callee.is_there r.calls_earlier refl (omega (arith, gives)) r.targets_agree.0 m.turns refl)
  IsSafeStep-row Ret stack r ns h = IsSafeStep-return verified s r.returns_as_it_says m.calls refl s.callers
  IsSafeStep-row (Write f) stack r ns h =
      let format = item_below code.formats f r.names_exist in
      let count : taken_by_line code f ≡ numbers_taken format.item = ap (λ o. option_map_or numbers_taken o 0) format.is_there in
      let arrays : All (IsCharArray code.cells) (char_arrays format.item) =
      subst (λ z. All (IsCharArray code.cells) (char_arrays z)) (get_or_from_slice_get code.formats f format.item format.item format.is_there) (verified.tables.arrays_exist f format.item r.names_exist) in
      IsSafeStep-needing s (slice_get code.formats f) format.item _ format.is_there
      (IsSafeStep-writes format.item stack (ahead (Write f)) refl (omega (arith, h, count, r.takes_what_is_there)) arrays ns (omega (arith, h, count, r.takes_what_is_there)) r.targets_agree.0)
  IsSafeStep-row (Send base) stack r ns h =
      with_message base r.names_exist _ (IsSafeStep-unless s closed (after_effect (effect.Send (frame_of (take 14 (drop base m.cells))))) stack (ahead (Send base)) refl refl refl refl refl refl ns (omega (arith, h)) r.targets_agree.0)
  IsSafeStep-row (Copy to from) stack r ns h =
      with_message to r.names_exist.0 _ (with_message from r.names_exist.1 _
      (IsSafeStep-on_cells s _ stack (ahead (Copy to from)) refl
      (HoldKinds-copy code.cells m.cells to from s.cells_held r.names_exist.0 r.names_exist.1) ns (omega (arith, h)) r.targets_agree.0))
  IsSafeStep-row Stop stack r ns h = IsSafeStep-unless s closed (after_effect effect.Stop) stack (ahead Stop) refl refl refl refl refl refl ns (omega (arith, h)) r.targets_agree.0
  IsSafeStep-row (Set timer cyclic) [] r ns h = absurd (omega (arith, h, r.takes_what_is_there))
  IsSafeStep-row (Set timer cyclic) (n ∷ stack) r ns h =
      let unit = item_below code.timers timer r.names_exist in
      let active = item_below m.active timer (omega (arith, r.names_exist, s.timers)) in
      IsSafeStep-needing s (slice_get code.timers timer) unit.item _ unit.is_there
      (IsSafeStep-needing s (slice_get m.active timer) active.item _ active.is_there
      (IsSafeStep-unless s closed (after_set timer (micros unit.item n) cyclic) stack (ahead (Set timer cyclic)) refl refl refl refl refl (length-set m.active timer true) ns.1 (omega (arith, h, r.takes_what_is_there)) r.targets_agree.0))
  IsSafeStep-row (Cancel timer) stack r ns h =
      let active = item_below m.active timer (omega (arith, r.names_exist, s.timers)) in
      IsSafeStep-needing s (slice_get m.active timer) active.item _ active.is_there
      (IsSafeStep-unless s closed (after_cancel timer) stack (ahead (Cancel timer)) refl refl refl refl refl (length-set m.active timer false) ns (omega (arith, h)) r.targets_agree.0)
  IsSafeStep-row (Active timer) stack r ns h =
      let active = item_below m.active timer (omega (arith, r.names_exist, s.timers)) in
      IsSafeStep-needing s (slice_get m.active timer) active.item _ active.is_there
      (IsSafeStep-on_same s (truth active.item ∷ stack) (ahead (Active timer)) refl (IsNumber-truth active.item, ns) (omega (arith, h)) r.targets_agree.0)
  IsSafeStep-row Now stack r ns h =
      IsSafeStep-on_same s (wrap Dword (pos (moment / 10)) ∷ stack) (ahead Now) refl (IsNumber-wrap Dword (pos (moment / 10)), ns) (omega (arith, h)) r.targets_agree.0
