-- The instructions of statements with an effect do what the statements mean.
use Rattle.std.proofs.Common.{◌≡◌, ℕ, suc, ◌+◌, ◌<◌, ◌≤◌, Bool, true, false, List, [], ◌∷◌, ◌++◌, length, take, drop, reverse, Option, Some, None, slice_get, refl, sym, ap, ◌∙◌, subst, arith, append_assoc, length-append}
use Rattle.std.specs.Prelude.{ℤ, if◌then◌else◌, ◌&&◌, nat_le, slice_index_or, All, IsSomeAnd, sum_by}
use Rattle.std.specs.List.{AllByRecursion, list_all}
use Rattle.std.specs.Option.{option_map_or}
use Rattle.std.proofs.lemmas.Bool.{le-leb}
use Rattle.std.proofs.lemmas.List.{length-reverse, length-set, reverse-append, reverse-reverse}
use Rattle.std.proofs.lemmas.List.Sums.{sum_by-cons}
use Rattle.std.proofs.lemmas.Option.{get_or_from_slice_get, slice_get-get_or, slice_get_within}
use Rattle.std.proofs.Math.Seq.{drop-append_seam, take-append_seam}
use Rattle.int_kinds.specs.declared.kinds.Kind.{Kind}
use Rattle.int_kinds.specs.Kind.{Holds}
use Rattle.write_format.specs.Line.{IsCharArray, FormatText, char_arrays, numbers_taken, rendered}
use Rattle.run_effects.specs.Effect.{micros}
use Rattle.run_effects.specs.Effect as effect
use Rattle.message_cells.specs.Message.{IsMessage, frame_of, message_at, message_of, with_message}
use Rattle.bytecode.specs.declared.code.Code.{Code}
use Rattle.bytecode.specs.declared.instr.Instr.{Instr}
use Rattle.bytecode.specs.declared.instr.Instr.TheVariants as instr
use Rattle.bytecode.specs.Machine.{Machine, Stuck}
use Rattle.bytecode.specs.Runs.{HoldKinds}
use Rattle.bytecode.specs.Step.{after_cancel, after_effect as row_effect, after_set, goes_on, has_arrays, line_of, needing, row, unless, writes as row_writes}
use Rattle.bytecode.proofs.MessageCells.{HoldKinds-copy, message_there}
use Rattle.bytecode.proofs.ZippedLists.{AllZip-same_length}
use Rattle.control_flow.specs.World.{World, after_effect}
use Rattle.control_flow.specs.Control.{Calls}
use Rattle.typed_tree.specs.declared.expression.TExpr.{TExpr}
use Rattle.typed_tree.specs.Expression.{Setting, value_of}
use Rattle.typed_tree.specs.Memory.{Memory, with_cells, with_timer}
use Rattle.typed_tree.specs.Size.{value_size}
use Rattle.typed_tree.specs.Sound.{IsSound}
use Rattle.typed_tree.specs.SoundExpression.{IsSoundExpr}
use Rattle.typed_tree.specs.Statement.{numbers_of, with_line}
use Rattle.code_listing.specs.Statement.{values_code}
use Rattle.code_listing.specs.Expression.{value_code}
use Rattle.code_listing.proofs.CallRuns.{pushed}
use Rattle.code_listing.proofs.ExpressionRuns.{Means}
use Rattle.code_listing.proofs.MachineRuns.{at_place, comes_on, follows_from, follows_then, one_comes, stands_back, stands_front, stays}
use Rattle.code_listing.proofs.TestRuns.{still_fit}
use Rattle.code_meaning.specs.Statement.{IsSetForStatements}
use Rattle.code_listing.specs.Runs.{Comes, Follows, IsFit, StandsAt, machine_at}

-- numbers on a stack are their list, the last one first, on the stack
pushed_is : (ns stack : List ℤ) → pushed ns stack ≡ reverse ns ++ stack
pushed_is [] stack = refl
pushed_is (n ∷ ns) stack =
    pushed_is ns (n ∷ stack) ∙ sym (ap (λ xs. xs ++ stack) (reverse-append (n ∷ []) ns) ∙ simp append_assoc)

-- the arrays of a format lie in the cells, where they are arrays of characters
arrays_there : (kinds : List Kind) (cells : List ℤ) → length cells ≡ length kinds → (arrays : List (ℕ × ℕ)) → All (IsCharArray kinds) arrays →
    list_all (λ array. nat_le (array.0 + array.1) (length cells)) arrays ≡ true
arrays_there kinds cells same [] h = refl
arrays_there kinds cells same (a ∷ arrays) h =
    let first : IsCharArray kinds a = h 0 a (omega arith) in
    let inside : nat_le (a.0 + a.1) (length cells) ≡ true = le-leb (a.0 + a.1) (length cells) (omega (arith, first.there, same)) in
    simp inside (arrays_there kinds cells same arrays (λ k d below. h (suc k) d (omega arith)))

-- the row of a line takes its numbers and writes them
line_row : (text : FormatText) (m : Machine) (ns stack : List ℤ) → length ns ≡ numbers_taken text → has_arrays text m.cells ≡ true →
    row_writes text m (pushed ns stack) ≡ goes_on (row_effect (effect.Line (rendered text ns m.cells)) m) stack
line_row text m ns stack count arrays =
    let k = numbers_taken text in
    let all = reverse ns ++ stack in
    let long : length (reverse ns) ≡ k = length-reverse ns ∙ count in
    let enough : nat_le k (length all) ≡ true = le-leb k (length all) (omega (arith, long, length-append (reverse ns) stack)) in
    let taken : take k all ≡ reverse ns = ap (λ i. take i all) (sym long) ∙ take-append_seam (reverse ns) stack in
    let left : drop k all ≡ stack = ap (λ i. drop i all) (sym long) ∙ drop-append_seam (reverse ns) stack in
    ap (row_writes text m) (pushed_is ns stack) ∙
    ap (λ b. if b && has_arrays text m.cells then goes_on (row_effect (effect.Line (line_of text m.cells all)) m) (drop k all) else Stuck) enough ∙
    ap (λ b. if b then goes_on (row_effect (effect.Line (line_of text m.cells all)) m) (drop k all) else Stuck) arrays ∙
    ap (λ xs. goes_on (row_effect (effect.Line (rendered text (reverse xs) m.cells)) m) (drop k all)) taken ∙
    ap (λ xs. goes_on (row_effect (effect.Line (rendered text xs m.cells)) m) (drop k all)) (reverse-reverse ns) ∙
    ap (λ xs. goes_on (row_effect (effect.Line (rendered text ns m.cells)) m) xs) left

module _ (code : Code) (s : Setting) (call : Calls Memory) (most number : ℕ) (set : IsSetForStatements code s call most number) (calls : List ℕ) where
  -- An instruction makes another world, unless the measurement has ended: one with no more turns, with cells that are held by
  -- their kinds, and with as many timers.
  changes : (place : ℕ) (from stack : List ℤ) (w changed : World Memory) (i : Instr) → slice_get code.instrs place ≡ Some i →
      row code s.closed s.moment (machine_at place from calls w) i from ≡
      goes_on (if s.closed then machine_at place from calls w else machine_at place from calls changed) stack →
      changed.turns ≤ w.turns → (HoldKinds code.cells w.memory.cells → HoldKinds code.cells changed.memory.cells) →
      length changed.memory.active ≡ length w.memory.active →
      Comes code s.closed s.moment (machine_at place from calls w) (machine_at (place + 1) stack calls (if s.closed then w else changed))
  changes place from stack w changed i at rows turns held timers = by_closed s.closed rows
    where
      m : Machine
      m = machine_at place from calls w

      by_closed : (b : Bool) → row code s.closed s.moment m i from ≡ goes_on (if b then m else machine_at place from calls changed) stack →
          Comes code s.closed s.moment m (machine_at (place + 1) stack calls (if b then w else changed))
      by_closed true e = one_comes code s.closed s.moment m i (machine_at (place + 1) stack calls w) at e (omega arith) (λ h. h) refl
      by_closed false e = one_comes code s.closed s.moment m i (machine_at (place + 1) stack calls changed) at e turns held timers

  -- `output`
  pub send_runs : (msg place : ℕ) (stack : List ℤ) (w : World Memory) → IsFit code most w → IsMessage s.typed.cells msg →
      slice_get code.instrs place ≡ Some (instr.Send msg) →
      Comes code s.closed s.moment (machine_at place stack calls w) (machine_at (place + 1) stack calls
      (if s.closed then w else after_effect (effect.Send (frame_of (message_of msg w.memory.cells))) w))
  send_runs msg place stack w fit is at =
      let m = machine_at place stack calls w in
      let there = message_there code.cells w.memory.cells msg fit.cells_held (subst (λ kinds. IsMessage kinds msg) (sym set.expressions.cells) is) in
      changes place stack stack w _ (instr.Send msg) at
      (ap (λ o. needing o (λ message. goes_on (unless s.closed (row_effect (effect.Send (frame_of message))) m) stack)) there)
      (omega arith) (λ h. h) refl

  -- a copy of a message
  pub copy_runs : (to from place : ℕ) (stack : List ℤ) (w : World Memory) → IsFit code most w → IsMessage s.typed.cells to →
      IsMessage s.typed.cells from → slice_get code.instrs place ≡ Some (instr.Copy to from) →
      Comes code s.closed s.moment (machine_at place stack calls w) (machine_at (place + 1) stack calls
      (with_cells (with_message to (message_of from w.memory.cells) w.memory.cells) w))
  copy_runs to from place stack w fit is_to is_from at =
      let m = machine_at place stack calls w in
      let to_is = subst (λ kinds. IsMessage kinds to) (sym set.expressions.cells) is_to in
      let from_is = subst (λ kinds. IsMessage kinds from) (sym set.expressions.cells) is_from in
      let after = with_cells (with_message to (message_of from w.memory.cells) w.memory.cells) w in
      one_comes code s.closed s.moment m (instr.Copy to from) (machine_at (place + 1) stack calls after) at
      (ap (λ o. needing o (λ _. needing (message_at from w.memory.cells) (λ message.
      goes_on (record m { cells = with_message to message w.memory.cells }) stack))) (message_there code.cells w.memory.cells to fit.cells_held to_is) ∙
      ap (λ o. needing o (λ message. goes_on (record m { cells = with_message to message w.memory.cells }) stack))
      (message_there code.cells w.memory.cells from fit.cells_held from_is))
      (omega arith) (λ h. HoldKinds-copy code.cells w.memory.cells to from h to_is from_is) refl

  -- `stop`
  pub stop_runs : (place : ℕ) (stack : List ℤ) (w : World Memory) → slice_get code.instrs place ≡ Some instr.Stop →
      Comes code s.closed s.moment (machine_at place stack calls w) (machine_at (place + 1) stack calls
      (if s.closed then w else after_effect effect.Stop w))
  stop_runs place stack w at = changes place stack stack w (after_effect effect.Stop w) instr.Stop at refl (omega arith) (λ h. h) refl

  -- the setting of a timer, whose duration is on the stack
  pub set_runs : (timer place : ℕ) (cyclic : Bool) (n : ℤ) (stack : List ℤ) (w : World Memory) → IsFit code most w →
      timer < length s.typed.timers → slice_get code.instrs place ≡ Some (instr.Set timer cyclic) →
      Comes code s.closed s.moment (machine_at place (n ∷ stack) calls w) (machine_at (place + 1) stack calls
      (if s.closed then w else after_effect (effect.Set timer (micros (slice_index_or s.typed.timers timer 0) n) cyclic) (with_timer timer true w)))
  set_runs timer place cyclic n stack w fit there at =
      let m = machine_at place (n ∷ stack) calls w in
      let unit : slice_get code.timers timer ≡ Some (slice_index_or s.typed.timers timer 0) =
      ap (λ units. slice_get units timer) set.expressions.timers ∙ slice_get-get_or s.typed.timers timer 0 there in
      let active = slice_get-get_or w.memory.active timer false (omega (arith, there, fit.timers, ap length set.expressions.timers)) in
      changes place (n ∷ stack) stack w _ (instr.Set timer cyclic) at
      (ap (λ o. needing o (λ unit. needing (slice_get w.memory.active timer) (λ _.
      goes_on (unless s.closed (after_set timer (micros unit n) cyclic) m) stack))) unit ∙
      ap (λ o. needing o (λ _. goes_on (unless s.closed (after_set timer (micros (slice_index_or s.typed.timers timer 0) n) cyclic) m) stack)) active)
      (omega arith) (λ h. h) (length-set w.memory.active timer true)

  -- the cancelling of a timer
  pub cancel_runs : (timer place : ℕ) (stack : List ℤ) (w : World Memory) → IsFit code most w → timer < length s.typed.timers →
      slice_get code.instrs place ≡ Some (instr.Cancel timer) →
      Comes code s.closed s.moment (machine_at place stack calls w) (machine_at (place + 1) stack calls
      (if s.closed then w else after_effect (effect.Cancel timer) (with_timer timer false w)))
  cancel_runs timer place stack w fit there at =
      let m = machine_at place stack calls w in
      let active = slice_get-get_or w.memory.active timer false (omega (arith, there, fit.timers, ap length set.expressions.timers)) in
      changes place stack stack w _ (instr.Cancel timer) at
      (ap (λ o. needing o (λ _. goes_on (unless s.closed (after_cancel timer) m) stack)) active)
      (omega arith) (λ h. h) (length-set w.memory.active timer false)

  -- a line, whose numbers are on the stack
  pub write_runs : IsSound s.typed → (format place : ℕ) (ns stack : List ℤ) (w : World Memory) → IsFit code most w →
      IsSomeAnd (slice_get s.typed.formats format) (λ text. length ns ≡ numbers_taken text) →
      slice_get code.instrs place ≡ Some (instr.Write format) →
      Comes code s.closed s.moment (machine_at place (pushed ns stack) calls w) (machine_at (place + 1) stack calls
      (option_map_or (with_line ns w) (slice_get s.typed.formats format) w))
  write_runs sound format place ns stack w fit count at = by_format (slice_get s.typed.formats format) refl count
    where
      m : Machine
      m = machine_at place (pushed ns stack) calls w

      by_format : (o : Option FormatText) → slice_get s.typed.formats format ≡ o → IsSomeAnd o (λ text. length ns ≡ numbers_taken text) →
          Comes code s.closed s.moment m (machine_at (place + 1) stack calls (option_map_or (with_line ns w) o w))
      by_format None e count = absurd count
      by_format (Some text) e count =
          let listed : slice_get code.formats format ≡ Some text = ap (λ formats. slice_get formats format) set.formats ∙ e in
          let arrays = subst (λ (t : FormatText). All (IsCharArray s.typed.cells) (char_arrays t)) (get_or_from_slice_get s.typed.formats format text text e)
          (sound.arrays_exist format text (slice_get_within s.typed.formats format text e)) in
          let kinds = AllZip-same_length Holds code.cells w.memory.cells fit.cells_held in
          one_comes code s.closed s.moment m (instr.Write format) (machine_at (place + 1) stack calls (with_line ns w text)) at
          (ap (λ o. needing o (λ text. row_writes text m (pushed ns stack))) listed ∙
          line_row text m ns stack count (arrays_there s.typed.cells w.memory.cells (kinds ∙ ap length set.expressions.cells) (char_arrays text) arrays))
          (omega arith) (λ h. h) refl

  module _ (means : (e : TExpr) → IsSoundExpr s.typed number e → Means code s call most e) where
    -- expressions in order leave their numbers on the stack
    pub values_run : (args : List TExpr) → AllByRecursion (IsSoundExpr s.typed number) args → (place depth : ℕ) (stack : List ℤ) (w : World Memory) →
        IsFit code most w → StandsAt code place (values_code s.typed args place depth) →
        Follows code s.closed s.moment (machine_at place stack calls w)
        (λ ns after. (length ns ≡ length args) × Comes code s.closed s.moment (machine_at place stack calls w)
        (machine_at (place + sum_by (value_size s.typed) args) (pushed ns stack) calls after)) (numbers_of s call args w)
    values_run [] sound place depth stack w fit h = (refl, at_place code s.closed s.moment place (place + 0) (omega arith) (stays code s.closed s.moment _))
    values_run (e ∷ rest) sound place depth stack w fit h =
        let z = value_size s.typed e in
        let m = machine_at place stack calls w in
        let xs = value_code s.typed e place depth in
        let ys = values_code s.typed rest (place + z) (depth + 1) in
        let end = place + sum_by (value_size s.typed) (e ∷ rest) in
        let len : place + z + sum_by (value_size s.typed) rest ≡ end = omega (arith, sum_by-cons (value_size s.typed) e rest) in
        let mean = means e sound.0 in
        follows_then code s.closed s.moment m _ _ (value_of s call e w) _ (mean.value place depth stack calls w fit (stands_front code place xs ys h))
        (λ n w1 r. follows_then code s.closed s.moment m _ _ (numbers_of s call rest w1) _
        (follows_from code s.closed s.moment m (machine_at (place + z) (n ∷ stack) calls w1) _
        (λ ns after. (length ns ≡ length rest) × Comes code s.closed s.moment m
        (machine_at (place + z + sum_by (value_size s.typed) rest) (pushed ns (n ∷ stack)) calls after))
        (numbers_of s call rest w1) r (λ ns after g. (g.0, comes_on code s.closed s.moment r g.1))
        (values_run rest sound.1 (place + z) (depth + 1) (n ∷ stack) w1 (still_fit code s.closed s.moment fit r)
        (stands_back code place z xs ys (mean.fits.value place depth) h)))
        (λ ns after g. (ap suc g.0, at_place code s.closed s.moment _ _ len g.1)))
