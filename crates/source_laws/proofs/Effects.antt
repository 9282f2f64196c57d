-- What holds of each effect that a part of a source may have holds of all effects of its runs.
use mathlib.Core.Former.{Count}
use Rattle.std.proofs.Common.{◌≡◌, ◌-◌, ℕ, zero, suc, Bool, true, false, List, [], ◌∷◌, ◌++◌, Option, Some, None, All, refl}
use Rattle.std.specs.Prelude.{ℤ, pos, negsuc, unwrap_or, if◌then◌else◌, map, nat_lt}
use Rattle.std.specs.List.{flat_map}
use Rattle.std.specs.Ordering.{int_eq}
use Rattle.std.proofs.lemmas.List.Elements.{All-cons, All-head, All-nil, All-push, All-tail}
use Rattle.std.specs.Option.{option_map_or}
use Rattle.int_kinds.specs.declared.kinds.Kind.{Kind}
use Rattle.int_kinds.specs.declared.kinds.Kind.TheVariants.{Long}
use Rattle.int_kinds.specs.declared.operators.BinOp.{BinOp}
use Rattle.int_kinds.specs.declared.operators.BinOp.TheVariants as op
use Rattle.int_kinds.specs.declared.operators.UnOp.TheVariants as prefix
use Rattle.int_kinds.specs.Kind.{join, wrap}
use Rattle.int_kinds.specs.Arithmetic.{value}
use Rattle.message_cells.specs.Message.{size}
use Rattle.write_format.specs.declared.piece.Piece.{Piece}
use Rattle.run_effects.specs.Effect.{micros, Effect, Line, Send, Stop, Set, Cancel}
use Rattle.run_effects.specs.declared.outcome.Outcome.TheVariants.{Trapped}
use Rattle.run_effects.specs.declared.outcome.TrapKind.TheVariants.{Index, ZeroDivisor}
use Rattle.control_flow.specs.World.{World, Run, Gives, Fails, after_effect, and_then, run_map, taking_turn_of}
use Rattle.control_flow.specs.Control.{Breaks, Calls, Computes, Continues, Does, End, GoesOn, Returns, deciding, followed_by, going_on, leaving_switch, loop, looping, nothing, round}
use Rattle.capl_tree.specs.declared.expr.Expr.{Expr, Row_of-Expr, end_of-Expr, more_of-Expr, items-the_row-Expr}
use Rattle.capl_tree.specs.declared.expr.Expr.TheVariants as expr
use Rattle.capl_tree.specs.declared.expr.Field.{Field}
use Rattle.capl_tree.specs.declared.expr.Field.TheVariants.{Named}
use Rattle.capl_tree.specs.declared.statement.Stmt.{Stmt, Row_of-Stmt, end_of-Stmt, more_of-Stmt}
use Rattle.capl_tree.specs.declared.statement.Stmt.TheBlock.{Row_of-Arm, end_of-Arm, more_of-Arm, Row_of-Group, end_of-Group, more_of-Group, Held-Stmt-If-1}
use Rattle.capl_tree.specs.declared.statement.Stmt.TheVariants as stmt
use Rattle.capl_tree.specs.Forms as tree
use Rattle.capl_meaning.specs.declared.builtin.Builtin.TheVariants as builtin
use Rattle.capl_meaning.specs.Variable.{Variable}
use Rattle.capl_meaning.specs.Names.{Callee, OfLanguage, OfProgram, Unknown, callee, means}
use Rattle.capl_meaning.specs.Format.{quoted_text}
use Rattle.capl_meaning.specs.Message.{Held, HeldVariable, array_in, is_number_place, message_in}
use Rattle.capl_meaning.specs.Operator.{prefix_value, truth_of}
use Rattle.capl_meaning.specs.Sort.{is_number, kind_in, sort_of}
use Rattle.capl_meaning.specs.Constant.{branches_kind, elements_of, operands_kind, prefix_kind}
use Rattle.capl_meaning.specs.Calls.{calls_in, calls_in_labels, calls_in_part, calls_in_row, names_called, calls_of_arms, calls_of_else, calls_of_groups, calls_of_row}
use Rattle.capl_meaning.specs.Store.{MessageRecord, timer_number, unit_of, frame_sent}
use Rattle.capl_meaning.specs.Expression.{InBytes, InElement, InField, InNumber, InSignal, Memory, Nowhere, Setting, Spot, call_value, calling, element_spot, field_spot, held_message, indexing, kind_of_elements, operates, part_spot, place_spot, reads, spot_of, step_by_one, stores, timer_in, value_of, values_of, with_arguments, with_store}
use Rattle.capl_meaning.specs.Statement.{alone_of, arms_of, assigns, calls_alone, cancels, drops, else_of, fitting_pieces, group_for, groups_of, group_labels, numbers_of, part_of, returns, sends, sets, sets_timer, stmt_of, stmts_of, unless_closed, with_line, with_timer, runs}
use Rattle.capl_meaning.specs.Inside.Expression.{step_operator, value_of_name}
use Rattle.capl_meaning.specs.Inside.Statement.{for_test, wrapped_to, writes_line}

-- ---- what holds of the names of two lists

-- what holds of all holds of the first
pub All-front : {X : Type 0} (Q : X → Type 0) (xs ys : List X) → All Q (xs ++ ys) → All Q xs
All-front Q [] ys all = All-nil Q
All-front Q (x ∷ xs) ys all = All-cons Q x xs (All-head Q x (xs ++ ys) all) (All-front Q xs ys (All-tail Q x (xs ++ ys) all))

-- and of those behind them
pub All-back : {X : Type 0} (Q : X → Type 0) (xs ys : List X) → All Q (xs ++ ys) → All Q ys
All-back Q [] ys all = all
All-back Q (x ∷ xs) ys all = All-back Q xs ys (All-tail Q x (xs ++ ys) all)

-- ---- runs, over any memory

module _ (P : Effect → Type 0) where
  -- all effects of a run's world are so
  abbrev pub Fine : {A : Type 0} → Run Memory A → Type 0
  Fine {A} (Gives a w) = All P w.effects
  Fine {A} (Fails outcome w) = All P w.effects

  -- a part that begins where all effects are so ends where they are
  abbrev pub Keeps : {A : Type 0} → (World Memory → Run Memory A) → Type 0
  Keeps {A} part = (w : World Memory) → All P w.effects → Fine (part w)

  pub then_fine : {A B : Type 0} (run : Run Memory A) (next : A → World Memory → Run Memory B) → Fine run → ((a : A) → Keeps (next a)) → Fine (and_then run next)
  then_fine (Gives a w) next fine more = more a w fine
  then_fine (Fails outcome w) next fine more = fine

  pub map_fine : {A B : Type 0} (f : A → B) (run : Run Memory A) → Fine run → Fine (run_map f run)
  map_fine f (Gives a w) fine = fine
  map_fine f (Fails outcome w) fine = fine

  if_fine : {A : Type 0} (b : Bool) (one other : Run Memory A) → Fine one → Fine other → Fine (if b then one else other)
  if_fine true one other fine also = fine
  if_fine false one other fine also = also

  deciding_fine : {A : Type 0} (test : Run Memory ℤ) (one other : World Memory → Run Memory A) → Fine test → Keeps one → Keeps other → Fine (deciding test one other)
  deciding_fine (Gives n w) one other fine keeps also = if_fine (int_eq n (pos 0)) (other w) (one w) (also w fine) (keeps w fine)
  deciding_fine (Fails outcome w) one other fine keeps also = fine

  pub turn_fine : {A : Type 0} (turns : ℕ) (w : World Memory) (next : World Memory → Run Memory A) → All P w.effects → Keeps next → Fine (taking_turn_of turns w next)
  turn_fine zero w next fine keeps = fine
  turn_fine (suc turns) w next fine keeps = keeps (record w { turns = turns }) fine

  going_on_fine : (next : Does Memory) → Keeps next → (e : End) → Keeps (going_on next e)
  going_on_fine next keeps GoesOn w fine = keeps w fine
  going_on_fine next keeps Breaks w fine = fine
  going_on_fine next keeps Continues w fine = fine
  going_on_fine next keeps (Returns n) w fine = fine

  followed_fine : (first second : Does Memory) → Keeps first → Keeps second → Keeps (followed_by first second)
  followed_fine first second one other w fine = then_fine (first w) (going_on second) (one w fine) (going_on_fine second other)

  looping_fine : (again : Does Memory) → Keeps again → (e : End) → Keeps (looping again e)
  looping_fine again keeps GoesOn w fine = keeps w fine
  looping_fine again keeps Continues w fine = keeps w fine
  looping_fine again keeps Breaks w fine = fine
  looping_fine again keeps (Returns n) w fine = fine

  round_fine : (body again : Does Memory) → Keeps body → Keeps again → Keeps (round body again)
  round_fine body again one other w fine =
      turn_fine w.turns w (λ w. and_then (body w) (looping again)) fine (λ w fine. then_fine (body w) (looping again) (one w fine) (looping_fine again other))

  nothing_fine : Keeps (nothing {M = Memory})
  nothing_fine w fine = fine

  loop_fine : (n : ℕ) (test : Computes Memory) (body step : Does Memory) → Keeps test → Keeps body → Keeps step → Keeps (loop n test body step)
  loop_fine zero test body step one two three w fine = fine
  loop_fine (suc n) test body step one two three w fine =
      deciding_fine (test w) (round body (followed_by step (loop n test body step))) nothing (one w fine)
      (round_fine body (followed_by step (loop n test body step)) two (followed_fine step (loop n test body step) three (loop_fine n test body step one two three))) nothing_fine

  indexing_fine : {A : Type 0} (len : ℕ) (i : ℤ) (w : World Memory) (spot : ℕ → A) → All P w.effects → Fine (indexing len i w spot)
  indexing_fine len (pos i) w spot fine = if_fine (nat_lt i len) (Gives (spot i) w) (Fails (Trapped Index) w) fine fine
  indexing_fine len (negsuc i) w spot fine = fine

  traps_fine : (o : Option ℤ) → Keeps (λ w. option_map_or (λ n. Gives n w) o (Fails (Trapped ZeroDivisor) w))
  traps_fine None w fine = fine
  traps_fine (Some n) w fine = fine

  leaving_fine : (e : End) → Keeps (leaving_switch {M = Memory} e)
  leaving_fine Breaks w fine = fine
  leaving_fine GoesOn w fine = fine
  leaving_fine Continues w fine = fine
  leaving_fine (Returns n) w fine = fine

-- ---- expressions

module _ (P : Effect → Type 0) (s : Setting) (call : Calls Memory) (calls : (f : ℕ) → Keeps P (call f)) where
  stores_fine : (spot : Spot) (n : ℤ) → Keeps P (stores s spot n)
  stores_fine Nowhere n w fine = fine
  stores_fine (InNumber k v) n w fine = fine
  stores_fine (InElement k v i) n w fine = fine
  stores_fine (InField held f) n w fine = fine
  stores_fine (InBytes held k i) n w fine = fine
  stores_fine (InSignal held l) n w fine = fine

  steps_fine : (operator : BinOp) (behind : Bool) (k : Kind) (spot : Spot) → Keeps P (step_by_one s operator behind k spot)
  steps_fine operator behind k spot w fine =
      then_fine P (reads s spot w) (λ old w. and_then (operates operator (join k Long) old (pos 1) w) (λ new w. run_map (λ now. if behind then old else now) (stores s spot new w))) fine
      (λ old w fine. then_fine P (operates operator (join k Long) old (pos 1) w) (λ new w. run_map (λ now. if behind then old else now) (stores s spot new w))
      (traps_fine P (value operator (join k Long) old (pos 1)) w fine)
      (λ new w fine. map_fine P (λ now. if behind then old else now) (stores s spot new w) (stores_fine spot new w fine)))

  named_fine : (name : List ℕ) (o : Option Variable) → Keeps P (value_of_name s name o)
  named_fine name None w fine = fine
  named_fine name (Some v) w fine = fine

  element_fine : (o : Option Variable) (index : Computes Memory) → Keeps P index → Keeps P (element_spot s o index)
  element_fine None index keeps w fine = fine
  element_fine (Some v) index keeps w fine =
      then_fine P (index w) (λ i w. indexing (elements_of s.scope.names v) i w (InElement (kind_of_elements v.form) v)) (keeps w fine)
      (λ i w fine. indexing_fine P (elements_of s.scope.names v) i w (InElement (kind_of_elements v.form) v) fine)

  part_fine : (o : Option Held) (spot : Held → World Memory → Run Memory Spot) → ((held : Held) → Keeps P (spot held)) → Keeps P (part_spot o spot)
  part_fine None spot keeps w fine = fine
  part_fine (Some held) spot keeps w fine = keeps held w fine

  place_fine : (e : Expr) (spot : World Memory → Run Memory Spot) → Keeps P spot → Keeps P (place_spot s e spot)
  place_fine e spot keeps w fine = if_fine P (is_number_place s.scope e) (spot w) (Gives Nowhere w) (keeps w fine) fine

  call_fine : (c : Callee) (args : List Expr) (numbers : World Memory → Run Memory (List ℤ)) → Keeps P numbers → Keeps P (call_value s call c args numbers)
  call_fine (OfLanguage found) args numbers keeps w fine = fine
  call_fine (OfProgram f) args numbers keeps w fine =
      then_fine P (numbers w) (calling call f) (keeps w fine) (λ ns w fine. calls f.number (with_store (with_arguments f.number f.parameters ns w.memory.store) w) fine)
  call_fine Unknown args numbers keeps w fine = fine

  mutual
    pub value_fine : (e : Expr) → Keeps P (value_of s call e)
    value_fine (expr.Num number extended at) w fine = fine
    value_fine (expr.Char number at) w fine = fine
    value_fine (expr.Str text at) w fine = fine
    value_fine (expr.This at) w fine = fine
    value_fine (expr.Name name at) w fine = named_fine name (means s.scope name at) w fine
    value_fine (tree.Paren inner at) w fine = value_fine inner w fine
    value_fine (expr.Call' name shape args at) w fine =
        call_fine (callee s.scope.names name) (items-the_row-Expr _ args) (values_of s call args) (λ w fine. values_fine args w fine) w fine
    value_fine (tree.Index base index at) w fine =
        then_fine P (element_spot s (array_in s.scope base) (value_of s call index) w) (reads s)
        (element_fine (array_in s.scope base) (value_of s call index) (λ w fine. value_fine index w fine) w fine) (λ spot w fine. fine)
    value_fine (tree.Member base field at) w fine =
        then_fine P (part_spot (message_in s.scope base) (field_spot s call field) w) (reads s)
        (part_fine (message_in s.scope base) (field_spot s call field) (λ held w fine. field_fine field held w fine) w fine) (λ spot w fine. fine)
    value_fine (tree.Cast k inner at) w fine = map_fine P (wrap k) (value_of s call inner w) (value_fine inner w fine)
    value_fine (tree.Unary prefix.Up inner at) w fine =
        then_fine P (place_spot s inner (spot_of s call inner) w) (step_by_one s op.Add false (kind_in (sort_of s.scope inner)))
        (place_fine inner (spot_of s call inner) (λ w fine. spot_fine inner w fine) w fine) (steps_fine op.Add false (kind_in (sort_of s.scope inner)))
    value_fine (tree.Unary prefix.Down inner at) w fine =
        then_fine P (place_spot s inner (spot_of s call inner) w) (step_by_one s op.Sub false (kind_in (sort_of s.scope inner)))
        (place_fine inner (spot_of s call inner) (λ w fine. spot_fine inner w fine) w fine) (steps_fine op.Sub false (kind_in (sort_of s.scope inner)))
    value_fine (tree.Unary operator inner at) w fine =
        map_fine P (prefix_value operator (prefix_kind s.scope inner)) (value_of s call inner w) (value_fine inner w fine)
    value_fine (tree.Post up inner at) w fine =
        then_fine P (place_spot s inner (spot_of s call inner) w) (step_by_one s (step_operator up) true (kind_in (sort_of s.scope inner)))
        (place_fine inner (spot_of s call inner) (λ w fine. spot_fine inner w fine) w fine) (steps_fine (step_operator up) true (kind_in (sort_of s.scope inner)))
    value_fine (tree.Binary op.AndAlso left right at) w fine =
        deciding_fine P (value_of s call left w) (λ w. run_map truth_of (value_of s call right w)) (Gives (pos 0)) (value_fine left w fine)
        (λ w fine. map_fine P truth_of (value_of s call right w) (value_fine right w fine)) (λ w fine. fine)
    value_fine (tree.Binary op.OrElse left right at) w fine =
        deciding_fine P (value_of s call left w) (Gives (pos 1)) (λ w. run_map truth_of (value_of s call right w)) (value_fine left w fine)
        (λ w fine. fine) (λ w fine. map_fine P truth_of (value_of s call right w) (value_fine right w fine))
    value_fine (tree.Binary operator left right at) w fine =
        then_fine P (value_of s call left w) (λ m w. and_then (value_of s call right w) (λ n w. operates operator (operands_kind s.scope operator left right) m n w)) (value_fine left w fine)
        (λ m w fine. then_fine P (value_of s call right w) (λ n w. operates operator (operands_kind s.scope operator left right) m n w) (value_fine right w fine)
        (λ n w fine. traps_fine P (value operator (operands_kind s.scope operator left right) m n) w fine))
    value_fine (tree.Cond test first second at) w fine =
        deciding_fine P (value_of s call test w) (λ w. run_map (wrap (branches_kind s.scope first second)) (value_of s call first w)) (λ w. run_map (wrap (branches_kind s.scope first second)) (value_of s call second w))
        (value_fine test w fine)
        (λ w fine. map_fine P (wrap (branches_kind s.scope first second)) (value_of s call first w) (value_fine first w fine))
        (λ w fine. map_fine P (wrap (branches_kind s.scope first second)) (value_of s call second w) (value_fine second w fine))
    value_fine (tree.Assign None left right at) w fine =
        then_fine P (place_spot s left (spot_of s call left) w) (λ spot w. and_then (value_of s call right w) (stores s spot))
        (place_fine left (spot_of s call left) (λ w fine. spot_fine left w fine) w fine)
        (λ spot w fine. then_fine P (value_of s call right w) (stores s spot) (value_fine right w fine) (λ n. stores_fine spot n))
    value_fine (tree.Assign (Some operator) left right at) w fine =
        then_fine P (place_spot s left (spot_of s call left) w)
        (λ spot w. and_then (reads s spot w) (λ old w. and_then (value_of s call right w) (λ n w. and_then (operates operator (operands_kind s.scope operator left right) old n w) (stores s spot))))
        (place_fine left (spot_of s call left) (λ w fine. spot_fine left w fine) w fine)
        (λ spot w fine. then_fine P (reads s spot w)
        (λ old w. and_then (value_of s call right w) (λ n w. and_then (operates operator (operands_kind s.scope operator left right) old n w) (stores s spot))) fine
        (λ old w fine. then_fine P (value_of s call right w) (λ n w. and_then (operates operator (operands_kind s.scope operator left right) old n w) (stores s spot)) (value_fine right w fine)
        (λ n w fine. then_fine P (operates operator (operands_kind s.scope operator left right) old n w) (stores s spot)
        (traps_fine P (value operator (operands_kind s.scope operator left right) old n) w fine) (λ n. stores_fine spot n))))

    spot_fine : (e : Expr) → Keeps P (spot_of s call e)
    spot_fine (tree.Paren inner at) w fine = spot_fine inner w fine
    spot_fine (expr.Name name at) w fine = fine
    spot_fine (tree.Index base index at) w fine = element_fine (array_in s.scope base) (value_of s call index) (λ w fine. value_fine index w fine) w fine
    spot_fine (tree.Member base field at) w fine = part_fine (message_in s.scope base) (field_spot s call field) (λ held w fine. field_fine field held w fine) w fine
    spot_fine e w fine = fine

    field_fine : (field : Field) (held : Held) → Keeps P (field_spot s call field held)
    field_fine (Named name at) held w fine = fine
    field_fine (tree.Bytes k index at) held w fine =
        then_fine P (value_of s call index w) (λ i w. indexing (9 - size k) i w (InBytes held k)) (value_fine index w fine) (λ i w fine. indexing_fine P (9 - size k) i w (InBytes held k) fine)

    values_fine : {m : Count} (row : Row_of-Expr m) → Keeps P (values_of s call row)
    values_fine end_of-Expr w fine = fine
    values_fine (more_of-Expr first rest) w fine =
        then_fine P (value_of s call first w) (λ n w. run_map (λ ns. n ∷ ns) (values_of s call rest w)) (value_fine first w fine) (λ n w fine. map_fine P (λ ns. n ∷ ns) (values_of s call rest w) (values_fine rest w fine))

  -- ---- expressions that stand alone, where the effects are so that calls of such names have

  module _ (Q : List ℕ → Type 0) (lines : (text : List ℕ) → P (Line text))
      (sent : (name : List ℕ) → Q name → callee s.scope.names name ≡ OfLanguage builtin.Output → (message : MessageRecord) → P (Send (frame_sent message)))
      (stopped : (name : List ℕ) → Q name → callee s.scope.names name ≡ OfLanguage builtin.Stop → P Stop)
      (set : (e : Expr) (v : Variable) → timer_in s.scope e ≡ Some v → (cyclic : Bool) (n : ℤ) → P (Set (timer_number s.scope.names v) (micros (unwrap_or (unit_of v.form) 0) n) cyclic))
      (cancelled : (e : Expr) (v : Variable) → timer_in s.scope e ≡ Some v → P (Cancel (timer_number s.scope.names v))) where
    effect_fine : (e : Effect) → P e → (w : World Memory) → All P w.effects → All P (after_effect e w).effects
    effect_fine e is w fine = All-push P w.effects e fine is

    unless_fine : (change : World Memory → World Memory) → ((w : World Memory) → All P w.effects → All P (change w).effects) → Keeps P (unless_closed s change)
    unless_fine change keeps w fine = go s.closed
      where
        go : (b : Bool) → All P (if b then w else change w).effects
        go true = fine
        go false = keeps w fine

    drops_fine : (e : Expr) → Keeps P (drops s call e)
    drops_fine e w fine = map_fine P (λ _. GoesOn) (value_of s call e w) (value_fine e w fine)

    numbers_fine : (es : List Expr) → Keeps P (numbers_of s call es)
    numbers_fine [] w fine = fine
    numbers_fine (e ∷ es) w fine =
        if_fine P (is_number (sort_of s.scope e)) (and_then (value_of s call e w) (λ n w. run_map (λ ns. n ∷ ns) (numbers_of s call es w))) (numbers_of s call es w)
        (then_fine P (value_of s call e w) (λ n w. run_map (λ ns. n ∷ ns) (numbers_of s call es w)) (value_fine e w fine)
        (λ n w fine. map_fine P (λ ns. n ∷ ns) (numbers_of s call es w) (numbers_fine es w fine)))
        (numbers_fine es w fine)

    line_fine : (o : Option (List Piece)) (es : List Expr) → Keeps P (writes_line s call o es)
    line_fine None es w fine = fine
    line_fine (Some pieces) es w fine =
        then_fine P (numbers_of s call es w) (λ ns w. Gives GoesOn (with_line s pieces es ns w)) (numbers_fine es w fine) (λ ns w fine. effect_fine _ (lines _) w fine)

    sends_fine : ((message : MessageRecord) → P (Send (frame_sent message))) → (o : Option Held) → Keeps P (sends s o)
    sends_fine each None w fine = fine
    sends_fine each (Some held) w fine =
        unless_fine (λ w. after_effect (Send (frame_sent (held_message s.this w.memory.store held))) w) (λ w fine. effect_fine _ (each (held_message s.this w.memory.store held)) w fine) w fine

    timer_fine : (e : Expr) (o : Option Variable) → timer_in s.scope e ≡ o → (cyclic : Bool) (duration : Computes Memory) → Keeps P duration → Keeps P (sets_timer s o cyclic duration)
    timer_fine e None is cyclic duration keeps w fine = fine
    timer_fine e (Some v) is cyclic duration keeps w fine =
        then_fine P (duration w) (sets s v cyclic) (keeps w fine) (λ n w fine. unless_fine
        (λ w. after_effect (Set (timer_number s.scope.names v) (micros (unwrap_or (unit_of v.form) 0) n) cyclic) (with_timer (timer_number s.scope.names v) true w))
        (λ w fine. effect_fine _ (set e v is cyclic n) (with_timer (timer_number s.scope.names v) true w) fine) w fine)

    cancels_fine : (e : Expr) (o : Option Variable) → timer_in s.scope e ≡ o → Keeps P (cancels s o)
    cancels_fine e None is w fine = fine
    cancels_fine e (Some v) is w fine =
        unless_fine (λ w. after_effect (Cancel (timer_number s.scope.names v)) (with_timer (timer_number s.scope.names v) false w))
        (λ w fine. effect_fine _ (cancelled e v is) (with_timer (timer_number s.scope.names v) false w) fine) w fine

    call_alone_fine : (name : List ℕ) → Q name → (c : Callee) → callee s.scope.names name ≡ c → (args : List Expr) (rest : Does Memory) → Keeps P rest → Keeps P (calls_alone s call c args rest)
    call_alone_fine name own (OfLanguage builtin.Output) is (message ∷ []) rest keeps w fine = sends_fine (sent name own is) (message_in s.scope message) w fine
    call_alone_fine name own (OfLanguage builtin.Write) is (format ∷ arguments) rest keeps w fine =
        line_fine (fitting_pieces (map (sort_of s.scope) arguments) (quoted_text format)) arguments w fine
    call_alone_fine name own (OfLanguage builtin.SetTimer) is (timer ∷ duration ∷ []) rest keeps w fine =
        timer_fine timer (timer_in s.scope timer) refl false (value_of s call duration) (value_fine duration) w fine
    call_alone_fine name own (OfLanguage builtin.SetTimerCyclic) is (timer ∷ duration ∷ []) rest keeps w fine =
        timer_fine timer (timer_in s.scope timer) refl true (value_of s call duration) (value_fine duration) w fine
    call_alone_fine name own (OfLanguage builtin.CancelTimer) is (timer ∷ []) rest keeps w fine = cancels_fine timer (timer_in s.scope timer) refl w fine
    call_alone_fine name own (OfLanguage builtin.Stop) is [] rest keeps w fine = unless_fine (after_effect Stop) (λ w fine. effect_fine Stop (stopped name own is) w fine) w fine
    call_alone_fine name own c is args rest keeps w fine = keeps w fine

    assigns_fine : (l r : Option Held) (rest : Does Memory) → Keeps P rest → Keeps P (assigns s l r rest)
    assigns_fine (Some (HeldVariable v signals)) (Some from) rest keeps w fine = fine
    assigns_fine l r rest keeps w fine = keeps w fine

    alone_fine : (e : Expr) → All Q (calls_in e) → Keeps P (alone_of s call e)
    alone_fine (tree.Paren inner at) own w fine = alone_fine inner own w fine
    alone_fine (expr.Call' name shape args at) own w fine =
        call_alone_fine name (All-head Q name (calls_in_row args) own) (callee s.scope.names name) refl (items-the_row-Expr _ args) (drops s call (expr.Call' name shape args at))
        (drops_fine (expr.Call' name shape args at)) w fine
    alone_fine (tree.Assign None left right at) own w fine =
        assigns_fine (message_in s.scope left) (message_in s.scope right) (drops s call (tree.Assign None left right at)) (drops_fine (tree.Assign None left right at)) w fine
    alone_fine e own w fine = drops_fine e w fine

    part_of_fine : (part : Option Expr) → All Q (calls_in_part part) → Keeps P (part_of s call part)
    part_of_fine None own w fine = fine
    part_of_fine (Some e) own w fine = alone_fine e (All-front Q (calls_in e) [] own) w fine

    test_fine : (test : Option Expr) → Keeps P (for_test s call test)
    test_fine None w fine = fine
    test_fine (Some e) w fine = value_fine e w fine

    returns_fine : (given : Option Expr) → Keeps P (returns s call given)
    returns_fine None w fine = fine
    returns_fine (Some e) w fine = map_fine P (λ n. Returns (wrapped_to s.scope.gives n)) (value_of s call e w) (value_fine e w fine)

    -- ---- statements

    mutual
      stmt_fine : (n : ℕ) (statement : Stmt) → All Q (names_called statement) → Keeps P (stmt_of s call n statement)
      stmt_fine n stmt.Empty own w fine = fine
      stmt_fine n (stmt.Block' shape body) own w fine = stmts_fine n body own w fine
      stmt_fine n (stmt.Decl declaration) own w fine = fine
      stmt_fine n (stmt.Expr e) own w fine = alone_fine e own w fine
      stmt_fine n (stmt.If' shape arms last) own w fine =
          arms_fine n arms (All-front Q (calls_of_arms arms) (calls_of_else last) own) (else_of s call n last) (λ w fine. else_fine n last (All-back Q (calls_of_arms arms) (calls_of_else last) own) w fine) w fine
      stmt_fine n (tree.While test body) own w fine =
          let inside = All-back Q (calls_in test) (names_called body) own in
          loop_fine P (suc n) (value_of s call test) (stmt_of s call n body) nothing (λ w fine. value_fine test w fine) (λ w fine. stmt_fine n body inside w fine) (nothing_fine P) w fine
      stmt_fine n (tree.Do body test) own w fine =
          let inside = All-front Q (names_called body) (calls_in test) own in
          round_fine P (stmt_of s call n body) (loop n (value_of s call test) (stmt_of s call n body) nothing) (λ w fine. stmt_fine n body inside w fine)
          (loop_fine P n (value_of s call test) (stmt_of s call n body) nothing (λ w fine. value_fine test w fine) (λ w fine. stmt_fine n body inside w fine) (nothing_fine P)) w fine
      stmt_fine n (tree.For init test step body) own w fine =
          let first = All-front Q (calls_in_part init) (calls_in_part test ++ (calls_in_part step ++ names_called body)) own in
          let rest = All-back Q (calls_in_part test) (calls_in_part step ++ names_called body) (All-back Q (calls_in_part init) (calls_in_part test ++ (calls_in_part step ++ names_called body)) own) in
          let inside = All-back Q (calls_in_part step) (names_called body) rest in
          followed_fine P (part_of s call init) (loop (suc n) (for_test s call test) (stmt_of s call n body) (part_of s call step)) (part_of_fine init first)
          (loop_fine P (suc n) (for_test s call test) (stmt_of s call n body) (part_of s call step) (test_fine test) (λ w fine. stmt_fine n body inside w fine)
          (part_of_fine step (All-front Q (calls_in_part step) (names_called body) rest))) w fine
      stmt_fine n (stmt.Switch' on shape groups) own w fine =
          let chosen : ℤ → ℕ = λ v. group_for (wrap (prefix_kind s.scope on) v) (group_labels s.scope (prefix_kind s.scope on) groups) in
          let inside = All-back Q (calls_in on) (calls_of_groups groups) own in
          then_fine P (value_of s call on w) (λ v w. and_then (groups_of s call n groups (chosen v) w) leaving_switch) (value_fine on w fine)
          (λ v w fine. then_fine P (groups_of s call n groups (chosen v) w) leaving_switch (groups_fine n groups inside (chosen v) w fine) (leaving_fine P))
      stmt_fine n (stmt.Break at) own w fine = fine
      stmt_fine n (stmt.Continue at) own w fine = fine
      stmt_fine n (stmt.Return given at) own w fine = returns_fine given w fine

      stmts_fine : (n : ℕ) {m : Count} (row : Row_of-Stmt m) → All Q (calls_of_row row) → Keeps P (stmts_of s call n row)
      stmts_fine n end_of-Stmt own w fine = fine
      stmts_fine n (more_of-Stmt first rest) own w fine =
          let one = All-front Q (names_called first) (calls_of_row rest) own in
          let more = All-back Q (names_called first) (calls_of_row rest) own in
          followed_fine P (stmt_of s call n first) (stmts_of s call n rest) (λ w fine. stmt_fine n first one w fine) (λ w fine. stmts_fine n rest more w fine) w fine

      arms_fine : (n : ℕ) {m : Count} (row : Row_of-Arm m) → All Q (calls_of_arms row) → (last : Does Memory) → Keeps P last → Keeps P (arms_of s call n row last)
      arms_fine n end_of-Arm own last keeps w fine = keeps w fine
      arms_fine n (more_of-Arm test body rest) own last keeps w fine =
          let behind = All-back Q (calls_in test) (names_called body ++ calls_of_arms rest) own in
          let one = All-front Q (names_called body) (calls_of_arms rest) behind in
          let more = All-back Q (names_called body) (calls_of_arms rest) behind in
          deciding_fine P (value_of s call test w) (stmt_of s call n body) (arms_of s call n rest last) (value_fine test w fine)
          (λ w fine. stmt_fine n body one w fine) (λ w fine. arms_fine n rest more last keeps w fine)

      else_fine : (n : ℕ) (last : Held-Stmt-If-1) → All Q (calls_of_else last) → Keeps P (else_of s call n last)
      else_fine n tree.NoElse own w fine = fine
      else_fine n (tree.Else body) own w fine = stmt_fine n body own w fine

      groups_fine : (n : ℕ) {m : Count} (row : Row_of-Group m) → All Q (calls_of_groups row) → (k : ℕ) → Keeps P (groups_of s call n row k)
      groups_fine n end_of-Group own k w fine = fine
      groups_fine n (more_of-Group labels shape body rest) own zero w fine =
          let behind = All-back Q (calls_in_labels labels) (calls_of_row body ++ calls_of_groups rest) own in
          let one = All-front Q (calls_of_row body) (calls_of_groups rest) behind in
          let more = All-back Q (calls_of_row body) (calls_of_groups rest) behind in
          followed_fine P (stmts_of s call n body) (groups_of s call n rest zero) (λ w fine. stmts_fine n body one w fine) (λ w fine. groups_fine n rest more zero w fine) w fine
      groups_fine n (more_of-Group labels shape body rest) own (suc k) w fine =
          let more = All-back Q (calls_of_row body) (calls_of_groups rest) (All-back Q (calls_in_labels labels) (calls_of_row body ++ calls_of_groups rest) own) in groups_fine n rest more k w fine

    -- the statements of a procedure
    pub runs_fine : (n : ℕ) (body : List Stmt) → All Q (flat_map names_called body) → Keeps P (runs s call n body)
    runs_fine n [] own w fine = fine
    runs_fine n (statement ∷ body) own w fine =
        followed_fine P (stmt_of s call n statement) (runs s call n body) (stmt_fine n statement (All-front Q (names_called statement) (flat_map names_called body) own))
        (runs_fine n body (All-back Q (names_called statement) (flat_map names_called body) own)) w fine
