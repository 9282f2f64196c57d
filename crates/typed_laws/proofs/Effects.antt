-- Expressions that stand alone: lines, frames, copies, timers and `stop`, and all that is evaluated.
use Rattle.std.proofs.Common.{◌≡◌, ℕ, Bool, true, false, List, [], ◌∷◌, Option, Some, None, refl, sym, ap, ◌∙◌}
use Rattle.std.specs.Prelude.{filter, if◌then◌else◌, map, slice_get, slice_index_or, unwrap_or}
use Rattle.std.specs.List.{AllZip}
use Rattle.std.specs.Option.{option_map_or}
use Rattle.texts.specs.declared.text.Text.{Text}
use Rattle.write_format.specs.declared.argument.ArgKind.{ArgKind}
use Rattle.write_format.specs.declared.piece.Piece.{Piece}
use Rattle.write_format.specs.Line.{FormatText, format_elements, line_of}
use Rattle.run_effects.specs.Effect.{micros}
use Rattle.run_effects.specs.Effect as effect
use Rattle.message_cells.specs.Message.{frame_of, message_of, with_message as with_message_at}
use Rattle.control_flow.specs.World.{World, Gives, after_effect}
use Rattle.control_flow.specs.Control.{Does, GoesOn}
use Rattle.capl_tree.specs.declared.expr.Expr.{Expr, items-the_row-Expr, items_hidden-the_row-Expr-1}
use Rattle.capl_tree.specs.declared.expr.Expr.TheVariants as expr
use Rattle.capl_tree.specs.Forms as tree
use Rattle.typed_tree.specs.declared.expression.TExpr.{TExpr}
use Rattle.typed_tree.specs.declared.statement.TStmt.{TStmt}
use Rattle.typed_tree.specs.declared.statement.TStmt.TheVariants as t
use Rattle.typed_tree.specs.Memory as cells
use Rattle.typed_tree.specs.Statement as typed_statement
use Rattle.capl_meaning.specs.declared.builtin.Builtin.TheVariants as builtin
use Rattle.capl_meaning.specs.Variable.{Variable}
use Rattle.capl_meaning.specs.Names.{Callee, OfLanguage, Scope, callee}
use Rattle.capl_meaning.specs.Format.{quoted_text}
use Rattle.capl_meaning.specs.Message.{Held, HeldVariable, message_in}
use Rattle.capl_meaning.specs.Sort.{is_number, sort_of}
use Rattle.capl_meaning.specs.Store.{variable_key, timer_number, unit_of, frame_sent}
use Rattle.capl_meaning.specs.Expression.{held_message, timer_in, with_store}
use Rattle.capl_meaning.specs.Expression as source
use Rattle.capl_meaning.specs.Statement.{alone_of, assigns, calls_alone, cancels, copies, drops, fitting_pieces, sends, sets, sets_timer, with_line}
use Rattle.capl_meaning.specs.Inside.Statement.{writes_line}
use Rattle.capl_meaning.specs.Statement as source_statement
use Rattle.typed_laws.specs.Laid.{AreDistinct, laid, laid_run, message_slot, slot}
use Rattle.typed_laws.specs.Agreement.{AloneDoesAs, Beside, GivesAs, IsArgument, SameEnd, is_copy, is_evaluated, is_for_effect, source_setting, typed_setting}
use Rattle.typed_laws.proofs.Calls.{source_row}
use Rattle.typed_laws.proofs.Cells.{all_cells, copy_laid, message_laid}
use Rattle.typed_laws.proofs.Lines.{line_same, numbers_same}
use Rattle.typed_laws.proofs.Places.{message_named}
use Rattle.typed_laws.proofs.Runs.{map_same, then_same}
use Rattle.typed_laws.proofs.Timers.{timer_named, unit_found}

module _ (scope : Scope) (order : List ℕ) (formats : List FormatText) where
  -- what changes in the world, unless the measurement has ended
  unless_same : (b : Beside scope.names order) (change : World source.Memory → World source.Memory) (change' : World cells.Memory → World cells.Memory) (w : World source.Memory) →
      change' (laid scope.names b.this w) ≡ laid scope.names b.this (change w) →
      typed_statement.unless_closed (typed_setting b) change' (laid scope.names b.this w) ≡ laid_run scope.names b.this (source_statement.unless_closed (source_setting b scope) change w)
  unless_same b change change' w e = go b.closed
    where
      go : (closed : Bool) → Gives GoesOn (if closed then laid scope.names b.this w else change' (laid scope.names b.this w)) ≡ laid_run scope.names b.this (Gives GoesOn (if closed then w else change w))
      go true = refl
      go false = ap (Gives GoesOn) e

  -- ---- what is evaluated

  -- an expression whose number is dropped
  drops_same : (b : Beside scope.names order) (n : ℕ) (e : Expr) (u : TExpr) → GivesAs scope order e u →
      SameEnd scope.names b.this (drops (source_setting b scope) b.call e) (typed_statement.stmt_of (typed_setting b) b.typed_call n (t.Eval u))
  drops_same b n e u f w = map_same scope.names b.this (λ _. GoesOn) (λ _. GoesOn) _ _ (f.same b w) (λ n. refl)

  -- an expression that is evaluated alone
  evaluated_alone : (e : Expr) (u : TExpr) → ((b : Beside scope.names order) (w : World source.Memory) → alone_of (source_setting b scope) b.call e w ≡ drops (source_setting b scope) b.call e w) →
      GivesAs scope order e u → AloneDoesAs scope order formats e (t.Eval u)
  evaluated_alone e u is f = record { same = λ b stand n w. drops_same b n e u f w ∙ ap (laid_run scope.names b.this) (sym (is b w)) }

  pub eval_as : (e : Expr) (u : TExpr) → is_evaluated e ≡ true → GivesAs scope order e u → AloneDoesAs scope order formats e (t.Eval u)
  eval_as e u is f = evaluated_alone e u (λ b w. dropped b e w is) f
    where
      dropped : (b : Beside scope.names order) (e : Expr) (w : World source.Memory) → is_evaluated e ≡ true → alone_of (source_setting b scope) b.call e w ≡ drops (source_setting b scope) b.call e w
      dropped b (tree.Paren inner at) w h = absurd (let f : false ≡ true = h in cc)
      dropped b (expr.Call' name shape args at) w h = absurd (let f : false ≡ true = h in cc)
      dropped b (tree.Assign None left right at) w h = absurd (let f : false ≡ true = h in cc)
      dropped b e w h = refl

  pub paren_alone_as : (inner : Expr) (at : ℕ) (u : TStmt) → AloneDoesAs scope order formats inner u → AloneDoesAs scope order formats (tree.Paren inner at) u
  paren_alone_as inner at u f = record { same = λ b stand n w. f.same b stand n w }

  -- what a call does that stands alone
  call_alone : (b : Beside scope.names order) (name : Text) (args : List Expr) (at : ℕ) (found : Callee) (w : World source.Memory) → callee scope.names name ≡ found →
      alone_of (source_setting b scope) b.call (expr.Call name args at) w ≡
      calls_alone (source_setting b scope) b.call found args (drops (source_setting b scope) b.call (expr.Call name args at)) w
  call_alone b name args at found w is =
      let row = source_row (expr.Call name args at) in
      let other = drops (source_setting b scope) b.call (expr.Call name args at) in
      ap (λ c. calls_alone (source_setting b scope) b.call c (items-the_row-Expr row.0 row.1) other w) is
      ∙ ap (λ l. calls_alone (source_setting b scope) b.call found l other w) (items_hidden-the_row-Expr-1 args)

  -- a call that does what it does as an expression
  pub call_eval_as : (name : Text) (args : List Expr) (at : ℕ) (found : Callee) (u : TExpr) → callee scope.names name ≡ found → is_for_effect found args ≡ false →
      GivesAs scope order (expr.Call name args at) u → AloneDoesAs scope order formats (expr.Call name args at) (t.Eval u)
  call_eval_as name args at found u is none f =
      evaluated_alone _ u (λ b w. call_alone b name args at found w is ∙ ap (λ (does : Does source.Memory). does w) (dropped b found args none (drops (source_setting b scope) b.call (expr.Call name args at)))) f
    where
      dropped : (b : Beside scope.names order) (found : Callee) (args : List Expr) → is_for_effect found args ≡ false → (other : Does source.Memory) → calls_alone (source_setting b scope) b.call found args other ≡ other
      dropped b (OfLanguage builtin.Output) (message ∷ []) h other = absurd (let f : true ≡ false = h in cc)
      dropped b (OfLanguage builtin.Write) (format ∷ arguments) h other = absurd (let f : true ≡ false = h in cc)
      dropped b (OfLanguage builtin.SetTimer) (timer ∷ duration ∷ []) h other = absurd (let f : true ≡ false = h in cc)
      dropped b (OfLanguage builtin.SetTimerCyclic) (timer ∷ duration ∷ []) h other = absurd (let f : true ≡ false = h in cc)
      dropped b (OfLanguage builtin.CancelTimer) (timer ∷ []) h other = absurd (let f : true ≡ false = h in cc)
      dropped b (OfLanguage builtin.Stop) [] h other = absurd (let f : true ≡ false = h in cc)
      dropped b found args h other = refl

  -- ---- frames

  pub send_as : (name : Text) (message : Expr) (at : ℕ) (held : Held) (cell : ℕ) → callee scope.names name ≡ OfLanguage builtin.Output → message_in scope message ≡ Some held →
      (AreDistinct scope.names.variables → cell ≡ message_slot scope.names held) → AloneDoesAs scope order formats (expr.Call name (message ∷ []) at) (t.Send cell)
  send_as name message at held cell is named where_ = record {
    same = λ b stand n w.
        let names = scope.names in
        unless_same b (λ w. after_effect (effect.Send (frame_sent (held_message b.this w.memory.store held))) w) (λ w. after_effect (effect.Send (frame_of (message_of cell w.memory.cells))) w) w
        (ap (λ m. after_effect (effect.Send (frame_of m)) (laid names b.this w))
        (ap (λ c. message_of c (all_cells names b.this w.memory.store)) (where_ b.plain.distinct) ∙ message_laid names b.plain.distinct b.this w.memory.store held (message_named scope message held named)))
        ∙ ap (laid_run names b.this) (sym (call_alone b name (message ∷ []) at (OfLanguage builtin.Output) w is ∙ ap (λ o. sends (source_setting b scope) o w) named));
  }

  pub no_send_as : (name : Text) (message : Expr) (at : ℕ) → callee scope.names name ≡ OfLanguage builtin.Output → message_in scope message ≡ None →
      AloneDoesAs scope order formats (expr.Call name (message ∷ []) at) t.Empty
  no_send_as name message at is named = record {
    same = λ b stand n w. ap (laid_run scope.names b.this) (sym (call_alone b name (message ∷ []) at (OfLanguage builtin.Output) w is ∙ ap (λ o. sends (source_setting b scope) o w) named));
  }

  -- ---- timers

  set_same : (name : Text) (timer duration : Expr) (at : ℕ) (cyclic : Bool) (v : Variable) (number : ℕ) (u : TExpr) → timer_in scope timer ≡ Some v →
      (AreDistinct scope.names.variables → number ≡ timer_number scope.names v) → GivesAs scope order duration u →
      ((b : Beside scope.names order) (w : World source.Memory) → alone_of (source_setting b scope) b.call (expr.Call name (timer ∷ duration ∷ []) at) w ≡
      sets_timer (source_setting b scope) (timer_in scope timer) cyclic (source.value_of (source_setting b scope) b.call duration) w) →
      AloneDoesAs scope order formats (expr.Call name (timer ∷ duration ∷ []) at) (t.Set number cyclic u)
  set_same name timer duration at cyclic v number u named where_ f whole = record {
    same = λ b stand n w.
        let names = scope.names in
        let real = timer_named scope timer v named in
        then_same names b.this (λ m. m) (λ end. end) (source.value_of (source_setting b scope) b.call duration w) _ (sets (source_setting b scope) v cyclic) _ (f.same b w) (λ m w.
        unless_same b (λ w. after_effect (effect.Set (timer_number names v) (micros (unwrap_or (unit_of v.form) 0) m) cyclic) (source_statement.with_timer (timer_number names v) true w))
        (λ w. after_effect (effect.Set number (micros (slice_index_or b.program.timers number 0) m) cyclic) (cells.with_timer number true w)) w
        (ap (λ k. after_effect (effect.Set k (micros (slice_index_or b.program.timers k 0) m) cyclic) (cells.with_timer k true (laid names b.this w))) (where_ b.plain.distinct)
        ∙ ap (λ units. after_effect (effect.Set (timer_number names v) (micros (slice_index_or units (timer_number names v) 0) m) cyclic) (cells.with_timer (timer_number names v) true (laid names b.this w))) b.fits.timers
        ∙ ap (λ unit. after_effect (effect.Set (timer_number names v) (micros unit m) cyclic) (cells.with_timer (timer_number names v) true (laid names b.this w)))
        (unit_found names b.plain.distinct v real.0 real.1 ∙ sym (ap (λ form. unwrap_or (unit_of form) 0) real.1.form_is))))
        ∙ ap (laid_run names b.this) (sym (whole b w ∙ ap (λ o. sets_timer (source_setting b scope) o cyclic (source.value_of (source_setting b scope) b.call duration) w) named));
  }

  pub set_as : (name : Text) (timer duration : Expr) (at : ℕ) (v : Variable) (number : ℕ) (u : TExpr) → callee scope.names name ≡ OfLanguage builtin.SetTimer → timer_in scope timer ≡ Some v →
      (AreDistinct scope.names.variables → number ≡ timer_number scope.names v) → GivesAs scope order duration u →
      AloneDoesAs scope order formats (expr.Call name (timer ∷ duration ∷ []) at) (t.Set number false u)
  set_as name timer duration at v number u is named where_ f =
      set_same name timer duration at false v number u named where_ f (λ b w. call_alone b name (timer ∷ duration ∷ []) at (OfLanguage builtin.SetTimer) w is)

  pub set_cyclic_as : (name : Text) (timer duration : Expr) (at : ℕ) (v : Variable) (number : ℕ) (u : TExpr) → callee scope.names name ≡ OfLanguage builtin.SetTimerCyclic → timer_in scope timer ≡ Some v →
      (AreDistinct scope.names.variables → number ≡ timer_number scope.names v) → GivesAs scope order duration u →
      AloneDoesAs scope order formats (expr.Call name (timer ∷ duration ∷ []) at) (t.Set number true u)
  set_cyclic_as name timer duration at v number u is named where_ f =
      set_same name timer duration at true v number u named where_ f (λ b w. call_alone b name (timer ∷ duration ∷ []) at (OfLanguage builtin.SetTimerCyclic) w is)

  -- of what is no timer the duration is not evaluated
  pub no_set_as : (name : Text) (timer duration : Expr) (at : ℕ) → callee scope.names name ≡ OfLanguage builtin.SetTimer → timer_in scope timer ≡ None →
      AloneDoesAs scope order formats (expr.Call name (timer ∷ duration ∷ []) at) t.Empty
  no_set_as name timer duration at is named = record {
    same = λ b stand n w. ap (laid_run scope.names b.this) (sym (call_alone b name (timer ∷ duration ∷ []) at (OfLanguage builtin.SetTimer) w is
        ∙ ap (λ o. sets_timer (source_setting b scope) o false (source.value_of (source_setting b scope) b.call duration) w) named));
  }

  pub no_set_cyclic_as : (name : Text) (timer duration : Expr) (at : ℕ) → callee scope.names name ≡ OfLanguage builtin.SetTimerCyclic → timer_in scope timer ≡ None →
      AloneDoesAs scope order formats (expr.Call name (timer ∷ duration ∷ []) at) t.Empty
  no_set_cyclic_as name timer duration at is named = record {
    same = λ b stand n w. ap (laid_run scope.names b.this) (sym (call_alone b name (timer ∷ duration ∷ []) at (OfLanguage builtin.SetTimerCyclic) w is
        ∙ ap (λ o. sets_timer (source_setting b scope) o true (source.value_of (source_setting b scope) b.call duration) w) named));
  }

  pub cancel_as : (name : Text) (timer : Expr) (at : ℕ) (v : Variable) (number : ℕ) → callee scope.names name ≡ OfLanguage builtin.CancelTimer → timer_in scope timer ≡ Some v →
      (AreDistinct scope.names.variables → number ≡ timer_number scope.names v) → AloneDoesAs scope order formats (expr.Call name (timer ∷ []) at) (t.Cancel number)
  cancel_as name timer at v number is named where_ = record {
    same = λ b stand n w.
        unless_same b (λ w. after_effect (effect.Cancel (timer_number scope.names v)) (source_statement.with_timer (timer_number scope.names v) false w))
        (λ w. after_effect (effect.Cancel number) (cells.with_timer number false w)) w (ap (λ k. after_effect (effect.Cancel k) (cells.with_timer k false (laid scope.names b.this w))) (where_ b.plain.distinct))
        ∙ ap (laid_run scope.names b.this) (sym (call_alone b name (timer ∷ []) at (OfLanguage builtin.CancelTimer) w is ∙ ap (λ o. cancels (source_setting b scope) o w) named));
  }

  pub no_cancel_as : (name : Text) (timer : Expr) (at : ℕ) → callee scope.names name ≡ OfLanguage builtin.CancelTimer → timer_in scope timer ≡ None →
      AloneDoesAs scope order formats (expr.Call name (timer ∷ []) at) t.Empty
  no_cancel_as name timer at is named = record {
    same = λ b stand n w. ap (laid_run scope.names b.this) (sym (call_alone b name (timer ∷ []) at (OfLanguage builtin.CancelTimer) w is ∙ ap (λ o. cancels (source_setting b scope) o w) named));
  }

  pub halt_as : (name : Text) (at : ℕ) → callee scope.names name ≡ OfLanguage builtin.Stop → AloneDoesAs scope order formats (expr.Call name [] at) t.Halt
  halt_as name at is = record {
    same = λ b stand n w. unless_same b (after_effect effect.Stop) (after_effect effect.Stop) w refl ∙ ap (laid_run scope.names b.this) (sym (call_alone b name [] at (OfLanguage builtin.Stop) w is));
  }

  -- ---- lines

  pub write_as : (name : Text) (format : Expr) (arguments : List Expr) (at : ℕ) (pieces : List Piece) (kinds : List ArgKind) (text : FormatText) (number : ℕ) (us : List TExpr) →
      callee scope.names name ≡ OfLanguage builtin.Write → fitting_pieces (map (sort_of scope) arguments) (quoted_text format) ≡ Some pieces →
      AllZip (IsArgument scope) arguments kinds → text.elements ≡ format_elements pieces kinds → slice_get formats number ≡ Some text →
      AllZip (GivesAs scope order) (filter (λ e. is_number (sort_of scope e)) arguments) us → AloneDoesAs scope order formats (expr.Call name (format ∷ arguments) at) (t.Write number us)
  write_as name format arguments at pieces kinds text number us is fitting argued made there f = record {
    same = λ b stand n w.
        let names = scope.names in
        let s = source_setting b scope in
        then_same names b.this (λ ns. ns) (λ end. end) (source_statement.numbers_of s b.call arguments w) _ (λ ns w. Gives GoesOn (with_line s pieces arguments ns w)) (typed_statement.writes (typed_setting b) number)
        (numbers_same scope order b arguments us f w) (λ ns w.
        ap (λ o. Gives GoesOn (option_map_or (typed_statement.with_line ns (laid names b.this w)) o (laid names b.this w))) (stand number text there)
        ∙ ap (λ l. Gives GoesOn (after_effect (effect.Line l) (laid names b.this w)))
        (ap (λ elements. line_of elements ns (all_cells names b.this w.memory.store)) made ∙ line_same s b.plain.distinct b.this w.memory.store pieces arguments kinds argued ns))
        ∙ ap (laid_run names b.this) (sym (call_alone b name (format ∷ arguments) at (OfLanguage builtin.Write) w is ∙ ap (λ o. writes_line s b.call o arguments w) fitting));
  }

  -- a line whose format does not fit is not written, and nothing is evaluated for it
  pub no_write_as : (name : Text) (format : Expr) (arguments : List Expr) (at : ℕ) → callee scope.names name ≡ OfLanguage builtin.Write →
      fitting_pieces (map (sort_of scope) arguments) (quoted_text format) ≡ None → AloneDoesAs scope order formats (expr.Call name (format ∷ arguments) at) t.Empty
  no_write_as name format arguments at is fitting = record {
    same = λ b stand n w. ap (laid_run scope.names b.this) (sym (call_alone b name (format ∷ arguments) at (OfLanguage builtin.Write) w is
        ∙ ap (λ o. writes_line (source_setting b scope) b.call o arguments w) fitting));
  }

  -- ---- copies

  pub copy_as : (left right : Expr) (at : ℕ) (v : Variable) (signals : _) (from : Held) (to_cell from_cell : ℕ) → message_in scope left ≡ Some (HeldVariable v signals) → message_in scope right ≡ Some from →
      (AreDistinct scope.names.variables → to_cell ≡ slot scope.names (variable_key v)) → (AreDistinct scope.names.variables → from_cell ≡ message_slot scope.names from) →
      AloneDoesAs scope order formats (tree.Assign None left right at) (t.Copy to_cell from_cell)
  copy_as left right at v signals from to_cell from_cell to_is from_is to_at from_at = record {
    same = λ b stand n w.
        let names = scope.names in
        let s = source_setting b scope in
        let all = all_cells names b.this w.memory.store in
        let to_real = message_named scope left (HeldVariable v signals) to_is in
        let m = held_message b.this w.memory.store from in
        let whole : alone_of s b.call (tree.Assign None left right at) w ≡ copies s v from w =
        ap (λ o. assigns s o (message_in scope right) (drops s b.call (tree.Assign None left right at)) w) to_is
        ∙ ap (λ o. assigns s (Some (HeldVariable v signals)) o (drops s b.call (tree.Assign None left right at)) w) from_is in
        ap (λ all. Gives GoesOn (cells.with_cells all (laid names b.this w)))
        (ap (λ c. with_message_at c (message_of from_cell all) all) (to_at b.plain.distinct)
        ∙ ap (λ c. with_message_at (slot names (variable_key v)) (message_of c all) all) (from_at b.plain.distinct)
        ∙ ap (λ cells. with_message_at (slot names (variable_key v)) cells all) (message_laid names b.plain.distinct b.this w.memory.store from (message_named scope right from from_is))
        ∙ copy_laid names b.plain.distinct b.this w.memory.store v to_real.0 to_real.1 m)
        ∙ ap (laid_run names b.this) (sym whole);
  }

  -- an assignment that copies no message
  pub assign_eval_as : (left right : Expr) (at : ℕ) (u : TExpr) → is_copy (message_in scope left) (message_in scope right) ≡ false → GivesAs scope order (tree.Assign None left right at) u →
      AloneDoesAs scope order formats (tree.Assign None left right at) (t.Eval u)
  assign_eval_as left right at u none f =
      evaluated_alone _ u (λ b w. ap (λ (does : Does source.Memory). does w) (dropped b (message_in scope left) (message_in scope right) none (drops (source_setting b scope) b.call (tree.Assign None left right at)))) f
    where
      dropped : (b : Beside scope.names order) (l r : Option Held) → is_copy l r ≡ false → (other : Does source.Memory) → assigns (source_setting b scope) l r other ≡ other
      dropped b (Some (HeldVariable v signals)) (Some from) h other = absurd (let f : true ≡ false = h in cc)
      dropped b l r h other = refl
