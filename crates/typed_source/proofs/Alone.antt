-- The typed tree of each expression that stands alone does what the expression does.
use Rattle.std.proofs.Common.{◌≡◌, ℕ, ◌+◌, true, false, List, [], ◌∷◌, Option, Some, None, refl, sym, ap, ◌∙◌, arith}
use Rattle.std.specs.Prelude.{filter, map, slice_get}
use Rattle.std.specs.List.{AllZip}
use Rattle.std.specs.Option.{option_map_or}
use Rattle.texts.specs.declared.text.Text.{Text}
use Rattle.write_format.specs.declared.piece.Piece.{Piece}
use Rattle.write_format.specs.Line.{FormatText}
use Rattle.control_flow.specs.World.{World}
use Rattle.control_flow.specs.Control.{GoesOn}
use Rattle.capl_tree.specs.declared.expr.Expr.{Expr, items-the_row-Expr, items_hidden-the_row-Expr-1}
use Rattle.capl_tree.specs.declared.expr.Expr.TheVariants as expr
use Rattle.capl_tree.specs.Forms as tree
use Rattle.typed_tree.specs.declared.expression.TExpr.{TExpr}
use Rattle.typed_tree.specs.declared.statement.TStmt.{TStmt}
use Rattle.typed_tree.specs.declared.statement.TStmt.TheVariants as t
use Rattle.capl_meaning.specs.declared.builtin.Builtin.TheVariants as builtin
use Rattle.capl_meaning.specs.Variable.{Variable}
use Rattle.capl_meaning.specs.Names.{Callee, OfLanguage, Scope, callee}
use Rattle.capl_meaning.specs.Format.{quoted_text}
use Rattle.capl_meaning.specs.Message.{Held, HeldVariable, message_in}
use Rattle.capl_meaning.specs.Sort.{is_number, sort_of}
use Rattle.capl_meaning.specs.Store.{timer_number}
use Rattle.capl_meaning.specs.Expression.{timer_in}
use Rattle.capl_meaning.specs.Expression as source
use Rattle.capl_meaning.specs.Statement as source_statement
use Rattle.capl_meaning.specs.Statement.{calls_alone, drops}
use Rattle.typed_laws.specs.Laid.{laid_run, message_slot}
use Rattle.typed_laws.specs.Agreement.{AloneDoesAs, Beside, GivesAs, source_setting}
use Rattle.typed_laws.proofs.Calls.{source_row}
use Rattle.typed_laws.proofs.Effects.{cancel_as, copy_as, eval_as, halt_as, no_cancel_as, no_send_as, no_set_as, no_set_cyclic_as, no_write_as, paren_alone_as, send_as, set_as, set_cyclic_as, write_as}
use Rattle.typed_laws.proofs.Runs.{map_same}
use Rattle.typed_source.specs.Expression.{expression_of}
use Rattle.typed_source.specs.Program.{HasEach}
use Rattle.typed_source.specs.Statement.{StandFrom, alone_of, argument_of, format_of, formats_of_alone, formats_of_call, formats_written, of_assignment, of_call_alone, pieces_written, setting, text_written, writing}
use Rattle.typed_source.proofs.Expressions.{gives}
use Rattle.typed_source.proofs.Shown.{arguments_are}

-- what holds of each thing and what is made of it
zip_map : {A B : Type 0} (R : A → B → Type 0) (f : A → B) → ((a : A) → R a (f a)) → (xs : List A) → AllZip R xs (map f xs)
zip_map R f h [] = tt
zip_map R f h (x ∷ xs) = (h x, zip_map R f h xs)

module _ (scope : Scope) (order : List ℕ) (each : HasEach scope.names order) (formats : List FormatText) where
  -- ---- calls

  -- what a call does that stands alone, whose arguments are a list
  listed : (b : Beside scope.names order) (name : Text) (args : List Expr) (at : ℕ) (found : Callee) (w : World source.Memory) → callee scope.names name ≡ found →
      source_statement.alone_of (source_setting b scope) b.call (expr.Call name args at) w ≡
      calls_alone (source_setting b scope) b.call found args (drops (source_setting b scope) b.call (expr.Call name args at)) w
  listed b name args at found w is =
      let row = source_row (expr.Call name args at) in
      let other = drops (source_setting b scope) b.call (expr.Call name args at) in
      ap (λ c. calls_alone (source_setting b scope) b.call c (items-the_row-Expr row.0 row.1) other w) is
      ∙ ap (λ l. calls_alone (source_setting b scope) b.call found l other w) (items_hidden-the_row-Expr-1 args)

  -- an expression that does what a call does
  abbrev DoesCall : Expr → Callee → List Expr → Type 0
  DoesCall e c args = (b : Beside scope.names order) (w : World source.Memory) →
      source_statement.alone_of (source_setting b scope) b.call e w ≡ calls_alone (source_setting b scope) b.call c args (drops (source_setting b scope) b.call e) w

  -- what is done for a call is done for an expression that does the same
  as_call : (name : Text) (args : List Expr) (at : ℕ) (e : Expr) (u : TStmt) →
      ((b : Beside scope.names order) (w : World source.Memory) → source_statement.alone_of (source_setting b scope) b.call (expr.Call name args at) w ≡ source_statement.alone_of (source_setting b scope) b.call e w) →
      AloneDoesAs scope order formats (expr.Call name args at) u → AloneDoesAs scope order formats e u
  as_call name args at e u same f = record { same = λ b stand n w. f.same b stand n w ∙ ap (laid_run scope.names b.this) (same b w) }

  -- an expression that is evaluated
  evaluated : (e : Expr) (u : TExpr) → ((b : Beside scope.names order) (w : World source.Memory) → source_statement.alone_of (source_setting b scope) b.call e w ≡ drops (source_setting b scope) b.call e w) →
      GivesAs scope order e u → AloneDoesAs scope order formats e (t.Eval u)
  evaluated e u is f = record {
    same = λ b stand n w. map_same scope.names b.this (λ _. GoesOn) (λ _. GoesOn) _ _ (f.same b w) (λ n. refl) ∙ ap (laid_run scope.names b.this) (sym (is b w));
  }

  sends : (name : Text) (message : Expr) (at : ℕ) → callee scope.names name ≡ OfLanguage builtin.Output → (o : Option Held) → message_in scope message ≡ o →
      AloneDoesAs scope order formats (expr.Call name (message ∷ []) at) (option_map_or (λ held. t.Send (message_slot scope.names held)) o t.Empty)
  sends name message at is None named = no_send_as scope order formats name message at is named
  sends name message at is (Some held) named = send_as scope order formats name message at held _ is named (λ _. refl)

  sets : (name : Text) (timer duration : Expr) (at : ℕ) → callee scope.names name ≡ OfLanguage builtin.SetTimer → (o : Option Variable) → timer_in scope timer ≡ o →
      AloneDoesAs scope order formats (expr.Call name (timer ∷ duration ∷ []) at) (setting scope.names o false (expression_of scope order duration))
  sets name timer duration at is None named = no_set_as scope order formats name timer duration at is named
  sets name timer duration at is (Some v) named = set_as scope order formats name timer duration at v _ _ is named (λ _. refl) (gives scope order each duration)

  sets_cyclic : (name : Text) (timer duration : Expr) (at : ℕ) → callee scope.names name ≡ OfLanguage builtin.SetTimerCyclic → (o : Option Variable) → timer_in scope timer ≡ o →
      AloneDoesAs scope order formats (expr.Call name (timer ∷ duration ∷ []) at) (setting scope.names o true (expression_of scope order duration))
  sets_cyclic name timer duration at is None named = no_set_cyclic_as scope order formats name timer duration at is named
  sets_cyclic name timer duration at is (Some v) named = set_cyclic_as scope order formats name timer duration at v _ _ is named (λ _. refl) (gives scope order each duration)

  cancels : (name : Text) (timer : Expr) (at : ℕ) → callee scope.names name ≡ OfLanguage builtin.CancelTimer → (o : Option Variable) → timer_in scope timer ≡ o →
      AloneDoesAs scope order formats (expr.Call name (timer ∷ []) at) (option_map_or (λ v. t.Cancel (timer_number scope.names v)) o t.Empty)
  cancels name timer at is None named = no_cancel_as scope order formats name timer at is named
  cancels name timer at is (Some v) named = cancel_as scope order formats name timer at v _ is named (λ _. refl)

  writes : (before : ℕ) (name : Text) (format : Expr) (arguments : List Expr) (at : ℕ) → callee scope.names name ≡ OfLanguage builtin.Write →
      (o : Option (List Piece)) → pieces_written scope format arguments ≡ o → StandFrom before (formats_written scope (text_written format) o arguments) formats →
      AloneDoesAs scope order formats (expr.Call name (format ∷ arguments) at) (writing scope order before o arguments)
  writes before name format arguments at is None fitting there = no_write_as scope order formats name format arguments at is fitting
  writes before name format arguments at is (Some pieces) fitting there =
      let first : before + 0 ≡ before = omega arith in
      write_as scope order formats name format arguments at pieces (map (argument_of scope) arguments) (format_of scope (text_written format) pieces arguments) before _ is fitting
      (arguments_are scope (quoted_text format) arguments pieces fitting) refl (ap (slice_get formats) (sym first) ∙ there 0 _ refl)
      (zip_map (GivesAs scope order) (expression_of scope order) (gives scope order each) (filter (λ e. is_number (sort_of scope e)) arguments))

  -- a call, by what it is of and its arguments
  call_does : (before : ℕ) (name : Text) (at : ℕ) (e : Expr) (u : TExpr) → GivesAs scope order e u → (c : Callee) (args : List Expr) → callee scope.names name ≡ c → DoesCall e c args →
      StandFrom before (formats_of_call scope c args) formats → AloneDoesAs scope order formats e (of_call_alone scope order before c args (t.Eval u))
  call_does before name at e u f (OfLanguage builtin.Output) (message ∷ []) is whole there =
      as_call name (message ∷ []) at e _ (λ b w. listed b name (message ∷ []) at (OfLanguage builtin.Output) w is ∙ sym (whole b w)) (sends name message at is (message_in scope message) refl)
  call_does before name at e u f (OfLanguage builtin.Write) (format ∷ arguments) is whole there =
      as_call name (format ∷ arguments) at e _ (λ b w. listed b name (format ∷ arguments) at (OfLanguage builtin.Write) w is ∙ sym (whole b w))
      (writes before name format arguments at is (pieces_written scope format arguments) refl there)
  call_does before name at e u f (OfLanguage builtin.SetTimer) (timer ∷ duration ∷ []) is whole there =
      as_call name (timer ∷ duration ∷ []) at e _ (λ b w. listed b name (timer ∷ duration ∷ []) at (OfLanguage builtin.SetTimer) w is ∙ sym (whole b w)) (sets name timer duration at is (timer_in scope timer) refl)
  call_does before name at e u f (OfLanguage builtin.SetTimerCyclic) (timer ∷ duration ∷ []) is whole there =
      as_call name (timer ∷ duration ∷ []) at e _ (λ b w. listed b name (timer ∷ duration ∷ []) at (OfLanguage builtin.SetTimerCyclic) w is ∙ sym (whole b w)) (sets_cyclic name timer duration at is (timer_in scope timer) refl)
  call_does before name at e u f (OfLanguage builtin.CancelTimer) (timer ∷ []) is whole there =
      as_call name (timer ∷ []) at e _ (λ b w. listed b name (timer ∷ []) at (OfLanguage builtin.CancelTimer) w is ∙ sym (whole b w)) (cancels name timer at is (timer_in scope timer) refl)
  call_does before name at e u f (OfLanguage builtin.Stop) [] is whole there =
      as_call name [] at e _ (λ b w. listed b name [] at (OfLanguage builtin.Stop) w is ∙ sym (whole b w)) (halt_as scope order formats name at is)
  call_does before name at e u f c args is whole there = evaluated e u whole f

  -- ---- assignments

  assignment_does : (left right : Expr) (at : ℕ) (u : TExpr) → GivesAs scope order (tree.Assign None left right at) u → (l r : Option Held) → message_in scope left ≡ l → message_in scope right ≡ r →
      AloneDoesAs scope order formats (tree.Assign None left right at) (of_assignment scope.names l r (t.Eval u))
  assignment_does left right at u f (Some (HeldVariable v signals)) (Some from) l_is r_is = copy_as scope order formats left right at v signals from _ _ l_is r_is (λ _. refl) (λ _. refl)
  assignment_does left right at u f l r l_is r_is =
      evaluated (tree.Assign None left right at) u (λ b w. ap (λ o. source_statement.assigns (source_setting b scope) o (message_in scope right) (drops (source_setting b scope) b.call (tree.Assign None left right at)) w) l_is
      ∙ ap (λ o. source_statement.assigns (source_setting b scope) l o (drops (source_setting b scope) b.call (tree.Assign None left right at)) w) r_is) f

  -- ---- each expression

  -- the typed tree of each expression that stands alone does what the expression does
  pub alone_does : (before : ℕ) (e : Expr) → StandFrom before (formats_of_alone scope e) formats → AloneDoesAs scope order formats e (alone_of scope order before e)
  alone_does before (tree.Paren inner at) there = paren_alone_as scope order formats inner at _ (alone_does before inner there)
  alone_does before (expr.Call' name shape args at) there =
      call_does before name at (expr.Call' name shape args at) _ (gives scope order each (expr.Call' name shape args at)) (callee scope.names name) (items-the_row-Expr _ args) refl (λ b w. refl) there
  alone_does before (tree.Assign None left right at) there =
      assignment_does left right at _ (gives scope order each (tree.Assign None left right at)) (message_in scope left) (message_in scope right) refl refl
  alone_does before e there = eval_as scope order formats e _ refl (gives scope order each e)
