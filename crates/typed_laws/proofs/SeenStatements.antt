-- What the statements and procedures of a source do depends on `this` only as far as they see it.
use mathlib.Core.Former.{Count}
use Rattle.std.proofs.Common.{◌≡◌, ℕ, zero, suc, Bool, true, false, List, [], ◌∷◌, Option, Some, None, refl, ap, ◌∙◌}
use Rattle.std.specs.Prelude.{if◌then◌else◌, map}
use Rattle.std.specs.Option.{option_map_or}
use Rattle.int_kinds.specs.Kind.{wrap}
use Rattle.write_format.specs.declared.piece.Piece.{Piece}
use Rattle.run_effects.specs.Effect as effect
use Rattle.control_flow.specs.World.{World, Gives, after_effect, and_then, run_map, taking_turn}
use Rattle.control_flow.specs.Control.{Calls, Computes, Does, GoesOn, Returns, deciding, do_loop, followed_by, for_loop, leaving_switch, number_given, while_loop}
use Rattle.capl_tree.specs.declared.expr.Expr.{Expr, items-the_row-Expr}
use Rattle.capl_tree.specs.declared.expr.Expr.TheVariants as expr
use Rattle.capl_tree.specs.declared.statement.Stmt.{Stmt, Row_of-Stmt, end_of-Stmt, more_of-Stmt}
use Rattle.capl_tree.specs.declared.statement.Stmt.TheBlock.{Row_of-Arm, end_of-Arm, more_of-Arm, Row_of-Group, end_of-Group, more_of-Group, Held-Stmt-If-1}
use Rattle.capl_tree.specs.declared.statement.Stmt.TheVariants as stmt
use Rattle.capl_tree.specs.Forms as tree
use Rattle.capl_meaning.specs.declared.builtin.Builtin.TheVariants as builtin
use Rattle.capl_meaning.specs.Variable.{Variable}
use Rattle.capl_meaning.specs.Names.{Callee, Function, OfLanguage, Scope, callee, inside_function}
use Rattle.capl_meaning.specs.Calls.{function_numbered}
use Rattle.capl_meaning.specs.Format.{quoted_text}
use Rattle.capl_meaning.specs.Message.{Held, HeldVariable, message_in}
use Rattle.capl_meaning.specs.Sort.{is_number, sort_of}
use Rattle.capl_meaning.specs.Constant.{prefix_kind}
use Rattle.capl_meaning.specs.Store.{This, variable_key, with_message, frame_sent}
use Rattle.capl_meaning.specs.Expression.{Memory, Setting, held_message, timer_in, value_of, with_store}
use Rattle.capl_meaning.specs.Statement.{Handler, calls_of, ending, ending_of, function_runs, runs, alone_of, arms_of, assigns, calls_alone, drops, else_of, fitting_pieces, group_for, groups_of, group_labels, numbers_of, part_of, returns, sends, sets, sets_timer, stmt_of, stmts_of, with_line}
use Rattle.capl_meaning.specs.Inside.Statement.{for_test, wrapped_to, writes_line}
use Rattle.capl_meaning.specs.Inside.Procedure.{runs_numbered}
use Rattle.typed_laws.specs.Seen.{SameSeen}
use Rattle.typed_laws.proofs.Seen.{message_seen, value_seen}

module _ (scope : Scope) (a b : This) (h : SameSeen scope.this a b) (closed : Bool) (moment : ℕ) (call : Calls Memory) where
  abbrev one : Setting
  one = record { scope = scope; this = a; closed = closed; moment = moment }

  abbrev other : Setting
  other = record { scope = scope; this = b; closed = closed; moment = moment }

  abbrev value_same : (e : Expr) (w : World Memory) → value_of one call e w ≡ value_of other call e w
  value_same = value_seen scope a b h closed moment call

  -- ---- expressions that stand alone

  drops_seen : (e : Expr) (w : World Memory) → drops one call e w ≡ drops other call e w
  drops_seen e w = λ i. run_map (λ _. GoesOn) (value_same e w i)

  numbers_seen : (es : List Expr) (w : World Memory) → numbers_of one call es w ≡ numbers_of other call es w
  numbers_seen [] w = refl
  numbers_seen (e ∷ es) w = λ i. if is_number (sort_of scope e) then and_then (value_same e w i) (λ n w. run_map (λ ns. n ∷ ns) (numbers_seen es w i)) else numbers_seen es w i

  line_seen : (o : Option (List Piece)) (es : List Expr) (w : World Memory) → writes_line one call o es w ≡ writes_line other call o es w
  line_seen None es w = refl
  line_seen (Some pieces) es w = λ i. and_then (numbers_seen es w i) (λ ns w. Gives GoesOn (with_line one pieces es ns w))

  sends_seen : (o : Option Held) → ((held : Held) → o ≡ Some held → (w : World Memory) → held_message a w.memory.store held ≡ held_message b w.memory.store held) → (w : World Memory) → sends one o w ≡ sends other o w
  sends_seen None same w = refl
  sends_seen (Some held) same w = λ i. Gives GoesOn (if closed then w else after_effect (effect.Send (frame_sent (same held refl w i))) w)

  timer_seen : (o : Option Variable) (cyclic : Bool) (duration duration' : Computes Memory) → ((w : World Memory) → duration w ≡ duration' w) → (w : World Memory) → sets_timer one o cyclic duration w ≡ sets_timer other o cyclic duration' w
  timer_seen None cyclic duration duration' e w = refl
  timer_seen (Some v) cyclic duration duration' e w = λ i. and_then (e w i) (sets one v cyclic)

  message_same : (e : Expr) (held : Held) → message_in scope e ≡ Some held → (w : World Memory) → held_message a w.memory.store held ≡ held_message b w.memory.store held
  message_same e held is w = message_seen scope a b h closed moment call e held is w.memory.store

  call_alone_seen : (c : Callee) (args : List Expr) (rest rest' : Does Memory) → ((w : World Memory) → rest w ≡ rest' w) → (w : World Memory) → calls_alone one call c args rest w ≡ calls_alone other call c args rest' w
  call_alone_seen (OfLanguage builtin.Output) (message ∷ []) rest rest' e w = sends_seen (message_in scope message) (message_same message) w
  call_alone_seen (OfLanguage builtin.Write) (format ∷ arguments) rest rest' e w = line_seen (fitting_pieces (map (sort_of scope) arguments) (quoted_text format)) arguments w
  call_alone_seen (OfLanguage builtin.SetTimer) (timer ∷ duration ∷ []) rest rest' e w = timer_seen (timer_in scope timer) false (value_of one call duration) (value_of other call duration) (value_same duration) w
  call_alone_seen (OfLanguage builtin.SetTimerCyclic) (timer ∷ duration ∷ []) rest rest' e w = timer_seen (timer_in scope timer) true (value_of one call duration) (value_of other call duration) (value_same duration) w
  call_alone_seen (OfLanguage builtin.CancelTimer) (timer ∷ []) rest rest' e w = refl
  call_alone_seen (OfLanguage builtin.Stop) [] rest rest' e w = refl
  call_alone_seen c args rest rest' e w = e w

  assigns_seen : (l r : Option Held) → ((held : Held) → r ≡ Some held → (w : World Memory) → held_message a w.memory.store held ≡ held_message b w.memory.store held) → (rest rest' : Does Memory) → ((w : World Memory) → rest w ≡ rest' w) → (w : World Memory) →
      assigns one l r rest w ≡ assigns other l r rest' w
  assigns_seen (Some (HeldVariable v signals)) (Some from) same rest rest' e w = λ i. Gives GoesOn (with_store (with_message (variable_key v) (same from refl w i) w.memory.store) w)
  assigns_seen l r same rest rest' e w = e w

  alone_seen : (e : Expr) (w : World Memory) → alone_of one call e w ≡ alone_of other call e w
  alone_seen (tree.Paren inner at) w = alone_seen inner w
  alone_seen (expr.Call' name shape args at) w =
      call_alone_seen (callee scope.names name) (items-the_row-Expr _ args) (drops one call (expr.Call' name shape args at)) (drops other call (expr.Call' name shape args at)) (drops_seen (expr.Call' name shape args at)) w
  alone_seen (tree.Assign None left right at) w =
      assigns_seen (message_in scope left) (message_in scope right) (message_same right) (drops one call (tree.Assign None left right at)) (drops other call (tree.Assign None left right at)) (drops_seen (tree.Assign None left right at)) w
  alone_seen e w = drops_seen e w

  part_seen : (part : Option Expr) (w : World Memory) → part_of one call part w ≡ part_of other call part w
  part_seen None w = refl
  part_seen (Some e) w = alone_seen e w

  test_seen : (test : Option Expr) (w : World Memory) → for_test one call test w ≡ for_test other call test w
  test_seen None w = refl
  test_seen (Some e) w = value_same e w

  returns_seen : (value : Option Expr) (w : World Memory) → returns one call value w ≡ returns other call value w
  returns_seen None w = refl
  returns_seen (Some e) w = λ i. run_map (λ n. Returns (wrapped_to scope.gives n)) (value_same e w i)

  -- ---- statements

  mutual
    pub stmt_seen : (n : ℕ) (s : Stmt) (w : World Memory) → stmt_of one call n s w ≡ stmt_of other call n s w
    stmt_seen n stmt.Empty w = refl
    stmt_seen n (stmt.Block' shape body) w = stmts_seen n body w
    stmt_seen n (stmt.Decl declaration) w = refl
    stmt_seen n (stmt.Expr e) w = alone_seen e w
    stmt_seen n (stmt.If' shape arms last) w = arms_seen n arms (else_of one call n last) (else_of other call n last) (else_seen n last) w
    stmt_seen n (tree.While test body) w = λ i. while_loop n (λ w. value_same test w i) (λ w. stmt_seen n body w i) w
    stmt_seen n (tree.Do body test) w = λ i. do_loop n (λ w. stmt_seen n body w i) (λ w. value_same test w i) w
    stmt_seen n (tree.For init test step body) w = λ i. for_loop n (λ w. part_seen init w i) (λ w. test_seen test w i) (λ w. part_seen step w i) (λ w. stmt_seen n body w i) w
    stmt_seen n (stmt.Switch' on shape groups) w = λ i. and_then (value_same on w i) (λ v w. and_then (groups_seen n groups (group_for (wrap (prefix_kind scope on) v) (group_labels scope (prefix_kind scope on) groups)) w i) leaving_switch)
    stmt_seen n (stmt.Break at) w = refl
    stmt_seen n (stmt.Continue at) w = refl
    stmt_seen n (stmt.Return value at) w = returns_seen value w

    stmts_seen : (n : ℕ) {m : Count} (row : Row_of-Stmt m) (w : World Memory) → stmts_of one call n row w ≡ stmts_of other call n row w
    stmts_seen n end_of-Stmt w = refl
    stmts_seen n (more_of-Stmt first rest) w = λ i. followed_by (λ w. stmt_seen n first w i) (λ w. stmts_seen n rest w i) w

    arms_seen : (n : ℕ) {m : Count} (row : Row_of-Arm m) (last last' : Does Memory) → ((w : World Memory) → last w ≡ last' w) → (w : World Memory) → arms_of one call n row last w ≡ arms_of other call n row last' w
    arms_seen n end_of-Arm last last' e w = e w
    arms_seen n (more_of-Arm test body rest) last last' e w = λ i. deciding (value_same test w i) (λ w. stmt_seen n body w i) (λ w. arms_seen n rest last last' e w i)

    else_seen : (n : ℕ) (last : Held-Stmt-If-1) (w : World Memory) → else_of one call n last w ≡ else_of other call n last w
    else_seen n tree.NoElse w = refl
    else_seen n (tree.Else body) w = stmt_seen n body w

    groups_seen : (n : ℕ) {m : Count} (row : Row_of-Group m) (k : ℕ) (w : World Memory) → groups_of one call n row k w ≡ groups_of other call n row k w
    groups_seen n end_of-Group k w = refl
    groups_seen n (more_of-Group labels shape body rest) zero w = λ i. followed_by (λ w. stmts_seen n body w i) (λ w. groups_seen n rest zero w i) w
    groups_seen n (more_of-Group labels shape body rest) (suc k) w = groups_seen n rest k w

  pub runs_seen : (n : ℕ) (body : List Stmt) (w : World Memory) → runs one call n body w ≡ runs other call n body w
  runs_seen n [] w = refl
  runs_seen n (s ∷ body) w = λ i. followed_by (λ w. stmt_seen n s w i) (λ w. runs_seen n body w i) w

-- ---- procedures

module _ (scope : Scope) (a b : This) (h : SameSeen scope.this a b) (closed : Bool) (moment : ℕ) where
  abbrev first : Setting
  first = record { scope = scope; this = a; closed = closed; moment = moment }

  abbrev second : Setting
  second = record { scope = scope; this = b; closed = closed; moment = moment }

  -- the body of a function, which does not see `this`
  numbered_seen : (call : Calls Memory) (n : ℕ) (number : ℕ) (w : World Memory) → runs_numbered first call n number w ≡ runs_numbered second call n number w
  numbered_seen call n number w = go (function_numbered scope.names number)
    where
      go : (o : Option Function) → option_map_or (function_runs first call n) o (runs first call n []) w ≡ option_map_or (function_runs second call n) o (runs second call n []) w
      go None = refl
      go (Some f) = runs_seen (inside_function scope.names f) a b tt closed moment call n f.body w

  numbered_calls : (call call' : Calls Memory) → ((k : ℕ) (w : World Memory) → call k w ≡ call' k w) → (n k : ℕ) (w : World Memory) → runs_numbered first call n k w ≡ runs_numbered second call' n k w
  numbered_calls call call' e n k w = (λ i. runs_numbered first (λ k w. e k w i) n k w) ∙ numbered_seen call' n k w

  calls_seen : (n k : ℕ) (w : World Memory) → calls_of first n k w ≡ calls_of second n k w
  calls_seen zero k w = refl
  calls_seen (suc n) k w = λ i. taking_turn w (λ w. run_map number_given (numbered_calls (calls_of first n) (calls_of second n) (calls_seen n) n k w i))

  body_seen : (turns : ℕ) (all : List Stmt) (w : World Memory) → runs first (calls_of first turns) turns all w ≡ runs second (calls_of second turns) turns all w
  body_seen turns all w = (λ i. runs first (λ k w. calls_seen turns k w i) turns all w) ∙ runs_seen scope a b h closed moment (calls_of second turns) turns all w

-- an event procedure ends in the same way for events that are the same as far as it sees them
pub ending_seen : (handler : Handler) (a b : This) → SameSeen handler.scope.this a b → (closed : Bool) (moment turns : ℕ) (memory : Memory) → ending_of handler a closed moment turns memory ≡ ending_of handler b closed moment turns memory
ending_seen handler a b h closed moment turns memory = ap (ending turns) (body_seen handler.scope a b h closed moment turns handler.body (record { memory = memory; turns = turns; effects = [] }))
