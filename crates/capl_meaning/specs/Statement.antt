-- What the statements and the procedures of a program mean (CAPL manual, statements, write, output, timers,
-- stop, functions, event procedures).
use Rattle.std.specs.Prelude.{ℕ, zero, suc, Bool, true, false, if◌then◌else◌, List, [], ◌∷◌, filter_map, length, map, position, slice_set, Option, Some, None, ℤ, pos, unsigned_abs, unwrap_or, ◌-◌, flat_map}
use Rattle.std.specs.List.{list_any}
use Rattle.std.specs.Option.{option_and_then, option_map_or}
use Rattle.int_kinds.specs.declared.kinds.Kind.{Kind}
use Rattle.int_kinds.specs.Kind.{wrap}
use Rattle.write_format.specs.declared.argument.ArgKind.{ArgKind}
use Rattle.write_format.specs.Line.{format_elements, line_of}
use Rattle.write_format.specs.declared.piece.Piece.{Piece}
use Rattle.write_format.specs.Reading.{codes_of, pieces_of}
use Rattle.run_effects.specs.Effect.{micros, Effect}
use Rattle.control_flow.specs.World.{World, Run, Gives, and_then, run_map, after_effect, Fails}
use Rattle.control_flow.specs.Control.{Calls, Computes, Does, GoesOn, Breaks, Continues, Returns, deciding, for_loop, do_loop, followed_by, leaving_switch, nothing, while_loop, End, calls_by, in_order}
use Rattle.capl_tree.specs.declared.expr.Expr.{Expr, items-the_row-Expr}
use Rattle.capl_tree.specs.declared.statement.Stmt.{Stmt, Row_of-Stmt, end_of-Stmt, more_of-Stmt}
use Rattle.capl_tree.specs.declared.statement.Stmt.TheBlock.{Row_of-Arm, end_of-Arm, more_of-Arm, Row_of-Group, end_of-Group, more_of-Group, Held-Stmt-If-1}
use Rattle.capl_meaning.specs.declared.sort.Sort.{Sort}
use Rattle.capl_meaning.specs.Variable.{Variable, Part, Globals, Procedure, parts_of}
use Rattle.capl_meaning.specs.Names.{Callee, OfLanguage, Scope, callee, Function, Names, global, inside, inside_function, names_of}
use Rattle.capl_meaning.specs.Format.{show_all, quoted_text}
use Rattle.capl_meaning.specs.Message.{Held, HeldVariable, array_in, message_in}
use Rattle.capl_meaning.specs.Sort.{is_number, sort_of}
use Rattle.capl_meaning.specs.Constant.{elements_of, prefix_kind}
use Rattle.capl_meaning.specs.Store.{Store, variable_key, row, timer_number, unit_of, with_message, frame_sent, This}
use Rattle.capl_meaning.specs.Expression.{Memory, Setting, held_message, timer_in, value_of, with_store}
use Rattle.run_effects.specs.declared.event.Event.{Event}
use Rattle.run_effects.specs.declared.outcome.Outcome.{Outcome}
use Rattle.run_effects.specs.declared.outcome.Outcome.TheVariants.{Done}
use Rattle.dbc_reader.specs.declared.message.DbcMessage.{DbcMessage}
use Rattle.capl_tree.specs.declared.file.Program.{Program}
use Rattle.capl_tree.specs.declared.procedure.Head.{Head}
use Rattle.capl_meaning.specs.StatementRules.{label_of, same_label}
use Rattle.capl_meaning.specs.ProcedureRules.{ranges_of}
use Rattle.capl_meaning.specs.Calls.{function_numbered}
use Rattle.write_format.specs.declared.argument.ArgKind.TheVariants as argument
use Rattle.run_effects.specs.Effect as effect
use Rattle.capl_tree.specs.declared.expr.Expr.TheVariants as expr
use Rattle.capl_tree.specs.declared.statement.Stmt.TheVariants as stmt
use Rattle.capl_tree.specs.Forms as tree
use Rattle.capl_meaning.specs.declared.builtin.Builtin.TheVariants as builtin
use Rattle.capl_meaning.specs.declared.sort.Sort.TheVariants as sort
use Rattle.run_effects.specs.declared.event.Event.TheVariants as event
use Rattle.capl_tree.specs.declared.procedure.Head.TheVariants as head

-- ---- What the statements of a program mean (CAPL manual, statements, write, output, timers, stop).

-- what changes in the world, unless the measurement has ended
abbrev pub unless_closed : Setting → (World Memory → World Memory) → Does Memory
unless_closed s change w = Gives GoesOn (if s.closed then w else change w)

-- ---- write

-- the numbers that those of expressions give that are numbers, in order
abbrev pub numbers_of : Setting → Calls Memory → List Expr → World Memory → Run Memory (List ℤ)
numbers_of s call [] w = Gives [] w
numbers_of s call (e ∷ rest) w =
    if is_number (sort_of s.scope e)
    then and_then (value_of s call e w) (λ n w. run_map (λ ns. n ∷ ns) (numbers_of s call rest w))
    else numbers_of s call rest w

-- the bytes that an array of characters holds
abbrev pub characters_of : Setting → Store → Variable → List ℕ
characters_of s store v =
    map unsigned_abs (row (store.element (variable_key v)) 0 (elements_of s.scope.names v))

-- the bytes of an argument that is shown as a text: those of a text between quotes, or those that an array
-- holds when the line is made
abbrev pub text_of : Setting → Store → Expr → List ℕ
text_of s store e = unwrap_or (quoted_text e) (option_map_or (characters_of s store) (array_in s.scope e) [])

-- an argument of a line, when it is made
abbrev pub argument_by : List ℕ → Sort → ArgKind
argument_by text (sort.Number k) = argument.Number k
argument_by text _ = argument.Str text

-- the world after the line of a format with these arguments, whose numbers were evaluated
abbrev pub with_line : Setting → List Piece → List Expr → List ℤ → World Memory → World Memory
with_line s pieces arguments ns w =
    let made : Expr → ArgKind = λ e. argument_by (text_of s w.memory.store e) (sort_of s.scope e) in
    after_effect (effect.Line (line_of (format_elements pieces (map made arguments)) ns [])) w

-- the pieces of a format that shows expressions of these sorts
abbrev pub fitting_pieces : List Sort → Option (List ℕ) → Option (List Piece)
fitting_pieces sorts text =
    option_and_then (λ pieces. if show_all (codes_of pieces) sorts then Some pieces else None)
    (option_and_then pieces_of text)

-- `write` of a format and arguments writes the line of the format, if there is one: the numbers are evaluated
-- from left to right before
abbrev pub writes : Setting → Calls Memory → Expr → List Expr → Does Memory
writes s call format arguments = option_map_or (λ pieces w.
    and_then (numbers_of s call arguments w) (λ ns w. Gives GoesOn (with_line s pieces arguments ns w)))
    (fitting_pieces (map (sort_of s.scope) arguments) (quoted_text format)) nothing

-- ---- messages and timers

-- sends the frame of a message, if there is one
abbrev pub sends : Setting → Option Held → Does Memory
sends s None = nothing
sends s (Some held) = unless_closed s (λ w. after_effect
    (effect.Send (frame_sent (held_message s.this w.memory.store held))) w)

-- copies a message to a message variable
abbrev pub copies : Setting → Variable → Held → Does Memory
copies s v from w = Gives GoesOn
    (with_store (with_message (variable_key v) (held_message s.this w.memory.store from) w.memory.store) w)

-- an assignment copies where a message variable stands on the left and a message on the right; else it does
-- what it does as an expression
abbrev pub assigns : Setting → Option Held → Option Held → Does Memory → Does Memory
assigns s (Some (HeldVariable v signals)) (Some from) other = copies s v from
assigns s _ _ other = other

-- the world in which a timer is active or not
abbrev pub with_timer : ℕ → Bool → World Memory → World Memory
with_timer timer active w =
    record w { memory = record w.memory { active = slice_set w.memory.active timer active } }

-- sets a timer to a duration in its unit, once or again and again
abbrev pub sets : Setting → Variable → Bool → ℤ → Does Memory
sets s v cyclic n =
    let timer : ℕ = timer_number s.scope.names v in
    let duration : ℕ = micros (unwrap_or (unit_of v.form) 0) n in
    unless_closed s (λ w. after_effect (effect.Set timer duration cyclic) (with_timer timer true w))

-- `setTimer` and `setTimerCyclic` of a timer, if there is one, which evaluate the duration
abbrev pub sets_timer : Setting → Option Variable → Bool → Computes Memory → Does Memory
sets_timer s timer cyclic duration =
    option_map_or (λ v w. and_then (duration w) (sets s v cyclic)) timer nothing

-- cancels a timer, if there is one
abbrev pub cancels : Setting → Option Variable → Does Memory
cancels s None = nothing
cancels s (Some v) =
    let timer : ℕ = timer_number s.scope.names v in
    unless_closed s (λ w. after_effect (effect.Cancel timer) (with_timer timer false w))

-- ---- expressions that stand alone

-- what a call does that stands alone: a function of the language that gives nothing does what it is for; else
-- the call does what it does as an expression
abbrev pub calls_alone : Setting → Calls Memory → Callee → List Expr → Does Memory → Does Memory
calls_alone s call (OfLanguage builtin.Output) (message ∷ []) other = sends s (message_in s.scope message)
calls_alone s call (OfLanguage builtin.Write) (format ∷ arguments) other = writes s call format arguments
calls_alone s call (OfLanguage builtin.SetTimer) (timer ∷ duration ∷ []) other =
    sets_timer s (timer_in s.scope timer) false (value_of s call duration)
calls_alone s call (OfLanguage builtin.SetTimerCyclic) (timer ∷ duration ∷ []) other =
    sets_timer s (timer_in s.scope timer) true (value_of s call duration)
calls_alone s call (OfLanguage builtin.CancelTimer) (timer ∷ []) other =
    cancels s (timer_in s.scope timer)
calls_alone s call (OfLanguage builtin.Stop) [] other = unless_closed s (after_effect effect.Stop)
calls_alone s call _ _ other = other

-- what an expression does whose value is dropped
abbrev pub drops : Setting → Calls Memory → Expr → Does Memory
drops s call e w = run_map (λ _. GoesOn) (value_of s call e w)

-- what an expression does that stands alone, as a statement or as the first or third part of a `for`
abbrev pub alone_of : Setting → Calls Memory → Expr → Does Memory
alone_of s call (tree.Paren inner at) = alone_of s call inner
alone_of s call (expr.Call' name shape args at) =
    calls_alone s call (callee s.scope.names name) (items-the_row-Expr _ args)
    (drops s call (expr.Call' name shape args at))
alone_of s call (tree.Assign None left right at) =
    assigns s (message_in s.scope left) (message_in s.scope right)
    (drops s call (tree.Assign None left right at))
alone_of s call e = drops s call e

-- the first or third part of a `for`, if it is there
abbrev pub part_of : Setting → Calls Memory → Option Expr → Does Memory
part_of s call part = option_map_or (alone_of s call) part nothing

-- returns a number, wrapped to the function's kind, or 0 where there is none
abbrev pub returns : Setting → Calls Memory → Option Expr → Does Memory
returns s call None w = Gives (Returns (pos 0)) w
returns s call (Some e) w =
    run_map (λ n. Returns (option_map_or (λ k. wrap k n) s.scope.gives n)) (value_of s call e w)

-- ---- switch

-- the labels of each group in a kind
abbrev pub group_labels : Scope → Kind → {m : _} → Row_of-Group m → List (List (Option ℤ))
group_labels s k end_of-Group = []
group_labels s k (more_of-Group labels shape body rest) =
    filter_map (λ label. label_of s k label.at label.value) labels ∷ group_labels s k rest

-- the number of the first group that has a label
abbrev pub group_with : Option ℤ → List (List (Option ℤ)) → Option ℕ
group_with label groups = position (list_any (same_label label)) groups

-- the number of the group that a value leads to: the one that has it as a label, else the one with `default`,
-- else behind the last
abbrev pub group_for : ℤ → List (List (Option ℤ)) → ℕ
group_for n groups =
    unwrap_or (group_with (Some n) groups) (unwrap_or (group_with None groups) (length groups))

-- ---- statements

abbrev mutual
  -- what a statement does, where calls do what `call` says and at most n turns are left
  pub stmt_of : Setting → Calls Memory → ℕ → Stmt → Does Memory
  stmt_of s call n stmt.Empty w = Gives GoesOn w
  stmt_of s call n (stmt.Block' shape body) w = stmts_of s call n body w
  stmt_of s call n (stmt.Decl declaration) w = Gives GoesOn w
  stmt_of s call n (stmt.Expr e) w = alone_of s call e w
  stmt_of s call n (stmt.If' shape arms other) w = arms_of s call n arms (else_of s call n other) w
  stmt_of s call n (tree.While test body) w = while_loop n (value_of s call test) (stmt_of s call n body) w
  stmt_of s call n (tree.Do body test) w = do_loop n (stmt_of s call n body) (value_of s call test) w
  stmt_of s call n (tree.For init test step body) w =
      for_loop n (part_of s call init) (option_map_or (value_of s call) test (Gives (pos 1)))
      (part_of s call step) (stmt_of s call n body) w
  stmt_of s call n (stmt.Switch' on shape groups) w =
      and_then (value_of s call on w) (λ v w.
      and_then (groups_of s call n groups (group_for (wrap (prefix_kind s.scope on) v)
      (group_labels s.scope (prefix_kind s.scope on) groups)) w) leaving_switch)
  stmt_of s call n (stmt.Break at) w = Gives Breaks w
  stmt_of s call n (stmt.Continue at) w = Gives Continues w
  stmt_of s call n (stmt.Return value at) w = returns s call value w

  -- statements in a row
  pub stmts_of : Setting → Calls Memory → ℕ → {m : _} → Row_of-Stmt m → Does Memory
  stmts_of s call n end_of-Stmt w = nothing w
  stmts_of s call n (more_of-Stmt first rest) w =
      followed_by (stmt_of s call n first) (stmts_of s call n rest) w

  -- the arms of an `if`, and what is done where the test of each is 0
  pub arms_of : Setting → Calls Memory → ℕ → {m : _} → Row_of-Arm m → Does Memory → Does Memory
  arms_of s call n end_of-Arm other w = other w
  arms_of s call n (more_of-Arm test body rest) other w =
      deciding (value_of s call test w) (stmt_of s call n body) (arms_of s call n rest other)

  -- what stands behind a last `else`, if it is there
  pub else_of : Setting → Calls Memory → ℕ → Held-Stmt-If-1 → Does Memory
  else_of s call n tree.NoElse w = nothing w
  else_of s call n (tree.Else body) w = stmt_of s call n body w

  -- the groups of a `switch` from one on, by its number
  pub groups_of : Setting → Calls Memory → ℕ → {m : _} → Row_of-Group m → ℕ → Does Memory
  groups_of s call n end_of-Group k w = nothing w
  groups_of s call n (more_of-Group labels shape body rest) zero w =
      followed_by (stmts_of s call n body) (groups_of s call n rest zero) w
  groups_of s call n (more_of-Group labels shape body rest) (suc k) w = groups_of s call n rest k w

-- ---- What the procedures of a program mean (CAPL manual, functions, event procedures). The limit of turns
-- is this project's own.

-- what a procedure's statements do, where calls do what `call` says and at most n turns are left
abbrev pub runs : Setting → Calls Memory → ℕ → List Stmt → Does Memory
runs s call n body = in_order (stmt_of s call n) body

-- what the body of a function does, in the same setting but for where it stands
abbrev pub function_runs : Setting → Calls Memory → ℕ → Function → Does Memory
function_runs s call n f = runs (record s { scope = inside_function s.scope.names f }) call n f.body

-- what the calls of the functions do, by their numbers, where at most n turns are left; of a number that no
-- function has nothing is done
abbrev pub calls_of : Setting → ℕ → Calls Memory
calls_of s n = calls_by (λ call n f.
    option_map_or (function_runs s call n) (function_numbered s.scope.names f) (runs s call n [])) n

-- how the run of an event procedure ends: what the memory is then, how many turns it took, its effects in
-- order, and the outcome
pub record Ending : Type 0 where
  pub memory : Memory
  pub turns_taken : ℕ
  pub effects : List Effect
  pub outcome : Outcome

-- the ending of a run that was given so many turns
abbrev pub ending : ℕ → Run Memory End → Ending
ending turns (Gives end w) =
    record { memory = w.memory; turns_taken = turns - w.turns; effects = w.effects; outcome = Done }
ending turns (Fails outcome w) =
    record { memory = w.memory; turns_taken = turns - w.turns; effects = w.effects; outcome = outcome }

-- an event procedure of a program: where it stands, what it reacts to, its statements, its file and its first
-- token
pub record Handler : Type 0 where
  pub scope : Scope
  pub event : Event
  pub body : List Stmt
  pub file : ℕ
  pub token : ℕ

-- the number of the global timer of a name; 0 where there is none, which no accepted program has
abbrev pub timer_named : Names → List ℕ → ℕ
timer_named names name = option_map_or (timer_number names) (global names name) 0

-- what a procedure with this head reacts to; a function reacts to nothing
abbrev pub event_of : Names → Head → Option Event
event_of names head.PreStart = Some event.PreStart
event_of names head.Start = Some event.Start
event_of names head.Stop = Some event.Stop
event_of names (head.Message selectors) =
    Some (event.Message (flat_map (ranges_of names.base) selectors))
event_of names (head.Timer name at) = Some (event.Timer (timer_named names name))
event_of names (head.Key value) = Some (event.Key value)
event_of names (head.Function kind name parameters at) = None

-- the event procedure of a part of a program, if it is one
abbrev pub handlers_of_part : Names → Part → List Handler
handlers_of_part names (Globals file declarations) = []
handlers_of_part names (Procedure number file procedure) = option_map_or (λ e. record {
  scope = inside names number file procedure.head;
  event = e;
  body = procedure.body;
  file = file;
  token = procedure.at;
} ∷ []) (event_of names procedure.head) []

-- the event procedures of a program with a database, in program order
abbrev pub handlers_in : List DbcMessage → Program → List Handler
handlers_in base program = flat_map (handlers_of_part (names_of base program)) (parts_of program)

-- how an event procedure ends from a memory with so many turns: with `this`, after the measurement has ended
-- or not, at a moment
abbrev pub ending_of : Handler → This → Bool → ℕ → ℕ → Memory → Ending
ending_of handler this closed moment turns memory =
    let s : Setting = record { scope = handler.scope; this = this; closed = closed; moment = moment } in
    ending turns (runs s (calls_of s turns) turns handler.body
    (record { memory = memory; turns = turns; effects = [] }))
