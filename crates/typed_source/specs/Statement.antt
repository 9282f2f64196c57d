-- The typed tree of a statement, and the formats of the lines that it writes, in the order in which they
-- stand in the source: first part, test, third part and body of a `for`. A format of a statement is known by
-- its number among all formats of the program, of which so many stand before those of the statement.
use Rattle.std.specs.Prelude.{◌≡◌, slice_get, ℕ, ◌+◌, Bool, true, false, List, [], ◌∷◌, ◌++◌, filter, filter_map, length, map, Option, Some, None}
use Rattle.std.specs.Option.{option_map, option_map_or}
use Rattle.int_kinds.specs.declared.kinds.Kind.{Kind}
use Rattle.write_format.specs.declared.argument.ArgKind.{ArgKind}
use Rattle.write_format.specs.declared.argument.ArgKind.TheVariants as argument
use Rattle.write_format.specs.declared.piece.Piece.{Piece}
use Rattle.write_format.specs.Line.{FormatText, format_elements}
use Rattle.capl_tree.specs.declared.expr.Expr.{Expr, items-the_row-Expr}
use Rattle.capl_tree.specs.declared.expr.Expr.TheVariants as expr
use Rattle.capl_tree.specs.declared.statement.Stmt.{Stmt, Row_of-Stmt, end_of-Stmt, more_of-Stmt}
use Rattle.capl_tree.specs.declared.statement.Stmt.TheBlock.{Row_of-Arm, end_of-Arm, more_of-Arm, Row_of-Group, end_of-Group, more_of-Group, Held-Stmt-If-1}
use Rattle.capl_tree.specs.declared.statement.Stmt.TheVariants as stmt
use Rattle.capl_tree.specs.Forms as tree
use Rattle.typed_tree.specs.declared.expression.TExpr.{TExpr}
use Rattle.typed_tree.specs.declared.statement.TStmt.{TStmt, Row_of-TStmt, end_of-TStmt, more_of-TStmt}
use Rattle.typed_tree.specs.declared.statement.TStmt.TheVariants.{Empty, Block', If', Switch', Break, Continue, Return, Eval, Write, Send, Copy, Halt, Set, Cancel}
use Rattle.typed_tree.specs.declared.statement.TStmt.TheBlock.{Held-TStmt-If-1, Row_of-TArm, end_of-TArm, more_of-TArm, Row_of-TGroup, end_of-TGroup, more_of-TGroup}
use Rattle.typed_tree.specs.Forms.{Convert, Do, For, NoPart, Part, While}
use Rattle.capl_meaning.specs.declared.builtin.Builtin.TheVariants as builtin
use Rattle.capl_meaning.specs.declared.sort.Sort.{Sort}
use Rattle.capl_meaning.specs.declared.sort.Sort.TheVariants as sort
use Rattle.capl_meaning.specs.Variable.{Variable}
use Rattle.capl_meaning.specs.Names.{Callee, Names, OfLanguage, Scope, callee}
use Rattle.capl_meaning.specs.Format.{quoted_text}
use Rattle.capl_meaning.specs.Message.{Held, HeldVariable, array_in, message_in}
use Rattle.capl_meaning.specs.Sort.{is_number, sort_of}
use Rattle.capl_meaning.specs.Constant.{elements_of, prefix_kind}
use Rattle.capl_meaning.specs.Store.{variable_key, timer_number}
use Rattle.capl_meaning.specs.Expression.{timer_in}
use Rattle.capl_meaning.specs.Statement.{fitting_pieces}
use Rattle.capl_meaning.specs.StatementRules.{label_of}
use Rattle.typed_laws.specs.Laid.{message_slot, slot}
use Rattle.typed_source.specs.Expression.{expression_of}

-- ---- formats

-- the array of characters that a variable is, as an argument of `write`
abbrev pub array_argument : Names → Variable → ArgKind
array_argument names v = argument.Chars (slot names (variable_key v)) (elements_of names v)

-- an argument of `write` that is no number: a text, or the cells of an array
abbrev pub text_argument : Names → Option (List ℕ) → Option Variable → ArgKind
text_argument names (Some text) array = argument.Str text
text_argument names None array = option_map_or (array_argument names) array (argument.Str [])

-- an argument of `write` by its sort: a number of its kind, or a text
abbrev pub argument_by : Sort → ArgKind → ArgKind
argument_by (sort.Number k) text = argument.Number k
argument_by _ text = text

-- an argument of `write`
abbrev pub argument_of : Scope → Expr → ArgKind
argument_of s e = argument_by (sort_of s e) (text_argument s.names (quoted_text e) (array_in s e))

-- the text of the format of a `write`
abbrev pub text_written : Expr → List ℕ
text_written format = option_map_or (λ text. text) (quoted_text format) []

-- the format of a text, its pieces and arguments
abbrev pub format_of : Scope → List ℕ → List Piece → List Expr → FormatText
format_of s text pieces arguments = record {
  text = text;
  arguments = map (argument_of s) arguments;
  elements = format_elements pieces (map (argument_of s) arguments);
}

-- the pieces of a `write`, if its format reads and fits
abbrev pub pieces_written : Scope → Expr → List Expr → Option (List Piece)
pieces_written s format arguments = fitting_pieces (map (sort_of s) arguments) (quoted_text format)

-- the format of a `write`, if there is one
abbrev pub formats_written : Scope → List ℕ → Option (List Piece) → List Expr → List FormatText
formats_written s text None arguments = []
formats_written s text (Some pieces) arguments = format_of s text pieces arguments ∷ []

-- the format of a call that stands alone, if it is a `write`
abbrev pub formats_of_call : Scope → Callee → List Expr → List FormatText
formats_of_call s (OfLanguage builtin.Write) (format ∷ arguments) =
    formats_written s (text_written format) (pieces_written s format arguments) arguments
formats_of_call s _ _ = []

-- the formats of an expression that stands alone
abbrev pub formats_of_alone : Scope → Expr → List FormatText
formats_of_alone s (tree.Paren inner at) = formats_of_alone s inner
formats_of_alone s (expr.Call' name shape args at) =
    formats_of_call s (callee s.names name) (items-the_row-Expr _ args)
formats_of_alone s _ = []

-- the formats of the first or third part of a `for`
abbrev pub formats_of_part : Scope → Option Expr → List FormatText
formats_of_part s None = []
formats_of_part s (Some e) = formats_of_alone s e

abbrev mutual
  -- the formats of a statement
  pub formats_of : Scope → Stmt → List FormatText
  formats_of s (stmt.Expr e) = formats_of_alone s e
  formats_of s (stmt.Block' shape body) = formats_of_row s body
  formats_of s (stmt.If' shape arms other) = formats_of_arms s arms ++ formats_of_else s other
  formats_of s (tree.While test body) = formats_of s body
  formats_of s (tree.Do body test) = formats_of s body
  formats_of s (tree.For init test step body) =
      formats_of_part s init ++ (formats_of_part s step ++ formats_of s body)
  formats_of s (stmt.Switch' on shape groups) = formats_of_groups s groups
  formats_of s stmt.Empty = []
  formats_of s (stmt.Decl declaration) = []
  formats_of s (stmt.Break at) = []
  formats_of s (stmt.Continue at) = []
  formats_of s (stmt.Return value at) = []

  -- the formats of statements in a row
  pub formats_of_row : Scope → {m : _} → Row_of-Stmt m → List FormatText
  formats_of_row s end_of-Stmt = []
  formats_of_row s (more_of-Stmt first rest) = formats_of s first ++ formats_of_row s rest

  -- the formats of the arms of an `if`
  pub formats_of_arms : Scope → {m : _} → Row_of-Arm m → List FormatText
  formats_of_arms s end_of-Arm = []
  formats_of_arms s (more_of-Arm test body rest) = formats_of s body ++ formats_of_arms s rest

  -- the formats of what stands behind a last `else`
  pub formats_of_else : Scope → Held-Stmt-If-1 → List FormatText
  formats_of_else s tree.NoElse = []
  formats_of_else s (tree.Else body) = formats_of s body

  -- the formats of the groups of a `switch`
  pub formats_of_groups : Scope → {m : _} → Row_of-Group m → List FormatText
  formats_of_groups s end_of-Group = []
  formats_of_groups s (more_of-Group labels shape body rest) =
      formats_of_row s body ++ formats_of_groups s rest

-- formats stand among others, one behind another from a number on
abbrev pub StandFrom : ℕ → List FormatText → List FormatText → Type 0
StandFrom before few many =
    (i : ℕ) (format : FormatText) → slice_get few i ≡ Some format → slice_get many (before + i) ≡ Some format

-- ---- expressions that stand alone

-- the typed trees of the arguments that are numbers
abbrev pub numbers_of : Scope → List ℕ → List Expr → List TExpr
numbers_of s order arguments = map (expression_of s order) (filter (λ e. is_number (sort_of s e)) arguments)

-- a `write` with the format of a number, if it has one
abbrev pub writing : Scope → List ℕ → ℕ → Option (List Piece) → List Expr → TStmt
writing s order format None arguments = Empty
writing s order format (Some pieces) arguments = Write format (numbers_of s order arguments)

-- `setTimer` and `setTimerCyclic`
abbrev pub setting : Names → Option Variable → Bool → TExpr → TStmt
setting names None cyclic duration = Empty
setting names (Some v) cyclic duration = Set (timer_number names v) cyclic duration

-- a call that stands alone, where so many formats stand before its own
abbrev pub of_call_alone : Scope → List ℕ → ℕ → Callee → List Expr → TStmt → TStmt
of_call_alone s order before (OfLanguage builtin.Output) (message ∷ []) other =
    option_map_or (λ held. Send (message_slot s.names held)) (message_in s message) Empty
of_call_alone s order before (OfLanguage builtin.Write) (format ∷ arguments) other =
    writing s order before (pieces_written s format arguments) arguments
of_call_alone s order before (OfLanguage builtin.SetTimer) (timer ∷ duration ∷ []) other =
    setting s.names (timer_in s timer) false (expression_of s order duration)
of_call_alone s order before (OfLanguage builtin.SetTimerCyclic) (timer ∷ duration ∷ []) other =
    setting s.names (timer_in s timer) true (expression_of s order duration)
of_call_alone s order before (OfLanguage builtin.CancelTimer) (timer ∷ []) other =
    option_map_or (λ v. Cancel (timer_number s.names v)) (timer_in s timer) Empty
of_call_alone s order before (OfLanguage builtin.Stop) [] other = Halt
of_call_alone s order before _ _ other = other

-- an assignment that stands alone: a message variable on the left is made a copy of a message on the right
abbrev pub of_assignment : Names → Option Held → Option Held → TStmt → TStmt
of_assignment names (Some (HeldVariable v signals)) (Some from) other =
    Copy (slot names (variable_key v)) (message_slot names from)
of_assignment names _ _ other = other

-- an expression that stands alone
abbrev pub alone_of : Scope → List ℕ → ℕ → Expr → TStmt
alone_of s order before (tree.Paren inner at) = alone_of s order before inner
alone_of s order before (expr.Call' name shape args at) =
    of_call_alone s order before (callee s.names name) (items-the_row-Expr _ args)
    (Eval (expression_of s order (expr.Call' name shape args at)))
alone_of s order before (tree.Assign None left right at) =
    of_assignment s.names (message_in s left) (message_in s right)
    (Eval (expression_of s order (tree.Assign None left right at)))
alone_of s order before e = Eval (expression_of s order e)

-- the first or third part of a `for`
abbrev pub part_of : Scope → List ℕ → ℕ → Option Expr → Held-TStmt-If-1
part_of s order before None = NoPart
part_of s order before (Some e) = Part (alone_of s order before e)

-- ---- statements

-- the expression of a `return`, converted to the kind that is given
abbrev pub returned : Option Kind → TExpr → TExpr
returned None e = e
returned (Some k) e = Convert k e

abbrev mutual
  -- the typed tree of a statement, where so many formats stand before its own
  pub statement_of : Scope → List ℕ → ℕ → Stmt → TStmt
  statement_of s order before stmt.Empty = Empty
  statement_of s order before (stmt.Block' shape body) = Block' shape (statements_of s order before body)
  statement_of s order before (stmt.Decl declaration) = Empty
  statement_of s order before (stmt.Expr e) = alone_of s order before e
  statement_of s order before (stmt.If' shape arms other) =
      If' shape (arms_of s order before arms)
      (else_of s order (before + length (formats_of_arms s arms)) other)
  statement_of s order before (tree.While test body) =
      While (expression_of s order test) (statement_of s order before body)
  statement_of s order before (tree.Do body test) =
      Do (statement_of s order before body) (expression_of s order test)
  statement_of s order before (tree.For init test step body) =
      For (part_of s order before init) (option_map (expression_of s order) test)
      (part_of s order (before + length (formats_of_part s init)) step)
      (statement_of s order
      (before + length (formats_of_part s init) + length (formats_of_part s step)) body)
  statement_of s order before (stmt.Switch' on shape groups) =
      Switch' (Convert (prefix_kind s on) (expression_of s order on)) shape
      (groups_of s order (prefix_kind s on) before groups)
  statement_of s order before (stmt.Break at) = Break
  statement_of s order before (stmt.Continue at) = Continue
  statement_of s order before (stmt.Return value at) =
      Return (option_map (λ e. returned s.gives (expression_of s order e)) value)

  -- the typed trees of statements in a row
  pub statements_of : Scope → List ℕ → ℕ → {m : _} → Row_of-Stmt m → Row_of-TStmt m
  statements_of s order before end_of-Stmt = end_of-TStmt
  statements_of s order before (more_of-Stmt first rest) =
      more_of-TStmt (statement_of s order before first)
      (statements_of s order (before + length (formats_of s first)) rest)

  -- the arms of an `if`
  pub arms_of : Scope → List ℕ → ℕ → {m : _} → Row_of-Arm m → Row_of-TArm m
  arms_of s order before end_of-Arm = end_of-TArm
  arms_of s order before (more_of-Arm test body rest) =
      more_of-TArm (expression_of s order test) (statement_of s order before body)
      (arms_of s order (before + length (formats_of s body)) rest)

  -- what stands behind a last `else`
  pub else_of : Scope → List ℕ → ℕ → Held-Stmt-If-1 → Held-TStmt-If-1
  else_of s order before tree.NoElse = NoPart
  else_of s order before (tree.Else body) = Part (statement_of s order before body)

  -- the groups of a `switch`, with their labels in a kind
  pub groups_of : Scope → List ℕ → Kind → ℕ → {m : _} → Row_of-Group m → Row_of-TGroup m
  groups_of s order k before end_of-Group = end_of-TGroup
  groups_of s order k before (more_of-Group labels shape body rest) =
      more_of-TGroup (filter_map (λ label. label_of s k label.at label.value) labels) shape
      (statements_of s order before body) (groups_of s order k (before + length (formats_of_row s body)) rest)
