-- The grammar of statements, procedures and files (CAPL manual, statements and event procedures).
--
-- Parts are written out as expressions are. An `else` belongs to the nearest `if` that has none. A place is
-- that of the first token, but a parameter and the head of a timer's procedure or of a function have that of
-- their name, and a selector that of what stands behind its channel.
use Rattle.std.specs.Prelude.{ℕ, zero, suc, Bool, true, false, not, ◌||◌, List, [], ◌∷◌, Option, Some, None, codes}
use Rattle.texts.specs.declared.text.Text.{Text}
use Rattle.int_kinds.specs.declared.kinds.Kind.{Kind}
use Rattle.capl_lexer.specs.declared.token.Tok.{Tok}
use Rattle.capl_lexer.specs.declared.token.Tok.TheVariants as tok
use Rattle.capl_lexer.specs.declared.token.Word.TheVariants as word
use Rattle.capl_lexer.specs.declared.token.Sign.TheVariants as sign
use Rattle.capl_tree.specs.declared.expr.Expr.{Expr}
use Rattle.capl_tree.specs.declared.expr.Expr.TheVariants as expr
use Rattle.capl_tree.specs.declared.statement.Stmt.{Stmt, Row_of-Stmt, end_of-Stmt, more_of-Stmt}
use Rattle.capl_tree.specs.declared.statement.Stmt.TheBlock.{Row_of-Arm, end_of-Arm, more_of-Arm, Row_of-Group, end_of-Group, more_of-Group, Held-Stmt-If-1}
use Rattle.capl_tree.specs.declared.statement.Stmt.TheVariants as stmt
use Rattle.capl_tree.specs.declared.statement.Label.{Label}
use Rattle.capl_tree.specs.declared.procedure.Proc.{Proc}
use Rattle.capl_tree.specs.declared.procedure.Head.{Head}
use Rattle.capl_tree.specs.declared.procedure.Head.TheVariants as head
use Rattle.capl_tree.specs.declared.procedure.Param.{Param}
use Rattle.capl_tree.specs.declared.procedure.Sel.{Sel}
use Rattle.capl_tree.specs.declared.procedure.SelWhat.{SelWhat}
use Rattle.capl_tree.specs.declared.procedure.SelWhat.TheVariants as selected
use Rattle.capl_tree.specs.declared.file.TopItem.{TopItem}
use Rattle.capl_tree.specs.declared.file.TopItem.TheVariants as top
use Rattle.capl_tree.specs.declared.file.FileTree.{FileTree}
use Rattle.capl_tree.specs.Forms as form
use Rattle.capl_tree.specs.Binding.{assignment_level, takes_else, kind_word}
use Rattle.capl_grammar.specs.Expression.{Piece, Token, VoidOrNothing, At, When, a_sign, a_word, a_name, Spells, expression, value, separated, some_of, declaration}

-- an expression that may be missing
abbrev pub optional : Option Expr → List Piece → List Piece
optional None rest = rest
optional (Some e) rest = expression assignment_level e rest

-- `case VALUE :` or `default :`
abbrev pub label_part : Option Expr → List Piece → List Piece
label_part None rest = a_word word.Default ∷ a_sign sign.Colon ∷ rest
label_part (Some e) rest = a_word word.Case ∷ value e (a_sign sign.Colon ∷ rest)

-- a label
abbrev pub label : Label → List Piece → List Piece
label l rest = At l.at ∷ label_part l.value rest

-- items, one after another
abbrev pub each : {A : Type 0} → (A → List Piece → List Piece) → List A → List Piece → List Piece
each one [] rest = rest
each one (first ∷ others) rest = one first (each one others rest)

-- whether it is an `if`
abbrev pub is_if : Stmt → Bool
is_if (stmt.If' shape arms other) = true
is_if _ = false

-- whether the row has a declaration or a statement
abbrev pub has_statement : {m : _} → Row_of-Stmt m → Bool
has_statement end_of-Stmt = false
has_statement (more_of-Stmt first others) = true

-- whether the row has no group
abbrev pub has_no_group : {m : _} → Row_of-Group m → Bool
has_no_group end_of-Group = true
has_no_group (more_of-Group labels shape body others) = false

abbrev mutual
  -- a statement that is no declaration
  pub statement : Stmt → List Piece → List Piece
  statement stmt.Empty rest = a_sign sign.Semi ∷ rest
  statement (stmt.Block' shape body) rest =
      a_sign sign.OpenBrace ∷ statements body (a_sign sign.CloseBrace ∷ rest)
  statement (stmt.Decl declared) rest = When false ∷ rest
  statement (stmt.Expr e) rest = expression assignment_level e (a_sign sign.Semi ∷ rest)
  statement (stmt.If' shape arms other) rest = first_arm arms (last_else other rest)
  statement (form.While test body) rest =
      a_word word.While ∷ a_sign sign.OpenParen
      ∷ expression assignment_level test (a_sign sign.CloseParen ∷ statement body rest)
  statement (form.Do body test) rest =
      a_word word.Do ∷ statement body (a_word word.While ∷ a_sign sign.OpenParen
      ∷ expression assignment_level test (a_sign sign.CloseParen ∷ a_sign sign.Semi ∷ rest))
  statement (form.For init test step body) rest =
      a_word word.For ∷ a_sign sign.OpenParen
      ∷ optional init (a_sign sign.Semi ∷ optional test (a_sign sign.Semi
      ∷ optional step (a_sign sign.CloseParen ∷ statement body rest)))
  statement (stmt.Switch' on shape groups) rest =
      a_word word.Switch ∷ a_sign sign.OpenParen
      ∷ expression assignment_level on (a_sign sign.CloseParen ∷ a_sign sign.OpenBrace
      ∷ label_groups groups (a_sign sign.CloseBrace ∷ rest))
  statement (stmt.Break at) rest = At at ∷ a_word word.Break ∷ a_sign sign.Semi ∷ rest
  statement (stmt.Continue at) rest = At at ∷ a_word word.Continue ∷ a_sign sign.Semi ∷ rest
  statement (stmt.Return e at) rest = At at ∷ a_word word.Return ∷ optional e (a_sign sign.Semi ∷ rest)

  -- declarations and statements, one after another
  pub statements : {m : _} → Row_of-Stmt m → List Piece → List Piece
  statements end_of-Stmt rest = rest
  statements (more_of-Stmt (stmt.Decl declared) others) rest = declaration declared (statements others rest)
  statements (more_of-Stmt first others) rest = statement first (statements others rest)

  -- `if ( TEST ) BODY`, the arms behind it, and what stands behind the last one, which is told whether its
  -- body would take an `else`
  pub first_arm : {m : _} → Row_of-Arm m → (Bool → List Piece) → List Piece
  first_arm end_of-Arm behind = When false ∷ []
  first_arm (more_of-Arm test body others) behind =
      a_word word.If ∷ a_sign sign.OpenParen
      ∷ expression assignment_level test (a_sign sign.CloseParen
      ∷ statement body (further_arms (takes_else body) others behind))

  -- arms, each `else if ( TEST ) BODY`; `taken` is whether an `if` in the body before would take an `else`
  pub further_arms : Bool → {m : _} → Row_of-Arm m → (Bool → List Piece) → List Piece
  further_arms taken end_of-Arm behind = behind taken
  further_arms taken (more_of-Arm test body others) behind =
      When (not taken) ∷ a_word word.Else ∷ a_word word.If ∷ a_sign sign.OpenParen
      ∷ expression assignment_level test (a_sign sign.CloseParen
      ∷ statement body (further_arms (takes_else body) others behind))

  -- `else BODY`, where it stands; an `if` as BODY would be a further arm
  pub last_else : Held-Stmt-If-1 → List Piece → Bool → List Piece
  last_else form.NoElse rest taken = rest
  last_else (form.Else body) rest taken =
      When (not taken) ∷ When (not (is_if body)) ∷ a_word word.Else ∷ statement body rest

  -- the groups of a `switch`; only the last may be without statements, so that labels which stand together
  -- are one group
  pub label_groups : {m : _} → Row_of-Group m → List Piece → List Piece
  label_groups end_of-Group rest = rest
  label_groups (more_of-Group labels shape body others) rest =
      some_of labels ∷ When (has_statement body || has_no_group others)
      ∷ each label labels (statements body (label_groups others rest))

-- a declaration or a statement
abbrev pub body_part : Stmt → List Piece → List Piece
body_part (stmt.Decl declared) rest = declaration declared rest
body_part other rest = statement other rest

-- items between braces
abbrev pub braced : {A : Type 0} → (A → List Piece → List Piece) → List A → List Piece → List Piece
braced one items rest = a_sign sign.OpenBrace ∷ each one items (a_sign sign.CloseBrace ∷ rest)

-- a number, and no other expression
abbrev pub numeral : Expr → List Piece → List Piece
numeral (expr.Num number ext at) rest = At at ∷ Token (tok.Num ext number) ∷ rest
numeral _ rest = When false ∷ rest

-- what is behind the first number of a selector, where it is a range
abbrev pub range_end : Option Expr → List Piece → List Piece
range_end None rest = rest
range_end (Some high) rest = a_sign sign.Minus ∷ numeral high rest

-- which frames, behind a channel
abbrev pub selection : SelWhat → List Piece → List Piece
selection (selected.Any at) rest = At at ∷ a_sign sign.Star ∷ rest
selection (selected.Name name at) rest = At at ∷ a_name name ∷ rest
selection (selected.Ids low high at) rest = At at ∷ numeral low (range_end high rest)

-- `CAN1 .` for channel 1, `CAN2 .` for channel 2, nothing where no channel is named
abbrev pub channel : ℕ → List Piece → List Piece
channel zero rest = rest
channel (suc zero) rest = a_name (codes "CAN1") ∷ a_sign sign.Dot ∷ rest
channel (suc (suc zero)) rest = a_name (codes "CAN2") ∷ a_sign sign.Dot ∷ rest
channel _ rest = When false ∷ rest

-- a selector
abbrev pub selector : Sel → List Piece → List Piece
selector s rest = channel s.chan (selection s.what rest)

-- the key of a procedure, `*` being any
abbrev pub key : Option ℕ → List Piece → List Piece
key None rest = a_sign sign.Star ∷ rest
key (Some pressed) rest = Token (tok.Char pressed) ∷ rest

-- a parameter
abbrev pub parameter : Param → List Piece → List Piece
parameter p rest = a_word (kind_word p.kind) ∷ At p.at ∷ a_name p.name ∷ rest

-- the kind of what a function gives, or `void` or nothing
abbrev pub gives : Option Kind → List Piece → List Piece
gives (Some kind) rest = a_word (kind_word kind) ∷ rest
gives None rest = VoidOrNothing ∷ rest

-- the parameters of a function, or `void` or nothing
abbrev pub parameters : List Param → List Piece → List Piece
parameters [] rest = VoidOrNothing ∷ rest
parameters params rest = separated parameter params rest

-- the name of a function, and its parameters between parentheses
abbrev pub signature : Text → List Param → ℕ → List Piece → List Piece
signature name params at rest =
    At at ∷ a_name name ∷ a_sign sign.OpenParen ∷ parameters params (a_sign sign.CloseParen ∷ rest)

-- the head of a procedure
abbrev pub procedure_head : Head → List Piece → List Piece
procedure_head head.PreStart rest = a_word word.On ∷ a_name (codes "preStart") ∷ rest
procedure_head head.Start rest = a_word word.On ∷ a_name (codes "start") ∷ rest
procedure_head head.Stop rest = a_word word.On ∷ a_name (codes "stopMeasurement") ∷ rest
procedure_head (head.Message selectors) rest =
    a_word word.On ∷ a_word word.Message ∷ some_of selectors ∷ separated selector selectors rest
procedure_head (head.Timer name at) rest =
    a_word word.On ∷ a_word word.Timer ∷ At at ∷ a_name name ∷ rest
procedure_head (head.Key pressed) rest = a_word word.On ∷ a_name (codes "key") ∷ key pressed rest
procedure_head (head.Function kind name params at) rest = gives kind (signature name params at rest)

-- a procedure
abbrev pub procedure : Proc → List Piece → List Piece
procedure p rest = At p.at ∷ procedure_head p.head (braced body_part p.body rest)

-- the name of an included file
abbrev pub included : Text → List Piece → List Piece
included name rest = Token (tok.Include name) ∷ rest

-- a part of a file
abbrev pub top_item : TopItem → List Piece → List Piece
top_item (top.Includes names) rest = a_word word.Includes ∷ braced included names rest
top_item (top.Variables declarations) rest = a_word word.Variables ∷ braced declaration declarations rest
top_item (top.Proc p) rest = procedure p rest

-- the tokens are a source of the tree: what its parts are written out as, from token 0 on
abbrev pub IsSourceOf : List Tok → FileTree → Type 0
IsSourceOf tokens file = Spells 0 (each top_item file.items []) tokens
