-- The tokens of statements, procedures and files (CAPL manual, statements and event procedures).
--
-- A part is written out before a rest: its own tokens and then the rest. A tree leaves two choices: whether
-- `void` stands before a function that gives nothing, and whether it stands between parentheses that have no
-- parameter.
use Rattle.std.specs.Prelude.{ℕ, zero, suc, Bool, true, false, List, [], ◌∷◌, Option, Some, None, codes}
use Rattle.texts.specs.declared.text.Text.{Text}
use Rattle.int_kinds.specs.declared.kinds.Kind.{Kind}
use Rattle.capl_lexer.specs.declared.token.Tok.{Tok}
use Rattle.capl_lexer.specs.declared.token.Tok.TheVariants as tok
use Rattle.capl_lexer.specs.declared.token.Word.TheVariants as word
use Rattle.capl_lexer.specs.declared.token.Sign.TheVariants as sign
use Rattle.capl_tree.specs.declared.expr.Expr.{Expr}
use Rattle.capl_tree.specs.declared.statement.Stmt.{Stmt, Row_of-Stmt, end_of-Stmt, more_of-Stmt}
use Rattle.capl_tree.specs.declared.statement.Stmt.TheBlock.{Row_of-Arm, end_of-Arm, more_of-Arm, Row_of-Group, end_of-Group, more_of-Group, Held-Stmt-If-1}
use Rattle.capl_tree.specs.declared.statement.Stmt.TheVariants as stmt
use Rattle.capl_tree.specs.declared.statement.Label.{Label}
use Rattle.capl_tree.specs.declared.procedure.Proc.{Proc}
use Rattle.capl_tree.specs.declared.procedure.Head.{Head}
use Rattle.capl_tree.specs.declared.procedure.Head.TheVariants as head
use Rattle.capl_tree.specs.declared.procedure.Param.{Param}
use Rattle.capl_tree.specs.declared.procedure.Sel.{Sel}
use Rattle.capl_tree.specs.declared.procedure.SelWhat.{SelWhat}
use Rattle.capl_tree.specs.declared.procedure.SelWhat.TheVariants as selected
use Rattle.capl_tree.specs.declared.file.TopItem.{TopItem}
use Rattle.capl_tree.specs.declared.file.TopItem.TheVariants as top
use Rattle.capl_tree.specs.declared.file.FileTree.{FileTree}
use Rattle.capl_tree.specs.Forms as form
use Rattle.capl_tree.specs.Binding.{kind_word}
use Rattle.capl_tree.specs.Spelling.{expression, separated, declaration}

-- an expression that may be missing
abbrev pub part : Option Expr → List Tok → List Tok
part None rest = rest
part (Some value) rest = expression value rest

-- `case VALUE :` or `default :`
abbrev pub label_part : Option Expr → List Tok → List Tok
label_part None rest = tok.Word word.Default ∷ tok.Sign sign.Colon ∷ rest
label_part (Some value) rest = tok.Word word.Case ∷ expression value (tok.Sign sign.Colon ∷ rest)

-- a label
abbrev pub label : Label → List Tok → List Tok
label l rest = label_part l.value rest

-- items, one after another
abbrev pub each : {A : Type 0} → (A → List Tok → List Tok) → List A → List Tok → List Tok
each one [] rest = rest
each one (first ∷ others) rest = one first (each one others rest)

abbrev mutual
  -- a statement or a declaration
  pub statement : Stmt → List Tok → List Tok
  statement stmt.Empty rest = tok.Sign sign.Semi ∷ rest
  statement (stmt.Block' shape body) rest =
      tok.Sign sign.OpenBrace ∷ statements body (tok.Sign sign.CloseBrace ∷ rest)
  statement (stmt.Decl declared) rest = declaration declared rest
  statement (stmt.Expr value) rest = expression value (tok.Sign sign.Semi ∷ rest)
  statement (stmt.If' shape arms other) rest = first_arm arms (last_else other rest)
  statement (form.While test body) rest =
      tok.Word word.While ∷ tok.Sign sign.OpenParen
      ∷ expression test (tok.Sign sign.CloseParen ∷ statement body rest)
  statement (form.Do body test) rest =
      tok.Word word.Do
      ∷ statement body (tok.Word word.While ∷ tok.Sign sign.OpenParen
      ∷ expression test (tok.Sign sign.CloseParen ∷ tok.Sign sign.Semi ∷ rest))
  statement (form.For init test step body) rest =
      tok.Word word.For ∷ tok.Sign sign.OpenParen
      ∷ part init (tok.Sign sign.Semi ∷ part test (tok.Sign sign.Semi
      ∷ part step (tok.Sign sign.CloseParen ∷ statement body rest)))
  statement (stmt.Switch' on shape groups) rest =
      tok.Word word.Switch ∷ tok.Sign sign.OpenParen
      ∷ expression on (tok.Sign sign.CloseParen ∷ tok.Sign sign.OpenBrace
      ∷ label_groups groups (tok.Sign sign.CloseBrace ∷ rest))
  statement (stmt.Break at) rest = tok.Word word.Break ∷ tok.Sign sign.Semi ∷ rest
  statement (stmt.Continue at) rest = tok.Word word.Continue ∷ tok.Sign sign.Semi ∷ rest
  statement (stmt.Return value at) rest = tok.Word word.Return ∷ part value (tok.Sign sign.Semi ∷ rest)

  -- statements and declarations, one after another
  pub statements : {m : _} → Row_of-Stmt m → List Tok → List Tok
  statements end_of-Stmt rest = rest
  statements (more_of-Stmt first others) rest = statement first (statements others rest)

  -- `if ( TEST ) BODY`, and the arms behind it
  pub first_arm : {m : _} → Row_of-Arm m → List Tok → List Tok
  first_arm end_of-Arm rest = rest
  first_arm (more_of-Arm test body others) rest =
      tok.Word word.If ∷ tok.Sign sign.OpenParen
      ∷ expression test (tok.Sign sign.CloseParen ∷ statement body (further_arms others rest))

  -- arms, each `else if ( TEST ) BODY`
  pub further_arms : {m : _} → Row_of-Arm m → List Tok → List Tok
  further_arms end_of-Arm rest = rest
  further_arms (more_of-Arm test body others) rest =
      tok.Word word.Else ∷ tok.Word word.If ∷ tok.Sign sign.OpenParen
      ∷ expression test (tok.Sign sign.CloseParen ∷ statement body (further_arms others rest))

  -- `else BODY`, where it stands
  pub last_else : Held-Stmt-If-1 → List Tok → List Tok
  last_else form.NoElse rest = rest
  last_else (form.Else body) rest = tok.Word word.Else ∷ statement body rest

  -- the groups of a `switch`
  pub label_groups : {m : _} → Row_of-Group m → List Tok → List Tok
  label_groups end_of-Group rest = rest
  label_groups (more_of-Group labels shape body others) rest =
      each label labels (statements body (label_groups others rest))

-- what stands between braces
abbrev pub braced : {A : Type 0} → (A → List Tok → List Tok) → List A → List Tok → List Tok
braced one items rest = tok.Sign sign.OpenBrace ∷ each one items (tok.Sign sign.CloseBrace ∷ rest)

-- what is behind the first number of a selector, where it is a range
abbrev pub range_end : Option Expr → List Tok → List Tok
range_end None rest = rest
range_end (Some high) rest = tok.Sign sign.Minus ∷ expression high rest

-- which frames of a channel
abbrev pub selection : SelWhat → List Tok → List Tok
selection (selected.Any at) rest = tok.Sign sign.Star ∷ rest
selection (selected.Name name at) rest = tok.Name name ∷ rest
selection (selected.Ids low high at) rest = expression low (range_end high rest)

-- the name of a channel and a dot, where there is a channel
abbrev pub channel : ℕ → List Tok → List Tok
channel (suc zero) rest = tok.Name (codes "CAN1") ∷ tok.Sign sign.Dot ∷ rest
channel (suc (suc zero)) rest = tok.Name (codes "CAN2") ∷ tok.Sign sign.Dot ∷ rest
channel _ rest = rest

-- a selector
abbrev pub selector : Sel → List Tok → List Tok
selector s rest = channel s.chan (selection s.what rest)

-- the key of a procedure, `*` being any
abbrev pub key : Option ℕ → List Tok → List Tok
key None rest = tok.Sign sign.Star ∷ rest
key (Some value) rest = tok.Char value ∷ rest

-- a parameter
abbrev pub parameter : Param → List Tok → List Tok
parameter p rest = tok.Word (kind_word p.kind) ∷ tok.Name p.name ∷ rest

-- whether `void` stands where a tree leaves the choice: before the function, and between its parentheses
pub record Voids : Type 0 where
  pub before : Bool
  pub between : Bool

-- what a function gives
abbrev pub gives : Option Kind → Bool → List Tok → List Tok
gives (Some kind) void rest = tok.Word (kind_word kind) ∷ rest
gives None true rest = tok.Word word.Void ∷ rest
gives None false rest = rest

-- the parameters of a function
abbrev pub parameters : List Param → Bool → List Tok → List Tok
parameters [] true rest = tok.Word word.Void ∷ rest
parameters params void rest = separated parameter params rest

-- the name of a function, and its parameters between parentheses
abbrev pub signature : Text → List Param → Bool → List Tok → List Tok
signature name params void rest =
    tok.Name name ∷ tok.Sign sign.OpenParen ∷ parameters params void (tok.Sign sign.CloseParen ∷ rest)

-- the head of a procedure
abbrev pub procedure_head : Voids → Head → List Tok → List Tok
procedure_head voids head.PreStart rest = tok.Word word.On ∷ tok.Name (codes "preStart") ∷ rest
procedure_head voids head.Start rest = tok.Word word.On ∷ tok.Name (codes "start") ∷ rest
procedure_head voids head.Stop rest = tok.Word word.On ∷ tok.Name (codes "stopMeasurement") ∷ rest
procedure_head voids (head.Message selectors) rest =
    tok.Word word.On ∷ tok.Word word.Message ∷ separated selector selectors rest
procedure_head voids (head.Timer name at) rest =
    tok.Word word.On ∷ tok.Word word.Timer ∷ tok.Name name ∷ rest
procedure_head voids (head.Key value) rest = tok.Word word.On ∷ tok.Name (codes "key") ∷ key value rest
procedure_head voids (head.Function kind name params at) rest =
    gives kind voids.before (signature name params voids.between rest)

-- a procedure
abbrev pub procedure : Voids → Proc → List Tok → List Tok
procedure voids p rest = procedure_head voids p.head (braced statement p.body rest)

-- the name of an included file
abbrev pub included : Text → List Tok → List Tok
included name rest = tok.Include name ∷ rest

-- a part of a file
abbrev pub top_item : Voids → TopItem → List Tok → List Tok
top_item voids (top.Includes names) rest = tok.Word word.Includes ∷ braced included names rest
top_item voids (top.Variables declarations) rest =
    tok.Word word.Variables ∷ braced declaration declarations rest
top_item voids (top.Proc p) rest = procedure voids p rest
