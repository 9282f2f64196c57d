-- Where each part of a file stands: its `at` is the number of its first token. That of a parameter, and of
-- the head of a function or of a timer's procedure, is that of the name, and a selector's that of the token
-- behind its channel.
--
-- The file has `total` tokens. A part is written out before the rest of the file, so that the number of its
-- first token and the count of the tokens from there on make the total.
use Rattle.std.specs.Prelude.{ℕ, List, [], ◌∷◌, Option, Some, None, ⊤}
use Rattle.capl_lexer.specs.declared.token.Tok.{Tok}
use Rattle.capl_lexer.specs.declared.token.Tok.TheVariants as tok
use Rattle.capl_lexer.specs.declared.token.Word.TheVariants as word
use Rattle.capl_lexer.specs.declared.token.Sign.TheVariants as sign
use Rattle.capl_tree.specs.declared.expr.Expr.{Expr}
use Rattle.capl_tree.specs.declared.statement.Stmt.{Stmt, Row_of-Stmt, end_of-Stmt, more_of-Stmt}
use Rattle.capl_tree.specs.declared.statement.Stmt.TheBlock.{Row_of-Arm, end_of-Arm, more_of-Arm, Row_of-Group, end_of-Group, more_of-Group, Held-Stmt-If-1}
use Rattle.capl_tree.specs.declared.statement.Stmt.TheVariants as stmt
use Rattle.capl_tree.specs.declared.statement.Label.{Label}
use Rattle.capl_tree.specs.declared.procedure.Proc.{Proc}
use Rattle.capl_tree.specs.declared.procedure.Head.{Head}
use Rattle.capl_tree.specs.declared.procedure.Head.TheVariants as head
use Rattle.capl_tree.specs.declared.procedure.Param.{Param}
use Rattle.capl_tree.specs.declared.procedure.Sel.{Sel}
use Rattle.capl_tree.specs.declared.procedure.SelWhat.{SelWhat}
use Rattle.capl_tree.specs.declared.procedure.SelWhat.TheVariants as selected
use Rattle.capl_tree.specs.declared.file.TopItem.{TopItem}
use Rattle.capl_tree.specs.declared.file.TopItem.TheVariants as top
use Rattle.capl_tree.specs.Forms as form
use Rattle.capl_tree.specs.Spelling.{expression, declaration}
use Rattle.capl_tree.specs.Placed.{IsAt, IsPlaced, EachBefore, IsDeclarationPlaced}
use Rattle.capl_tree.specs.FileSpelling.{part, label, each, statement, statements, further_arms, last_else, label_groups, braced, range_end, selection, selector, parameter, Voids, signature, procedure}

-- an expression that may be missing, before the rest of its file
abbrev pub IsPartPlaced : ℕ → Option Expr → List Tok → Type 0
IsPartPlaced total None rest = ⊤
IsPartPlaced total (Some value) rest = IsPlaced total value rest

-- a label
abbrev pub IsLabelPlaced : ℕ → Label → List Tok → Type 0
IsLabelPlaced total l rest =
    IsAt total l.at (label l rest) × IsPartPlaced total l.value (tok.Sign sign.Colon ∷ rest)

-- each item, before the items behind it and the rest
abbrev pub EachPlaced : {A : Type 0} → (A → List Tok → List Tok) → (A → List Tok → Type 0) → List A → List Tok
    → Type 0
EachPlaced one Holds [] rest = ⊤
EachPlaced one Holds (first ∷ others) rest =
    Holds first (each one others rest) × EachPlaced one Holds others rest

abbrev mutual
  -- a statement or a declaration
  pub IsStatementPlaced : ℕ → Stmt → List Tok → Type 0
  IsStatementPlaced total stmt.Empty rest = ⊤
  IsStatementPlaced total (stmt.Block' shape body) rest =
      AreStatementsPlaced total body (tok.Sign sign.CloseBrace ∷ rest)
  IsStatementPlaced total (stmt.Decl declared) rest = IsDeclarationPlaced total declared rest
  IsStatementPlaced total (stmt.Expr value) rest = IsPlaced total value (tok.Sign sign.Semi ∷ rest)
  IsStatementPlaced total (stmt.If' shape arms other) rest =
      AreArmsPlaced total arms (last_else other rest) × IsElsePlaced total other rest
  IsStatementPlaced total (form.While test body) rest =
      IsPlaced total test (tok.Sign sign.CloseParen ∷ statement body rest) × IsStatementPlaced total body rest
  IsStatementPlaced total (form.Do body test) rest =
      IsStatementPlaced total body (tok.Word word.While ∷ tok.Sign sign.OpenParen
      ∷ expression test (tok.Sign sign.CloseParen ∷ tok.Sign sign.Semi ∷ rest))
      × IsPlaced total test (tok.Sign sign.CloseParen ∷ tok.Sign sign.Semi ∷ rest)
  IsStatementPlaced total (form.For init test step body) rest =
      IsPartPlaced total init (tok.Sign sign.Semi ∷ part test (tok.Sign sign.Semi
      ∷ part step (tok.Sign sign.CloseParen ∷ statement body rest)))
      × IsPartPlaced total test (tok.Sign sign.Semi
      ∷ part step (tok.Sign sign.CloseParen ∷ statement body rest))
      × IsPartPlaced total step (tok.Sign sign.CloseParen ∷ statement body rest)
      × IsStatementPlaced total body rest
  IsStatementPlaced total (stmt.Switch' on shape groups) rest =
      IsPlaced total on (tok.Sign sign.CloseParen ∷ tok.Sign sign.OpenBrace
      ∷ label_groups groups (tok.Sign sign.CloseBrace ∷ rest))
      × AreGroupsPlaced total groups (tok.Sign sign.CloseBrace ∷ rest)
  IsStatementPlaced total (stmt.Break at) rest =
      IsAt total at (tok.Word word.Break ∷ tok.Sign sign.Semi ∷ rest)
  IsStatementPlaced total (stmt.Continue at) rest =
      IsAt total at (tok.Word word.Continue ∷ tok.Sign sign.Semi ∷ rest)
  IsStatementPlaced total (stmt.Return value at) rest =
      IsAt total at (tok.Word word.Return ∷ part value (tok.Sign sign.Semi ∷ rest))
      × IsPartPlaced total value (tok.Sign sign.Semi ∷ rest)

  -- statements and declarations, one after another
  pub AreStatementsPlaced : ℕ → {m : _} → Row_of-Stmt m → List Tok → Type 0
  AreStatementsPlaced total end_of-Stmt rest = ⊤
  AreStatementsPlaced total (more_of-Stmt first others) rest =
      IsStatementPlaced total first (statements others rest) × AreStatementsPlaced total others rest

  -- the arms of an `if`
  pub AreArmsPlaced : ℕ → {m : _} → Row_of-Arm m → List Tok → Type 0
  AreArmsPlaced total end_of-Arm rest = ⊤
  AreArmsPlaced total (more_of-Arm test body others) rest =
      IsPlaced total test (tok.Sign sign.CloseParen ∷ statement body (further_arms others rest))
      × IsStatementPlaced total body (further_arms others rest)
      × AreArmsPlaced total others rest

  -- what stands behind a last `else`
  pub IsElsePlaced : ℕ → Held-Stmt-If-1 → List Tok → Type 0
  IsElsePlaced total form.NoElse rest = ⊤
  IsElsePlaced total (form.Else body) rest = IsStatementPlaced total body rest

  -- the groups of a `switch`
  pub AreGroupsPlaced : ℕ → {m : _} → Row_of-Group m → List Tok → Type 0
  AreGroupsPlaced total end_of-Group rest = ⊤
  AreGroupsPlaced total (more_of-Group labels shape body others) rest =
      EachPlaced label (IsLabelPlaced total) labels (statements body (label_groups others rest))
      × AreStatementsPlaced total body (label_groups others rest)
      × AreGroupsPlaced total others rest

-- which frames of a channel
abbrev pub IsSelectionPlaced : ℕ → SelWhat → List Tok → Type 0
IsSelectionPlaced total (selected.Any at) rest = IsAt total at (selection (selected.Any at) rest)
IsSelectionPlaced total (selected.Name name at) rest = IsAt total at (selection (selected.Name name at) rest)
IsSelectionPlaced total (selected.Ids low high at) rest =
    IsAt total at (selection (selected.Ids low high at) rest)
    × IsPlaced total low (range_end high rest)
    × IsPartPlaced total high rest

-- a selector, whose place is that of what stands behind its channel
abbrev pub IsSelectorPlaced : ℕ → Sel → List Tok → Type 0
IsSelectorPlaced total s rest = IsSelectionPlaced total s.what rest

-- a parameter, whose place is that of its name
abbrev pub IsParameterPlaced : ℕ → Param → List Tok → Type 0
IsParameterPlaced total p rest = IsAt total p.at (tok.Name p.name ∷ rest)

-- the head of a procedure; the place of the head of a timer's procedure and of a function is that of the name
abbrev pub IsHeadPlaced : ℕ → Voids → Head → List Tok → Type 0
IsHeadPlaced total voids (head.Message selectors) rest =
    EachBefore selector (IsSelectorPlaced total) selectors rest
IsHeadPlaced total voids (head.Timer name at) rest = IsAt total at (tok.Name name ∷ rest)
IsHeadPlaced total voids (head.Function kind name params at) rest =
    IsAt total at (signature name params voids.between rest)
    × EachBefore parameter (IsParameterPlaced total) params (tok.Sign sign.CloseParen ∷ rest)
IsHeadPlaced total voids _ rest = ⊤

-- a procedure
abbrev pub IsProcedurePlaced : ℕ → Voids → Proc → List Tok → Type 0
IsProcedurePlaced total voids p rest =
    IsAt total p.at (procedure voids p rest)
    × IsHeadPlaced total voids p.head (braced statement p.body rest)
    × EachPlaced statement (IsStatementPlaced total) p.body (tok.Sign sign.CloseBrace ∷ rest)

-- a part of a file
abbrev pub IsTopItemPlaced : ℕ → Voids → TopItem → List Tok → Type 0
IsTopItemPlaced total voids (top.Includes names) rest = ⊤
IsTopItemPlaced total voids (top.Variables declarations) rest =
    EachPlaced declaration (IsDeclarationPlaced total) declarations (tok.Sign sign.CloseBrace ∷ rest)
IsTopItemPlaced total voids (top.Proc p) rest = IsProcedurePlaced total voids p rest
