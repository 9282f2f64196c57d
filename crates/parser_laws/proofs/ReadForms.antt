-- Each form of statement is read, if what nests in it is.
use Rattle.std.proofs.Common.{append_assoc, ◌≡◌, ◌-◌, ℕ, zero, suc, ◌+◌, ◌≤◌, ◌<◌, Bool, true, false, not, List, [], ◌∷◌, ◌++◌, length, Option, Some, None, refl, ap, sym, ◌∙◌, arith}
use Rattle.std.specs.Prelude.{⊤}
use Rattle.std.specs.List.{All}
use Rattle.std.proofs.lemmas.List.Elements.{All-head, All-tail}
use Rattle.capl_lexer.specs.declared.token.Tok.{Tok}
use Rattle.capl_lexer.specs.declared.token.Tok.TheVariants as tok
use Rattle.capl_lexer.specs.declared.token.Word.TheVariants as word
use Rattle.capl_lexer.specs.declared.token.Sign.{Sign}
use Rattle.capl_lexer.specs.declared.token.Sign.TheVariants as sign
use Rattle.capl_tree.specs.declared.expr.Expr.{Expr}
use Rattle.capl_tree.specs.declared.declaration.Decl.{Decl}
use Rattle.capl_tree.specs.declared.statement.Stmt.{Stmt, Row_of-Stmt, end_of-Stmt, more_of-Stmt}
use Rattle.capl_tree.specs.declared.statement.Stmt.TheBlock.{Row_of-Arm, end_of-Arm, more_of-Arm, Row_of-Group, end_of-Group, more_of-Group, Held-Stmt-If-1, items-the_row-Stmt, items-the_row-Arm, items-the_row-Group, items_shown-the_row-Stmt-0, shown-the_row-Stmt-0}
use Rattle.capl_tree.specs.declared.statement.Stmt.TheVariants as stmt
use Rattle.capl_tree.specs.declared.statement.Arm.{Arm}
use Rattle.capl_tree.specs.declared.statement.Group.{Group}
use Rattle.capl_tree.specs.declared.statement.Label.{Label}
use Rattle.capl_tree.specs.Forms as form
use Rattle.capl_tree.specs.Binding.{takes_else, last_takes_else}
use Rattle.capl_tree.specs.Grammar.{IsExpression, IsOptional, IsLabel, AreLabels, IsStatement, AreStatements, AreArms, IsElse, IsNoIf, AreGroups, HasStatement, IsBodyPart, IsDeclaration}
use Rattle.capl_tree.specs.Spelling.{expression, declaration}
use Rattle.capl_tree.specs.Placed.{IsAt, IsPlaced, IsDeclarationPlaced}
use Rattle.capl_tree.specs.FileSpelling as spell
use Rattle.capl_tree.specs.FileSpelling.{each}
use Rattle.capl_tree.specs.FilePlaced.{IsPartPlaced, IsLabelPlaced, EachPlaced, IsStatementPlaced, AreStatementsPlaced, AreArmsPlaced, IsElsePlaced, AreGroupsPlaced}
use Rattle.expr_parser.specs.Reading.{Read, begins, begins_word, behind, after, after_word}
use Rattle.parser_laws.specs.Statement.{Parts, until, enclosed, part_before, begins_declaration, begins_label, ends_body, body_part, body, block, arm, arms_from, choice, label, labels, group, groups, switch, while_loop, do_loop, for_loop, evaluation, jump, repeat, statement_by, statement}
use Rattle.parser_laws.proofs.Chains.{Chain, until_chain, IsRead, each_chain, each_both}
use Rattle.parser_laws.proofs.Starts.{value_starts, starts_value, declaration_declares, starts_part, no_else, no_end, no_label, some_token, only_evaluation, part_starts, no_declaration}
use Rattle.parser_laws.proofs.Forms.{held, made, made_is}
use Rattle.parser_laws.proofs.Known.{closes, AreComplete}
use Rattle.parser_laws.proofs.Lengths.{label_longer, labels_longer, labels_strict, part_longer, statement_longer, statements_longer, arms_longer, further_longer, else_longer, groups_longer, arms_strict, statement_strict}

-- an `else` behind the statement does not belong to it
abbrev pub Follows : Stmt → List Tok → Type 0
Follows s ts = takes_else s ≡ true → begins_word word.Else ts ≡ false

-- what an expression begins with is no sign that stands behind one
pub value_no_close : (end : Sign) (ts : List Tok) → closes end ≡ true → starts_value ts ≡ true → begins end ts ≡ false
value_no_close sign.Semi (tok.Sign sign.Semi ∷ ts) is starts = absurd cc
value_no_close sign.Semi (tok.Sign _ ∷ ts) is starts = refl
value_no_close sign.Semi [] is starts = refl
value_no_close sign.Semi (_ ∷ ts) is starts = refl
value_no_close sign.CloseParen (tok.Sign sign.CloseParen ∷ ts) is starts = absurd cc
value_no_close sign.CloseParen (tok.Sign _ ∷ ts) is starts = refl
value_no_close sign.CloseParen [] is starts = refl
value_no_close sign.CloseParen (_ ∷ ts) is starts = refl
value_no_close sign.Colon (tok.Sign sign.Colon ∷ ts) is starts = absurd cc
value_no_close sign.Colon (tok.Sign _ ∷ ts) is starts = refl
value_no_close sign.Colon [] is starts = refl
value_no_close sign.Colon (_ ∷ ts) is starts = refl
value_no_close _ ts is starts = absurd cc

-- a sign is the next where it stands
pub next_sign : (end : Sign) (ts : List Tok) → closes end ≡ true → begins end (tok.Sign end ∷ ts) ≡ true
next_sign sign.Semi ts is = refl
next_sign sign.CloseParen ts is = refl
next_sign sign.Colon ts is = refl
next_sign _ ts is = absurd cc

-- behind an `if`: its arms
abbrev pub behind_if : {m : _} → Row_of-Arm m → List Tok → List Tok
behind_if end_of-Arm rest = []
behind_if (more_of-Arm test body others) rest =
    tok.Sign sign.OpenParen ∷ expression test (tok.Sign sign.CloseParen ∷ spell.statement body (spell.further_arms others rest))

-- what arms begin with
pub first_arm_if : {m : _} (row : Row_of-Arm m) (other : Held-Stmt-If-1) (rest : List Tok) → AreArms row other
    → spell.first_arm row rest ≡ tok.Word word.If ∷ behind_if row rest
first_arm_if end_of-Arm other rest well = absurd well
first_arm_if (more_of-Arm test body others) other rest well = refl

-- something stands behind an `if`
pub behind_some : {m : _} (row : Row_of-Arm m) (other : Held-Stmt-If-1) (rest : List Tok) → AreArms row other → 0 < length (behind_if row rest)
behind_some end_of-Arm other rest well = absurd well
behind_some (more_of-Arm test body others) other rest well = omega arith

-- no expression begins with `if`
pub value_no_if : (ts : List Tok) → starts_value ts ≡ true → begins_word word.If ts ≡ false
value_no_if [] starts = refl
value_no_if (tok.Word word.This ∷ ts) starts = refl
value_no_if (tok.Word _ ∷ ts) starts = absurd cc
value_no_if (_ ∷ ts) starts = refl

-- what is no `if` does not begin with one
pub no_if : (s : Stmt) (ts : List Tok) → IsStatement s → IsNoIf s → begins_word word.If (spell.statement s ts) ≡ false
no_if stmt.Empty ts well none = refl
no_if (stmt.Block' shape row) ts well none = refl
no_if (stmt.Decl declared) ts well none = absurd well
no_if (stmt.Expr value) ts well none = value_no_if _ (value_starts value _)
no_if (stmt.If' shape arms other) ts well none = absurd none
no_if (form.While test body) ts well none = refl
no_if (form.Do body test) ts well none = refl
no_if (form.For init test step body) ts well none = refl
no_if (stmt.Switch' on shape row) ts well none = refl
no_if (stmt.Break at) ts well none = refl
no_if (stmt.Continue at) ts well none = refl
no_if (stmt.Return value at) ts well none = refl

-- no `else` stands where a body ends
pub end_no_else : (ts : List Tok) → ends_body ts ≡ true → begins_word word.Else ts ≡ false
end_no_else [] over = absurd cc
end_no_else (tok.Word word.Else ∷ ts) over = absurd cc
end_no_else (tok.Word _ ∷ ts) over = refl
end_no_else (_ ∷ ts) over = refl

-- a token stands there
pub end_some : (ts : List Tok) → ends_body ts ≡ true → 0 < length ts
end_some [] over = absurd cc
end_some (t ∷ ts) over = omega arith

-- a brace is no label
pub brace_no_label : (ts : List Tok) → begins sign.CloseBrace ts ≡ true → begins_label ts ≡ false
brace_no_label [] brace = absurd cc
brace_no_label (tok.Sign _ ∷ ts) brace = refl
brace_no_label (_ ∷ ts) brace = absurd cc

-- a brace ends a body
pub brace_ends : (ts : List Tok) → begins sign.CloseBrace ts ≡ true → ends_body ts ≡ true
brace_ends ts brace = rw brace refl

-- a label ends a body
pub label_ends : (ts : List Tok) → begins_label ts ≡ true → ends_body ts ≡ true
label_ends [] label = absurd cc
label_ends (tok.Word word.Case ∷ ts) label = refl
label_ends (tok.Word word.Default ∷ ts) label = refl
label_ends (tok.Word _ ∷ ts) label = absurd cc
label_ends (_ ∷ ts) label = absurd cc

module _ (parts : Parts) (known : AreComplete parts) where
  -- `( TEST )`
  pub enclosed_read : (e : Expr) (ts : List Tok) → IsExpression e → IsPlaced parts.total e (tok.Sign sign.CloseParen ∷ ts)
      → enclosed parts (tok.Sign sign.OpenParen ∷ expression e (tok.Sign sign.CloseParen ∷ ts)) ≡ Some (e, ts)
  unfolding enclosed after
  enclosed_read e ts well placed = rw (known.value e sign.CloseParen ts refl well placed) refl

  -- an expression that may be missing
  pub part_read : (value : Option Expr) (end : Sign) (ts : List Tok) → closes end ≡ true → IsOptional value
      → IsPartPlaced parts.total value (tok.Sign end ∷ ts) → part_before parts end (spell.part value (tok.Sign end ∷ ts)) ≡ Some (value, ts)
  unfolding part_before after
  part_read None end ts is well placed = rw (next_sign end ts is) refl
  part_read (Some e) end ts is well placed =
      rw (value_no_close end (expression e (tok.Sign end ∷ ts)) is (value_starts e _), known.value e end ts is (well e refl) placed, next_sign end ts is) refl

  -- an expression and `;`
  pub value_read : (e : Expr) (inner : List Tok → Read Stmt) (ts : List Tok) → IsExpression e → IsPlaced parts.total e (tok.Sign sign.Semi ∷ ts)
      → statement_by parts inner (expression e (tok.Sign sign.Semi ∷ ts)) ≡ Some (stmt.Expr e, ts)
  unfolding evaluation after
  value_read e inner ts well placed =
      rw (only_evaluation parts inner (expression e (tok.Sign sign.Semi ∷ ts)) (value_starts e _), known.value e sign.Semi ts refl well placed) refl

  -- a label
  pub label_of : (value : Option Expr) (at : ℕ) (ts : List Tok) → IsLabel (record { value = value; at = at })
      → IsAt parts.total at (spell.label_part value ts) → IsPartPlaced parts.total value (tok.Sign sign.Colon ∷ ts)
      → label parts (spell.label_part value ts) ≡ Some (record { value = value; at = at }, ts)
  unfolding label after after_word
  label_of None at ts well here placed =
      let is : at ≡ parts.total - length (spell.label_part None ts) = omega (arith, here) in
      rw is refl
  label_of (Some value) at ts well here placed =
      let is : at ≡ parts.total - length (spell.label_part (Some value) ts) = omega (arith, here) in
      rw (is, known.constant value sign.Colon ts refl (well value refl) placed) refl

  pub label_begins : (value : Option Expr) (ts : List Tok) → begins_label (spell.label_part value ts) ≡ true
  label_begins None ts = refl
  label_begins (Some value) ts = refl

  pub label_no_brace : (value : Option Expr) (ts : List Tok) → begins sign.CloseBrace (spell.label_part value ts) ≡ false
  label_no_brace None ts = refl
  label_no_brace (Some value) ts = refl

  pub label_read : (l : Label) (ts : List Tok) → IsLabel l → IsLabelPlaced parts.total l ts
      → IsRead (λ ts. not (begins_label ts)) (label parts) spell.label l ts
  label_read l ts well placed =
      (ap not (label_begins l.value ts), label_of l.value l.at ts well placed.0 placed.1, label_longer parts known l.value ts)

  -- labels
  pub labels_read : (all : List Label) (rest : List Tok) → AreLabels all → begins_label rest ≡ false
      → EachPlaced spell.label (IsLabelPlaced parts.total) all rest → labels parts (each spell.label all rest) ≡ Some (all, rest)
  unfolding labels
  labels_read [] rest well over placed = absurd (well.0 refl)
  labels_read (l ∷ all) rest well over placed =
      let left = each spell.label all rest in
      let first = label_read l left (All-head IsLabel l all well.1) placed.0 in
      let others = each_both IsLabel (IsLabelPlaced parts.total) (IsRead (λ ts. not (begins_label ts)) (label parts) spell.label)
      spell.label all rest label_read (All-tail IsLabel l all well.1) placed.1 in
      rw (
        first.1,
        until_chain (λ ts. not (begins_label ts)) (label parts) (length (spell.label l left)) (l ∷ []) all left rest
            (each_chain (λ ts. not (begins_label ts)) (label parts) spell.label all rest (ap not over) others) (omega (arith, first.2)),
      ) refl

  -- labels, at least one
  pub labels_begin : (all : List Label) (rest : List Tok) → AreLabels all → begins_label (each spell.label all rest) ≡ true
  labels_begin [] rest well = absurd (well.0 refl)
  labels_begin (l ∷ all) rest well = label_begins l.value _

  pub labels_no_brace : (all : List Label) (rest : List Tok) → AreLabels all → begins sign.CloseBrace (each spell.label all rest) ≡ false
  labels_no_brace [] rest well = absurd (well.0 refl)
  labels_no_brace (l ∷ all) rest well = label_no_brace l.value _

  -- one arm
  pub arm_read : (test : Expr) (body : Stmt) (inner : List Tok → Read Stmt) (ts : List Tok) → IsExpression test
      → IsPlaced parts.total test (tok.Sign sign.CloseParen ∷ spell.statement body ts) → inner (spell.statement body ts) ≡ Some (body, ts)
      → arm parts inner (tok.Sign sign.OpenParen ∷ expression test (tok.Sign sign.CloseParen ∷ spell.statement body ts)) ≡ Some (record { test = test; body = body }, ts)
  unfolding arm
  arm_read test body inner ts well placed read = rw (enclosed_read test (spell.statement body ts) well placed, read) refl

  -- a declaration in a body
  pub declared_part : (declared : Decl) (inner : List Tok → Read Stmt) (ts : List Tok) → IsDeclaration declared → IsDeclarationPlaced parts.total declared ts
      → body_part parts inner (declaration declared ts) ≡ Some (stmt.Decl declared, ts)
  unfolding body_part
  declared_part declared inner ts well placed = rw (declaration_declares declared ts, known.declared declared ts well placed) refl

  -- a statement in a body
  pub statement_part : (s : Stmt) (inner : List Tok → Read Stmt) (ts : List Tok) → IsStatement s → inner (spell.statement s ts) ≡ Some (s, ts)
      → body_part parts inner (spell.statement s ts) ≡ Some (s, ts)
  unfolding body_part
  statement_part s inner ts well read = rw (no_declaration s ts well) read

  -- no `else` behind a statement of a body
  pub body_no_else : {m : _} (row : Row_of-Stmt m) (ts : List Tok) → AreStatements row → ends_body ts ≡ true → begins_word word.Else (spell.statements row ts) ≡ false
  body_no_else end_of-Stmt ts well over = end_no_else ts over
  body_no_else (more_of-Stmt (stmt.Decl declared) others) ts well over = no_else (declaration declared (spell.statements others ts)) (part_starts (stmt.Decl declared) (spell.statements others ts) well.0)
  body_no_else (more_of-Stmt first others) ts well over = no_else (spell.statement first (spell.statements others ts)) (part_starts first (spell.statements others ts) well.0)

  -- the body of a group and what is behind it
  pub group_read : {m : _} (all : List Label) (row : Row_of-Stmt m) (inner : List Tok → Read Stmt) (left : List Tok) → AreLabels all
      → begins_label (spell.statements row left) ≡ false → ends_body left ≡ true
      → EachPlaced spell.label (IsLabelPlaced parts.total) all (spell.statements row left)
      → Chain ends_body (body_part parts inner) (items-the_row-Stmt m row) (spell.statements row left) left
      → group parts inner (each spell.label all (spell.statements row left))
      ≡ Some (record { labels = all; body = items-the_row-Stmt m row }, left)
  unfolding group body
  group_read {m} all row inner left well no_label over placed chain =
      rw (
        labels_read all (spell.statements row left) well no_label placed,
        until_chain ends_body (body_part parts inner) (length (spell.statements row left)) [] (items-the_row-Stmt m row)
            (spell.statements row left) left chain (omega (arith, end_some left over)),
      ) refl

  -- a body without statements is followed by no label
  pub last_no_label : {m : _} (row : Row_of-Stmt m) (ts : List Tok) → AreStatements row → begins sign.CloseBrace ts ≡ true → begins_label (spell.statements row ts) ≡ false
  last_no_label end_of-Stmt ts well brace = brace_no_label ts brace
  last_no_label (more_of-Stmt (stmt.Decl declared) others) ts well brace = no_label (declaration declared (spell.statements others ts)) (part_starts (stmt.Decl declared) (spell.statements others ts) well.0)
  last_no_label (more_of-Stmt first others) ts well brace = no_label (spell.statement first (spell.statements others ts)) (part_starts first (spell.statements others ts) well.0)

  pub some_no_label : {m : _} (row : Row_of-Stmt m) (ts : List Tok) → AreStatements row → HasStatement row → begins_label (spell.statements row ts) ≡ false
  some_no_label end_of-Stmt ts well some = absurd some
  some_no_label (more_of-Stmt (stmt.Decl declared) others) ts well some = no_label (declaration declared (spell.statements others ts)) (part_starts (stmt.Decl declared) (spell.statements others ts) well.0)
  some_no_label (more_of-Stmt first others) ts well some = no_label (spell.statement first (spell.statements others ts)) (part_starts first (spell.statements others ts) well.0)

  -- what a group begins with ends a body, and so does the brace behind the last
  pub groups_end : {m : _} (row : Row_of-Group m) (ts : List Tok) → AreGroups row → begins sign.CloseBrace ts ≡ true → ends_body (spell.label_groups row ts) ≡ true
  groups_end end_of-Group ts well brace = brace_ends ts brace
  groups_end (more_of-Group all shape row end_of-Group) ts well brace = label_ends (each spell.label all (spell.statements row ts)) (labels_begin all (spell.statements row ts) well.0)
  groups_end (more_of-Group all shape row (more_of-Group all_2 shape_2 row_2 others)) ts well brace =
      let left = spell.label_groups (more_of-Group all_2 shape_2 row_2 others) ts in
      label_ends (each spell.label all (spell.statements row left)) (labels_begin all (spell.statements row left) well.0)

  -- Each form of statement, by what is read in it.

  pub empty_read : (inner : List Tok → Read Stmt) (ts : List Tok) → statement_by parts inner (tok.Sign sign.Semi ∷ ts) ≡ Some (stmt.Empty, ts)
  unfolding statement_by
  empty_read inner ts = refl

  pub block_read : {m : _} (row : Row_of-Stmt m) (inner : List Tok → Read Stmt) (ts : List Tok)
      → Chain ends_body (body_part parts inner) (items-the_row-Stmt m row) (spell.statements row (tok.Sign sign.CloseBrace ∷ ts)) (tok.Sign sign.CloseBrace ∷ ts)
      → statement_by parts inner (tok.Sign sign.OpenBrace ∷ spell.statements row (tok.Sign sign.CloseBrace ∷ ts)) ≡ Some (stmt.Block (items-the_row-Stmt m row), ts)
  unfolding statement_by block body after
  block_read {m} row inner ts chain =
      let inside = spell.statements row (tok.Sign sign.CloseBrace ∷ ts) in
      rw (until_chain ends_body (body_part parts inner) (length inside) [] (items-the_row-Stmt m row) inside (tok.Sign sign.CloseBrace ∷ ts) chain (omega arith)) refl

  pub while_read : (test : Expr) (body : Stmt) (inner : List Tok → Read Stmt) (ts : List Tok) → IsExpression test
      → IsPlaced parts.total test (tok.Sign sign.CloseParen ∷ spell.statement body ts) → inner (spell.statement body ts) ≡ Some (body, ts)
      → statement_by parts inner (spell.statement (form.While test body) ts) ≡ Some (stmt.While test body, ts)
  unfolding statement_by repeat while_loop
  while_read test body inner ts well placed read = rw (enclosed_read test (spell.statement body ts) well placed, read) refl

  pub do_read : (body : Stmt) (test : Expr) (inner : List Tok → Read Stmt) (ts : List Tok) → IsExpression test
      → IsPlaced parts.total test (tok.Sign sign.CloseParen ∷ tok.Sign sign.Semi ∷ ts)
      → (let left = tok.Word word.While ∷ tok.Sign sign.OpenParen ∷ expression test (tok.Sign sign.CloseParen ∷ tok.Sign sign.Semi ∷ ts) in
      inner (spell.statement body left) ≡ Some (body, left))
      → statement_by parts inner (spell.statement (form.Do body test) ts) ≡ Some (stmt.Do body test, ts)
  unfolding statement_by repeat do_loop after after_word
  do_read body test inner ts well placed read = rw (read, enclosed_read test (tok.Sign sign.Semi ∷ ts) well placed) refl

  pub for_read : (init test step : Option Expr) (body : Stmt) (inner : List Tok → Read Stmt) (ts : List Tok) → IsOptional init → IsOptional test → IsOptional step
      → IsPartPlaced parts.total init (tok.Sign sign.Semi ∷ spell.part test (tok.Sign sign.Semi ∷ spell.part step (tok.Sign sign.CloseParen ∷ spell.statement body ts)))
      → IsPartPlaced parts.total test (tok.Sign sign.Semi ∷ spell.part step (tok.Sign sign.CloseParen ∷ spell.statement body ts))
      → IsPartPlaced parts.total step (tok.Sign sign.CloseParen ∷ spell.statement body ts)
      → inner (spell.statement body ts) ≡ Some (body, ts)
      → statement_by parts inner (spell.statement (form.For init test step body) ts) ≡ Some (stmt.For init test step body, ts)
  unfolding statement_by repeat for_loop after
  for_read init test step body inner ts well_init well_test well_step placed_init placed_test placed_step read =
      let third = tok.Sign sign.CloseParen ∷ spell.statement body ts in
      let second = tok.Sign sign.Semi ∷ spell.part step third in
      rw (
        part_read init sign.Semi (spell.part test second) refl well_init placed_init,
        part_read test sign.Semi (spell.part step third) refl well_test placed_test,
        part_read step sign.CloseParen (spell.statement body ts) refl well_step placed_step,
        read,
      ) refl

  pub switch_read : {m : _} (on : Expr) (row : Row_of-Group m) (inner : List Tok → Read Stmt) (ts : List Tok) → IsExpression on
      → IsPlaced parts.total on (tok.Sign sign.CloseParen ∷ tok.Sign sign.OpenBrace ∷ spell.label_groups row (tok.Sign sign.CloseBrace ∷ ts))
      → Chain (begins sign.CloseBrace) (group parts inner) (items-the_row-Group m row) (spell.label_groups row (tok.Sign sign.CloseBrace ∷ ts)) (tok.Sign sign.CloseBrace ∷ ts)
      → statement_by parts inner (tok.Word word.Switch ∷ tok.Sign sign.OpenParen
      ∷ expression on (tok.Sign sign.CloseParen ∷ tok.Sign sign.OpenBrace ∷ spell.label_groups row (tok.Sign sign.CloseBrace ∷ ts)))
      ≡ Some (stmt.Switch on (items-the_row-Group m row), ts)
  unfolding statement_by switch groups after
  switch_read {m} on row inner ts well placed chain =
      let inside = spell.label_groups row (tok.Sign sign.CloseBrace ∷ ts) in
      rw (
        enclosed_read on (tok.Sign sign.OpenBrace ∷ inside) well placed,
        until_chain (begins sign.CloseBrace) (group parts inner) (length inside) [] (items-the_row-Group m row) inside (tok.Sign sign.CloseBrace ∷ ts) chain (omega arith),
      ) refl

  pub if_read : (inner : List Tok → Read Stmt) (ts : List Tok) → statement_by parts inner (tok.Word word.If ∷ ts) ≡ arms_from parts inner (length ts) [] ts
  unfolding statement_by choice
  if_read inner ts = refl

  pub break_read : (at : ℕ) (inner : List Tok → Read Stmt) (ts : List Tok) → IsStatementPlaced parts.total (stmt.Break at) ts
      → statement_by parts inner (spell.statement (stmt.Break at) ts) ≡ Some (stmt.Break at, ts)
  unfolding statement_by repeat jump after
  break_read at inner ts placed = let is : at ≡ parts.total - length (spell.statement (stmt.Break at) ts) = omega (arith, placed) in rw is refl

  pub continue_read : (at : ℕ) (inner : List Tok → Read Stmt) (ts : List Tok) → IsStatementPlaced parts.total (stmt.Continue at) ts
      → statement_by parts inner (spell.statement (stmt.Continue at) ts) ≡ Some (stmt.Continue at, ts)
  unfolding statement_by repeat jump after
  continue_read at inner ts placed = let is : at ≡ parts.total - length (spell.statement (stmt.Continue at) ts) = omega (arith, placed) in rw is refl

  pub return_read : (value : Option Expr) (at : ℕ) (inner : List Tok → Read Stmt) (ts : List Tok) → IsOptional value → IsStatementPlaced parts.total (stmt.Return value at) ts
      → statement_by parts inner (spell.statement (stmt.Return value at) ts) ≡ Some (stmt.Return value at, ts)
  unfolding statement_by repeat jump
  return_read value at inner ts well placed =
      let is : at ≡ parts.total - length (spell.statement (stmt.Return value at) ts) = omega (arith, placed.0) in
      rw (is, part_read value sign.Semi ts refl well placed.1) refl

  -- Arms.

  pub arm_longer : (test : Expr) (body : Stmt) (ts : List Tok)
      → length ts + 2 ≤ length (tok.Sign sign.OpenParen ∷ expression test (tok.Sign sign.CloseParen ∷ spell.statement body ts))
  arm_longer test body ts =
      omega (arith, known.value_longer test (tok.Sign sign.CloseParen ∷ spell.statement body ts), statement_longer parts known body ts)

  pub last_arm : (test : Expr) (body : Stmt) (inner : List Tok → Read Stmt) (n : ℕ) (found : List Arm) (ts : List Tok)
      → arm parts inner (tok.Sign sign.OpenParen ∷ expression test (tok.Sign sign.CloseParen ∷ spell.statement body ts)) ≡ Some (record { test = test; body = body }, ts)
      → begins_word word.Else ts ≡ false
      → arms_from parts inner (suc n) found (tok.Sign sign.OpenParen ∷ expression test (tok.Sign sign.CloseParen ∷ spell.statement body ts))
      ≡ Some (stmt.If (found ++ record { test = test; body = body } ∷ []) None, ts)
  unfolding arms_from
  last_arm test body inner n found ts read over = rw (read, over) refl

  pub else_arm : (test : Expr) (body other : Stmt) (inner : List Tok → Read Stmt) (n : ℕ) (found : List Arm) (ts : List Tok)
      → (let left = tok.Word word.Else ∷ spell.statement other ts in
      arm parts inner (tok.Sign sign.OpenParen ∷ expression test (tok.Sign sign.CloseParen ∷ spell.statement body left)) ≡ Some (record { test = test; body = body }, left))
      → begins_word word.If (spell.statement other ts) ≡ false → inner (spell.statement other ts) ≡ Some (other, ts)
      → arms_from parts inner (suc n) found (tok.Sign sign.OpenParen
      ∷ expression test (tok.Sign sign.CloseParen ∷ spell.statement body (tok.Word word.Else ∷ spell.statement other ts)))
      ≡ Some (stmt.If (found ++ record { test = test; body = body } ∷ []) (Some other), ts)
  unfolding arms_from
  else_arm test body other inner n found ts read no_if read_other = rw (read, no_if, read_other) refl

  pub more_arm : (test : Expr) (body : Stmt) (inner : List Tok → Read Stmt) (n : ℕ) (found : List Arm) (ts : List Tok)
      → (let left = tok.Word word.Else ∷ tok.Word word.If ∷ ts in
      arm parts inner (tok.Sign sign.OpenParen ∷ expression test (tok.Sign sign.CloseParen ∷ spell.statement body left)) ≡ Some (record { test = test; body = body }, left))
      → arms_from parts inner (suc n) found (tok.Sign sign.OpenParen
      ∷ expression test (tok.Sign sign.CloseParen ∷ spell.statement body (tok.Word word.Else ∷ tok.Word word.If ∷ ts)))
      ≡ arms_from parts inner n (found ++ record { test = test; body = body } ∷ []) ts
  unfolding arms_from
  more_arm test body inner n found ts read = rw read refl
