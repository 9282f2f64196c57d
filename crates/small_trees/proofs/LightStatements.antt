-- A statement weighs at most eight times as much as there are tokens that spell it, and so does a file.
use Rattle.std.proofs.Common.{◌+◌, ◌*◌, ◌≤◌, ◌<◌, List, [], ◌∷◌, length, refl, arith}
use Rattle.capl_lexer.specs.declared.token.Tok.{Tok}
use Rattle.capl_lexer.specs.declared.token.Tok.TheVariants as tok
use Rattle.capl_lexer.specs.declared.token.Word.TheVariants as word
use Rattle.capl_lexer.specs.declared.token.Sign.TheVariants as sign
use Rattle.capl_tree.specs.declared.statement.Stmt.{Stmt, Row_of-Stmt, end_of-Stmt, more_of-Stmt, items-the_row-Stmt}
use Rattle.capl_tree.specs.declared.statement.Stmt.TheBlock.{Row_of-Arm, end_of-Arm, more_of-Arm, Row_of-Group, end_of-Group, more_of-Group, Held-Stmt-If-1, items-the_row-Arm, items-the_row-Group}
use Rattle.capl_tree.specs.declared.statement.Stmt.TheVariants as stmt
use Rattle.capl_tree.specs.declared.statement.Label.{Label}
use Rattle.capl_tree.specs.Forms as form
use Rattle.capl_tree.specs.Grammar.{AreArms, AreGroups, AreLabels, AreStatements, IsBodyPart, IsElse}
use Rattle.capl_tree.specs.Spelling.{expression}
use Rattle.capl_tree.specs.FileSpelling as spell
use Rattle.capl_tree.specs.FileSpelling.{each, label, part}
use Rattle.capl_tree.specs.Weight.{arms_weight, else_weight, further_arms_weight, groups_weight, statement_weight, statements_weight}
use Rattle.small_trees.proofs.Forms.{AreFurtherArms, arm_parts, as_part, group_parts, row_parts}
use Rattle.small_trees.proofs.LightExpressions.{expression_light, part_light}
use Rattle.small_trees.proofs.Longer.{declaration_longer, each_longer, label_longer}

-- a label is spelled by two tokens at least, so labels weigh no more
labels_light : (labels : List Label) (ts : List Tok) → 8 * length labels + 8 * length ts ≤ 8 * length (each label labels ts)
labels_light labels ts = omega (arith, each_longer label label_longer labels ts)

mutual
  -- a part of a body
  pub statement_light : (s : Stmt) (ts : List Tok) → IsBodyPart s → statement_weight s + 8 * length ts ≤ 8 * length (spell.statement s ts)
  statement_light stmt.Empty ts is = omega arith
  statement_light (stmt.Block' shape body) ts is = omega (arith, statements_light body (tok.Sign sign.CloseBrace ∷ ts) is)
  statement_light (stmt.Decl declared) ts is = omega (arith, declaration_longer declared ts)
  statement_light (stmt.Expr e) ts is = omega (arith, expression_light e (tok.Sign sign.Semi ∷ ts))
  statement_light (stmt.If' shape arms other) ts is = omega (arith, arms_light arms other (spell.last_else other ts) is.0, else_light other ts is.1)
  statement_light (form.While test body) ts is =
      omega (arith, expression_light test (tok.Sign sign.CloseParen ∷ spell.statement body ts), statement_light body ts (as_part body is.1))
  statement_light (form.Do body test) ts is =
      let behind = tok.Sign sign.CloseParen ∷ tok.Sign sign.Semi ∷ ts in
      omega (
        arith,
        expression_light test behind,
        statement_light body (tok.Word word.While ∷ tok.Sign sign.OpenParen ∷ expression test behind) (as_part body is.0),
      )
  statement_light (form.For init test step body) ts is =
      let third = tok.Sign sign.CloseParen ∷ spell.statement body ts in
      let second = tok.Sign sign.Semi ∷ part step third in
      omega (
        arith,
        part_light init (tok.Sign sign.Semi ∷ part test second),
        part_light test second,
        part_light step third,
        statement_light body ts (as_part body is.3),
      )
  statement_light (stmt.Switch' on shape groups) ts is =
      let inner = spell.label_groups groups (tok.Sign sign.CloseBrace ∷ ts) in
      omega (
        arith,
        expression_light on (tok.Sign sign.CloseParen ∷ tok.Sign sign.OpenBrace ∷ inner),
        groups_light groups (tok.Sign sign.CloseBrace ∷ ts) is.1,
      )
  statement_light (stmt.Break at) ts is = omega arith
  statement_light (stmt.Continue at) ts is = omega arith
  statement_light (stmt.Return value at) ts is = omega (arith, part_light value (tok.Sign sign.Semi ∷ ts))

  -- parts of a body
  pub statements_light : {m : _} (row : Row_of-Stmt m) (ts : List Tok) → AreStatements row → statements_weight row + 8 * length ts ≤ 8 * length (spell.statements row ts)
  statements_light end_of-Stmt ts is = omega arith
  statements_light (more_of-Stmt first others) ts is =
      let parts = row_parts first others is in
      omega (arith, statement_light first (spell.statements others ts) parts.0, statements_light others ts parts.1)

  -- the first arm is the statement itself
  pub arms_light : {m : _} (row : Row_of-Arm m) (other : Held-Stmt-If-1) (ts : List Tok) → AreArms row other →
      24 + arms_weight row + 8 * length ts ≤ 8 * length (spell.first_arm row ts)
  arms_light end_of-Arm other ts is = absurd is
  arms_light (more_of-Arm test body others) other ts is =
      let left = spell.further_arms others ts in
      let parts = arm_parts test body others other is in
      omega (
        arith,
        further_light others other ts parts.1,
        statement_light body left parts.0,
        expression_light test (tok.Sign sign.CloseParen ∷ spell.statement body left),
      )

  -- arms behind the first
  pub further_light : {m : _} (row : Row_of-Arm m) (other : Held-Stmt-If-1) (ts : List Tok) → AreFurtherArms row other →
      further_arms_weight row + 8 * length ts ≤ 8 * length (spell.further_arms row ts)
  further_light end_of-Arm other ts is = omega arith
  further_light (more_of-Arm test body others) other ts is =
      let left = spell.further_arms others ts in
      let parts = arm_parts test body others other is in
      omega (
        arith,
        further_light others other ts parts.1,
        statement_light body left parts.0,
        expression_light test (tok.Sign sign.CloseParen ∷ spell.statement body left),
      )

  -- what stands behind a last `else`
  pub else_light : (other : Held-Stmt-If-1) (ts : List Tok) → IsElse other → else_weight other + 8 * length ts ≤ 8 * length (spell.last_else other ts)
  else_light form.NoElse ts is = omega arith
  else_light (form.Else body) ts is = omega (arith, statement_light body ts (as_part body is.0))

  -- the groups of a `switch`
  pub groups_light : {m : _} (row : Row_of-Group m) (ts : List Tok) → AreGroups row → groups_weight row + 8 * length ts ≤ 8 * length (spell.label_groups row ts)
  groups_light end_of-Group ts is = omega arith
  groups_light (more_of-Group labels shape body others) ts is =
      let left = spell.label_groups others ts in
      let parts = group_parts labels shape body others is in
      omega (arith, groups_light others ts parts.2, statements_light body left parts.1, labels_light labels (spell.statements body left))

-- a part of a body is spelled by a token at least
pub statement_longer : (s : Stmt) (ts : List Tok) → IsBodyPart s → length ts < length (spell.statement s ts)
statement_longer (stmt.Decl declared) ts is = declaration_longer declared ts
statement_longer stmt.Empty ts is = omega arith
statement_longer (stmt.Block' shape body) ts is = omega (arith, statement_light (stmt.Block' shape body) ts is)
statement_longer (stmt.Expr e) ts is = omega (arith, statement_light (stmt.Expr e) ts is)
statement_longer (stmt.If' shape arms other) ts is = omega (arith, statement_light (stmt.If' shape arms other) ts is)
statement_longer (form.While test body) ts is = omega (arith, statement_light (form.While test body) ts is)
statement_longer (form.Do body test) ts is = omega (arith, statement_light (form.Do body test) ts is)
statement_longer (form.For init test step body) ts is = omega (arith, statement_light (form.For init test step body) ts is)
statement_longer (stmt.Switch' on shape groups) ts is = omega (arith, statement_light (stmt.Switch' on shape groups) ts is)
statement_longer (stmt.Break at) ts is = omega arith
statement_longer (stmt.Continue at) ts is = omega arith
statement_longer (stmt.Return value at) ts is = omega (arith, statement_light (stmt.Return value at) ts is)

-- so a row has no more statements than tokens
pub row_longer : {m : _} (row : Row_of-Stmt m) (ts : List Tok) → AreStatements row → length (items-the_row-Stmt m row) + length ts ≤ length (spell.statements row ts)
row_longer end_of-Stmt ts is = omega arith
row_longer (more_of-Stmt first others) ts is =
    let parts = row_parts first others is in
    omega (arith, statement_longer first (spell.statements others ts) parts.0, row_longer others ts parts.1)

-- and no more arms
pub further_longer : {m : _} (row : Row_of-Arm m) (other : Held-Stmt-If-1) (ts : List Tok) → AreFurtherArms row other →
    length (items-the_row-Arm m row) + length ts ≤ length (spell.further_arms row ts)
further_longer end_of-Arm other ts is = omega arith
further_longer (more_of-Arm test body others) other ts is =
    let left = spell.further_arms others ts in
    let parts = arm_parts test body others other is in
    omega (
      arith,
      further_longer others other ts parts.1,
      statement_light body left parts.0,
      expression_light test (tok.Sign sign.CloseParen ∷ spell.statement body left),
    )

-- no more arms than tokens
pub arms_longer : {m : _} (row : Row_of-Arm m) (other : Held-Stmt-If-1) (ts : List Tok) → AreArms row other →
    length (items-the_row-Arm m row) + length ts ≤ length (spell.first_arm row ts)
arms_longer end_of-Arm other ts is = absurd is
arms_longer (more_of-Arm test body others) other ts is =
    let left = spell.further_arms others ts in
    let parts = arm_parts test body others other is in
    omega (
      arith,
      further_longer others other ts parts.1,
      statement_light body left parts.0,
      expression_light test (tok.Sign sign.CloseParen ∷ spell.statement body left),
    )

-- labels that are some are spelled by a token at least
labels_longer : (labels : List Label) (ts : List Tok) → AreLabels labels → length ts < length (each label labels ts)
labels_longer [] ts is = absurd (is.0 refl)
labels_longer (l ∷ labels) ts is = omega (arith, each_longer label label_longer (l ∷ labels) ts)

-- and no more groups
pub groups_longer : {m : _} (row : Row_of-Group m) (ts : List Tok) → AreGroups row → length (items-the_row-Group m row) + length ts ≤ length (spell.label_groups row ts)
groups_longer end_of-Group ts is = omega arith
groups_longer (more_of-Group labels shape body others) ts is =
    let left = spell.label_groups others ts in
    let parts = group_parts labels shape body others is in
    omega (arith, groups_longer others ts parts.2, row_longer body left parts.1, labels_longer labels (spell.statements body left) parts.0)
