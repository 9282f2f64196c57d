-- A statement that small tokens spell is small.
use Rattle.std.proofs.Common.{List, ◌∷◌, arith}
use Rattle.std.specs.Prelude.{⊤}
use Rattle.capl_lexer.specs.declared.token.Tok.{Tok}
use Rattle.capl_lexer.specs.declared.token.Tok.TheVariants as tok
use Rattle.capl_lexer.specs.declared.token.Word.TheVariants as word
use Rattle.capl_lexer.specs.declared.token.Sign.TheVariants as sign
use Rattle.capl_tree.specs.declared.statement.Stmt.{Stmt, Row_of-Stmt, end_of-Stmt, more_of-Stmt}
use Rattle.capl_tree.specs.declared.statement.Stmt.TheBlock.{Row_of-Arm, end_of-Arm, more_of-Arm, Row_of-Group, end_of-Group, more_of-Group, Held-Stmt-If-1}
use Rattle.capl_tree.specs.declared.statement.Stmt.TheVariants as stmt
use Rattle.capl_tree.specs.Forms as form
use Rattle.capl_tree.specs.Grammar.{AreArms, AreGroups, AreStatements, IsBodyPart, IsElse}
use Rattle.capl_tree.specs.Spelling.{expression}
use Rattle.capl_tree.specs.FileSpelling as spell
use Rattle.capl_tree.specs.FileSpelling.{each, label, part}
use Rattle.sound_programs.specs.Small.{AreSmallArms, AreSmallGroups, AreSmallStmts, IsShortList, IsSmallElse, IsSmallStmt}
use Rattle.small_trees.specs.Tokens.{AreSmallToks}
use Rattle.small_trees.proofs.Forms.{AreFurtherArms, arm_parts, as_part, group_parts, row_parts}
use Rattle.small_trees.proofs.LightExpressions.{expression_light, part_light}
use Rattle.small_trees.proofs.LightStatements.{arms_light, arms_longer, groups_longer, row_longer, statement_light, statements_light}
use Rattle.small_trees.proofs.Longer.{each_longer, label_longer}
use Rattle.small_trees.proofs.SmallExpressions.{expression_small, part_small}
use Rattle.small_trees.proofs.SmallDeclarations.{declaration_small, each_small, label_small}

mutual
  -- a part of a body
  pub statement_small : (s : Stmt) (ts : List Tok) → IsBodyPart s → IsShortList (spell.statement s ts) → AreSmallToks (spell.statement s ts) →
      IsSmallStmt s × AreSmallToks ts
  statement_small stmt.Empty ts is short small = (tt, small.1)
  statement_small (stmt.Block' shape body) ts is short small =
      let last = tok.Sign sign.CloseBrace ∷ ts in
      let it = statements_small body last is (omega (arith, short)) small.1 in
      ((omega (arith, short, row_longer body last is), it.0), it.1.1)
  statement_small (stmt.Decl declared) ts is short small = declaration_small declared ts short small
  statement_small (stmt.Expr e) ts is short small =
      let it = expression_small e (tok.Sign sign.Semi ∷ ts) short small in (it.0, it.1.1)
  statement_small (stmt.If' shape arms other) ts is short small =
      let behind = spell.last_else other ts in
      let one = arms_small arms other behind is.0 short small in
      let two = else_small other ts is.1 (omega (arith, short, arms_light arms other behind is.0)) one.1 in
      ((omega (arith, short, arms_longer arms other behind is.0), one.0, two.0), two.1)
  statement_small (form.While test body) ts is short small =
      let behind = tok.Sign sign.CloseParen ∷ spell.statement body ts in
      let one = expression_small test behind (omega (arith, short)) small.1.1 in
      let two = statement_small body ts (as_part body is.1) (omega (arith, short, expression_light test behind)) one.1.1 in
      ((one.0, two.0), two.1)
  statement_small (form.Do body test) ts is short small =
      let last = tok.Sign sign.CloseParen ∷ tok.Sign sign.Semi ∷ ts in
      let behind = tok.Word word.While ∷ tok.Sign sign.OpenParen ∷ expression test last in
      let one = statement_small body behind (as_part body is.0) (omega (arith, short)) small.1 in
      let two = expression_small test last (omega (arith, short, statement_light body behind (as_part body is.0))) one.1.1.1 in
      ((one.0, two.0), two.1.1.1)
  statement_small (form.For init test step body) ts is short small =
      let third = tok.Sign sign.CloseParen ∷ spell.statement body ts in
      let second = tok.Sign sign.Semi ∷ part step third in
      let first = tok.Sign sign.Semi ∷ part test second in
      let one = part_small init first (omega (arith, short)) small.1.1 in
      let two = part_small test second (omega (arith, short, part_light init first)) one.1.1 in
      let three = part_small step third (omega (arith, short, part_light init first, part_light test second)) two.1.1 in
      let four = statement_small body ts (as_part body is.3)
      (omega (arith, short, part_light init first, part_light test second, part_light step third)) three.1.1 in
      ((one.0, two.0, three.0, four.0), four.1)
  statement_small (stmt.Switch' on shape groups) ts is short small =
      let last = tok.Sign sign.CloseBrace ∷ ts in
      let behind = tok.Sign sign.CloseParen ∷ tok.Sign sign.OpenBrace ∷ spell.label_groups groups last in
      let one = expression_small on behind (omega (arith, short)) small.1.1 in
      let two = groups_small groups last is.1 (omega (arith, short, expression_light on behind)) one.1.1.1 in
      ((omega (arith, short, expression_light on behind, groups_longer groups last is.1), one.0, two.0), two.1.1)
  statement_small (stmt.Break at) ts is short small = (tt, small.1.1)
  statement_small (stmt.Continue at) ts is short small = (tt, small.1.1)
  statement_small (stmt.Return value at) ts is short small =
      let it = part_small value (tok.Sign sign.Semi ∷ ts) (omega (arith, short)) small.1 in (it.0, it.1.1)

  -- parts of a body
  pub statements_small : {m : _} (row : Row_of-Stmt m) (ts : List Tok) → AreStatements row → IsShortList (spell.statements row ts) →
      AreSmallToks (spell.statements row ts) → AreSmallStmts row × AreSmallToks ts
  statements_small end_of-Stmt ts is short small = (tt, small)
  statements_small (more_of-Stmt first others) ts is short small =
      let parts = row_parts first others is in
      let behind = spell.statements others ts in
      let one = statement_small first behind parts.0 short small in
      let two = statements_small others ts parts.1 (omega (arith, short, statement_light first behind parts.0)) one.1 in
      ((one.0, two.0), two.1)

  -- the arms of an `if`
  pub arms_small : {m : _} (row : Row_of-Arm m) (other : Held-Stmt-If-1) (ts : List Tok) → AreArms row other → IsShortList (spell.first_arm row ts) →
      AreSmallToks (spell.first_arm row ts) → AreSmallArms row × AreSmallToks ts
  arms_small end_of-Arm other ts is short small = absurd is
  arms_small (more_of-Arm test body others) other ts is short small =
      let parts = arm_parts test body others other is in
      let left = spell.further_arms others ts in
      let behind = tok.Sign sign.CloseParen ∷ spell.statement body left in
      let one = expression_small test behind (omega (arith, short)) small.1.1 in
      let two = statement_small body left parts.0 (omega (arith, short, expression_light test behind)) one.1.1 in
      let three = further_small others other ts parts.1 (omega (arith, short, expression_light test behind, statement_light body left parts.0)) two.1 in
      ((one.0, two.0, three.0), three.1)

  -- arms behind the first
  pub further_small : {m : _} (row : Row_of-Arm m) (other : Held-Stmt-If-1) (ts : List Tok) → AreFurtherArms row other → IsShortList (spell.further_arms row ts) →
      AreSmallToks (spell.further_arms row ts) → AreSmallArms row × AreSmallToks ts
  further_small end_of-Arm other ts is short small = (tt, small)
  further_small (more_of-Arm test body others) other ts is short small =
      let parts = arm_parts test body others other is in
      let left = spell.further_arms others ts in
      let behind = tok.Sign sign.CloseParen ∷ spell.statement body left in
      let one = expression_small test behind (omega (arith, short)) small.1.1.1 in
      let two = statement_small body left parts.0 (omega (arith, short, expression_light test behind)) one.1.1 in
      let three = further_small others other ts parts.1 (omega (arith, short, expression_light test behind, statement_light body left parts.0)) two.1 in
      ((one.0, two.0, three.0), three.1)

  -- what stands behind a last `else`
  pub else_small : (other : Held-Stmt-If-1) (ts : List Tok) → IsElse other → IsShortList (spell.last_else other ts) → AreSmallToks (spell.last_else other ts) →
      IsSmallElse other × AreSmallToks ts
  else_small form.NoElse ts is short small = (tt, small)
  else_small (form.Else body) ts is short small = statement_small body ts (as_part body is.0) (omega (arith, short)) small.1

  -- the groups of a `switch`
  pub groups_small : {m : _} (row : Row_of-Group m) (ts : List Tok) → AreGroups row → IsShortList (spell.label_groups row ts) →
      AreSmallToks (spell.label_groups row ts) → AreSmallGroups row × AreSmallToks ts
  groups_small end_of-Group ts is short small = (tt, small)
  groups_small (more_of-Group labels shape body others) ts is short small =
      let parts = group_parts labels shape body others is in
      let left = spell.label_groups others ts in
      let inner = spell.statements body left in
      let many = each_longer label label_longer labels inner in
      let one = each_small label (λ l. ⊤) label_longer label_small labels inner short small in
      let inner_short : IsShortList inner = omega (arith, short, many) in
      let two = statements_small body left parts.1 inner_short one.1 in
      let left_short : IsShortList left = omega (arith, inner_short, statements_light body left parts.1) in
      let three = groups_small others ts parts.2 left_short two.1 in
      ((omega (arith, short, many), omega (arith, inner_short, row_longer body left parts.1), two.0, three.0), three.1)
