-- How long what is spelled is.
use Rattle.std.proofs.Common.{append_assoc, ◌≡◌, ◌-◌, ℕ, zero, suc, ◌+◌, ◌≤◌, ◌<◌, Bool, true, false, not, List, [], ◌∷◌, ◌++◌, length, Option, Some, None, refl, ap, sym, ◌∙◌, arith}
use Rattle.std.specs.Prelude.{⊤}
use Rattle.std.specs.List.{All}
use Rattle.std.proofs.lemmas.List.Elements.{All-head, All-tail}
use Rattle.capl_lexer.specs.declared.token.Tok.{Tok}
use Rattle.capl_lexer.specs.declared.token.Tok.TheVariants as tok
use Rattle.capl_lexer.specs.declared.token.Word.TheVariants as word
use Rattle.capl_lexer.specs.declared.token.Sign.{Sign}
use Rattle.capl_lexer.specs.declared.token.Sign.TheVariants as sign
use Rattle.capl_tree.specs.declared.expr.Expr.{Expr}
use Rattle.capl_tree.specs.declared.declaration.Decl.{Decl}
use Rattle.capl_tree.specs.declared.statement.Stmt.{Stmt, Row_of-Stmt, end_of-Stmt, more_of-Stmt}
use Rattle.capl_tree.specs.declared.statement.Stmt.TheBlock.{Row_of-Arm, end_of-Arm, more_of-Arm, Row_of-Group, end_of-Group, more_of-Group, Held-Stmt-If-1, items-the_row-Stmt, items-the_row-Arm, items-the_row-Group, items_shown-the_row-Stmt-0, shown-the_row-Stmt-0}
use Rattle.capl_tree.specs.declared.statement.Stmt.TheVariants as stmt
use Rattle.capl_tree.specs.declared.statement.Arm.{Arm}
use Rattle.capl_tree.specs.declared.statement.Group.{Group}
use Rattle.capl_tree.specs.declared.statement.Label.{Label}
use Rattle.capl_tree.specs.Forms as form
use Rattle.capl_tree.specs.Binding.{takes_else, last_takes_else}
use Rattle.capl_tree.specs.Grammar.{IsExpression, IsOptional, IsLabel, AreLabels, IsStatement, AreStatements, AreArms, IsElse, IsNoIf, AreGroups, HasStatement, IsBodyPart, IsDeclaration}
use Rattle.capl_tree.specs.Spelling.{expression, declaration}
use Rattle.capl_tree.specs.Placed.{IsAt, IsPlaced, IsDeclarationPlaced}
use Rattle.capl_tree.specs.FileSpelling as spell
use Rattle.capl_tree.specs.FileSpelling.{each}
use Rattle.capl_tree.specs.FilePlaced.{IsPartPlaced, IsLabelPlaced, EachPlaced, IsStatementPlaced, AreStatementsPlaced, AreArmsPlaced, IsElsePlaced, AreGroupsPlaced}
use Rattle.expr_parser.specs.Reading.{Read, begins, begins_word, behind, after, after_word}
use Rattle.parser_laws.specs.Statement.{Parts, until, enclosed, part_before, begins_declaration, begins_label, ends_body, body_part, body, block, arm, arms_from, choice, label, labels, group, groups, switch, while_loop, do_loop, for_loop, evaluation, jump, repeat, statement_by, statement}
use Rattle.parser_laws.proofs.Chains.{Chain, until_chain, IsRead, each_chain, each_both}
use Rattle.parser_laws.proofs.Starts.{value_starts, starts_value, declaration_declares, starts_part, no_else, no_end, no_label, some_token, only_evaluation, part_starts, no_declaration}
use Rattle.parser_laws.proofs.Forms.{held, made, made_is}
use Rattle.parser_laws.proofs.Known.{closes, AreComplete}

module _ (parts : Parts) (known : AreComplete parts) where
  pub label_longer : (value : Option Expr) (ts : List Tok) → length ts < length (spell.label_part value ts)
  label_longer None ts = omega arith
  label_longer (Some value) ts = omega (arith, known.value_longer value (tok.Sign sign.Colon ∷ ts))

  pub labels_longer : (all : List Label) (rest : List Tok) → length rest ≤ length (each spell.label all rest)
  labels_longer [] rest = omega arith
  labels_longer (l ∷ all) rest = omega (arith, labels_longer all rest, label_longer l.value (each spell.label all rest))

  pub labels_strict : (all : List Label) (rest : List Tok) → AreLabels all → length rest < length (each spell.label all rest)
  labels_strict [] rest well = absurd (well.0 refl)
  labels_strict (l ∷ all) rest well = omega (arith, labels_longer all rest, label_longer l.value (each spell.label all rest))

  -- the parts of a statement are no longer than it
  pub part_longer : (value : Option Expr) (ts : List Tok) → length ts ≤ length (spell.part value ts)
  part_longer None ts = omega arith
  part_longer (Some value) ts = omega (arith, known.value_longer value ts)

  mutual
    pub statement_longer : (s : Stmt) (ts : List Tok) → length ts ≤ length (spell.statement s ts)
    statement_longer stmt.Empty ts = omega arith
    statement_longer (stmt.Block' shape row) ts = omega (arith, statements_longer row (tok.Sign sign.CloseBrace ∷ ts))
    statement_longer (stmt.Decl declared) ts = omega (arith, known.declared_longer declared ts)
    statement_longer (stmt.Expr value) ts = omega (arith, known.value_longer value (tok.Sign sign.Semi ∷ ts))
    statement_longer (stmt.If' shape arms other) ts = omega (arith, arms_longer arms (spell.last_else other ts), else_longer other ts)
    statement_longer (form.While test body) ts =
        omega (arith, known.value_longer test (tok.Sign sign.CloseParen ∷ spell.statement body ts), statement_longer body ts)
    statement_longer (form.Do body test) ts =
        omega (
          arith,
          known.value_longer test (tok.Sign sign.CloseParen ∷ tok.Sign sign.Semi ∷ ts),
          statement_longer body (tok.Word word.While ∷ tok.Sign sign.OpenParen ∷ expression test (tok.Sign sign.CloseParen ∷ tok.Sign sign.Semi ∷ ts)),
        )
    statement_longer (form.For init test step body) ts =
        let third = tok.Sign sign.CloseParen ∷ spell.statement body ts in
        let second = tok.Sign sign.Semi ∷ spell.part step third in
        omega (arith, part_longer init (tok.Sign sign.Semi ∷ spell.part test second), part_longer test second, part_longer step third, statement_longer body ts)
    statement_longer (stmt.Switch' on shape row) ts =
        let inner = spell.label_groups row (tok.Sign sign.CloseBrace ∷ ts) in
        omega (arith, known.value_longer on (tok.Sign sign.CloseParen ∷ tok.Sign sign.OpenBrace ∷ inner), groups_longer row (tok.Sign sign.CloseBrace ∷ ts))
    statement_longer (stmt.Break at) ts = omega arith
    statement_longer (stmt.Continue at) ts = omega arith
    statement_longer (stmt.Return value at) ts = omega (arith, part_longer value (tok.Sign sign.Semi ∷ ts))

    pub statements_longer : {m : _} (row : Row_of-Stmt m) (ts : List Tok) → length ts ≤ length (spell.statements row ts)
    statements_longer end_of-Stmt ts = omega arith
    statements_longer (more_of-Stmt first others) ts = omega (arith, statements_longer others ts, statement_longer first (spell.statements others ts))

    pub arms_longer : {m : _} (row : Row_of-Arm m) (ts : List Tok) → length ts ≤ length (spell.first_arm row ts)
    arms_longer end_of-Arm ts = omega arith
    arms_longer (more_of-Arm test body others) ts =
        let left = spell.further_arms others ts in
        omega (arith, further_longer others ts, statement_longer body left, known.value_longer test (tok.Sign sign.CloseParen ∷ spell.statement body left))

    pub further_longer : {m : _} (row : Row_of-Arm m) (ts : List Tok) → length ts ≤ length (spell.further_arms row ts)
    further_longer end_of-Arm ts = omega arith
    further_longer (more_of-Arm test body others) ts =
        let left = spell.further_arms others ts in
        omega (arith, further_longer others ts, statement_longer body left, known.value_longer test (tok.Sign sign.CloseParen ∷ spell.statement body left))

    pub else_longer : (other : Held-Stmt-If-1) (ts : List Tok) → length ts ≤ length (spell.last_else other ts)
    else_longer form.NoElse ts = omega arith
    else_longer (form.Else body) ts = omega (arith, statement_longer body ts)

    pub groups_longer : {m : _} (row : Row_of-Group m) (ts : List Tok) → length ts ≤ length (spell.label_groups row ts)
    groups_longer end_of-Group ts = omega arith
    groups_longer (more_of-Group all shape row others) ts =
        let left = spell.label_groups others ts in
        omega (arith, groups_longer others ts, statements_longer row left, labels_longer all (spell.statements row left))

  pub arms_strict : {m : _} (row : Row_of-Arm m) (other : Held-Stmt-If-1) (ts : List Tok) → AreArms row other → length ts < length (spell.first_arm row ts)
  arms_strict end_of-Arm other ts well = absurd well
  arms_strict (more_of-Arm test body others) other ts well =
      let left = spell.further_arms others ts in
      omega (arith, further_longer others ts, statement_longer body left, known.value_longer test (tok.Sign sign.CloseParen ∷ spell.statement body left))

  -- each is longer than what stands behind it
  pub statement_strict : (s : Stmt) (ts : List Tok) → IsBodyPart s → length ts < length (spell.statement s ts)
  statement_strict stmt.Empty ts well = omega arith
  statement_strict (stmt.Block' shape row) ts well = omega (arith, statements_longer row (tok.Sign sign.CloseBrace ∷ ts))
  statement_strict (stmt.Decl declared) ts well = known.declared_longer declared ts
  statement_strict (stmt.Expr value) ts well = omega (arith, known.value_longer value (tok.Sign sign.Semi ∷ ts))
  statement_strict (stmt.If' shape arms other) ts well = omega (arith, arms_strict arms other (spell.last_else other ts) well.0, else_longer other ts)
  statement_strict (form.While test body) ts well =
      omega (arith, known.value_longer test (tok.Sign sign.CloseParen ∷ spell.statement body ts), statement_longer body ts)
  statement_strict (form.Do body test) ts well =
      omega (
        arith,
        known.value_longer test (tok.Sign sign.CloseParen ∷ tok.Sign sign.Semi ∷ ts),
        statement_longer body (tok.Word word.While ∷ tok.Sign sign.OpenParen ∷ expression test (tok.Sign sign.CloseParen ∷ tok.Sign sign.Semi ∷ ts)),
      )
  statement_strict (form.For init test step body) ts well =
      let third = tok.Sign sign.CloseParen ∷ spell.statement body ts in
      let second = tok.Sign sign.Semi ∷ spell.part step third in
      omega (arith, part_longer init (tok.Sign sign.Semi ∷ spell.part test second), part_longer test second, part_longer step third, statement_longer body ts)
  statement_strict (stmt.Switch' on shape row) ts well =
      let inner = spell.label_groups row (tok.Sign sign.CloseBrace ∷ ts) in
      omega (arith, known.value_longer on (tok.Sign sign.CloseParen ∷ tok.Sign sign.OpenBrace ∷ inner), groups_longer row (tok.Sign sign.CloseBrace ∷ ts))
  statement_strict (stmt.Break at) ts well = omega arith
  statement_strict (stmt.Continue at) ts well = omega arith
  statement_strict (stmt.Return value at) ts well = omega (arith, part_longer value (tok.Sign sign.Semi ∷ ts))
